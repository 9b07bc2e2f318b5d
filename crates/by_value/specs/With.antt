-- What the calls by value leave, read as what the calls on lent memory leave: where they refuse, what the caller has stays as it was.
use Rattle.std.specs.Prelude.{ℕ, Result, Ok, Err}
use Rattle.answer.specs.declared.Refusal.{Refusal}
use Rattle.nib.specs.declared.outgoing.Outgoing.{Outgoing}
use Rattle.nib.specs.Counters.{After}
use Rattle.nib.specs.Sending.{AfterTaking}
use Rattle.by_value.specs.declared.CounterTable.{CounterTable}

abbrev pub left_with : Result CounterTable Refusal → CounterTable → After
left_with (Ok t) before = record { outcome = Ok tt; used = t.used; rows = t.rows }
left_with (Err why) before = record { outcome = Err why; used = before.used; rows = before.rows }

abbrev pub took_with : Result (ℕ × Outgoing) Refusal → Outgoing → AfterTaking
took_with (Ok p) before = record { outcome = Ok tt; counter = p.0; outgoing = p.1 }
took_with (Err why) before = record { outcome = Err why; counter = 0; outgoing = before }
