-- What a call leaves, by what it returns and what is in the memory lent.
use Rattle.std.specs.Prelude.{List, ℕ}
use Rattle.answer.specs.Numbers.{Answer}
use Rattle.nib.specs.declared.counters.CounterRow.{CounterRow}
use Rattle.nib.specs.declared.outgoing.Outgoing.{Outgoing}
use Rattle.nwk.specs.declared.open.OpenedNwk.{OpenedNwk}
use Rattle.judging.specs.OpenNwk.{Opened}
use Rattle.securing.specs.SecureNwk.{Secured}

abbrev pub opened : OpenedNwk → List CounterRow → List ℕ → Opened
opened r rows frame = record { answer = r.answer; frame = frame; rows = rows; used = r.used; active = r.active }

abbrev pub secured : Answer → List ℕ → Outgoing → Secured
secured a out o = record { answer = a; out = out; outgoing = o }
