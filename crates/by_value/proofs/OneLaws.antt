-- A promise of what a call by value leaves allows one answer. Assumes nothing.
use Rattle.std.specs.Prelude.{◌≡◌, ℕ, Result, Ok, Err}
use Rattle.std.proofs.Common.{refl, sym, ap, ◌∙◌}
use Rattle.answer.specs.declared.Refusal.{Refusal}
use Rattle.answer.specs.Numbers.{giving}
use Rattle.nib.specs.declared.outgoing.Outgoing.{Outgoing}
use Rattle.nib.specs.Counters.{After}
use Rattle.nib.specs.Sending.{AfterTaking}
use Rattle.by_value.specs.declared.CounterTable.{CounterTable}
use Rattle.by_value.specs.With.{left_with, took_with}

abbrev table_told : After → Result CounterTable Refusal
table_told a = giving a.outcome (record { rows = a.rows; used = a.used })

table_back : (t : CounterTable) (r : Result CounterTable Refusal) → table_told (left_with r t) ≡ r
table_back t (Ok x) = refl
table_back t (Err why) = refl

pub one_left : (after : After) (t : CounterTable) (r r' : Result CounterTable Refusal) → left_with r t ≡ after → left_with r' t ≡ after → r ≡ r'
one_left after t r r' e e' = sym (table_back t r) ∙ ap table_told (e ∙ sym e') ∙ table_back t r'

abbrev taking_told : AfterTaking → Result (ℕ × Outgoing) Refusal
taking_told a = giving a.outcome (a.counter, a.outgoing)

taking_back : (o : Outgoing) (r : Result (ℕ × Outgoing) Refusal) → taking_told (took_with r o) ≡ r
taking_back o (Ok x) = refl
taking_back o (Err why) = refl

pub one_took : (after : AfterTaking) (o : Outgoing) (r r' : Result (ℕ × Outgoing) Refusal) → took_with r o ≡ after → took_with r' o ≡ after → r ≡ r'
one_took after o r r' e e' = sym (taking_back o r) ∙ ap taking_told (e ∙ sym e') ∙ taking_back o r'
