-- A promise of what taking a counter leaves allows one answer, and one content of the record. Assumes nothing.
use Rattle.std.specs.Prelude.{◌≡◌, ℕ, Result, Ok, Err}
use Rattle.std.proofs.Common.{refl, sym, ap, ◌∙◌}
use Rattle.answer.specs.declared.Refusal.{Refusal}
use Rattle.answer.specs.Numbers.{giving}
use Rattle.nib.specs.declared.outgoing.Outgoing.{Outgoing}
use Rattle.nib.specs.Sending.{AfterTaking, took}

-- what is left says what was answered, and the record
abbrev told : AfterTaking → Result ℕ Refusal
told a = giving a.outcome a.counter

told-back : (r : Result ℕ Refusal) (o : Outgoing) → (told (took r o) ≡ r) × ((took r o).outgoing ≡ o)
told-back (Ok n) o = (refl, refl)
told-back (Err why) o = (refl, refl)

pub one : (after : AfterTaking) (r r' : Result ℕ Refusal) (o o' : Outgoing) → took r o ≡ after → took r' o' ≡ after → (r ≡ r') × (o ≡ o')
one after r r' o o' e e' =
    let same : took r o ≡ took r' o' = e ∙ sym e' in
    let a = told-back r o in
    let b = told-back r' o' in
    (sym a.0 ∙ ap told same ∙ b.0, sym a.1 ∙ ap (λ (t : AfterTaking). t.outgoing) same ∙ b.1)
