-- A pair: a key number and a sender, the key of a counter row; and when two pairs are the same.
use Rattle.std.specs.Prelude.{◌≡◌, ℕ, Bool, true, false, ◌&&◌, ◌==◌}
use mathlib.Core.Path.{refl}
use Rattle.std.proofs.Common.{eq-eqb, eqb-true}

pub record Pair : Type 0 where
  pub number : ℕ
  pub sender : ℕ

abbrev pub same_pair : Pair → Pair → Bool
same_pair j k = j.number == k.number && j.sender == k.sender

pub same-pair-refl : (k : Pair) → same_pair k k ≡ true
same-pair-refl k = rw (eq-eqb k.number k.number refl, eq-eqb k.sender k.sender refl)

pub same-pair-eq : (j k : Pair) → same_pair j k ≡ true → j ≡ k
same-pair-eq j k e = at (j.number == k.number) refl (j.sender == k.sender) refl e
  where
    at : (b : Bool) → (j.number == k.number) ≡ b → (d : Bool) → (j.sender == k.sender) ≡ d → (b && d) ≡ true → j ≡ k
    at true p true q h = λ i. record { number = eqb-true j.number k.number p i; sender = eqb-true j.sender k.sender q i }
    at true p false q h = absurd (mathlib.Core.Bool.true≢false (mathlib.Core.Path.sym h))
    at false p d q h = absurd (mathlib.Core.Bool.true≢false (mathlib.Core.Path.sym h))
