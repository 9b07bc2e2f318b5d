-- What a call may do to an outgoing counter, and what it uses: nothing; or the counter, which then rises by 1. Assumes nothing.
use Rattle.std.specs.Prelude.{◌≡◌, ℕ, ◌+◌, ◌≤◌, ◌<◌, ◌^◌, Option, None, Some}
use Rattle.std.proofs.Common.{le_refl, arith}

-- the counter before and after a call, and what the call used, if that is `it`
pub record Moves {A : Type 0} (was now : ℕ) (used : Option A) (it : A) : Type 0 where
  pub up : was ≤ now
  pub fits : was < 2 ^ 32 → now < 2 ^ 32
  pub uses : (x : A) → used ≡ Some x → (it ≡ x) × (was < now)

pub stays : {A : Type 0} (n : ℕ) (it : A) → Moves n n None it
stays n it = record { up = le_refl n; fits = λ h. h; uses = λ x e. cc }

pub rises : {A : Type 0} (n : ℕ) (it : A) → (n ≡ 4294967295 → ⊥) → Moves n (n + 1) (Some it) it
rises n it not_last = record { up = omega arith; fits = λ h. omega arith; uses = λ x e. (cc, omega arith) }
