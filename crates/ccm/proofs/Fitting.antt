-- What the checks before sealing and opening give. Assumes nothing.
use mathlib.Core.Path.{◌≡◌, refl}
use mathlib.Core.Bool.{Bool, true, false, cond, not, ◌&&◌, and-eq-true_iff}
use Prim.Native.Nat.{ℕ, ◌+◌, ◌%◌, ◌≤◌}
use native.Mathlib.Omega.{arith}
use lib.Dec.{eqb, leb, ltb}
use borrow.Author.Tests.{leb-true, ltb-false}
use Rattle.answer.specs.Numbers.{Outcome}
use Rattle.std.specs.Prelude.{Ok, Err}
use Rattle.answer.specs.declared.Refusal.{Refusal}
use Rattle.answer.specs.declared.Refusal.TheVariants.{Unsupported, NoRoom}
use Rattle.ccm.specs.Frame.{tag_taken, fitting}

-- a tag that the code can make, sizes that it takes, and room for all three
pub record Fits (M at k room : ℕ) : Type 0 where
  pub tag : (4 ≤ M) × (M ≤ 16)
  pub associated : at ≤ 1024
  pub payload : k ≤ 1024
  pub whole : at + k + M ≤ room

abbrev done : Outcome
done = Ok tt

never : {X : Type 0} {r : Refusal} → ◌≡◌ {A = Outcome} (Err r) (Ok tt) → X
never e = let z : ◌≡◌ {A = ℕ} 0 1 = cc in absurd (omega arith)

pub taken : (M : ℕ) → tag_taken M ≡ true → M ≤ 16
unfolding tag_taken
taken M e = leb-true M 16 ((and-eq-true_iff (leb M 16) (eqb (M % 2) 0)).0 ((and-eq-true_iff (leb 4 M) (leb M 16 && eqb (M % 2) 0)).0 e).1).0

sizes : (M : ℕ) → tag_taken M ≡ true → (4 ≤ M) × (M ≤ 16)
unfolding tag_taken
sizes M e = (leb-true 4 M ((and-eq-true_iff (leb 4 M) (leb M 16 && eqb (M % 2) 0)).0 e).0, taken M e)

pub fits : (M at k room : ℕ) → fitting M at k room ≡ Ok tt → Fits M at k room
unfolding fitting
fits M at k room = go (tag_taken M) (ltb 1024 at) (ltb 1024 k) (ltb room (at + k + M)) refl refl refl refl
  where
    go : (t a p w : Bool) → tag_taken M ≡ t → ltb 1024 at ≡ a → ltb 1024 k ≡ p → ltb room (at + k + M) ≡ w
        → cond (not t) (Err Unsupported) (cond a (Err Unsupported) (cond p (Err Unsupported) (cond w (Err NoRoom) done))) ≡ done → Fits M at k room
    go false a p w et ea ep ew e = never e
    go true true p w et ea ep ew e = never e
    go true false true w et ea ep ew e = never e
    go true false false true et ea ep ew e = never e
    go true false false false et ea ep ew e =
        record {
          tag = sizes M et;
          associated = ltb-false 1024 at ea;
          payload = ltb-false 1024 k ep;
          whole = ltb-false room (at + k + M) ew;
        }
