-- How a test in the code came out, as the definitions read it. Assumes nothing.
use Rattle.std.specs.Prelude.{◌≡◌, refl, Bool, true, false, not, ℕ, ◌<◌, ◌≤◌, T, eqb}
use Rattle.std.proofs.Common.{arith, T_not}
use Rattle.std.proofs.Math.Dec.{eqb_refl}

pub holds : (t : Bool) → T t → t ≡ true
holds true _ = refl
holds false a = absurd a

pub fails : (t : Bool) → T (not t) → t ≡ false
fails true a = absurd a
fails false _ = refl

-- of a test by `!=` that fails
pub holds_not : (t : Bool) → T (not (not t)) → t ≡ true
holds_not true _ = refl
holds_not false a = absurd a

pub not_equal : (a n : ℕ) → T (not (eqb a n)) → a ≡ n → ⊥
not_equal a n t e = T_not (eqb a n) t (rw e (eqb_refl n))

-- a place that has not reached the end is below it
pub not_at : (i n : ℕ) → T (not (eqb i n)) → i ≤ n → i < n
not_at i n t le = let ne : i ≡ n → ⊥ = not_equal i n t in omega arith
