-- A number and its octets: each gives the other back. Assumes nothing.
use Rattle.std.specs.Prelude.{◌≡◌, refl, List, ◌++◌, ℕ, zero, suc, ◌/◌, ◌^◌, ◌<◌, length}
use Rattle.std.proofs.Common.{ap, arith, drop_at, take_at}
use Rattle.laws.specs.Numbers.{value, low, field}

pub low-length : (n x : ℕ) → length (low n x) ≡ n
unfolding low
low-length zero x = refl
low-length (suc n) x = ap suc (low-length n (x / 256))

-- what was written is read back
pub value_low : (n x : ℕ) → x < 256 ^ n → value (low n x) ≡ x
unfolding value low
value_low zero x h = omega arith
value_low (suc n) x h =
    let q : x / 256 < 256 ^ n = omega arith in
    omega (arith, value_low n (x / 256) q)

-- from its place in a string
pub field-low : (p s : List ℕ) (at n x : ℕ) → length p ≡ at → x < 256 ^ n → field (p ++ (low n x ++ s)) at n ≡ x
unfolding field
field-low p s at n x l h = rw (drop_at p (low n x ++ s) at l, take_at (low n x) s n (low-length n x)) (value_low n x h)
