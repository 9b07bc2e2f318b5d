-- Numbers in octets, low octet first, and bits of numbers (document 01, Layouts).
use Rattle.std.specs.Prelude.{Bool, List, [], ◌∷◌, ℕ, zero, suc, ◌+◌, ◌*◌, ◌/◌, ◌%◌, ◌^◌, eqb, take, drop}

-- the number that octets make
unfoldable pub value : List ℕ → ℕ
value [] = 0
value (x ∷ xs) = x + 256 * value xs

-- the n low octets of a number
unfoldable pub low : ℕ → ℕ → List ℕ
low zero x = []
low (suc n) x = x % 256 ∷ low n (x / 256)

-- the number in the n octets of s from `at` on
unfoldable pub field : List ℕ → ℕ → ℕ → ℕ
field s at n = value (take n (drop at s))

-- whether bit i of x is set
unfoldable pub bit : ℕ → ℕ → Bool
bit i x = eqb (x / 2 ^ i % 2) 1
