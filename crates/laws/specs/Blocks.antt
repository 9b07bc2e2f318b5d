-- Strings cut into blocks of 16 octets, the last filled up with zeros; and two octets for a number, high octet first.
use Rattle.std.specs.Prelude.{ℕ, zero, suc, ◌+◌, ◌-◌, ◌/◌, ◌%◌, List, [], ◌∷◌, ◌++◌, length, take, drop, replicate}

-- k blocks
unfoldable pub cut : ℕ → List ℕ → List (List ℕ)
cut zero x = []
cut (suc k) x = (take 16 x ++ replicate (16 - length (take 16 x)) 0) ∷ cut k (drop 16 x)

-- as many blocks as x needs
unfoldable pub blocks : List ℕ → List (List ℕ)
blocks x = cut ((length x + 15) / 16) x

-- a number in two octets, most significant first
abbrev pub be16 : ℕ → List ℕ
be16 k = k / 256 % 256 ∷ k % 256 ∷ []
