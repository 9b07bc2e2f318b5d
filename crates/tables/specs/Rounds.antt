-- What it is to be the substitution table, and the table of a round's columns.
use Rattle.std.specs.Prelude.{◌≡◌, List, [], ◌∷◌, ◌++◌, ℕ, ◌+◌, ◌*◌, ◌<◌, get_or}
use Rattle.tables.specs.Field.{mul, sbox}

-- FIPS 197 (2001), 5.1.3: what a substituted byte s in row 0 adds to the four rows of its column
abbrev pub products : ℕ → List ℕ
products s = mul 2 s ∷ s ∷ s ∷ mul 3 s ∷ []

-- a column and the same column after it
abbrev pub twice : List ℕ → List ℕ
twice c = c ++ c

abbrev pub IsSubstitution : List ℕ → Type 0
IsSubstitution t = (k : ℕ) → k < 256 → get_or t k 0 ≡ sbox k

-- entry k is the eight bytes from 8 k on
abbrev pub IsRound : List ℕ → Type 0
IsRound t = (k i : ℕ) → k < 256 → i < 8 → get_or t (8 * k + i) 0 ≡ get_or (twice (products (sbox k))) i 0
