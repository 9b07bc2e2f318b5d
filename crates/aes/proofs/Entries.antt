-- Four bytes of the round table in a row. Assumes nothing.
use mathlib.Core.Path.{◌≡◌, ap, ◌∙◌}
use mathlib.Core.List.{List, [], ◌∷◌}
use Prim.Native.Nat.{ℕ, ◌+◌, ◌*◌, ◌<◌}
use native.Mathlib.Omega.{arith}
use native.Mathlib.Nat.{add_assoc}
use lib.ListN.{get_or}
use Rattle.laws.specs.Parts.{listed}
use Rattle.tables.specs.Field.{sbox}
use Rattle.tables.specs.Rounds.{products, twice, IsRound}
use Rattle.words.proofs.WordLaws.{listed-four}

-- four bytes of an entry of the round table
pub entry-four : (t : List ℕ) (k i : ℕ) → IsRound t → k < 256 → i < 5 → (let n = 8 * k + i in get_or t n 0 ∷ get_or t (n + 1) 0 ∷ get_or t (n + 2) 0 ∷ get_or t (n + 3) 0 ∷ [])
    ≡ listed 4 i (twice (products (sbox k)))
entry-four t k i h l b =
    (λ j. h k i l (omega arith) j ∷ at 1 (omega arith) j ∷ at 2 (omega arith) j ∷ at 3 (omega arith) j ∷ []) ∙ listed-four (twice (products (sbox k))) i
  where
    at : (m : ℕ) → m < 4 → get_or t (8 * k + i + m) 0 ≡ get_or (twice (products (sbox k))) (i + m) 0
    at m c = ap (λ (n : ℕ). get_or t n 0) (add_assoc (8 * k) i m) ∙ h k (i + m) l (omega arith)
