-- Strings of octets as lists of numbers below 256: XOR, and whether two are the same.
use Rattle.std.specs.Prelude.{ℕ, Bool, true, false, ◌&&◌, List, [], ◌∷◌, eqb}
use Rattle.std.specs.Int.Bits.{bit_xor}

-- x XOR y, octet by octet from the front, as long as x: octets of y past x are not used, octets of x past y stay
unfoldable pub ◌⊕◌ : List ℕ → List ℕ → List ℕ
[] ⊕ y = []
(a ∷ x) ⊕ [] = a ∷ x
(a ∷ x) ⊕ (b ∷ y) = bit_xor a b ∷ (x ⊕ y)

infixl 20 ◌⊕◌
-- whether two strings are the same
unfoldable pub same : List ℕ → List ℕ → Bool
same [] [] = true
same (a ∷ x) (b ∷ y) = eqb a b && same x y
same [] (b ∷ y) = false
same (a ∷ x) [] = false
