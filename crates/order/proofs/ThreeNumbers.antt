-- Of three members of a list of two, two are equal. Assumes nothing.
use Rattle.std.specs.Prelude.{◌≡◌, ◌⊎◌, length}
use Rattle.std.proofs.Common.{sym, ◌∙◌, inl, inr, arith}
use mathlib.Core.List.Memᴰ.{cases_cons}
use mathlib.Core.List.Memᴰ.{eq_of_singleton}
use mathlib.Core.List.Memᴰ.{not-nil}
use mathlib.Core.List.{List, [], ◌∷◌, Memᴰ as Mem}
use Prim.Native.Nat.{ℕ, ◌≤◌}

-- ---- three numbers

-- of three members of a list of at most two, two are equal
pub two-of-three : (l : List ℕ) → length l ≤ 2 → (x y z : ℕ) → Mem x l → Mem y l → Mem z l → (x ≡ y) ⊎ ((y ≡ z) ⊎ (x ≡ z))
two-of-three [] h x y z p q r = absurd (not-nil p)
two-of-three (a ∷ []) h x y z p q r = inl (eq_of_singleton p ∙ sym (eq_of_singleton q))
two-of-three (a ∷ b ∷ []) h x y z p q r = at (cases_cons p) (cases_cons q) (cases_cons r)
  where
    at : (x ≡ a) ⊎ Mem x (b ∷ []) → (y ≡ a) ⊎ Mem y (b ∷ []) → (z ≡ a) ⊎ Mem z (b ∷ []) → (x ≡ y) ⊎ ((y ≡ z) ⊎ (x ≡ z))
    at (inl e) (inl f) u = inl (e ∙ sym f)
    at (inr e) (inr f) u = inl (eq_of_singleton e ∙ sym (eq_of_singleton f))
    at (inl e) (inr f) (inl g) = inr (inr (e ∙ sym g))
    at (inl e) (inr f) (inr g) = inr (inl (eq_of_singleton f ∙ sym (eq_of_singleton g)))
    at (inr e) (inl f) (inl g) = inr (inl (f ∙ sym g))
    at (inr e) (inl f) (inr g) = inr (inr (eq_of_singleton e ∙ sym (eq_of_singleton g)))
two-of-three (a ∷ b ∷ c ∷ l) h x y z p q r = absurd (omega arith)
