-- The frames in the buffers 0 and 1, forth and back. Assumes nothing.
use Rattle.std.specs.Prelude.{◌≡◌, ◌⊎◌, ℕ, Option, None, Some}
use Rattle.std.proofs.Common.{inl, inr, arith}
use mathlib.Core.List.Memᴰ.{cases_cons}
use mathlib.Core.List.Memᴰ.{eq_of_singleton}
use mathlib.Core.List.Memᴰ.{head as here}
use mathlib.Core.List.Memᴰ.{not-nil}
use mathlib.Core.List.Memᴰ.{tail as there}
use mathlib.Core.List.Sublistᴰ
use mathlib.Core.List.{List, [], ◌∷◌, Memᴰ as Mem, Sublistᴰ as Sublist}
use Rattle.answer.specs.Numbers.{Answer, told}
use Rattle.cells.specs.Lists.{Distinct, Before}
use Rattle.cells.specs.ListLaws.{part-mem, second}
use Rattle.cells.specs.Reorder.{Reordered}
use Rattle.order.specs.Frames.{Said}

abbrev pub forth : List ℕ
forth = 0 ∷ 1 ∷ []

abbrev pub back : List ℕ
back = 1 ∷ 0 ∷ []

-- what is told of an answer, and the number that was told
abbrev pub saying : Answer → Option Said
saying a = Some (a, told a)

abbrev pub said_number : Option Said → ℕ
said_number None = 0
said_number (Some x) = x.1.number

-- ---- back is forth in another order

pub forth-once : Distinct forth
unfolding Distinct
forth-once = (λ m. let e : ◌≡◌ {A = ℕ} 0 1 = eq_of_singleton m in omega arith, (λ m. not-nil m, tt))

pub back-once : Distinct back
unfolding Distinct
back-once = (λ m. let e : ◌≡◌ {A = ℕ} 1 0 = eq_of_singleton m in omega arith, (λ m. not-nil m, tt))

pub none-lost : (i : ℕ) → Mem i forth → Mem i back
none-lost i m = at (cases_cons m)
  where
    at : (i ≡ 0) ⊎ Mem i (1 ∷ []) → Mem i back
    at (inl e) = there (here e)
    at (inr n) = here (eq_of_singleton n)

pub none-added : (i : ℕ) → Mem i back → Mem i forth
none-added i m = at (cases_cons m)
  where
    at : (i ≡ 1) ⊎ Mem i (0 ∷ []) → Mem i forth
    at (inl e) = there (here e)
    at (inr n) = here (eq_of_singleton n)

first : (i j : ℕ) → Before i j forth → (i ≡ 0) × (j ≡ 1)
first i j d = at (Sublistᴰ.cases_cons-cons d)
  where
    last : Before i j [] ⊎ ((i ≡ 1) × Sublist (j ∷ []) []) → (i ≡ 0) × (j ≡ 1)
    last (inl e) = absurd (not-nil (second e))
    last (inr e) = absurd (not-nil (part-mem e.1))

    at : Before i j (1 ∷ []) ⊎ ((i ≡ 0) × Sublist (j ∷ []) (1 ∷ [])) → (i ≡ 0) × (j ≡ 1)
    at (inl e) = last (Sublistᴰ.cases_cons-cons e)
    at (inr e) = (e.0, eq_of_singleton (part-mem e.1))

-- if the two frames do not name the same
pub turned : {K : Type 0} (names : ℕ → Option K) → ((k : K) → names 0 ≡ Some k → names 1 ≡ Some k → ⊥) → Reordered names forth back
turned {K} names apart = record { once = forth-once; once_after = back-once; none-lost = none-lost; none-added = none-added; order-kept = kept }
  where
    kept : (i j : ℕ) (k : K) → names i ≡ Some k → names j ≡ Some k → Before i j forth → Before i j back
    kept i j k e f d = let x = first i j d in absurd (apart k (rw x.0 at e) (rw x.1 at f))
