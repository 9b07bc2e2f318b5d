-- A table's rule, and a fact of every number below a bound: one test that the checker computes, and one law that carries it to each.
-- Assumes nothing.
use Rattle.std.specs.Prelude.{◌≡◌, Bool, true, false, List, [], ◌∷◌, ℕ, zero, suc, ◌+◌, ◌<◌, T, eqb, length, get_or}
use Rattle.std.proofs.Common.{◌∙◌, subst, sym, ⊎_elim, eq-or-lt_of_le, add-zero, zero-add, add-suc, suc-add, le_of_suc-le-suc, not-suc-le-zero, eqb→eq}

abbrev pub both : Bool → Bool → Bool
both true b = b
both false b = false

both_left : (a b : Bool) → T (both a b) → T a
both_left true b t = tt
both_left false b t = t

both_right : (a b : Bool) → T (both a b) → T b
both_right true b t = t
both_right false b t = absurd t

-- each entry of the list, counted from i, is what the rule says of its place
abbrev pub follows : (ℕ → ℕ) → ℕ → List ℕ → Bool
follows f i [] = true
follows f i (x ∷ xs) = both (eqb x (f i)) (follows f (suc i) xs)

from : (f : ℕ → ℕ) (xs : List ℕ) (i : ℕ) → T (follows f i xs) → (k : ℕ) → k < length xs → get_or xs k 0 ≡ f (i + k)
from f [] i t k h = absurd (not-suc-le-zero h)
from f (x ∷ xs) i t zero h = subst (λ (m : ℕ). x ≡ f m) (sym (add-zero i)) (eqb→eq x (f i) (both_left (eqb x (f i)) (follows f (suc i) xs) t))
from f (x ∷ xs) i t (suc k) h =
    subst (λ (m : ℕ). get_or xs k 0 ≡ f m) (suc-add i k ∙ sym (add-suc i k))
    (from f xs (suc i) (both_right (eqb x (f i)) (follows f (suc i) xs) t) k (le_of_suc-le-suc h))

-- THE LAW of a table: where the test passes, each entry has the rule
pub each-entry : (f : ℕ → ℕ) (xs : List ℕ) → T (follows f 0 xs) → (k : ℕ) → k < length xs → get_or xs k 0 ≡ f k
each-entry f xs t k h = subst (λ (m : ℕ). get_or xs k 0 ≡ f m) (zero-add k) (from f xs 0 t k h)

-- the test p passes at each number below n
abbrev pub all_below : (ℕ → Bool) → ℕ → Bool
all_below p zero = true
all_below p (suc n) = both (p n) (all_below p n)

pub each_below : (p : ℕ → Bool) (n : ℕ) → T (all_below p n) → (k : ℕ) → k < n → T (p k)
each_below p zero t k h = absurd (not-suc-le-zero h)
each_below p (suc n) t k h =
    ⊎_elim (λ e. subst (λ (m : ℕ). T (p m)) (sym e) (both_left (p n) (all_below p n) t))
    (λ l. each_below p n (both_right (p n) (all_below p n) t) k l) (eq-or-lt_of_le (le_of_suc-le-suc h))

-- two functions that agree, by the test, at each number below n
pub same-below : (f g : ℕ → ℕ) (n : ℕ) → T (all_below (λ k. eqb (f k) (g k)) n) → (k : ℕ) → k < n → f k ≡ g k
same-below f g n t k h = eqb→eq (f k) (g k) (each_below (λ m. eqb (f m) (g m)) n t k h)
