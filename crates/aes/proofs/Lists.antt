-- Lists given by a rule, and the length of what the cipher makes. Assumes nothing.
use mathlib.Core.Path.{◌≡◌, refl, sym, ap, ap₂, ◌∙◌}
use mathlib.Core.List.{List, [], ◌∷◌, ◌++◌}
use Prim.Native.Nat.{ℕ, zero, suc, ◌<◌, ◌≤◌}
use native.Mathlib.Nat.{le_of_eq, le_refl, le-suc, le_trans}
use lib.ListN.{length, take, get_or}
use lib.Seq.{take-suc, take_all}
use Rattle.aes.specs.Cipher.{list, cipher}

-- two rules that agree below n make the same list
pub list_same : (f g : ℕ → ℕ) (n : ℕ) → ((k : ℕ) → k < n → f k ≡ g k) → list n f ≡ list n g
list_same f g zero h = refl
list_same f g (suc n) h =
    ap₂ (λ (a : List ℕ) (x : ℕ). a ++ (x ∷ [])) (list_same f g n (λ k l. h k (le_trans l (le-suc n)))) (h n (le_refl (suc n)))

-- a list of n elements is the list of its elements
pub list-get_or : (l : List ℕ) (n : ℕ) → length l ≡ n → list n (λ k. get_or l k 0) ≡ l
list-get_or l n e = sym (taken n (le_of_eq (sym e))) ∙ take_all n l (le_of_eq e)
  where
    taken : (n : ℕ) → n ≤ length l → take n l ≡ list n (λ k. get_or l k 0)
    taken zero h = refl
    taken (suc n) h = take-suc l n 0 h ∙ ap (λ (a : List ℕ). a ++ (get_or l n 0 ∷ [])) (taken n (le_trans (le-suc n) h))

pub cipher-length : (w block : List ℕ) → length (cipher w block) ≡ 16
unfolding cipher
cipher-length w block = refl
