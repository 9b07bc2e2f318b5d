-- Blocks read from a string as words: `listed` gives zeros past the string's end, and XOR with them changes nothing. Assumes nothing.
use mathlib.Core.Path.{◌≡◌, refl, sym, ap, ap₂, ◌∙◌}
use mathlib.Core.List.{List, [], ◌∷◌, ◌++◌, append-nil}
use Prim.Native.Nat.{ℕ, zero, suc, ◌+◌, ◌≤◌}
use native.Mathlib.Omega.{arith}
use native.Mathlib.Decide.{dec_le}
use native.Mathlib.Nat.{le_of_suc-le-suc}
use lib.Bits.{bit_xor, xor_zero_r}
use lib.ListN.{length, take, drop, get_or, drop_of_length-le, get_or-eq_default}
use lib.Seq.{drop-cons}
use Rattle.laws.specs.Octets.{◌⊕◌}
use Rattle.laws.specs.XorLaws.{xor-length, xor-nil, nil-xor, xor-cons, xor-append}
use Rattle.laws.specs.Parts.{listed}

-- a block XOR what is left of y from i on: so many octets of it are enough, and past its end they may be zeros
pub xor-listed : (k i : ℕ) (x y : List ℕ) → length x ≤ k → x ⊕ listed k i y ≡ x ⊕ drop i y
xor-listed k i [] y h = nil-xor (listed k i y) ∙ sym (nil-xor (drop i y))
xor-listed zero i (a ∷ x) y h = elim h [ ]
xor-listed (suc k) i (a ∷ x) y h =
    xor-cons a (get_or y i 0) x (listed k (suc i) y) ∙ ap (λ (z : List ℕ). bit_xor a (get_or y i 0) ∷ z) (xor-listed k (suc i) x y (le_of_suc-le-suc h)) ∙ go (dec_le (suc i) (length y))
  where
    go : Dec (suc i ≤ length y) → bit_xor a (get_or y i 0) ∷ (x ⊕ drop (suc i) y) ≡ (a ∷ x) ⊕ drop i y
    go (yes p) = sym (ap (λ (z : List ℕ). (a ∷ x) ⊕ z) (drop-cons y i 0 p) ∙ xor-cons a (get_or y i 0) x (drop (suc i) y))
    go (no p) =
        let d : drop i y ≡ [] = drop_of_length-le y {i = i} (omega arith) in
        let e : drop (suc i) y ≡ [] = drop_of_length-le y {i = suc i} (omega arith) in
        rw (d, e, get_or-eq_default y 0 {n = i} (omega arith), xor_zero_r, xor-nil, xor-nil)

-- octets that there are
pub listed-part : (n i : ℕ) (x : List ℕ) → i + n ≤ length x → listed n i x ≡ take n (drop i x)
listed-part zero i x h = refl
listed-part (suc n) i x h =
    ap (λ (r : List ℕ). get_or x i 0 ∷ r) (listed-part n (suc i) x (omega arith)) ∙ sym (ap (take (suc n)) (drop-cons x i 0 (omega arith)))

-- a block k XORed into the front of s, and put back
pub xor-front : (s k : List ℕ) → length k ≡ 16 → 16 ≤ length s → (let t = listed 16 0 s ⊕ k in t ++ drop (length t) s) ≡ s ⊕ k
xor-front s k l h =
    let t = listed 16 0 s ⊕ k in
    let a : t ≡ take 16 s ⊕ k = ap (λ (x : List ℕ). x ⊕ k) (listed-part 16 0 s h) in
    let b = xor-append s k [] ∙ ap (λ (n : ℕ). (take n s ⊕ k) ++ (drop n s ⊕ [])) l ∙ ap (λ (x : List ℕ). (take 16 s ⊕ k) ++ x) (xor-nil (drop 16 s)) in
    ap₂ (λ (x : List ℕ) (n : ℕ). x ++ drop n s) a (xor-length (listed 16 0 s) k) ∙ sym b ∙ ap (λ (x : List ℕ). s ⊕ x) (append-nil k)
