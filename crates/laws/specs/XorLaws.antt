-- Laws of XOR: of numbers (it associates and cancels), of strings of octets, and the test that all differences are zero.
-- Assumes nothing.
use Rattle.std.specs.Prelude.{◌≡◌, refl, true, false, ◌&&◌, List, [], ◌∷◌, ◌++◌, ℕ, zero, suc, ◌+◌, ◌*◌, ◌/◌, ◌%◌, ◌<◌, ◌≤◌, min, eqb, length, take, drop, replicate, get_or, set}
use Rattle.std.proofs.Common.{sym, ap, ap₂, ◌∙◌, append_assoc, append-nil, not-suc-le-zero, le_of_suc-le-suc, suc-ne-zero, arith, take-append-drop, drop_of_length-le, drop-cons, take_all, take-suc-set, drop-set-lt, eq-eqb, ne_eqb, eqb-true}
use Rattle.std.proofs.Math.Bool.{and_assoc, and-false, and-eq-true_iff}
use Rattle.std.proofs.lemmas.Bool.{false≢true}
use Rattle.std.proofs.Math.Decide.{dec_le, ℕ_discrete}
use Rattle.std.proofs.Math.Arith.{bin_ind, digits_div, digits_mod}
use Rattle.std.specs.Int.Bits.{bit_xor, bit_or, differ, xor_step, xor_self, xor_zero_r, xor_add_and, or_add_and}
use Rattle.std.proofs.lemmas.Nat.{and_le_l, and_le_r}
use Rattle.laws.specs.Octets.{◌⊕◌, same}

-- ---- numbers

-- one binary digit
differ-lt : (x y : ℕ) → x < 2 → y < 2 → differ x y < 2
differ-lt zero y h k = k
differ-lt (suc x) zero h k = h
differ-lt (suc x) (suc y) h k = differ-lt x y (omega arith) (omega arith)

differ-assoc : (x y z : ℕ) → x < 2 → y < 2 → z < 2 → differ (differ x y) z ≡ differ x (differ y z)
differ-assoc zero y z h k l = refl
differ-assoc (suc x) zero z h k l = refl
differ-assoc (suc x) (suc y) zero h k l = zero_right (differ x y)
  where
    zero_right : (n : ℕ) → differ n zero ≡ n
    zero_right zero = refl
    zero_right (suc n) = refl
differ-assoc (suc zero) (suc zero) (suc zero) h k l = refl
differ-assoc (suc zero) (suc zero) (suc (suc z)) h k l = absurd (not-suc-le-zero (le_of_suc-le-suc (le_of_suc-le-suc l)))
differ-assoc (suc zero) (suc (suc y)) (suc z) h k l = absurd (not-suc-le-zero (le_of_suc-le-suc (le_of_suc-le-suc k)))
differ-assoc (suc (suc x)) (suc y) (suc z) h k l = absurd (not-suc-le-zero (le_of_suc-le-suc (le_of_suc-le-suc h)))

digit : (a : ℕ) → a % 2 < 2
digit a = omega arith

half : (a b : ℕ) → bit_xor a b / 2 ≡ bit_xor (a / 2) (b / 2)
half a b = ap (λ (x : ℕ). x / 2) (xor_step a b) ∙ digits_div (bit_xor (a / 2) (b / 2)) (differ-lt (a % 2) (b % 2) (digit a) (digit b))

odd : (a b : ℕ) → bit_xor a b % 2 ≡ differ (a % 2) (b % 2)
odd a b = ap (λ (x : ℕ). x % 2) (xor_step a b) ∙ digits_mod (bit_xor (a / 2) (b / 2)) (differ-lt (a % 2) (b % 2) (digit a) (digit b))

pub xor_assoc : (a b c : ℕ) → bit_xor (bit_xor a b) c ≡ bit_xor a (bit_xor b c)
xor_assoc a =
    bin_ind (λ (n : ℕ). (b c : ℕ) → bit_xor (bit_xor n b) c ≡ bit_xor n (bit_xor b c)) (λ b c. refl)
    (λ n ih b c.
    xor_step (bit_xor n b) c
    ∙ ap₂ (λ (p q : ℕ). p * 2 + q) (ap (λ (x : ℕ). bit_xor x (c / 2)) (half n b) ∙ ih (b / 2) (c / 2) ∙ ap (bit_xor (n / 2)) (sym (half b c)))
    (ap (λ (x : ℕ). differ x (c % 2)) (odd n b) ∙ differ-assoc (n % 2) (b % 2) (c % 2) (digit n) (digit b) (digit c) ∙ ap (differ (n % 2)) (sym (odd b c)))
    ∙ sym (xor_step n (bit_xor b c))) a

pub xor-cancel : (a k : ℕ) → bit_xor (bit_xor a k) k ≡ a
xor-cancel a k = xor_assoc a k k ∙ ap (bit_xor a) (xor_self k) ∙ xor_zero_r a

-- ---- strings

pub xor-length : (x y : List ℕ) → length (x ⊕ y) ≡ length x
unfolding ◌⊕◌
xor-length [] y = refl
xor-length (a ∷ x) [] = refl
xor-length (a ∷ x) (b ∷ y) = ap suc (xor-length x y)

pub xor-nil : (x : List ℕ) → x ⊕ [] ≡ x
unfolding ◌⊕◌
xor-nil [] = refl
xor-nil (a ∷ x) = refl

pub nil-xor : (y : List ℕ) → [] ⊕ y ≡ []
unfolding ◌⊕◌
nil-xor y = refl

pub xor-cons : (a b : ℕ) (x y : List ℕ) → (a ∷ x) ⊕ (b ∷ y) ≡ bit_xor a b ∷ (x ⊕ y)
unfolding ◌⊕◌
xor-cons a b x y = refl

pub xor-twice : (x y : List ℕ) → (x ⊕ y) ⊕ y ≡ x
unfolding ◌⊕◌
xor-twice [] y = refl
xor-twice (a ∷ x) [] = refl
xor-twice (a ∷ x) (b ∷ y) = λ i. xor-cancel a b i ∷ xor-twice x y i

pub xor-take : (n : ℕ) (x y : List ℕ) → take n (x ⊕ y) ≡ take n x ⊕ y
unfolding ◌⊕◌
xor-take zero x y = refl
xor-take (suc n) [] y = refl
xor-take (suc n) (a ∷ x) [] = refl
xor-take (suc n) (a ∷ x) (b ∷ y) = ap (λ (r : List ℕ). bit_xor a b ∷ r) (xor-take n x y)

pub xor-drop : (n : ℕ) (x y : List ℕ) → drop n (x ⊕ y) ≡ drop n x ⊕ drop n y
unfolding ◌⊕◌
xor-drop zero x y = refl
xor-drop (suc n) [] y = refl
xor-drop (suc n) (a ∷ x) [] = sym (xor-nil (drop n x))
xor-drop (suc n) (a ∷ x) (b ∷ y) = xor-drop n x y

-- a string XOR two in a row: its front XOR the first, then its rest XOR the second
pub xor-append : (x s r : List ℕ) → x ⊕ (s ++ r) ≡ (take (length s) x ⊕ s) ++ (drop (length s) x ⊕ r)
unfolding ◌⊕◌
xor-append x [] r = refl
xor-append [] (b ∷ s) r = refl
xor-append (a ∷ x) (b ∷ s) r = ap (λ (l : List ℕ). bit_xor a b ∷ l) (xor-append x s r)

-- octets past the end of x are not used
pub xor-cut : (n : ℕ) (x y : List ℕ) → length x ≤ n → x ⊕ take n y ≡ x ⊕ y
unfolding ◌⊕◌
xor-cut n [] y h = refl
xor-cut zero (a ∷ x) y h = absurd (not-suc-le-zero h)
xor-cut (suc n) (a ∷ x) [] h = refl
xor-cut (suc n) (a ∷ x) (b ∷ y) h = ap (λ (r : List ℕ). bit_xor a b ∷ r) (xor-cut n x y (le_of_suc-le-suc h))

-- zeros change nothing
pub xor-zeros : (k : ℕ) (x y : List ℕ) → x ⊕ (y ++ replicate k 0) ≡ x ⊕ y
unfolding ◌⊕◌
xor-zeros k [] y = refl
xor-zeros zero (a ∷ x) [] = refl
xor-zeros (suc k) (a ∷ x) [] = λ i. xor_zero_r a i ∷ (xor-zeros k x [] ∙ xor-nil x) i
xor-zeros k (a ∷ x) (b ∷ y) = ap (λ (r : List ℕ). bit_xor a b ∷ r) (xor-zeros k x y)

-- a turn of a loop that XORs y into x: the octet at j is done, and what is left starts at the next
pub xor-turn : (x y : List ℕ) (j : ℕ) → j < length x → j < length y
    → take (suc j) (set x j (bit_xor (get_or x j 0) (get_or y j 0))) ++ (drop (suc j) (set x j (bit_xor (get_or x j 0) (get_or y j 0))) ⊕ drop (suc j) y)
    ≡ take j x ++ (drop j x ⊕ drop j y)
xor-turn x y j h k =
    let p : j < suc j = omega arith in
    rw (take-suc-set x j _ h, drop-set-lt (suc j) x j _, drop-cons x j 0 h, drop-cons y j 0 k, xor-cons, append_assoc)

-- and its end: nothing is left of one of the two
pub xor-done : (x y : List ℕ) (j : ℕ) → min (length x) (length y) ≤ j → take j x ++ (drop j x ⊕ drop j y) ≡ x
xor-done x y j h = go (dec_le (length x) j)
  where
    go : Dec (length x ≤ j) → take j x ++ (drop j x ⊕ drop j y) ≡ x
    go (yes p) = rw (drop_of_length-le x p, nil-xor, append-nil, take_all j x p)
    go (no w) = let p : length y ≤ j = omega arith in rw (drop_of_length-le y p, xor-nil, take-append-drop)

-- ---- the same: all differences combined, and looked at once

differ-test : (d a b : ℕ) → eqb (bit_or d (bit_xor a b)) 0 ≡ (eqb d 0 && eqb a b)
differ-test d a b = go (ℕ_discrete d 0) (ℕ_discrete a b)
  where
    go : Dec (d ≡ 0) → Dec (a ≡ b) → eqb (bit_or d (bit_xor a b)) 0 ≡ (eqb d 0 && eqb a b)
    go (yes p) (yes q) = rw (p, q, xor_self, eq-eqb b b refl)
    go (yes p) (no q) =
        rw (p, ne_eqb a b q)
        (ne_eqb (bit_xor a b) 0 (λ z. q (omega (arith, xor_add_and a b, and_le_l a b, and_le_r a b))))
    go (no p) w =
        rw (ne_eqb d 0 p)
        (ne_eqb (bit_or d (bit_xor a b)) 0 (λ z. p (omega (arith, or_add_and d (bit_xor a b), and_le_r d (bit_xor a b)))))

same-cons : (a b : ℕ) (x y : List ℕ) → same (a ∷ x) (b ∷ y) ≡ (eqb a b && same x y)
unfolding same
same-cons a b x y = refl

-- a turn of a loop that combines the differences in d
pub same_turn : (x y : List ℕ) (d j : ℕ) → j < length x → j < length y
    → (eqb (bit_or d (bit_xor (get_or x j 0) (get_or y j 0))) 0 && same (drop (suc j) x) (drop (suc j) y)) ≡ (eqb d 0 && same (drop j x) (drop j y))
same_turn x y d j h k = rw (drop-cons x j 0 h, drop-cons y j 0 k, same-cons, differ-test, and_assoc)

-- and its end
pub same-nil : (x y : List ℕ) → length x ≡ length y → length x ≡ 0 → same x y ≡ true
unfolding same
same-nil [] [] e h = refl
same-nil [] (b ∷ y) e h = absurd (suc-ne-zero (length y) (sym e))
same-nil (a ∷ x) y e h = absurd (suc-ne-zero (length x) h)

-- strings of two lengths differ
pub same_length : (x y : List ℕ) → (length x ≡ length y → ⊥) → same x y ≡ false
unfolding same
same_length [] [] h = absurd (h refl)
same_length [] (b ∷ y) h = refl
same_length (a ∷ x) [] h = refl
same_length (a ∷ x) (b ∷ y) h = rw (same_length x y (λ e. h (ap suc e)), and-false (eqb a b))

pub same_refl : (x : List ℕ) → same x x ≡ true
unfolding same
same_refl [] = refl
same_refl (a ∷ x) = rw (eq-eqb a a refl, same_refl x)

pub same-sound : (x y : List ℕ) → same x y ≡ true → x ≡ y
unfolding same
same-sound [] [] e = refl
same-sound [] (b ∷ y) e = absurd (false≢true e)
same-sound (a ∷ x) [] e = absurd (false≢true e)
same-sound (a ∷ x) (b ∷ y) e = let p = (and-eq-true_iff (eqb a b) (same x y)).0 e in λ i. eqb-true a b p.0 i ∷ same-sound x y p.1 i
