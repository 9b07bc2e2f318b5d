-- A number read octet by octet, one turn of the loop, and octets written to their place. Assumes nothing.
use mathlib.Core.Path.{◌≡◌, refl, sym, ap, ap₂, ◌∙◌}
use mathlib.Core.List.{List, [], ◌∷◌, ◌++◌, append-nil, append_assoc}
use Prim.Native.Nat.{ℕ, zero, suc, ◌+◌, ◌-◌, ◌*◌, ◌/◌, ◌%◌, ◌^◌, ◌≤◌, ◌<◌}
use native.Mathlib.Nat.{add-zero, zero-add, div-div-eq-div-mul, pow-le-pow_right}
use native.Mathlib.Omega.{arith}
use lib.ListN.{length, get_or, set, take, drop, drop_of_length-le}
use lib.Seq.{drop-cons, sets, sets-eq}
use borrow.Rule.Slice.PartMut.{put_mid, Post-is}
use Rattle.std.specs.Int.{w32, w64, to_le_bytes, bytes_low_first}
use Rattle.laws.specs.Numbers.{value, low, field}
use Rattle.laws.specs.NumberLaws.{low-length}

-- the field from one place further down
field_step : (s : List ℕ) (at count : ℕ) → at < length s → field s at (suc count) ≡ get_or s at 0 + 256 * field s (suc at) count
unfolding field value
field_step s at count h = rw (drop-cons s at 0 h)

pub field_back : (s : List ℕ) (at count i number : ℕ) → 0 < i → i ≤ count → at + count ≤ length s → number ≡ field s (at + i) (count - i)
    → number * 256 + get_or s (at + (i - 1)) 0 ≡ field s (at + (i - 1)) (count - (i - 1))
field_back s at count i number pos le room e =
    let one : count - (i - 1) ≡ suc (count - i) = omega arith in
    let next : suc (at + (i - 1)) ≡ at + i = omega arith in
    let step : field s (at + (i - 1)) (suc (count - i)) ≡ get_or s (at + (i - 1)) 0 + 256 * field s (suc (at + (i - 1))) (count - i)
    = field_step s (at + (i - 1)) (count - i) (omega arith)
    in
    rw (one, step, next, ← e) (omega arith)

pub back-small : (count i number octet : ℕ) → 0 < i → i ≤ count → number < 256 ^ (count - i) → octet < 256
    → number * 256 + octet < 256 ^ (count - (i - 1))
back-small count i number octet pos le h o =
    let one : count - (i - 1) ≡ suc (count - i) = omega arith in
    rw one (omega arith)

-- before the last turn there are seven octets at most
pub below_last : (count i number : ℕ) → 0 < i → count ≤ 8 → number < 256 ^ (count - i) → number < 256 ^ 7
below_last count i number pos le h =
    let most : 256 ^ (count - i) ≤ 256 ^ 7 = pow-le-pow_right (omega arith) {i = count - i} {j = 7} (omega arith) in
    omega arith

-- the octets that std gives of a number are its low ones
octets_from : (i k n : ℕ) → bytes_low_first i k n ≡ low k (n / 256 ^ i)
unfolding low
octets_from i zero n = refl
octets_from zero (suc k) n = ap₂ ◌∷◌ (omega arith) (octets_from 1 k n ∙ ap (low k) (omega arith))
octets_from (suc i) (suc k) n = ap (◌∷◌ (n / 256 ^ suc i % 256)) (octets_from (suc (suc i)) k n ∙ ap (low k) (further n (suc i)))
  where
    further : (n i : ℕ) → n / 256 ^ suc i ≡ n / 256 ^ i / 256
    further n i = ap (λ (d : ℕ). n / d) (omega arith) ∙ sym (div-div-eq-div-mul n (256 ^ i) 256)

pub octets_4 : (n : ℕ) → to_le_bytes w32 n ≡ low 4 n
octets_4 n = octets_from 0 4 n ∙ ap (low 4) (omega arith)

pub octets_8 : (n : ℕ) → to_le_bytes w64 n ≡ low 8 n
octets_8 n = octets_from 0 8 n ∙ ap (low 8) (omega arith)

-- a string copied to its place
pub copied : (s new octets : List ℕ) (at : ℕ) → at + length octets ≤ length s → new ≡ octets → put_mid at (at + length octets - at) s new ≡ sets s at octets
copied s new octets at h e =
    ap₂ (λ (n rest : List ℕ). take at s ++ (n ++ rest)) e (Post-is at (at + length octets) s (omega arith)) ∙ sym (sets-eq octets s at h ∙ append_assoc (take at s) octets (drop (at + length octets) s))

-- two strings stored one after the other
pub sets-append : (s a b : List ℕ) (i : ℕ) → sets s i (a ++ b) ≡ sets (sets s i a) (i + length a) b
sets-append s [] b i = rw (add-zero i)
sets-append s (x ∷ a) b i =
    let next : suc i + length a ≡ i + suc (length a) = omega arith in
    sets-append (set s i x) a b (suc i) ∙ ap (λ (k : ℕ). sets (sets (set s i x) (suc i) a) k b) next

pub stored_next : (s a b m n : List ℕ) (i j : ℕ) → j ≡ i + length a → m ≡ sets s i a → n ≡ sets m j b → n ≡ sets s i (a ++ b)
stored_next s a b m n i j here first then = rw (sets-append s a b i, ← here, ← first) then

-- a string as long as the buffer
pub stored-whole : (s a : List ℕ) → length a ≡ length s → sets s 0 a ≡ a
stored-whole s a e =
    sets-eq a s 0 (omega arith) ∙ rw (zero-add (length a), drop_of_length-le s {i = length a} (omega arith), append-nil a)

-- strings put one after the other
pub ruleset stores = (octets_4, octets_8, sets-append, stored-whole, low-length)
