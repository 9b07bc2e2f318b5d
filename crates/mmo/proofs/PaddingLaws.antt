-- Padding: how many octets it has, and how it is written. Assumes nothing.
use mathlib.Core.Path.{◌≡◌, refl, sym, ap, ◌∙◌}
use mathlib.Core.List.{List, [], ◌∷◌, ◌++◌, append_assoc}
use Prim.Native.Nat.{ℕ, suc, ◌+◌, ◌-◌, ◌*◌, ◌%◌, ◌<◌, ◌≤◌}
use native.Mathlib.Omega.{arith}
use borrow.Author.Tests.{lt-ltb, le-ltb}
use lib.ListN.{length, take, drop, set, replicate, length-append, length-replicate, replicate-append-replicate}
use lib.Seq.{set_at, take_at, drop_at}
use Rattle.laws.specs.Blocks.{be16}
use Rattle.mmo.specs.Hash.{be32, short_padding, long_padding, padding}

-- document 01, case P4: the pad octets after 13, 14, 15, 16 and 17
pub pad-octets : (length (padding 13) ≡ 3) × (length (padding 14) ≡ 18) × (length (padding 15) ≡ 17) × (length (padding 16) ≡ 16) × (length (padding 17) ≡ 15)
unfolding padding
pad-octets = (refl, refl, refl, refl, refl)

-- the two paddings, each on its side of 8,192 octets
pub pad-short : (m : ℕ) → m < 8192 → padding m ≡ short_padding m
unfolding padding
pad-short m h = rw (lt-ltb m 8192 h)

pub pad-long : (m : ℕ) → 8192 ≤ m → padding m ≡ long_padding m
unfolding padding
pad-long m h = rw (le-ltb m 8192 h)

-- how each is made, the number of zeros counted otherwise
pub short_made : (m z : ℕ) → m < 8192 → z ≡ (29 - m % 16) % 16 → 0x80 ∷ (replicate z 0 ++ be16 (8 * m)) ≡ padding m
short_made m z h e = rw (pad-short m h, e)

pub long_made : (m z : ℕ) → 8192 ≤ m → z ≡ (25 - m % 16) % 16 → 0x80 ∷ (replicate z 0 ++ (be32 (8 * m) ++ (0 ∷ 0 ∷ []))) ≡ padding m
long_made m z h e = rw (pad-long m h, e)

-- each makes whole blocks of a message, and no shorter one of its kind would: it has less than a block of zeros
pub short-whole : (m : ℕ) → ((m + length (short_padding m)) % 16 ≡ 0) × (length (short_padding m) < 3 + 16)
short-whole m = (simp (length-append, length-replicate) (omega arith), simp (length-append, length-replicate) (omega arith))

pub long-whole : (m : ℕ) → ((m + length (long_padding m)) % 16 ≡ 0) × (length (long_padding m) < 7 + 16)
long-whole m = (simp (length-append, length-replicate) (omega arith), simp (length-append, length-replicate) (omega arith))

abbrev zeros : ℕ → List ℕ
zeros n = replicate n 0

dropped : (n k : ℕ) → drop n (zeros (n + k)) ≡ zeros k
dropped n k = ap (drop n) (sym (replicate-append-replicate n k 0)) ∙ drop_at (zeros n) (zeros k) n (length-replicate n 0)

-- the code's way, in e octets: s copied over zeros, 0x80 after it, and the ending copied to where e ends, whatever stands after it
pub closing : (s ending x y : List ℕ) (e : ℕ) → length s + 1 + length ending ≤ e → e ≤ 32
    → take e (take (e - length ending) (set (s ++ drop (length s) (zeros 32)) (length s) 0x80) ++ ((ending ++ x) ++ y))
    ≡ s ++ (0x80 ∷ (zeros (e - (length s + 1 + length ending)) ++ ending))
closing s ending x y e l u =
    let n = length s in
    let at = e - length ending in
    let z = e - (n + 1 + length ending) in
    let m = s ++ (0x80 ∷ zeros z) in
    let f : 32 ≡ n + suc (z + (32 - at)) = omega arith in
    let v : drop n (zeros 32) ≡ 0 ∷ (zeros z ++ zeros (32 - at)) =
    ap (λ (j : ℕ). drop n (zeros j)) f ∙ dropped n (suc (z + (32 - at))) ∙ ap (λ (r : List ℕ). 0 ∷ r) (sym (replicate-append-replicate z (32 - at) 0)) in
    let g : (r : List ℕ) → s ++ (0x80 ∷ (zeros z ++ r)) ≡ m ++ r = λ r. sym (append_assoc s (0x80 ∷ zeros z) r) in
    let i : length m ≡ at = simp (length-append, length-replicate) (omega arith) in
    let j : length (m ++ ending) ≡ e = length-append m ending ∙ omega arith in
    rw (v, set_at s 0 (zeros z ++ zeros (32 - at)) 0x80 n refl, g (zeros (32 - at)), take_at m (zeros (32 - at)) at i, g ending, append_assoc ending x y)
    (rw (← append_assoc m ending (x ++ y)) (take_at (m ++ ending) (x ++ y) e j))
