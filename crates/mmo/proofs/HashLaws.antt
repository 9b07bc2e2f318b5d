-- Laws of the hash: a turn of its loop, and messages in parts. Assumes nothing.
use mathlib.Core.Path.{◌≡◌, refl, ap, ◌∙◌}
use mathlib.Core.List.{List, [], ◌∷◌, ◌++◌, append_assoc, append-nil}
use Prim.Native.Nat.{ℕ, zero, suc, ◌-◌, ◌*◌, ◌<◌, ◌≤◌, min}
use native.Mathlib.Nat.{suc-ne-zero}
use native.Mathlib.Numerals.{unary_clauses}
use native.Mathlib.Omega.{arith}
use lib.ListN.{length, take, drop, replicate, length-take, length-drop, length-append, length-replicate, take-append-drop}
use lib.Seq.{length-take-le, take-append-le, drop-append-le, take_all}
use Rattle.laws.specs.Octets.{◌⊕◌}
use Rattle.laws.specs.XorLaws.{xor-length}
use Rattle.laws.specs.Blocks.{blocks}
use Rattle.laws.specs.BlockLaws.{blocks-nil, blocks-cons, blocks-piece}
use Rattle.aes.specs.Cipher.{cipher}
use Rattle.aes.specs.Schedule.{key_expansion}
use Rattle.aes.proofs.Lists.{cipher-length}
use Rattle.mmo.specs.Hash.{padding, step, steps, hash_from, hash, zero_block, filled}

-- zeros XOR a string are its front, filled up with zeros
pub zeros-xor : (n : ℕ) (s : List ℕ) → replicate n 0 ⊕ s ≡ take n s ++ replicate (n - length (take n s)) 0
unfolding ◌⊕◌
zeros-xor zero s = refl
zeros-xor (suc n) [] = simp unary_clauses
zeros-xor (suc n) (b ∷ s) =
    simp unary_clauses (ap (λ (r : List ℕ). b ∷ r) (zeros-xor n s))

-- a front of k whole blocks, and the rest
pub blocks-append : (k : ℕ) (x y : List ℕ) → length x ≡ k * 16 → blocks (x ++ y) ≡ blocks x ++ blocks y
blocks-append zero [] y h = rw blocks-nil
blocks-append zero (a ∷ x) y h = absurd (suc-ne-zero (length x) h)
blocks-append (suc k) x y h =
    let l : 16 ≤ length x = omega arith in
    let p : 0 < length x = omega arith in
    let q : 0 < length (x ++ y) = simp length-append (omega arith) in
    let d : length (drop 16 x) ≡ k * 16 = simp length-drop (omega arith) in
    rw (blocks-cons (x ++ y) q, blocks-cons x p, take-append-le 16 x y l, drop-append-le 16 x y l, blocks-append k (drop 16 x) y d)

pub filled-length : (x : List ℕ) → length (filled x) ≡ 16
unfolding filled
filled-length x = simp (length-append, length-replicate, length-take) (omega arith)

pub filled-whole : (x : List ℕ) → length x ≡ 16 → filled x ≡ x
unfolding filled
filled-whole x h = let t : take 16 x ≡ x = take_all 16 x (omega arith) in rw (t, h, append-nil)

pub step-length : (h x : List ℕ) → length (step h x) ≡ 16
unfolding step
step-length h x = xor-length (cipher (key_expansion h) x) x ∙ cipher-length (key_expansion h) x

pub steps-nil : (h : List ℕ) → steps h (blocks []) ≡ h
unfolding steps
steps-nil h = rw blocks-nil

pub steps-turn : (h y : List ℕ) → 0 < length y → steps h (blocks y) ≡ steps (step h (filled y)) (blocks (drop 16 y))
unfolding steps filled
steps-turn h y l = rw (blocks-cons y l)

-- the same for the pieces that a message is cut into
pub steps-piece : (h y b r : List ℕ) → y ≡ b ++ r → length b ≡ min 16 (length y) → 0 < length y → steps (step h (filled b)) (blocks r) ≡ steps h (blocks y)
unfolding steps filled
steps-piece h y b r e l p =
    let t : take 16 b ≡ b = take_all 16 b (omega arith) in
    rw (blocks-piece y b r e l p, t)

pub steps-none : (h y : List ℕ) → length y ≡ 0 → steps h (blocks y) ≡ h
steps-none h [] e = steps-nil h
steps-none h (b ∷ y) e = absurd (suc-ne-zero (length y) e)

pub steps-append : (h : List ℕ) (a b : List (List ℕ)) → steps h (a ++ b) ≡ steps (steps h a) b
unfolding steps
steps-append h [] b = refl
steps-append h (x ∷ a) b = steps-append (step h x) a b

pub steps-length : (h : List ℕ) (b : List (List ℕ)) → length h ≡ 16 → length (steps h b) ≡ 16
unfolding steps
steps-length h [] l = l
steps-length h (x ∷ b) l = steps-length (step h x) b (step-length h x)

-- a message's whole blocks first, and then its rest and what follows
pub steps-parts : (h s t : List ℕ) (k w : ℕ) → w ≡ k * 16 → w ≤ length s
    → steps (steps h (blocks (take w s))) (blocks (drop w s ++ t)) ≡ steps h (blocks (s ++ t))
steps-parts h s t k w e l =
    let n : length (take w s) ≡ k * 16 = length-take-le w s l ∙ e in
    rw (← steps-append, ← blocks-append k (take w s) (drop w s ++ t) n, ← append_assoc, take-append-drop)

pub hash-length : (m : List ℕ) → length (hash m) ≡ 16
unfolding hash hash_from
hash-length m = steps-length zero_block (blocks (m ++ padding (length m))) refl
