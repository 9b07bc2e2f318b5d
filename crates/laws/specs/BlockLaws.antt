-- What a turn of a loop over blocks does. Assumes nothing.
use Rattle.std.specs.Prelude.{◌≡◌, refl, List, [], ◌∷◌, ◌++◌, ℕ, suc, ◌+◌, ◌-◌, ◌/◌, ◌<◌, ◌≤◌, min, length, take, drop, replicate}
use Rattle.std.proofs.Common.{ap, ◌∙◌, arith, append-nil, length-append, length-drop, drop_of_length-le, take_all, take_at, drop_at}
use Rattle.laws.specs.Blocks.{cut, blocks}

pub blocks-nil : blocks [] ≡ []
unfolding blocks cut
blocks-nil = refl

pub blocks-cons : (x : List ℕ) → 0 < length x → blocks x ≡ (take 16 x ++ replicate (16 - length (take 16 x)) 0) ∷ blocks (drop 16 x)
unfolding blocks cut
blocks-cons x h =
    let e : (length x + 15) / 16 ≡ suc ((length (drop 16 x) + 15) / 16) = simp length-drop (omega arith) in
    rw e

-- the first of the pieces of at most 16 octets that a string is cut into, and what is left after it
pub piece : (x b r : List ℕ) → x ≡ b ++ r → length b ≡ min 16 (length x) → (take 16 x ≡ b) × (drop 16 x ≡ r)
piece x b [] e l =
    let f : x ≡ b = e ∙ append-nil b in
    let n : length x ≤ 16 = omega (arith, ap length f) in
    (take_all 16 x n ∙ f, drop_of_length-le x {i = 16} n)
piece x b (c ∷ r) e l =
    let n : length b ≡ 16 = omega (arith, ap length e, length-append b (c ∷ r)) in
    (ap (take 16) e ∙ take_at b (c ∷ r) 16 n, ap (drop 16) e ∙ drop_at b (c ∷ r) 16 n)

-- the same, and the blocks
pub blocks-piece : (x b r : List ℕ) → x ≡ b ++ r → length b ≡ min 16 (length x) → 0 < length x → blocks x ≡ (b ++ replicate (16 - length b) 0) ∷ blocks r
blocks-piece x b r e l h = let p = piece x b r e l in blocks-cons x h ∙ rw (p.0, p.1)
