-- Laws of the definitions of specs/Ccm.antt: what a turn of a loop over blocks of 16 octets does, and how the MAC begins. Assumes nothing.
use mathlib.Core.Path.{◌≡◌, refl, sym, ap, ap₂, ◌∙◌}
use Prim.Native.Nat.{ℕ, suc, ◌+◌, ◌-◌, ◌*◌, ◌/◌, ◌<◌, min}
use native.Mathlib.Nat.{suc-ne-zero}
use native.Mathlib.Omega.{arith}
use mathlib.Core.List.{List, [], ◌∷◌, ◌++◌, append_assoc}
use lib.ListN.{length, take, drop, length-drop, drop_of_length-le}
use lib.Seq.{take_at, take-add, drop_at, drop-drop, length-take-le}
use Rattle.laws.specs.Octets.{◌⊕◌}
use Rattle.laws.specs.XorLaws.{xor-length, xor-nil, nil-xor, xor-take, xor-drop, xor-append, xor-cut, xor-zeros}
use Rattle.laws.specs.Blocks.{be16, blocks}
use Rattle.laws.specs.BlockLaws.{blocks-nil, blocks-cons, piece}
use Rattle.ccm.specs.Ccm.{block, chain, stream, counted, head, head_blocks}

module _ (E : List ℕ → List ℕ) where
  pub chain-nil : (x : List ℕ) → chain E x (blocks []) ≡ x
  unfolding chain
  chain-nil x = rw blocks-nil

  -- a turn of the chain: the block's padding changes nothing
  pub chain-turn : (x y : List ℕ) → length x ≡ 16 → 0 < length y → chain E x (blocks y) ≡ chain E (E (x ⊕ y)) (blocks (drop 16 y))
  unfolding chain
  chain-turn x y l h =
      rw (blocks-cons y h)
      (ap (λ (z : List ℕ). chain E (E z) (blocks (drop 16 y))) (xor-zeros (16 - length (take 16 y)) x (take 16 y) ∙ xor-cut 16 x y (omega arith)))

  -- the same for the pieces that the octets are cut into
  pub chain-piece : (x y b r : List ℕ) → length x ≡ 16 → y ≡ b ++ r → length b ≡ min 16 (length y) → 0 < length y → chain E (E (x ⊕ b)) (blocks r) ≡ chain E x (blocks y)
  chain-piece x y b r l e n h =
      let p = piece y b r e n in
      ap₂ (λ (s t : List ℕ). chain E (E (x ⊕ s)) (blocks t)) (sym p.0) (sym p.1)
      ∙ ap (λ (z : List ℕ). chain E (E z) (blocks (drop 16 y))) (xor-cut 16 x y (omega arith)) ∙ sym (chain-turn x y l h)

  pub chain-none : (x y : List ℕ) → length y ≡ 0 → chain E x (blocks y) ≡ x
  chain-none x [] h = chain-nil x
  chain-none x (b ∷ y) h = absurd (suc-ne-zero (length y) h)

  pub chain-append : (x : List ℕ) (b c : List (List ℕ)) → chain E x (b ++ c) ≡ chain E (chain E x b) c
  unfolding chain
  chain-append x [] c = refl
  chain-append x (d ∷ b) c = chain-append (E (x ⊕ d)) b c

  pub counted-nil : (n : List ℕ) (i : ℕ) → counted E n i [] ≡ []
  unfolding counted
  counted-nil n i = nil-xor _

  pub length-counted : (n : List ℕ) (i : ℕ) (x : List ℕ) → length (counted E n i x) ≡ length x
  unfolding counted
  length-counted n i x = xor-length x _

  -- a turn of the counter
  pub counted-turn : (n : List ℕ) (i : ℕ) (x : List ℕ) → length (E (block 1 n i)) ≡ 16 → 0 < length x
      → counted E n i x ≡ (take 16 x ⊕ E (block 1 n i)) ++ counted E n (suc i) (drop 16 x)
  unfolding counted stream
  counted-turn n i x l h =
      let e : (length x + 15) / 16 ≡ suc ((length (drop 16 x) + 15) / 16) = simp length-drop (omega arith) in
      rw (e, xor-append, l)

  -- the same in place: the octets before `at` are done, and a block is XORed into the rest
  pub counted_step : (n : List ℕ) (i at : ℕ) (s : List ℕ) → length (E (block 1 n i)) ≡ 16 → at < length s
      → (let s' = take at s ++ (drop at s ⊕ E (block 1 n i)) in take (at + 16) s' ++ counted E n (suc i) (drop (at + 16) s')) ≡ take at s ++ counted E n i (drop at s)
  counted_step n i at s l h =
      let K = E (block 1 n i) in
      let d = drop at s in
      let s' = take at s ++ (d ⊕ K) in
      let p : length (take at s) ≡ at = length-take-le at s (omega arith) in
      let t : take at s' ≡ take at s = take_at (take at s) (d ⊕ K) at p in
      let r : drop at s' ≡ d ⊕ K = drop_at (take at s) (d ⊕ K) at p in
      let q : drop 16 K ≡ [] = drop_of_length-le K {i = 16} (omega arith) in
      let v : 0 < length d = simp length-drop (omega arith) in
      rw (take-add at 16 s', ← drop-drop 16 at s', t, r, xor-take 16 d K, xor-drop 16 d K, q, xor-nil, append_assoc, ← counted-turn n i d l v)

  -- ---- the MAC's beginning

  pub head-nil : (M : ℕ) (n a : List ℕ) (l : ℕ) → length a ≡ 0 → head E M n a l ≡ E (block (0 + ((M - 2) / 2 * 8 + 1)) n l)
  unfolding head head_blocks chain
  head-nil M n [] l h = refl
  head-nil M n (b ∷ a) l h = absurd (suc-ne-zero (length a) h)

  pub head-some : (M : ℕ) (n a : List ℕ) (l : ℕ) → (length a ≡ 0 → ⊥) → length (E (block (64 + ((M - 2) / 2 * 8 + 1)) n l)) ≡ 16
      → head E M n a l ≡ chain E (E (E (block (64 + ((M - 2) / 2 * 8 + 1)) n l) ⊕ (be16 (length a) ++ a))) (blocks (drop 14 a))
  unfolding head head_blocks
  head-some M n [] l h e = absurd (h refl)
  head-some M n (b ∷ a) l h e = chain-turn (E (block (64 + ((M - 2) / 2 * 8 + 1)) n l)) (be16 (length (b ∷ a)) ++ (b ∷ a)) e (omega arith)
