-- A frame sealed in place, and a payload deciphered aside: what the parts' contracts say of the whole, on plain lists. Assumes nothing.
use mathlib.Core.Path.{◌≡◌, ap, ap₂, ◌∙◌}
use Prim.Native.Nat.{ℕ, ◌+◌, ◌-◌, ◌≤◌}
use native.Mathlib.Nat.{add_assoc}
use native.Mathlib.Omega.{arith}
use mathlib.Core.Bool.{Bool, cond}
use mathlib.Core.List.{List, ◌++◌}
use lib.ListN.{length, take, drop, length-drop}
use lib.Seq.{take_at, drop-drop, length-take-le}
use Rattle.laws.specs.Octets.{◌⊕◌, same}
use Rattle.laws.specs.Blocks.{blocks}
use Rattle.ccm.specs.Frame.{sealed_frame, opened_frame, vouched_frame}
use Rattle.ccm.specs.Ccm.{block, chain, counted, head, sealed_from, sealed, tag_from, vouched_from, vouched}
use Rattle.laws.specs.XorLaws.{xor-take}
use Rattle.laws.specs.Parts.{part-rest, put_rest, put-cond}
use Rattle.ccm.proofs.Laws.{length-counted}

module _ (E : List ℕ → List ℕ) where
  pub frame-sealed : (M : ℕ) (n : List ℕ) (at k : ℕ) (s x y : List ℕ) → at + k ≤ length s → x ≡ head E M n (take at s) k
      → y ≡ sealed_from E M n x (take k (take (length s - at) (drop at s))) ++ drop (k + M) (take (length s - at) (drop at s))
      → take at s ++ (y ++ drop (length s - at) (drop at s)) ≡ sealed_frame E M n at k s
  unfolding sealed sealed_frame
  frame-sealed M n at k s x y h e q =
      let l : length (take k (drop at s)) ≡ k = length-take-le k (drop at s) (simp length-drop (omega arith)) in
      cc (put_rest at s y, part-rest at s, drop-drop (k + M) at s, add_assoc at k M, l)

  -- the same of a frame opened: whether its tag is right, and what is left
  pub frame-vouched : (M : ℕ) (n : List ℕ) (at k : ℕ) (s x : List ℕ) (r : Bool) → at + k ≤ length s → x ≡ head E M n (take at s) k
      → r ≡ vouched_from E M n x (take k (take (length s - at) (drop at s))) (take M (drop k (take (length s - at) (drop at s)))) → r ≡ vouched_frame E M n at k s
  unfolding vouched vouched_frame
  frame-vouched M n at k s x r h e q =
      let l : length (take k (drop at s)) ≡ k = length-take-le k (drop at s) (simp length-drop (omega arith)) in
      cc (part-rest at s, drop-drop k at s, l)

  pub frame_opened : (n : List ℕ) (at k : ℕ) (s y : List ℕ) (r : Bool)
      → y ≡ cond r (counted E n 1 (take k (take (length s - at) (drop at s))) ++ drop k (take (length s - at) (drop at s))) (take (length s - at) (drop at s))
      → take at s ++ (y ++ drop (length s - at) (drop at s)) ≡ cond r (opened_frame E n at k s) s
  unfolding opened_frame
  frame_opened n at k s y r q =
      cc (put_rest at s y, part-rest at s, put-cond r at s (counted E n 1 (take k (drop at s)) ++ drop k (drop at s)), drop-drop k at s)

  -- s, its first n copied to the front of p, and these under the key stream
  pub aside : (n s p t q : List ℕ) (k : ℕ) → k ≤ length s → t ≡ take k s ++ drop (length (take k s)) p
      → length q ≡ length (take k t) → q ≡ counted E n 1 (take k t) → take k (q ++ drop k t) ≡ counted E n 1 (take k s)
  aside n s p t q k h c l e =
      let ls : length (take k s) ≡ k = length-take-le k s h in
      let g : take k t ≡ take k s =
      ap (take k) c ∙ take_at (take k s) (drop (length (take k s)) p) k ls in
      take_at q (drop k t) k (l ∙ ap length g ∙ ls) ∙ e ∙ ap (counted E n 1) g

  pub vouched-aside : (M : ℕ) (n x : List ℕ) (k : ℕ) (s p y t : List ℕ) (r : Bool) → p ≡ counted E n 1 (take k s) → y ≡ chain E x (blocks p) → t ≡ y ⊕ E (block 1 n 0)
      → r ≡ same (take M t) (take (k + M - k) (drop k s)) → r ≡ vouched_from E M n x (take k s) (take M (drop k s))
  unfolding vouched_from tag_from
  vouched-aside M n x k s p y t r a b c e =
      let d : k + M - k ≡ M = omega arith in
      cc (xor-take M y (E (block 1 n 0)))

  -- and put back
  pub placed : (n : List ℕ) (k : ℕ) (s p : List ℕ) → k ≤ length s → p ≡ counted E n 1 (take k s) → p ++ drop (length p) s ≡ counted E n 1 (take k s) ++ drop k s
  placed n k s p h e =
      let l : length p ≡ k = ap length e ∙ length-counted E n 1 (take k s) ∙ length-take-le k s h in
      ap₂ (λ (x : List ℕ) (j : ℕ). x ++ drop j s) e l
