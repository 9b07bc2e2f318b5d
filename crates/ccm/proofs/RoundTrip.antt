-- What is sealed opens to what it was; a passed tag test means equal tags; enciphering twice gives the text back.
-- Assumes nothing.
use mathlib.Core.Path.{◌≡◌, sym, ap, ◌∙◌}
use mathlib.Core.Bool.{true}
use Prim.Native.Nat.{ℕ, ◌+◌, ◌≤◌}
use native.Mathlib.Omega.{arith}
use mathlib.Core.List.{List, [], ◌∷◌, ◌++◌, append_assoc}
use lib.ListN.{length, take, drop, length-append, length-drop}
use lib.Seq.{length-take-le, take_at, drop_at, take-add, drop-drop}
use Rattle.laws.specs.Octets.{◌⊕◌}
use Rattle.laws.specs.XorLaws.{xor-length, xor-twice, same_refl, same-sound}
use Rattle.laws.specs.Blocks.{blocks}
use Rattle.std.specs.Prelude.{Ok}
use Rattle.aes.specs.Words.{cipher_words, key_bytes}
use Rattle.aes.proofs.Lists.{cipher-length}
use Rattle.ccm.specs.Ccm.{block, chain, flags₀, head_blocks, counted, head, tag_from, tag, sealed_from, sealed, vouched_from, vouched}
use Rattle.ccm.specs.Frame.{fitting, unsealing, sealed_frame, opened_frame, vouched_frame}
use Rattle.ccm.proofs.Laws.{length-counted}
use Rattle.ccm.proofs.Fitting.{fits}

module _ (E : List ℕ → List ℕ) where
  pub counted-twice : (n : List ℕ) (i : ℕ) (x : List ℕ) → counted E n i (counted E n i x) ≡ x
  unfolding counted
  counted-twice n i x = rw xor-length (xor-twice x _)

  -- a passed tag test: the received tag is the one of the deciphered payload
  pub vouched-tag : (M : ℕ) (n a c u : List ℕ) → vouched E M n a c u ≡ true → tag E M n a (counted E n 1 c) ≡ u
  unfolding vouched vouched_from tag
  vouched-tag M n a c u e =
      ap (λ (l : ℕ). tag_from E M n (head E M n a l) (counted E n 1 c)) (length-counted E n 1 c) ∙ same-sound _ u e

  -- what `sealed` writes, its payload and then its tag, is vouched for
  sealed-vouched : (M : ℕ) (n a p : List ℕ) → vouched E M n a (counted E n 1 p) (tag E M n a p) ≡ true
  unfolding vouched vouched_from tag
  sealed-vouched M n a p = rw (length-counted E n 1 p, counted-twice n 1 p, same_refl)

-- the parts of four strings in a row
parts : {at k M : ℕ} (a c t r : List ℕ) → length a ≡ at → length c ≡ k → length t ≡ M
    → (take at (a ++ ((c ++ t) ++ r)) ≡ a) × (take k (drop at (a ++ ((c ++ t) ++ r))) ≡ c) × (drop (at + k) (a ++ ((c ++ t) ++ r)) ≡ t ++ r)
    × (take M (drop (at + k) (a ++ ((c ++ t) ++ r))) ≡ t)
parts {at} {k} {M} a c t r la lc lt =
    let d : drop at (a ++ ((c ++ t) ++ r)) ≡ (c ++ t) ++ r = drop_at a ((c ++ t) ++ r) at la in
    let e : drop (at + k) (a ++ ((c ++ t) ++ r)) ≡ t ++ r =
    sym (drop-drop k at (a ++ ((c ++ t) ++ r))) ∙ rw (d, append_assoc) (drop_at c (t ++ r) k lc) in
    (take_at a ((c ++ t) ++ r) at la, rw (d, append_assoc) (take_at c (t ++ r) k lc), e, rw e (take_at t r M lt))

-- for a cipher whose blocks have 16 octets
module _ (E : List ℕ → List ℕ) (sixteen : (b : List ℕ) → length (E b) ≡ 16) where
  chain_length : (x : List ℕ) (bs : List (List ℕ)) → length x ≡ 16 → length (chain E x bs) ≡ 16
  unfolding chain
  chain_length x [] h = h
  chain_length x (b ∷ bs) h = chain_length (E (x ⊕ b)) bs (sixteen (x ⊕ b))

  pub tag-length : (M : ℕ) (n a p : List ℕ) → M ≤ 16 → length (tag E M n a p) ≡ M
  unfolding tag tag_from head
  tag-length M n a p m =
      let B = block (flags₀ M a) n (length p) in
      let x = chain E (E B) (head_blocks a) in
      let l : length (chain E x (blocks p)) ≡ 16 = chain_length x (blocks p) (chain_length (E B) (head_blocks a) (sixteen B)) in
      xor-length _ _ ∙ length-take-le M (chain E x (blocks p)) (omega arith)

  module _ (M : ℕ) (n : List ℕ) (at k : ℕ) (s : List ℕ) (m : M ≤ 16) (room : at + k + M ≤ length s) where
    -- the additional authenticated data, and the payload
    abbrev a : List ℕ
    a = take at s

    abbrev p : List ℕ
    p = take k (drop at s)

    c-length : length (counted E n 1 p) ≡ k
    c-length = length-counted E n 1 p ∙ length-take-le k (drop at s) (simp length-drop (omega arith))

    -- the tag of a sealed frame is right
    pub sealed-frame-vouched : vouched_frame E M n at k (sealed_frame E M n at k s) ≡ true
    unfolding vouched_frame sealed_frame sealed sealed_from tag
    sealed-frame-vouched =
        let q = parts a (counted E n 1 p) (tag E M n a p) (drop (at + k + M) s) (length-take-le at s (omega arith)) c-length (tag-length M n a p m) in
        rw (q.0, q.1, q.3) (sealed-vouched E M n a p)

    -- it opens to the frame that was sealed, with the tag after the payload
    pub sealed-frame-opens : opened_frame E n at k (sealed_frame E M n at k s) ≡ take (at + k) s ++ (tag E M n a p ++ drop (at + k + M) s)
    unfolding opened_frame sealed_frame sealed sealed_from tag
    sealed-frame-opens =
        let q = parts a (counted E n 1 p) (tag E M n a p) (drop (at + k + M) s) (length-take-le at s (omega arith)) c-length (tag-length M n a p m) in
        rw (q.0, q.1, q.2, counted-twice E n 1, take-add at k s, append_assoc)

    sealed-frame-length : length (sealed_frame E M n at k s) ≡ length s
    unfolding sealed_frame sealed sealed_from tag
    sealed-frame-length =
        let t : length (tag_from E M n (head E M n a (length p)) p) ≡ M = tag-length M n a p m in
        let l : length a ≡ at = length-take-le at s (omega arith) in
        simp (length-append, length-drop) (omega (arith, c-length))

-- THE ROUND TRIP, with AES: what `seal` wrote under some keys, `unseal` opens under the same keys; the payload is what it was
module _ (w n : List ℕ) (M at k : ℕ) (s : List ℕ) (fit : fitting M at k (length s) ≡ Ok tt) where
  abbrev E : List ℕ → List ℕ
  E = cipher_words w

  pub seal-unseal : unsealing E M n at k (sealed_frame E M n at k s) ≡ Ok tt
  unfolding unsealing
  seal-unseal =
      let f = fits M at k (length s) fit in
      rw (sealed-frame-length E (cipher-length (key_bytes w)) M n at k s f.tag.1 f.whole, fit, sealed-frame-vouched E (cipher-length (key_bytes w)) M n at k s f.tag.1 f.whole)

  pub seal-unseal-frame : opened_frame E n at k (sealed_frame E M n at k s) ≡ take (at + k) s ++ (tag E M n (take at s) (take k (drop at s)) ++ drop (at + k + M) s)
  seal-unseal-frame = let f = fits M at k (length s) fit in sealed-frame-opens E (cipher-length (key_bytes w)) M n at k s f.tag.1 f.whole
