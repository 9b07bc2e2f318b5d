-- Counter with CBC-MAC, RFC 3610 (2003), section 2, with L = 2: a nonce of 13 octets, lengths and counters of two octets.
-- `E` is the block cipher under a key, from a block of 16 octets to one. M is the tag's length, n the nonce, a the additional
-- authenticated data (l(a) < 65,280), p the payload (l(p) < 65,536).
use Rattle.std.specs.Prelude.{ℕ, zero, suc, ◌+◌, ◌-◌, ◌*◌, ◌/◌, Bool, List, [], ◌∷◌, ◌++◌, length, take}
use Rattle.laws.specs.Octets.{◌⊕◌, same}
use Rattle.laws.specs.Blocks.{be16, blocks}

-- 2.2 and 2.3: B_0 and A_i are a flags octet, the nonce, and a number in two octets
abbrev pub block : ℕ → List ℕ → ℕ → List ℕ
block flags n k = flags ∷ (n ++ be16 k)

-- 2.2: the flags of B_0, 64 Adata + 8 M' + L', with M' = (M - 2) / 2 and L' = L - 1
abbrev pub adata : List ℕ → ℕ
adata [] = 0
adata (b ∷ a) = 64

abbrev pub flags₀ : ℕ → List ℕ → ℕ
flags₀ M a = adata a + ((M - 2) / 2 * 8 + 1)

-- 2.2: l(a) in two octets and then a, cut into blocks; nothing where a is empty
unfoldable pub head_blocks : List ℕ → List (List ℕ)
head_blocks [] = []
head_blocks (b ∷ a) = blocks (be16 (length (b ∷ a)) ++ (b ∷ a))

module _ (E : List ℕ → List ℕ) where
  -- 2.2: X_i+1 = E(X_i XOR B_i)
  unfoldable pub chain : List ℕ → List (List ℕ) → List ℕ
  chain x [] = x
  chain x (b ∷ bs) = chain (E (x ⊕ b)) bs

  -- 2.2: X_1 = E(B_0), then the blocks of a, before a payload of l octets
  unfoldable pub head : ℕ → List ℕ → List ℕ → ℕ → List ℕ
  head M n a l = chain (E (block (flags₀ M a) n l)) (head_blocks a)

  -- 2.3: S_i, S_i+1, .., k of them, one after the other, with S_i = E(A_i)
  unfoldable pub stream : List ℕ → ℕ → ℕ → List ℕ
  stream n i zero = []
  stream n i (suc k) = E (block 1 n i) ++ stream n (suc i) k

  -- 2.3: the octets of x XOR the first octets of S_i, S_i+1, ..; enciphering and deciphering are the same
  unfoldable pub counted : List ℕ → ℕ → List ℕ → List ℕ
  counted n i x = x ⊕ stream n i ((length x + 15) / 16)

  -- 2.2 and 2.3: from the MAC x so far, over the blocks of p; T is its first M octets, and U = T XOR the first M octets of S_0
  unfoldable pub tag_from : ℕ → List ℕ → List ℕ → List ℕ → List ℕ
  tag_from M n x p = take M (chain x (blocks p)) ⊕ E (block 1 n 0)

  unfoldable pub tag : ℕ → List ℕ → List ℕ → List ℕ → List ℕ
  tag M n a p = tag_from M n (head M n a (length p)) p

  -- 2.4: the encrypted payload, then U
  unfoldable pub sealed_from : ℕ → List ℕ → List ℕ → List ℕ → List ℕ
  sealed_from M n x p = counted n 1 p ++ tag_from M n x p

  unfoldable pub sealed : ℕ → List ℕ → List ℕ → List ℕ → List ℕ
  sealed M n a p = sealed_from M n (head M n a (length p)) p

  -- 2.5: whether the received tag u is the one of what the received c deciphers to
  unfoldable pub vouched_from : ℕ → List ℕ → List ℕ → List ℕ → List ℕ → Bool
  vouched_from M n x c u = same (tag_from M n x (counted n 1 c)) u

  unfoldable pub vouched : ℕ → List ℕ → List ℕ → List ℕ → List ℕ → Bool
  vouched M n a c u = vouched_from M n (head M n a (length c)) c u
