-- HMAC, RFC 2104 (1997), section 2, over `hash`, with B = 16 (Zigbee specification 05-3474 revision 22, annex B.1.4).
use Rattle.std.specs.Prelude.{ℕ, cond, List, ◌++◌, ltb, length, replicate}
use Rattle.laws.specs.Octets.{◌⊕◌}
use Rattle.mmo.specs.Hash.{hash, filled}

-- the octets 0x36 and 0x5C, repeated B times
abbrev pub ipad : List ℕ
ipad = replicate 16 0x36

abbrev pub opad : List ℕ
opad = replicate 16 0x5C

-- a key longer than B octets is first hashed; (1) zeros are appended to create a string of B octets
unfoldable pub key_block : List ℕ → List ℕ
unfolding hash filled
key_block K = filled (cond (ltb 16 (length K)) (hash K) K)

-- (2) to (7): H(K XOR opad, H(K XOR ipad, text))
unfoldable pub keyed_hash : List ℕ → List ℕ → List ℕ
unfolding hash key_block
keyed_hash K text = hash ((key_block K ⊕ opad) ++ hash ((key_block K ⊕ ipad) ++ text))
