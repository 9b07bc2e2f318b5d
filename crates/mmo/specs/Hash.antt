-- The Matyas-Meyer-Oseas hash over AES-128: Zigbee specification 05-3474 revision 22, annex B.6, with blocks of n = 16 octets,
-- for messages of whole octets that are shorter than 2^2n bits, which is 536,870,912 octets.
use Rattle.std.specs.Prelude.{ℕ, ◌-◌, ◌*◌, ◌/◌, ◌%◌, cond, List, [], ◌∷◌, ◌++◌, ltb, length, take, replicate}
use Rattle.laws.specs.Octets.{◌⊕◌}
use Rattle.laws.specs.Blocks.{be16, blocks}
use Rattle.aes.specs.Cipher.{cipher}
use Rattle.aes.specs.Schedule.{key_expansion}

-- a number in four octets, most significant first
abbrev pub be32 : ℕ → List ℕ
be32 k = be16 (k / 65536) ++ be16 k

-- 1. A message of l bits, fewer than 2^n, is followed by a bit 1, by k bits 0, with the smallest k such that l + 1 + k = 7n (mod 8n), and by l in n bits.
-- After m octets, l = 8 m, that is 0x80, the fewest zero octets that bring m + 1 to 14 (mod 16), and 8 m in two octets
abbrev pub short_padding : ℕ → List ℕ
short_padding m = 0x80 ∷ (replicate ((29 - m % 16) % 16) 0 ++ be16 (8 * m))

-- 2. Otherwise by a bit 1, by k bits 0, with the smallest k such that l + 1 + k = 5n (mod 8n), by l in 2n bits, and by n bits 0.
-- That is 0x80, the fewest zero octets that bring m + 1 to 10 (mod 16), 8 m in four octets, and two zero octets
abbrev pub long_padding : ℕ → List ℕ
long_padding m = 0x80 ∷ (replicate ((25 - m % 16) % 16) 0 ++ (be32 (8 * m) ++ (0 ∷ 0 ∷ [])))

-- fewer than 2^n bits are fewer than 8,192 octets
unfoldable pub padding : ℕ → List ℕ
padding m = cond (ltb m 8192) (short_padding m) (long_padding m)

-- 4. The output: Hash_j = E(Hash_j-1, M_j) XOR M_j
unfoldable pub step : List ℕ → List ℕ → List ℕ
step h x = cipher (key_expansion h) x ⊕ x

-- the same for one block after another
unfoldable pub steps : List ℕ → List (List ℕ) → List ℕ
steps h [] = h
steps h (x ∷ xs) = steps (step h x) xs

-- 3. The padded message is parsed into blocks; Hash_0 = h
unfoldable pub hash_from : List ℕ → List ℕ → List ℕ
hash_from h m = steps h (blocks (m ++ padding (length m)))

-- Hash_0 = 0
abbrev pub zero_block : List ℕ
zero_block = replicate 16 0

unfoldable pub hash : List ℕ → List ℕ
unfolding hash_from
hash m = hash_from zero_block m

-- document 01: another initial block is the caller's octets, cut or filled with zeros to 16
unfoldable pub filled : List ℕ → List ℕ
filled x = take 16 x ++ replicate (16 - length (take 16 x)) 0
