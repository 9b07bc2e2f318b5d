-- FIPS 197 (2001), section 5.2: key expansion, for 128-bit keys. A word is the list of its four bytes.
use Rattle.std.specs.Prelude.{ℕ, zero, suc, ◌+◌, ◌-◌, ◌/◌, ◌%◌, Bool, true, false, List, [], ◌∷◌, ◌++◌, eqb, get_or}
use Rattle.tables.specs.Field.{xor, sbox, round_constant}
use Rattle.aes.specs.Cipher.{list, key_byte}

-- word j
abbrev pub word_at : List ℕ → ℕ → List ℕ
word_at w j = list 4 (λ r. key_byte w j r)

abbrev pub xor_word : List ℕ → List ℕ → List ℕ
xor_word a b = list 4 (λ r. xor (get_or a r 0) (get_or b r 0))

abbrev pub rot_word : List ℕ → List ℕ
rot_word a = list 4 (λ r. get_or a ((r + 1) % 4) 0)

abbrev pub sub_word : List ℕ → List ℕ
sub_word a = list 4 (λ r. sbox (get_or a r 0))

-- Rcon[j] is x^(j - 1) with three zero bytes
abbrev pub rcon : ℕ → List ℕ
rcon j = round_constant (j - 1) ∷ 0 ∷ 0 ∷ 0 ∷ []

abbrev pub pick_word : Bool → List ℕ → List ℕ → List ℕ
pick_word true a b = a
pick_word false a b = b

-- figure 11: word i, from the list w of the words before it
unfoldable pub next_word : List ℕ → ℕ → List ℕ
next_word w i =
    xor_word (word_at w (i - 4))
    (pick_word (eqb (i % 4) 0) (xor_word (sub_word (rot_word (word_at w (i - 1)))) (rcon (i / 4))) (word_at w (i - 1)))

-- figure 11: the key, and n words more
unfoldable pub schedule : List ℕ → ℕ → List ℕ
unfolding next_word
schedule key zero = key
schedule key (suc n) = let w = schedule key n in w ++ next_word w (n + 4)

unfoldable pub key_expansion : List ℕ → List ℕ
unfolding schedule
key_expansion key = schedule key 40
