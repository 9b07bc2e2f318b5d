-- How the code holds the 176 bytes of round keys: 44 words.
use Rattle.std.specs.Prelude.{List, ℕ, get_or}
use Rattle.words.specs.Words.{bytes}
use Rattle.aes.specs.Cipher.{columns, cipher}

-- the bytes of the first n words of ws
unfoldable pub word_bytes : List ℕ → ℕ → List ℕ
word_bytes ws n = columns n (λ j. bytes (get_or ws j 0))

-- the eleven round keys
unfoldable pub key_bytes : List ℕ → List ℕ
unfolding word_bytes
key_bytes ws = word_bytes ws 44

-- the cipher under round keys held as words
abbrev pub cipher_words : List ℕ → List ℕ → List ℕ
cipher_words w = cipher (key_bytes w)
