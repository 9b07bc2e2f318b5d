-- How the code holds blocks of sixteen bytes: four words of four bytes, the first byte lowest.
use Rattle.std.specs.Prelude.{List, [], ◌∷◌, ◌++◌, ℕ, ◌+◌, ◌*◌, ◌/◌, ◌%◌, get_or}
use Rattle.words.specs.declared.State.{State}

-- the bytes of a word, and byte i of them
abbrev pub bytes : ℕ → List ℕ
bytes w = w % 256 ∷ w / 256 % 256 ∷ w / 65536 % 256 ∷ w / 16777216 % 256 ∷ []

abbrev pub byte_of : ℕ → ℕ → ℕ
byte_of w i = get_or (bytes w) i 0

-- the word of four bytes
abbrev pub word_of : ℕ → ℕ → ℕ → ℕ → ℕ
word_of a b c d = ((d * 256 + c) * 256 + b) * 256 + a

-- the bytes of four words, and of a state
abbrev pub four : ℕ → ℕ → ℕ → ℕ → List ℕ
four a b c d = ((bytes a ++ bytes b) ++ bytes c) ++ bytes d

abbrev pub block_of : State → List ℕ
block_of s = four s.a s.b s.c s.d
