-- FIPS 197 (2001), section 5.1, for 128-bit keys (Nk = 4, Nr = 10). A state is the list of its 16 bytes in input order:
-- the byte in row r and column c is number r + 4 c (3.4). Round keys are the list w of the 176 bytes of the 44 words of 5.2.
use Rattle.std.specs.Prelude.{ℕ, zero, suc, ◌+◌, ◌*◌, ◌/◌, ◌%◌, List, [], ◌∷◌, ◌++◌, get_or}
use Rattle.tables.specs.Field.{xor, mul, sbox}

-- the list f 0, f 1, .., f (n - 1)
abbrev pub list : ℕ → (ℕ → ℕ) → List ℕ
list zero f = []
list (suc n) f = list n f ++ (f n ∷ [])

-- the columns g 0, g 1, .., g (n - 1), one after the other
abbrev pub columns : ℕ → (ℕ → List ℕ) → List ℕ
columns zero g = []
columns (suc n) g = columns n g ++ g n

-- the state whose byte in row r and column c is f r c, and that byte of a state
abbrev pub state : (ℕ → ℕ → ℕ) → List ℕ
state f = list 16 (λ i. f (i % 4) (i / 4))

abbrev pub byte : List ℕ → ℕ → ℕ → ℕ
byte s r c = get_or s (r + 4 * c) 0

-- byte r of word j
abbrev pub key_byte : List ℕ → ℕ → ℕ → ℕ
key_byte w j r = get_or w (4 * j + r) 0

-- 5.1.1: SubBytes
unfoldable pub sub_bytes : List ℕ → List ℕ
sub_bytes s = state (λ r c. sbox (byte s r c))

-- 5.1.2: ShiftRows: row r moves r places to the left
unfoldable pub shift_rows : List ℕ → List ℕ
shift_rows s = state (λ r c. byte s r ((c + r) % 4))

-- 5.1.3: MixColumns: the new column of a column a, b, c, d
abbrev pub mix_column : ℕ → ℕ → ℕ → ℕ → List ℕ
mix_column a b c d =
    xor (xor (xor (mul 2 a) (mul 3 b)) c) d
    ∷ xor (xor (xor a (mul 2 b)) (mul 3 c)) d
    ∷ xor (xor (xor a b) (mul 2 c)) (mul 3 d)
    ∷ xor (xor (xor (mul 3 a) b) c) (mul 2 d)
    ∷ []

unfoldable pub mix_columns : List ℕ → List ℕ
mix_columns s = columns 4 (λ c. mix_column (byte s 0 c) (byte s 1 c) (byte s 2 c) (byte s 3 c))

-- 5.1.4: AddRoundKey: word 4 round + c is added to column c
unfoldable pub add_round_key : List ℕ → List ℕ → ℕ → List ℕ
add_round_key s w round = state (λ r c. xor (byte s r c) (key_byte w (4 * round + c) r))

-- 5.1, figure 5: the state s after rounds 1 to n
unfoldable pub rounds : List ℕ → List ℕ → ℕ → List ℕ
unfolding sub_bytes shift_rows mix_columns add_round_key
rounds w s zero = s
rounds w s (suc n) = add_round_key (mix_columns (shift_rows (sub_bytes (rounds w s n)))) w (suc n)

-- 5.1, figure 5: the first round key, nine rounds, and the last round, which has no MixColumns
unfoldable pub cipher : List ℕ → List ℕ → List ℕ
unfolding sub_bytes shift_rows add_round_key rounds
cipher w block = add_round_key (shift_rows (sub_bytes (rounds w (add_round_key block w 0) 9))) w 10
