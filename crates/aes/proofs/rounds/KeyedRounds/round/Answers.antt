-- `KeyedRounds::round` meets its contract. Assumes nothing.
use mathlib.Core.Path.{sym, ap, ◌∙◌}
use Prim.Native.Nat.{ℕ, ◌+◌, ◌*◌}
use mathlib.Core.List.{List, ◌++◌}
use native.Mathlib.Omega.{arith}
use Rattle.tables.specs.Field.{sbox}
use Rattle.words.specs.Words.{byte_of}
use Rattle.aes.specs.Cipher.{mix_column, sub_bytes, shift_rows, mix_columns, add_round_key}
use Rattle.aes.specs.Schedule.{xor_word, word_at}
use Rattle.aes.specs.Words.{key_bytes}
use Rattle.aes.proofs.RoundKeys.{key-at}
use native.Mathlib.Nat.{add-zero}
use Rattle.aes.proofs.rounds.KeyedRounds.round.Goals as goal

-- the new column that is made of columns a, b, c and d
abbrev mixed : ℕ → ℕ → ℕ → ℕ → List ℕ
mixed a b c d = mix_column (sbox (byte_of a 0)) (sbox (byte_of b 1)) (sbox (byte_of c 2)) (sbox (byte_of d 3))

pub returns : goal.returns
unfolding sub_bytes shift_rows mix_columns add_round_key
returns c =
    let a = c.args in
    let w = a.self.keys.now in
    let n = 4 * a.n in
    let k0 = sym (key-at w n (omega arith)) ∙ ap (word_at (key_bytes w)) (sym (add-zero n)) in
    let e0 = c.column.ensures ∙ ap (xor_word (mixed a.s.a a.s.b a.s.c a.s.d)) k0 in
    let e1 = c.column-2.ensures ∙ ap (xor_word (mixed a.s.b a.s.c a.s.d a.s.a)) (sym (key-at w (n + 1) (omega arith))) in
    let e2 = c.column-3.ensures ∙ ap (xor_word (mixed a.s.c a.s.d a.s.a a.s.b)) (sym (key-at w (n + 2) (omega arith))) in
    let e3 = c.column-4.ensures ∙ ap (xor_word (mixed a.s.d a.s.a a.s.b a.s.c)) (sym (key-at w (n + 3) (omega arith))) in
    λ i. ((e0 i ++ e1 i) ++ e2 i) ++ e3 i
