-- `aes::rounds::encipher_state` meets its contract. Assumes nothing.
use mathlib.Core.Path.{ap, ◌∙◌}
use Prim.Native.Nat.{ℕ}
use mathlib.Core.List.{List}
use Rattle.aes.specs.Cipher.{sub_bytes, shift_rows, mix_columns, add_round_key, rounds, cipher}
use Rattle.aes.specs.Words.{key_bytes}
use Rattle.aes.proofs.rounds.encipher_state.Goals as goal

-- round n
abbrev turn : List ℕ → ℕ → List ℕ → List ℕ
turn w n x = add_round_key (mix_columns (shift_rows (sub_bytes x))) w n

pub returns : goal.returns
unfolding cipher rounds
returns c =
    let w = key_bytes c.args.keys.now in
    let e0 = c.begun-s0.ensures in
    let e1 = c.round-s1.ensures ∙ ap (turn w 1) e0 in
    let e2 = c.round-s2.ensures ∙ ap (turn w 2) e1 in
    let e3 = c.round-s3.ensures ∙ ap (turn w 3) e2 in
    let e4 = c.round-s4.ensures ∙ ap (turn w 4) e3 in
    let e5 = c.round-s5.ensures ∙ ap (turn w 5) e4 in
    let e6 = c.round-s6.ensures ∙ ap (turn w 6) e5 in
    let e7 = c.round-s7.ensures ∙ ap (turn w 7) e6 in
    let e8 = c.round-s8.ensures ∙ ap (turn w 8) e7 in
    let e9 = c.round-s9.ensures ∙ ap (turn w 9) e8 in
    c.ended.ensures ∙ ap (λ (x : List ℕ). add_round_key (shift_rows (sub_bytes x)) w 10) e9
