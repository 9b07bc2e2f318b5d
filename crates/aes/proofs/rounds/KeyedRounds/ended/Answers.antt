-- `KeyedRounds::ended` meets its contract. Assumes nothing.
use mathlib.Core.List.{◌++◌}
use Rattle.aes.specs.Cipher.{sub_bytes, shift_rows, add_round_key}
use Rattle.aes.specs.Words.{key_bytes}
use Rattle.aes.proofs.rounds.KeyedRounds.ended.Goals as goal

pub returns : goal.returns
unfolding sub_bytes shift_rows add_round_key key_bytes
returns c =
    λ i. ((c.last_column.ensures i ++ c.last_column-2.ensures i) ++ c.last_column-3.ensures i) ++ c.last_column-4.ensures i
