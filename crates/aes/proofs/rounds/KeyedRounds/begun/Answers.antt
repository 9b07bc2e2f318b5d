-- `KeyedRounds::begun` meets its contract. Assumes nothing.
use mathlib.Core.List.{◌++◌}
use Rattle.laws.specs.Octets.{◌⊕◌}
use Rattle.aes.specs.Cipher.{add_round_key}
use Rattle.aes.specs.Words.{key_bytes}
use Rattle.aes.proofs.rounds.KeyedRounds.begun.Goals as goal

pub returns : goal.returns
unfolding ◌⊕◌ add_round_key key_bytes
returns c =
    λ i. ((c.xored.ensures i ++ c.xored-2.ensures i) ++ c.xored-3.ensures i) ++ c.xored-4.ensures i
