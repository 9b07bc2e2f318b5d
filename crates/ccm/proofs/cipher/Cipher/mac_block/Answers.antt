-- `Cipher::mac_block` meets its contract. The callees' contracts in a row.
-- Assumes nothing.
use Rattle.words.specs.Words.{block_of}
use Rattle.ccm.proofs.BlockLaws.{xor-listed}
use native.Mathlib.Omega.{arith}
use Rattle.ccm.proofs.cipher.Cipher.mac_block.Goals as goal

pub returns : goal.returns
returns c =
    let a = c.args in
    cc (xor-listed 16 0 (block_of a.x) a.s.now (omega arith))
