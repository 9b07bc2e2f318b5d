-- `Cipher::first_block` meets its contract. The callees' contracts in a row.
-- Assumes nothing.
use mathlib.Core.List.{◌++◌}
use lib.ListN.{length}
use native.Mathlib.Omega.{arith}
use Rattle.words.specs.Words.{block_of}
use Rattle.laws.specs.Blocks.{be16}
use Rattle.ccm.proofs.BlockLaws.{xor-listed}
use Rattle.ccm.proofs.cipher.Cipher.first_block.Goals as goal

pub returns : goal.returns
returns c =
    let a = c.args in
    let s = a.a.now in
    cc (xor-listed 16 0 (block_of a.x) (be16 (length s) ++ s) (omega arith))
