-- `ccm::blocks::xor_block` meets its contract: a whole block is read, XORed and put back. Assumes nothing.
use Rattle.words.specs.Words.{block_of}
use Rattle.ccm.proofs.BlockLaws.{xor-front}
use mathlib.Core.Path.{refl}
use borrow.Author.Rules.{rules}
use Rattle.ccm.proofs.blocks.xor_block.Goals as goal

pub returns-else-s-lt16 : goal.returns-else-s-lt16
returns-else-s-lt16 c =
    let a = c.args in
    cc (xor-front a.s.now (block_of a.k) refl (search rules))
