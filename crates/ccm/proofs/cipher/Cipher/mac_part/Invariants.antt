-- `Cipher::mac_part` meets its contract. The invariant: the chain from `y` over what is left is the chain over the whole.
-- Assumes nothing.
use Rattle.std.proofs.Common.{◌≡◌}
use Rattle.std.specs.Slice.Iter.{chunks_rest, chunks_size}
use Rattle.laws.specs.Blocks.{blocks}
use Rattle.words.specs.Words.{block_of}
use Rattle.aes.specs.Words.{cipher_words}
use Rattle.ccm.specs.Ccm.{chain}
use Rattle.ccm.proofs.cipher.Cipher.mac_part.Given as goal

abbrev pub invariant-loop-block : goal.invariant-loop-block
invariant-loop-block l =
    let E = cipher_words l.self.keys.now in
    (chunks_size l.block-iterator ≡ 16) × (chain E (block_of l.y) (blocks (chunks_rest l.block-iterator)) ≡ chain E (block_of l.initial.y) (blocks l.s))
