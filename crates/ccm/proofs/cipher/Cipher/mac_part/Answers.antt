-- `Cipher::mac_part` meets its contract. Assumes nothing.
use Rattle.std.proofs.Common.{◌≡◌, List, ℕ, min, length, refl, sym, ap, ◌∙◌}
use Rattle.std.specs.Slice.Iter.{chunks_rest}
use Rattle.laws.specs.Blocks.{blocks}
use Rattle.words.specs.Words.{block_of}
use Rattle.aes.specs.Words.{cipher_words}
use Rattle.ccm.specs.Ccm.{chain}
use Rattle.ccm.proofs.Laws.{chain-piece, chain-none}
use Rattle.ccm.proofs.cipher.Cipher.mac_part.Goals as goal

pub loop-block-preserved : goal.loop-block-preserved
loop-block-preserved c =
    let l = c.loop-block in
    let s = c.in-Some.ensures.steps in
    let E = cipher_words c.args.self.now.keys.now in
    let rest = chunks_rest l.block-iterator in
    let n : length c.in-Some.block.now ≡ min 16 (length rest) = s.1.1 ∙ ap (λ (k : ℕ). min k (length rest)) l.invariant.0 in
    let more = chain-piece E (block_of l.y) rest _ _ refl s.1.0 n s.1.2 in
    (s.0 ∙ l.invariant.0, ap (λ (x : List ℕ). chain E x (blocks (chunks_rest c.next.new.self))) c.mac_block-y.ensures ∙ more ∙ l.invariant.1)

pub returns : goal.returns
returns c =
    let l = c.loop-block in
    sym (chain-none (cipher_words c.args.self.now.keys.now) (block_of l.y) _ c.in-None.ensures.steps.1.0) ∙ l.invariant.1
