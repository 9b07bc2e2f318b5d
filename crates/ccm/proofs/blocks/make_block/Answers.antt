-- `ccm::blocks::make_block` meets its contract. The nonce and the two octets, written out byte by byte, are what they were.
-- Assumes nothing.
use mathlib.Core.Path.{ap, ◌∙◌}
use mathlib.Core.List.{List, ◌∷◌, ◌++◌}
use Prim.Native.Nat.{ℕ}
use Rattle.laws.specs.Parts.{listed-eq}
use borrow.Author.Rules.{rules}
use Rattle.ccm.proofs.blocks.make_block.Goals as goal

pub returns : goal.returns
returns c =
    let a = c.args in
    (λ i. ((c.joined.ensures i ++ c.joined-2.ensures i) ++ c.joined-3.ensures i) ++ c.joined-4.ensures i)
    ∙ (λ i. a.flags ∷ (listed-eq 13 0 a.nonce (search rules) i ++ listed-eq 2 0 c.two_octets.result (search rules) i))
    ∙ ap (λ (l : List ℕ). a.flags ∷ (a.nonce ++ l)) c.two_octets.ensures
