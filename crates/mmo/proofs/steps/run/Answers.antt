-- `mmo::steps::run` meets its contract. Assumes nothing.
use Rattle.std.proofs.Common.{◌≡◌, List, ℕ, min, length, sym, ap, ◌∙◌}
use Rattle.std.specs.Slice.Iter.{chunks_rest}
use Rattle.laws.specs.Blocks.{blocks}
use Rattle.mmo.specs.Hash.{step, steps}
use Rattle.mmo.proofs.HashLaws.{steps-piece, steps-none}
use Rattle.mmo.proofs.steps.run.Goals as goal

pub loop-block-preserved : goal.loop-block-preserved
loop-block-preserved c =
    let l = c.loop-block in
    let s = c.in-Some.ensures.steps in
    let rest = chunks_rest l.block-iterator in
    let n : length c.in-Some.block.now ≡ min 16 (length rest) = s.1.1 ∙ ap (λ (k : ℕ). min k (length rest)) l.invariant.0 in
    let e = c.step-next.ensures ∙ ap (step l.y) c.first_block.ensures in
    (s.0 ∙ l.invariant.0, ap (λ (x : List ℕ). steps x (blocks (chunks_rest c.next.new.self))) e ∙ steps-piece l.y rest _ _ s.1.0 n s.1.2 ∙ l.invariant.1)

pub returns : goal.returns
returns c =
    let l = c.loop-block in
    sym (steps-none l.y _ c.in-None.ensures.steps.1.0) ∙ l.invariant.1
