-- `mmo::steps::run` meets its contract. The invariant: the steps from `y` over what is left are the steps over the whole.
-- Assumes nothing.
use Rattle.std.proofs.Common.{◌≡◌}
use Rattle.std.specs.Slice.Iter.{chunks_rest, chunks_size}
use Rattle.laws.specs.Blocks.{blocks}
use Rattle.mmo.specs.Hash.{steps}
use Rattle.mmo.proofs.steps.run.Given as goal

abbrev pub invariant-loop-block : goal.invariant-loop-block
invariant-loop-block l =
    (chunks_size l.block-iterator ≡ 16) × (steps l.y (blocks (chunks_rest l.block-iterator)) ≡ steps l.initial.y (blocks l.s))
