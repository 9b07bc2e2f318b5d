-- `mmo::steps::first_block` meets its contract: zeros XOR s are its front, filled up. Assumes nothing.
use mathlib.Core.Path.{◌∙◌}
use Rattle.mmo.specs.Hash.{filled}
use Rattle.mmo.proofs.HashLaws.{zeros-xor}
use Rattle.mmo.proofs.steps.first_block.Goals as goal

pub returns : goal.returns
unfolding filled
returns c = c.xor_into.ensures ∙ zeros-xor 16 c.args.s.now
