-- `primitives::calls::hash` meets its contract: the zero block, filled up, is the zero block. Assumes nothing.
use Rattle.mmo.specs.Hash.{hash, filled}
use Rattle.primitives.proofs.calls.hash.Goals as goal

pub returns : goal.returns
unfolding hash filled
returns c = c.hash_from.ensures
