-- `words::added` meets its contract: XOR of strings of sixteen computes to that of their words. Assumes nothing.
use mathlib.Core.List.{◌++◌}
use Rattle.laws.specs.Octets.{◌⊕◌}
use Rattle.words.proofs.added.Goals as goal

pub returns : goal.returns
unfolding ◌⊕◌
returns c =
    λ i. ((c.xored.ensures i ++ c.xored-2.ensures i) ++ c.xored-3.ensures i) ++ c.xored-4.ensures i
