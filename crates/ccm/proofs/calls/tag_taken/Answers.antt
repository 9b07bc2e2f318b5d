-- `ccm::calls::tag_taken` meets its contract. Assumes nothing.
use borrow.Author.Tests.{le-leb, lt-leb}
use Rattle.ccm.specs.Frame.{tag_taken}
use Rattle.ccm.proofs.calls.tag_taken.Goals as goal

pub returns-then-m-lt4 : goal.returns-then-m-lt4
unfolding tag_taken
returns-then-m-lt4 c = rw (lt-leb _ _ c.if-m-lt4.true)

pub returns-then-m-gt16 : goal.returns-then-m-gt16
unfolding tag_taken
returns-then-m-gt16 c = rw (le-leb _ _ c.if-m-lt4.false, lt-leb _ _ c.if-m-gt16.true)

pub returns : goal.returns
unfolding tag_taken
returns c = rw (le-leb _ _ c.if-m-lt4.false, le-leb _ _ c.if-m-gt16.false)
