-- `by_value::take_with` meets its contract, by whether the next counter may be used. Assumes nothing.
use Rattle.std.proofs.Common.{sym, ◌∙◌}
use Rattle.nib.specs.Sending.{taken}
use Rattle.by_value.proofs.take_with.Goals as goal

pub returns-then-not-usable : goal.returns-then-not-usable
unfolding taken
returns-then-not-usable c = rw (sym c.usable.ensures ∙ c.if-not-usable.true)

pub returns : goal.returns
unfolding taken
returns c = rw (c.sending.ensures, sym c.usable.ensures ∙ c.if-not-usable.false)
