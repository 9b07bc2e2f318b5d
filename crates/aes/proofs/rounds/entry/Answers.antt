-- `aes::rounds::entry` meets its contract: the lent table's rule, at four bytes in a row. Assumes nothing.
use mathlib.Core.Path.{◌∙◌}
use Rattle.aes.proofs.Entries.{entry-four}
use Rattle.aes.proofs.rounds.entry.Goals as goal

pub returns : goal.returns
returns c =
    c.joined.ensures ∙ entry-four c.args.table.bytes.now c.args.x c.args.i c.args.table.ruled c.ranges.x.fits c.requires
