-- `aes::schedule::round_constant` meets its contract: the table's rule. Assumes nothing.
use Rattle.tables.proofs.Tables.{round-constants-rule}
use Rattle.aes.proofs.schedule.round_constant.Goals as goal

pub returns : goal.returns
returns c = round-constants-rule c.args.n c.requires
