-- `tables::substitution_table` makes a table with its rule. Assumes nothing.
use Rattle.tables.proofs.Tables.{substitution-rule}
use Rattle.tables.proofs.substitution_table.Goals as goal

pub invariant_of-result : goal.invariant_of-result
invariant_of-result c = record { ruled = substitution-rule }
