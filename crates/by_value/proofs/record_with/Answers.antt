-- `by_value::record_with` meets its contract: it is a change of the table that writes a row. Assumes nothing.
use Rattle.std.proofs.Common.{ap, ◌∙◌}
use Rattle.std.specs.Prelude.{Some}
use Rattle.nib.specs.declared.counters.CounterRow.{CounterRow}
use Rattle.nib.specs.Counters.{settled}
use Rattle.by_value.proofs.record_with.Goals as goal

pub returns : goal.returns
unfolding settled
returns c = c.settle_with.ensures ∙ ap (λ (r : CounterRow). settled c.args.table.rows c.args.table.used (Some r)) c.recorded_row-row.ensures
