-- `by_value::settle_with` meets its contract: where `settle` refuses, it left the rows as they were. Assumes nothing.
use Rattle.std.proofs.lemmas.Result.{err_from_is_err_and}
use Rattle.nib.proofs.CounterLaws.{settled-unmoved}
use Rattle.by_value.proofs.settle_with.Goals as goal

pub returns-in_err-table : goal.returns-in_err-table
returns-in_err-table c =
    let t = c.args.table in
    let p = err_from_is_err_and c.from_residual.result c.from_residual.ensures.1 in
    rw (p.1, p.2) (settled-unmoved t.rows t.used c.args.change _ _ c.in_err-table.ensures)
