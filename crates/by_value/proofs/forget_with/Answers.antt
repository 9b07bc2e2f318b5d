-- `by_value::forget_with` meets its contract: where `forget` refuses, it left the rows as they were. Assumes nothing.
use Rattle.std.proofs.lemmas.Result.{err_from_is_err_and}
use Rattle.nib.proofs.CounterLaws.{forgotten-unmoved}
use Rattle.by_value.proofs.forget_with.Goals as goal

pub returns-in_err-table : goal.returns-in_err-table
returns-in_err-table c =
    let t = c.args.table in
    let p = err_from_is_err_and c.from_residual.result c.from_residual.ensures.1 in
    rw (p.1, p.2) (forgotten-unmoved t.rows t.used c.args.number _ _ c.in_err-table.ensures)
