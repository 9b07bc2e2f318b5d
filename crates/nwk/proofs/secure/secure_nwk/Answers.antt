-- `nwk::secure::secure_nwk` meets its contract. Assumes nothing.
use Rattle.std.proofs.Common.{◌≡◌, sym, ap, ◌∙◌}
use Rattle.std.proofs.lemmas.Result.{err_from_is_err_and}
use Rattle.securing.proofs.ReadyLaws.{refuses, goes, secured-sent, taken-is}
use Rattle.nwk.proofs.secure.secure_nwk.Goals as goal

pub returns-in_err-ready : goal.returns-in_err-ready
returns-in_err-ready c =
    let a = c.args in
    let p = err_from_is_err_and c.from_residual.result c.from_residual.ensures.1 in
    rw (p.1, p.2) (refuses a.nwk a.outgoing.now a.plain.now a.out.now _ (sym c.ready_for.ensures ∙ c.in_err-ready.was))

pub returns-in_err-counter : goal.returns-in_err-counter
returns-in_err-counter c =
    let a = c.args in
    absurd (taken-is a.nwk a.outgoing.now a.plain.now a.out.now _ (sym c.ready_for.ensures ∙ c.in_ok-ready.was) _ _ _ c.take.ensures c.in_err-counter.was)

pub finish-requires : goal.finish-requires
finish-requires c =
    let a = c.args in
    goes a.nwk a.outgoing.now a.plain.now a.out.now _ (sym c.ready_for.ensures ∙ c.in_ok-ready.was)

pub returns : goal.returns
returns c =
    let a = c.args in
    secured-sent a.nwk a.outgoing.now a.plain.now a.out.now _ (sym c.ready_for.ensures ∙ c.in_ok-ready.was) _ _ c.take.ensures _ c.in_ok-counter.was _ c.finish.ensures
