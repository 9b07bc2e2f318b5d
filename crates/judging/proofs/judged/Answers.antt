-- `judging::judged` meets its contract. Assumes nothing.
use Rattle.std.proofs.Common.{◌≡◌, sym, ap, ◌∙◌}
use Rattle.std.proofs.lemmas.Result.{err_from_is_err_and}
use Rattle.protection.specs.Heard.{Heard}
use Rattle.judging.specs.Halves.{judged_fresh}
use Rattle.judging.proofs.Commit.{judged_stale, judged_as_fresh}
use Rattle.judging.proofs.judged.Goals as goal

pub returns-in_err-fresh-clause-value : goal.returns-in_err-fresh-clause-value
returns-in_err-fresh-clause-value c =
    let p = err_from_is_err_and c.from_residual.result c.from_residual.ensures.1 in
    rw (p.1, p.2) (sym (ap (λ (h : Heard). h.answer) (judged_stale c.args.keys c.args.claim c.args.standing c.args.frame.now _ (rw c.counter_of.ensures at (sym c.fresh.ensures ∙ c.in_err-fresh.was)))))

pub returns-in_err-fresh-clause-frame_after : goal.returns-in_err-fresh-clause-frame_after
returns-in_err-fresh-clause-frame_after c =
    sym (ap (λ (h : Heard). h.frame) (judged_stale c.args.keys c.args.claim c.args.standing c.args.frame.now _ (rw c.counter_of.ensures at (sym c.fresh.ensures ∙ c.in_err-fresh.was))))

pub returns-clause-value : goal.returns-clause-value
returns-clause-value c =
    c.judged_fresh.ensures.value
    ∙ ap (λ (t : _). (judged_fresh c.args.keys c.args.claim t c.args.frame.now).answer) c.has_room.ensures
    ∙ sym (ap (λ (h : Heard). h.answer) (judged_as_fresh c.args.keys c.args.claim c.args.standing c.args.frame.now (rw c.counter_of.ensures at (sym c.fresh.ensures ∙ c.in_ok-fresh.was))))

pub returns-clause-frame_after : goal.returns-clause-frame_after
returns-clause-frame_after c =
    c.judged_fresh.ensures.frame_after
    ∙ ap (λ (t : _). (judged_fresh c.args.keys c.args.claim t c.args.frame.now).frame) c.has_room.ensures
    ∙ sym (ap (λ (h : Heard). h.frame) (judged_as_fresh c.args.keys c.args.claim c.args.standing c.args.frame.now (rw c.counter_of.ensures at (sym c.fresh.ensures ∙ c.in_ok-fresh.was))))
