-- `aps::opening::open_aps` meets its contract. Assumes nothing.
use Rattle.std.proofs.Common.{sym, ◌∙◌}
use Rattle.std.specs.Prelude.{Ok}
use Rattle.std.proofs.lemmas.Result.{err_from_is_err_and}
use Rattle.claims.proofs.ClaimLaws.{aps-claim}
use Rattle.aps.proofs.OpeningLaws.{fit, opens-unfit, opens-refused, opens-told, opens-claim}
use Rattle.aps.proofs.opening.open_aps.Goals as goal

pub returns-then-unfit : goal.returns-then-unfit
returns-then-unfit c = opens-unfit c.args.aps c.args.pairs.now c.args.frame.now (sym c.unfit.ensures ∙ c.if-unfit.true)

pub returns-in_err-who : goal.returns-in_err-who
returns-in_err-who c =
    let p = err_from_is_err_and c.from_residual.result c.from_residual.ensures.1 in
    rw (p.1, p.2) (opens-refused c.args.aps c.args.pairs.now c.args.frame.now (sym c.unfit.ensures ∙ c.if-unfit.false) _ (sym c.aps_who.ensures ∙ c.in_err-who.was))

pub open_claim-requires : goal.open_claim-requires
open_claim-requires c =
    let a = c.args in
    let z = aps-claim _ a.frame.now (sym c.aps_who.ensures ∙ c.in_ok-who.was ∙ (λ i. Ok (c.in-Claims.is i))) in
    (fit a.aps.level a.pairs.now.used (sym c.unfit.ensures ∙ c.if-unfit.false), z.inside, z.whole, z.taken)

pub returns-in-Told : goal.returns-in-Told
returns-in-Told c =
    opens-told c.args.aps c.args.pairs.now c.args.frame.now (sym c.unfit.ensures ∙ c.if-unfit.false) _ (sym c.aps_who.ensures ∙ c.in_ok-who.was ∙ (λ i. Ok (c.in-Told.is i)))

pub returns-in-Claims : goal.returns-in-Claims
returns-in-Claims c =
    c.open_claim.ensures ∙ opens-claim c.args.aps c.args.pairs.now c.args.frame.now (sym c.unfit.ensures ∙ c.if-unfit.false) _ (sym c.aps_who.ensures ∙ c.in_ok-who.was ∙ (λ i. Ok (c.in-Claims.is i)))
