-- `aps::opening::open_claim` meets its contract. Assumes nothing.
use Rattle.std.proofs.Common.{arith, rules, ◌≡◌, sym, ap, ◌∙◌, length, ◌||◌, ltb}
use Rattle.std.specs.Prelude.{is_some, Option}
use Rattle.std.proofs.lemmas.Result.{err_from_is_err_and}
use Rattle.answer.specs.Numbers.{Outcome}
use Rattle.aib.specs.declared.pairs.PairRow.{PairRow}
use Rattle.aib.specs.Counters.{Recorded}
use Rattle.aps.proofs.OpeningLaws.{held-is, room-is, stays, opened}
use Rattle.aps.specs.Opening.{held_in}
use Rattle.aps.proofs.opening.open_claim.Goals as goal

pub returns-in_err-opened : goal.returns-in_err-opened
returns-in_err-opened c =
    let a = c.args in
    let p = err_from_is_err_and c.from_residual.result c.from_residual.ensures.1 in
    let long = c.find-held.ensures.sixteen in
    rw (p.1, p.2)
    (stays a.pairs.now a.claim a.frame.now long c.requires.0 _ (ap held_in c.find-held.ensures.row ∙ held-is a.pairs.now a.claim.sender)
    _ (c.has_room.ensures ∙ ap (λ (o : Option PairRow). is_some o || ltb a.pairs.now.used 16) c.find-held.ensures.row ∙ room-is a.pairs.now a.claim.sender long c.requires.0) _ _ c.judged.ensures _ c.in_err-opened.was)

pub returns-in_err-record : goal.returns-in_err-record
returns-in_err-record c =
    let a = c.args in
    let long = c.find-held.ensures.sixteen in
    let o = opened a.pairs.now a.claim a.frame.now long c.requires.0 _ (ap held_in c.find-held.ensures.row ∙ held-is a.pairs.now a.claim.sender)
    _ (c.has_room.ensures ∙ ap (λ (o : Option PairRow). is_some o || ltb a.pairs.now.used 16) c.find-held.ensures.row ∙ room-is a.pairs.now a.claim.sender long c.requires.0) _ _ c.judged.ensures _ c.in_ok-opened.was in
    let e : ◌≡◌ {A = Outcome} _ _ = sym c.in_err-record.was ∙ ap (λ (r : Recorded). r.outcome) c.record.ensures ∙ o.1 in
    absurd (grind arith)

pub returns : goal.returns
returns c =
    let a = c.args in
    let long = c.find-held.ensures.sixteen in
    let o = opened a.pairs.now a.claim a.frame.now long c.requires.0 _ (ap held_in c.find-held.ensures.row ∙ held-is a.pairs.now a.claim.sender)
    _ (c.has_room.ensures ∙ ap (λ (o : Option PairRow). is_some o || ltb a.pairs.now.used 16) c.find-held.ensures.row ∙ room-is a.pairs.now a.claim.sender long c.requires.0) _ _ c.judged.ensures _ c.in_ok-opened.was in
    rw (ap (λ (r : Recorded). r.pairs) c.record.ensures) o.0
