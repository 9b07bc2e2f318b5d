-- `aps::opening::judged` meets its contract. Assumes nothing.
use Rattle.std.proofs.Common.{◌≡◌, sym, ap, ap₂, ◌∙◌, List, ℕ}
use Rattle.std.proofs.lemmas.Result.{err_from_is_err_and}
use Rattle.control.specs.Control.{identifier_of}
use Rattle.protection.specs.Keys.{key_for, key_chosen}
use Rattle.protection.specs.Heard.{tried}
use Rattle.aps.specs.OpenAps.{link_key}
use Rattle.aps.specs.Opening.{held_in}
use Rattle.aps.proofs.OpeningLaws.{chosen, judged-refused, judged-allowed, no-key, some-key}
use Rattle.aps.proofs.opening.judged.Goals as goal

pub returns-in_err-allowed : goal.returns-in_err-allowed
returns-in_err-allowed c =
    let a = c.args in
    let p = err_from_is_err_and c.from_residual.result c.from_residual.ensures.1 in
    rw (p.1, p.2) (judged-refused a.claim (held_in a.held) a.room a.frame.now _ (sym c.allowed.ensures ∙ c.in_err-allowed.was))

pub returns-in_err-key : goal.returns-in_err-key
returns-in_err-key c =
    let a = c.args in
    let p = err_from_is_err_and c.from_residual-in_err-key.result c.from_residual-in_err-key.ensures.1 in
    let z = judged-allowed a.claim (held_in a.held) a.room a.frame.now (sym c.allowed.ensures ∙ c.in_ok-allowed.was) in
    let k = no-key (chosen a.claim (held_in a.held) a.room a.frame.now) _ _ (c.key_for.ensures ∙ ap key_chosen (ap₂ key_for c.key.ensures c.link_key.ensures)) c.ok_or.ensures.value _ c.in_err-key.was in
    rw (p.1, p.2, ← k.1) (z.barred k.0)

pub open-requires : goal.open-requires
open-requires c =
    let a = c.args in
    let z = judged-allowed a.claim (held_in a.held) a.room a.frame.now (sym c.allowed.ensures ∙ c.in_ok-allowed.was) in
    (z.size, c.requires.2)

pub returns : goal.returns
returns c =
    let a = c.args in
    let z = judged-allowed a.claim (held_in a.held) a.room a.frame.now (sym c.allowed.ensures ∙ c.in_ok-allowed.was) in
    let k = some-key (chosen a.claim (held_in a.held) a.room a.frame.now) _ _ (c.key_for.ensures ∙ ap key_chosen (ap₂ key_for c.key.ensures c.link_key.ensures)) c.ok_or.ensures.value _ c.in_ok-key.was in
    (λ i. record { answer = c.open.ensures.value i; frame = c.open.ensures.frame_after i })
    ∙ ap (λ (key : List ℕ). tried key a.claim.sender a.claim.counter a.claim.at a.claim.payload a.room a.frame.now) k.1
    ∙ z.judged k.0
