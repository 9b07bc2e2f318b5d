-- `aps::securing::secure_aps` meets its contract. Assumes nothing.
use Rattle.std.proofs.Common.{arith, ◌≡◌, sym, ap, ◌∙◌, ◌++◌, ◌+◌, ℕ, length, drop}
use Rattle.std.proofs.lemmas.Result.{err_from_is_err_and}
use Rattle.answer.specs.Numbers.{Outcome}
use Rattle.answer.specs.declared.Accepted.TheVariants.{Done}
use Rattle.std.specs.Prelude.{Ok, Result}
use Rattle.answer.specs.declared.Refusal.{Refusal}
use Rattle.aib.specs.Counters.{Advanced, advancing}
use Rattle.aps.proofs.SendingLaws.{usable-is, ready, refuses}
use Rattle.aps.specs.SecureAps.{aps_on_air}
use Rattle.aps.proofs.securing.secure_aps.Goals as goal

pub returns-in_err-chosen : goal.returns-in_err-chosen
returns-in_err-chosen c =
    let a = c.args in
    let p = err_from_is_err_and c.from_residual.result c.from_residual.ensures.1 in
    rw (p.1, p.2) (refuses a.aps a.pairs.now a.device a.extended a.plain.now a.out.now _ (c.usable-found.ensures ∙ usable-is a.pairs.now a.device) _ (sym c.judged.ensures ∙ c.in_err-chosen.was))

pub bounds-plain-0 : goal.bounds-plain-0
bounds-plain-0 c =
    let a = c.args in
    (ready a.aps a.pairs.now a.device a.extended a.plain.now a.out.now _ (c.usable-found.ensures ∙ usable-is a.pairs.now a.device) _ (sym c.judged.ensures ∙ c.in_ok-chosen.was)).taken.some-octets

pub put-requires : goal.put-requires
put-requires c =
    let a = c.args in
    let r = ready a.aps a.pairs.now a.device a.extended a.plain.now a.out.now _ (c.usable-found.ensures ∙ usable-is a.pairs.now a.device) _ (sym c.judged.ensures ∙ c.in_ok-chosen.was) in
    (r.goes-out.number, rw c.length.ensures r.taken.header, r.taken.small, r.goes-out.space)

pub returns-in_err-advance : goal.returns-in_err-advance
returns-in_err-advance c =
    let a = c.args in
    let r = ready a.aps a.pairs.now a.device a.extended a.plain.now a.out.now _ (c.usable-found.ensures ∙ usable-is a.pairs.now a.device) _ (sym c.judged.ensures ∙ c.in_ok-chosen.was) in
    let e = ap (λ (x : Result ℕ Refusal). (advancing x c.advance.new.pairs).outcome) (sym c.in_err-advance.was) ∙ ap (λ (x : Advanced). x.outcome) (c.advance.ensures ∙ r.moved) in
    absurd (grind arith)

pub returns : goal.returns
returns c =
    let a = c.args in
    let r = ready a.aps a.pairs.now a.device a.extended a.plain.now a.out.now _ (c.usable-found.ensures ∙ usable-is a.pairs.now a.device) _ (sym c.judged.ensures ∙ c.in_ok-chosen.was) in
    let n = length a.plain.now in
    let e = ap (λ (x : Result ℕ Refusal). (advancing x c.advance.new.pairs).pairs) (sym c.in_ok-advance.was) ∙ ap (λ (x : Advanced). x.pairs) (c.advance.ensures ∙ r.moved) in
    (λ i. record {
      answer = Ok (Done 0 (n + 17));
      out = (c.put.ensures ∙ ap (λ (header : ℕ). aps_on_air a.aps c.in_ok-chosen.chosen.row c.in_ok-chosen.chosen.identifier a.plain.now header ++ drop (n + 17) a.out.now) c.length.ensures) i;
      pairs = e i;
    })
    ∙ r.done
