-- `aib::counters::advance` meets its contract, by what `position` gives of the rows in use. Assumes nothing.
use Rattle.std.specs.Prelude.{◌≡◌, length, set, get_or, Ok}
use Rattle.std.proofs.Common.{sym, ap, ◌∙◌, rules}
use Rattle.aib.specs.declared.pairs.PairRow.{PairRow}
use Rattle.aib.specs.Counters.{advancing}
use Rattle.aib.specs.PairLaws.{advanced-over}
use Rattle.aib.proofs.Places.{past, sends_none, sends_spent, sends_raised}
use Rattle.aib.proofs.counters.advance.Goals as goal

pub returns-then-pairs-gt16 : goal.returns-then-pairs-gt16
returns-then-pairs-gt16 c = advanced-over c.args.pairs.now c.args.device c.if-pairs-gt16.true

pub returns-in_default : goal.returns-in_default
returns-in_default c =
    let x = c.args in
    let sixteen : length x.pairs.now.rows ≡ 16 = search rules in
    sends_none x.pairs.now x.device sixteen c.if-pairs-gt16.false (sym c.usable_place.ensures ∙ c.in_default.is)

pub returns-then-counter : goal.returns-then-counter
returns-then-counter c =
    let x = c.args in
    let sixteen : length x.pairs.now.rows ≡ 16 = search rules in
    sends_spent x.pairs.now x.device sixteen c.if-pairs-gt16.false c.in-Some.at (sym c.usable_place.ensures ∙ c.in-Some.is) c.if-counter.true

pub returns : goal.returns
returns c =
    let x = c.args in
    let sixteen : length x.pairs.now.rows ≡ 16 = search rules in
    ap (λ (r : PairRow). advancing (Ok (get_or x.pairs.now.rows c.in-Some.at past).outgoing) (record { rows = set x.pairs.now.rows c.in-Some.at r; used = x.pairs.now.used })) c.raise.ensures
    ∙ sends_raised x.pairs.now x.device sixteen c.if-pairs-gt16.false c.in-Some.at (sym c.usable_place.ensures ∙ c.in-Some.is) c.if-counter.false
