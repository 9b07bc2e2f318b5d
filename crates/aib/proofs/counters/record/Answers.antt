-- `aib::counters::record` meets its contract, by what `position` gives of the rows in use. Assumes nothing.
use Rattle.std.specs.Prelude.{◌≡◌, ◌+◌, length, set, Ok}
use Rattle.std.proofs.Common.{sym, ap, ◌∙◌, rules}
use Rattle.aib.specs.declared.pairs.PairRow.{PairRow}
use Rattle.aib.specs.Counters.{recording}
use Rattle.aib.specs.PairLaws.{recorded-over}
use Rattle.aib.proofs.Places.{heard_known, heard_new, heard_full}
use Rattle.aib.proofs.counters.record.Goals as goal

pub returns-then-used-gt16 : goal.returns-then-used-gt16
returns-then-used-gt16 c = recorded-over c.args.pairs.now c.args.device c.args.counter c.if-used-gt16.true

pub returns-in-Some : goal.returns-in-Some
returns-in-Some c =
    let x = c.args in
    let sixteen : length x.pairs.now.rows ≡ 16 = search rules in
    heard_known x.pairs.now x.device sixteen c.if-used-gt16.false x.counter c.in-Some.at (sym c.place_of.ensures ∙ c.in-Some.is)

pub returns-in-None : goal.returns-in-None
returns-in-None c =
    let x = c.args in
    let sixteen : length x.pairs.now.rows ≡ 16 = search rules in
    ap (λ (r : PairRow). recording (Ok tt) (record { rows = set x.pairs.now.rows x.pairs.now.used r; used = x.pairs.now.used + 1 })) c.new_row.ensures
    ∙ heard_new x.pairs.now x.device sixteen c.if-used-gt16.false x.counter (sym c.place_of.ensures ∙ c.in-None.is) c.if-used-lt16.true

pub returns-in-None-2 : goal.returns-in-None-2
returns-in-None-2 c =
    let x = c.args in
    let sixteen : length x.pairs.now.rows ≡ 16 = search rules in
    heard_full x.pairs.now x.device sixteen c.if-used-gt16.false x.counter (sym c.place_of.ensures ∙ c.in-None-2.is) c.if-used-lt16.false
