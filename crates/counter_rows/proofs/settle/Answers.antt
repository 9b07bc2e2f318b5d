-- `counter_rows::settle` meets its contract: the row is written where `position` finds one of its pair, or after the last, or not at all.
-- Assumes nothing.
use Rattle.std.proofs.Common.{◌∙◌, sym, ap}
use Rattle.nib.specs.Counters.{row_pair, row_cell, settled}
use Rattle.nib.proofs.CounterLaws.{placed-over, placed_here, placed_last, placed_none}
use Rattle.counter_rows.proofs.settle.Goals as goal

pub returns-in_default : goal.returns-in_default
unfolding settled
returns-in_default c = sym (ap (settled c.args.rows.now c.args.used) c.in_default.is)

pub returns-then-places-used : goal.returns-then-places-used
unfolding settled
returns-then-places-used c =
    let x = c.args in
    let row = c.in-Some.row in
    sym (ap (settled x.rows.now x.used) c.in-Some.is ∙ placed-over x.rows.now x.used (row_pair row) (row_cell row) (rw c.capacity-places.ensures at c.if-places-used.true))

pub returns-in-Some-place_of : goal.returns-in-Some-place_of
unfolding settled
returns-in-Some-place_of c =
    let x = c.args in
    let row = c.in-Some.row in
    placed_here x.rows.now x.used (row_pair row) (rw c.capacity-places.ensures at c.if-places-used.false) (row_cell row) c.in-Some-place_of.at (sym c.place_of.ensures ∙ c.in-Some-place_of.is)
    ∙ sym (ap (settled x.rows.now x.used) c.in-Some.is)

pub returns-in-None : goal.returns-in-None
unfolding settled
returns-in-None c =
    let x = c.args in
    let row = c.in-Some.row in
    placed_last x.rows.now x.used (row_pair row) (rw c.capacity-places.ensures at c.if-places-used.false) (row_cell row) (sym c.place_of.ensures ∙ c.in-None.is) (rw c.capacity-places.ensures at c.if-used-places.true)
    ∙ sym (ap (settled x.rows.now x.used) c.in-Some.is)

pub returns-in-None-2 : goal.returns-in-None-2
unfolding settled
returns-in-None-2 c =
    let x = c.args in
    let row = c.in-Some.row in
    placed_none x.rows.now x.used (row_pair row) (rw c.capacity-places.ensures at c.if-places-used.false) (row_cell row) (sym c.place_of.ensures ∙ c.in-None-2.is) (rw c.capacity-places.ensures at c.if-used-places.false)
    ∙ sym (ap (settled x.rows.now x.used) c.in-Some.is)
