-- `counter_rows::held` meets its contract, by what `position` gives of the rows in use. Assumes nothing.
use Rattle.std.proofs.Common.{◌∙◌, sym}
use Rattle.nib.specs.Counters.{pair}
use Rattle.nib.proofs.CounterLaws.{held-over, held_here, held_free, held_full}
use Rattle.counter_rows.proofs.held.Goals as goal

pub returns-then-places-used : goal.returns-then-places-used
returns-then-places-used c =
    let x = c.args in
    sym (held-over x.rows.now x.used (pair x.number x.sender) (rw c.capacity-places.ensures at c.if-places-used.true))

pub returns-in-Some : goal.returns-in-Some
returns-in-Some c =
    let x = c.args in
    held_here x.rows.now x.used (pair x.number x.sender) (rw c.capacity-places.ensures at c.if-places-used.false) c.in-Some.at (sym c.place_of.ensures ∙ c.in-Some.is)

pub returns-in-None : goal.returns-in-None
returns-in-None c =
    let x = c.args in
    held_free x.rows.now x.used (pair x.number x.sender) (rw c.capacity-places.ensures at c.if-places-used.false) (sym c.place_of.ensures ∙ c.in-None.is) (rw c.capacity-places.ensures at c.if-used-places.true)

pub returns-in-None-2 : goal.returns-in-None-2
returns-in-None-2 c =
    let x = c.args in
    held_full x.rows.now x.used (pair x.number x.sender) (rw c.capacity-places.ensures at c.if-places-used.false) (sym c.place_of.ensures ∙ c.in-None-2.is) (rw c.capacity-places.ensures at c.if-used-places.false)
