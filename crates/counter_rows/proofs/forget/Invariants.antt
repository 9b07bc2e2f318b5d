-- `counter_rows::forget` meets its contract. The loop's invariant: the rows below `i` that stay have moved up, in order, and zeros
-- stand in the places given up. Assumes nothing.
use Rattle.std.proofs.Common.{◌≡◌, ◌-◌, ◌≤◌, length}
use Rattle.nib.specs.Counters.{kept}
use Rattle.nib.specs.Gaps.{state}
use Rattle.counter_rows.proofs.forget.Given as goal

abbrev pub invariant-loop-i : goal.invariant-loop-i
invariant-loop-i l = record {
  fewer : l.kept ≤ l.i;
  counts : l.kept ≡ length (kept l.number l.i l.initial.rows);
  rows : l.rows ≡ state l.number l.initial.rows l.i (l.i - l.kept);
}
