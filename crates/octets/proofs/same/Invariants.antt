-- `octets::same` meets its contract. The invariant: no difference so far, and what is left is the same, exactly where the whole is the same.
-- Assumes nothing.
use Rattle.std.proofs.Common.{◌≡◌, ◌&&◌, eqb, length}
use Rattle.std.specs.Iterator.Adapters.{zip_first, zip_second}
use Rattle.std.specs.Slice.Iter.{iter_rest}
use Rattle.laws.specs.Octets.{same}
use Rattle.octets.proofs.same.Given as goal

abbrev pub invariant-loop-x : goal.invariant-loop-x
invariant-loop-x l =
    let x = iter_rest (zip_first l.x-iterator) in
    let y = iter_rest (zip_second l.x-iterator) in
    (length x ≡ length y) × ((eqb l.d 0 && same x y) ≡ same l.a l.b)
