-- `mmo::padding::closed` meets its contract. Assumes nothing.
use native.Mathlib.Omega.{arith}
use Prim.Native.Nat.{◌+◌, ◌*◌, ◌/◌}
use lib.ListN.{length}
use Rattle.mmo.proofs.PaddingLaws.{closing}
use Rattle.mmo.proofs.padding.closed.Goals as goal

pub returns : goal.returns
returns c =
    let a = c.args in
    let s = a.s.now in
    let ending = a.ending.now in
    let e = (length s + length ending + 16) / 16 * 16 in
    rw (c.copy-2.ensures, c.copy.ensures) (closing s ending _ _ e (omega arith) (omega arith))
