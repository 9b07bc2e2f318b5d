-- `auxiliary_header::numbers::number_at` meets its contract: the octets passed, from the last one down, are the field from there. Assumes nothing.
use Prim.Native.Nat.{◌+◌, ◌-◌, ◌<◌}
use native.Mathlib.Nat.{sub_self}
use native.Mathlib.Omega.{arith}
use borrow.Author.Rules.{rules}
use lib.ListN.{get_or}
use Rattle.laws.specs.Numbers.{field, value}
use Rattle.auxiliary_header.proofs.Turns.{field_back, back-small, below_last}
use Rattle.auxiliary_header.proofs.numbers.number_at.Goals as goal

pub loop-i-init : goal.loop-i-init
unfolding field value
loop-i-init c = (rw (sub_self c.args.count), rw (sub_self c.args.count) (omega arith))

pub overflow_mul-number : goal.overflow_mul-number
overflow_mul-number c =
    omega (arith, below_last c.args.count c.loop-i.i c.loop-i.number (search rules) (search rules) c.loop-i.invariant.1)

pub overflow_add-number-in-loop-i : goal.overflow_add-number-in-loop-i
overflow_add-number-in-loop-i c =
    let a = c.args in
    let l = c.loop-i in
    omega (arith, c.type_inv.s (a.at + (l.i - 1)), below_last a.count l.i l.number (search rules) (search rules) l.invariant.1)

pub loop-i-preserved : goal.loop-i-preserved
loop-i-preserved c =
    let a = c.args in
    let l = c.loop-i in
    let octet : get_or a.s.now (a.at + (l.i - 1)) 0 < 256 = omega (arith, c.type_inv.s (a.at + (l.i - 1))) in (
      field_back a.s.now a.at a.count l.i l.number (search rules) (search rules) (search rules) l.invariant.0,
      back-small a.count l.i l.number _ (search rules) (search rules) l.invariant.1 octet,
    )
