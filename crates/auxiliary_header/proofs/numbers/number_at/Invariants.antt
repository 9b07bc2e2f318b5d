-- `auxiliary_header::numbers::number_at` meets its contract: the octets passed, from the last one down, are the field from there. Assumes nothing.
use mathlib.Core.Path.{◌≡◌}
use Prim.Native.Nat.{◌+◌, ◌-◌, ◌^◌, ◌<◌}
use Rattle.laws.specs.Numbers.{field}
use Rattle.auxiliary_header.proofs.numbers.number_at.Given as goal

abbrev pub invariant-loop-i : goal.invariant-loop-i
invariant-loop-i l = (l.number ≡ field l.s (l.at + l.i) (l.count - l.i)) × (l.number < 256 ^ (l.count - l.i))
