-- The active number at the end of a list. A frame opens only under the number of one of the keys. So with at most two keys, the active
-- number a one of theirs, it ends as the next number if a frame opened under that, and else as it was: once it has moved, a, the next
-- and the one after that would be three numbers. Which frames open does not depend on the order. Assumes nothing.
use Rattle.std.specs.Prelude.{Err, Ok, Bool, eqb, Option, None, Some}
use Rattle.std.proofs.Math.Bool.{false}
use Prim.Native.Nat.{ℕ}
use Rattle.answer.specs.Numbers.{Answer}
use Rattle.answer.specs.declared.Accepted.TheVariants.{Done, Plain}
use Rattle.nib.specs.Pairs.{Pair}

-- the frame opened, under the number n
abbrev pub opens_under : ℕ → Option Pair → Answer → Bool
opens_under n None a = false
opens_under n (Some k) (Ok (Done start len)) = eqb k.number n
opens_under n (Some k) (Ok (Plain start len)) = false
opens_under n (Some k) (Err why) = false
