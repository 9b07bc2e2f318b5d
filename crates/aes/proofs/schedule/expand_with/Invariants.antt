-- `aes::schedule::expand_with` meets its contract. The invariant: the words stored so far, and the round key beside them, are the
-- key schedule so far. Assumes nothing.
use mathlib.Core.Path.{◌≡◌}
use Prim.Native.Nat.{◌*◌}
use mathlib.Core.List.{◌++◌}
use Rattle.aes.specs.Schedule.{schedule}
use Rattle.words.specs.Words.{block_of}
use Rattle.aes.specs.Words.{word_bytes}
use Rattle.aes.proofs.schedule.expand_with.Given as goal

abbrev pub invariant-loop-n : goal.invariant-loop-n
invariant-loop-n l = word_bytes l.w (4 * l.n) ++ block_of l.k ≡ schedule (block_of l.initial.k) (4 * l.n)
