-- Octets written to a place of a buffer, or not for want of room.
use Rattle.std.specs.Prelude.{Bool, cond, Ok, Err, List, ◌++◌, ℕ, ◌+◌, leb, length, take, drop}
use Rattle.answer.specs.Numbers.{Outcome}
use Rattle.answer.specs.declared.Refusal.TheVariants.{NoRoom}

abbrev pub has_room : List ℕ → ℕ → List ℕ → Bool
has_room out at octets = leb (at + length octets) (length out)

-- before the place and after the octets the buffer is as it was; without room it is as it was throughout
unfoldable pub written : List ℕ → ℕ → List ℕ → List ℕ
written out at octets = cond (has_room out at octets) (take at out ++ (octets ++ drop (at + length octets) out)) out

unfoldable pub outcome_of : List ℕ → ℕ → List ℕ → Outcome
outcome_of out at octets = cond (has_room out at octets) (Ok tt) (Err NoRoom)
