-- Request W-207: the hash of data that come in parts. What goes from call to call is the value over the whole blocks so far, the octets
-- that wait for their block to be full, and how many octets there were in all.
use Rattle.std.specs.Prelude.{ℕ, ◌+◌, ◌*◌, ◌/◌, ◌%◌, cond, List, [], ◌∷◌, ◌++◌, Ok, Err, leb, length, take, drop}
use Rattle.answer.specs.declared.Refusal.TheVariants.{Unsupported}
use Rattle.answer.specs.Numbers.{Outcome, when_done}
use Rattle.laws.specs.Blocks.{blocks}
use Rattle.mmo.specs.declared.stream.Hashing.{Hashing}
use Rattle.mmo.specs.Hash.{padding, steps, zero_block, filled}

-- fewer than 2^32 bits, in whole octets (annex B.6)
abbrev pub limit : ℕ
limit = 536870911

-- data of n octets in all: more than the limit are refused with 7
unfoldable pub hashing : ℕ → Outcome
hashing n = cond (leb n limit) (Ok tt) (Err Unsupported)

-- the start, from an initial block
unfoldable pub started : List ℕ → Hashing
started h = record { value = h; tail = zero_block; total = 0 }

-- the octets that wait: the first of the tail, as many as the data so far have after their last whole block
unfoldable pub waiting : Hashing → List ℕ
waiting s = take (s.total % 16) s.tail

-- the octets of x that are whole blocks
abbrev pub whole : List ℕ → ℕ
whole x = length x / 16 * 16

-- a part more: whole blocks are taken, what is left of the last one waits
unfoldable pub added : Hashing → List ℕ → Hashing
unfolding waiting filled
added s part =
    let m = waiting s ++ part in
    record { value = steps s.value (blocks (take (whole m) m)); tail = filled (drop (whole m) m); total = s.total + length part }

-- the end: what waits, and the padding
unfoldable pub finished : Hashing → List ℕ
unfolding waiting padding steps
finished s = steps s.value (blocks (waiting s ++ padding s.total))

-- what a call leaves that adds a part: past the limit the state is as it was
unfoldable pub after_adding : Hashing → List ℕ → Hashing
after_adding s part = when_done (hashing (s.total + length part)) (added s part) s

-- one part after another
unfoldable pub adds : Hashing → List (List ℕ) → Hashing
adds s [] = s
adds s (part ∷ parts) = adds (after_adding s part) parts

-- the octets that are taken of parts that come after n octets: a part past the limit is refused, and a shorter one may follow
unfoldable pub taken : ℕ → List (List ℕ) → List ℕ
taken n [] = []
taken n (part ∷ parts) = cond (leb (n + length part) limit) (part ++ taken (n + length part) parts) (taken n parts)
