-- Opening NWK (document 01, 'Order of checks'): a judgement that only reads, and then one commit.
use Rattle.std.specs.Prelude.{Bool, cond, not, ◌||◌, List, ℕ, ◌+◌, eqb, ltb, length, take, Option, Result, Ok, Err}
use Rattle.answer.specs.Numbers.{Answer}
use Rattle.answer.specs.declared.Accepted.TheVariants.{Done, Plain}
use Rattle.answer.specs.declared.Refusal.{Refusal}
use Rattle.answer.specs.declared.Refusal.TheVariants.{Unsupported, Cut, CounterRepeated, CounterBehind, WrongTag, TableFull}
use Rattle.cells.specs.Rows.{Reaction, leave, become, Settled, find, settle}
use Rattle.nib.specs.declared.counters.CounterRow.{CounterRow}
use Rattle.nib.specs.declared.keys.NetworkKeys.{NetworkKeys}
use Rattle.nib.specs.Active.{turn}
use Rattle.nib.specs.Counters.{Cell, counting, counter_in, counter_rows, capacity, over, pair}
use Rattle.nib.specs.Keys.{key_under}
use Rattle.nib.specs.Pairs.{Pair}
use Rattle.claims.specs.declared.Claim.{Claim}
use Rattle.claims.specs.declared.Who.{Who}
use Rattle.claims.specs.declared.Who.TheVariants as who
use Rattle.nib.specs.declared.state.Nwk.{Nwk}
use Rattle.claims.specs.Claims.{number_of, nwk_who}
use Rattle.protection.specs.Heard.{Heard, refused, equals, below}
use Rattle.protection.specs.Protection.{level, tag_size, payload_size, vouches, opened_octets}

-- A row held for key number and sender, and frame counter equal to it: 33; below it: 34. Fewer than 4 bytes left: 2. Wrong tag: 5. No held row
-- and no free one: 42. Else 0: payload plain, level bits of the control byte 5; the pair's row holds the counter.
unfoldable pub nwk_judged : NetworkKeys → Claim → Option Cell → List ℕ → Reaction Heard Cell
nwk_judged keys c held b =
    let key : List ℕ = key_under keys (number_of c.key) in
    cond (equals (counter_in held) c.counter) (leave (refused CounterRepeated b))
    (cond (below (counter_in held) c.counter) (leave (refused CounterBehind b))
    (cond (ltb (length b) (c.payload + tag_size)) (leave (refused Cut b))
    (cond (not (vouches key c.sender c.counter c.at c.payload b)) (leave (refused WrongTag b))
    (become (counting c.counter)
    (record { answer = Ok (Done c.payload (payload_size c.payload b)); frame = opened_octets key c.sender c.counter c.at c.payload b })
    (refused TableFull b)))))

-- what a call leaves: answer, the frame's octets, the rows lent and how many are in use, and the active number
pub record Opened : Type 0 where
  pub answer : Answer
  pub frame : List ℕ
  pub rows : List CounterRow
  pub used : ℕ
  pub active : ℕ

-- nothing changes
abbrev pub unchanged : Nwk → List CounterRow → ℕ → Heard → Opened
unchanged s rows used h = record { answer = h.answer; frame = h.frame; rows = rows; used = used; active = s.active }

-- if a frame opened, and its key number is (active + 1) mod 256, that becomes the active number
abbrev pub active_after : ℕ → ℕ → Answer → ℕ
active_after active n (Ok (Done start len)) = turn active n
active_after active n (Ok (Plain start len)) = active
active_after active n (Err why) = active

-- the commit
abbrev pub nwk_committed : Nwk → List CounterRow → Pair → Settled Heard CounterRow → Opened
nwk_committed s rows k t = record {
  answer = t.out.answer;
  frame = t.out.frame;
  rows = over t.rows rows;
  used = length t.rows;
  active = active_after s.active k.number t.out.answer;
}

unfoldable pub nwk_placed : Nwk → List CounterRow → ℕ → List ℕ → Result Who Refusal → Opened
nwk_placed s rows used b (Err why) = unchanged s rows used (refused why b)
nwk_placed s rows used b (Ok (who.Told a)) = unchanged s rows used (record { answer = Ok a; frame = b })
nwk_placed s rows used b (Ok (who.Claims c)) =
    let k : Pair = pair (number_of c.key) c.sender in
    nwk_committed s rows k
    (settle counter_rows (capacity (length rows)) (take used rows) k (nwk_judged s.keys c (find counter_rows (take used rows) k) b))

-- State: level not 5, or a count in use above its capacity
abbrev pub nwk_unfit : Nwk → List CounterRow → ℕ → Bool
nwk_unfit s rows used = not (eqb s.level level) || (ltb 2 s.keys.used || ltb (capacity (length rows)) used)

-- OPENING NWK
unfoldable pub open_nwk : Nwk → List CounterRow → ℕ → List ℕ → Opened
open_nwk s rows used b =
    cond (nwk_unfit s rows used) (unchanged s rows used (refused Unsupported b)) (nwk_placed s rows used b (nwk_who s.keys b))
