-- The two halves of an opening as the code has them: the judgement by what is held, and the commit where it opens. That they make up
-- `open_nwk` is shown in proofs/.
use Rattle.std.specs.Prelude.{Bool, true, false, cond, not, ◌||◌, List, ℕ, ◌+◌, eqb, ltb, length, Option, Some, None, Result, Ok, Err}
use Rattle.answer.specs.Numbers.{Answer}
use Rattle.answer.specs.declared.Accepted.TheVariants.{Done, Plain}
use Rattle.answer.specs.declared.Refusal.{Refusal}
use Rattle.answer.specs.declared.Refusal.TheVariants.{Unsupported, Cut}
use Rattle.cells.specs.Rows.{Reaction, leave, become}
use Rattle.nib.specs.declared.counters.CounterRow.{CounterRow}
use Rattle.nib.specs.declared.counters.Standing.{Standing}
use Rattle.nib.specs.declared.counters.Standing.TheVariants.{Held, Free, Full, HeldWithoutRoom}
use Rattle.nib.specs.declared.keys.NetworkKeys.{NetworkKeys}
use Rattle.nib.specs.declared.state.Nwk.{Nwk}
use Rattle.nib.specs.Counters.{Cell, counting, capacity, pair, row_cell, row_of}
use Rattle.nib.specs.Keys.{key_under}
use Rattle.claims.specs.declared.Claim.{Claim}
use Rattle.claims.specs.declared.Who.{Who}
use Rattle.claims.specs.declared.Who.TheVariants as who
use Rattle.claims.specs.Claims.{number_of, nwk_who}
use Rattle.protection.specs.Heard.{Heard, refused, tried}
use Rattle.protection.specs.Protection.{level, tag_size}
use Rattle.judging.specs.declared.Caller.{Caller}
use Rattle.judging.specs.declared.Verdict.{Verdict}
use Rattle.judging.specs.OpenNwk.{active_after, nwk_judged}

-- ---- whose row is asked for

-- what the state and the headers settle, or else what they claim, where so many rows are lent
unfoldable pub nwk_asked : Nwk → ℕ → ℕ → List ℕ → Result Who Refusal
nwk_asked s lent used b =
    cond (not (eqb s.level level) || (ltb 2 s.keys.used || ltb (capacity lent) used)) (Err Unsupported) (nwk_who s.keys b)

abbrev pub caller_of : Result Who Refusal → Caller
caller_of (Err why) = record { who = Err why; number = 0; sender = 0 }
caller_of (Ok (who.Told a)) = record { who = Ok (who.Told a); number = 0; sender = 0 }
caller_of (Ok (who.Claims c)) = record { who = Ok (who.Claims c); number = number_of c.key; sender = c.sender }

-- ---- the judgement

-- what is held, as the judgement reads it
abbrev pub held_of : Standing → Option Cell
held_of (Held row) = Some (row_cell row)
held_of Free = None
held_of Full = None
held_of (HeldWithoutRoom row) = Some (row_cell row)

-- a pair that has a row needs no free one, but for `HeldWithoutRoom`, which no search answers
abbrev pub room_of : Standing → Bool
room_of (Held row) = true
room_of Free = true
room_of Full = false
room_of (HeldWithoutRoom row) = false

-- what a reaction tells, with room or without
abbrev pub heard_from : Reaction Heard Cell → Bool → Heard
heard_from (leave out) room = out
heard_from (become c out full) room = cond room out full

unfoldable pub judged_heard : NetworkKeys → Claim → Standing → List ℕ → Heard
judged_heard keys c standing b = heard_from (nwk_judged keys c (held_of standing) b) (room_of standing)

-- the same for a fresh counter: the size, the tag, and the room for a new row
unfoldable pub judged_fresh : NetworkKeys → Claim → Bool → List ℕ → Heard
judged_fresh keys c room b =
    cond (ltb (length b) (c.payload + tag_size)) (refused Cut b)
    (tried (key_under keys (number_of c.key)) c.sender c.counter c.at c.payload room b)

-- the row that an answer leaves: that of the claim where the frame opened
abbrev pub change_by : Claim → Answer → Option CounterRow
change_by c (Ok (Done start len)) = Some (row_of (pair (number_of c.key) c.sender) (counting c.counter))
change_by c (Ok (Plain start len)) = None
change_by c (Err why) = None

-- the frame's octets after it, and what is judged
abbrev pub heard_frame : Nwk → Result Who Refusal → Standing → List ℕ → List ℕ
heard_frame s (Err why) standing b = b
heard_frame s (Ok (who.Told a)) standing b = b
heard_frame s (Ok (who.Claims c)) standing b = (judged_heard s.keys c standing b).frame

abbrev pub verdict_of : Nwk → Result Who Refusal → Standing → List ℕ → Verdict
verdict_of s (Err why) standing b = record { answer = Err why; active = s.active; change = None }
verdict_of s (Ok (who.Told a)) standing b = record { answer = Ok a; active = s.active; change = None }
verdict_of s (Ok (who.Claims c)) standing b =
    let a : Answer = (judged_heard s.keys c standing b).answer in
    record { answer = a; active = active_after s.active (number_of c.key) a; change = change_by c a }
