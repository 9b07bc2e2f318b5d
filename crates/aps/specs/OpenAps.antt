-- Opening APS (document 01, 'Order of checks'): a judgement that only reads, and then one commit.
use Rattle.std.specs.Prelude.{Bool, cond, not, ◌||◌, List, ℕ, ◌+◌, eqb, ltb, length, Option, None, Some, Result, Ok, Err}
use Rattle.answer.specs.Numbers.{Answer}
use Rattle.answer.specs.declared.Accepted.TheVariants.{Done}
use Rattle.answer.specs.declared.Refusal.TheVariants.{Unsupported, Cut, KeyNotAllowed, CounterRepeated, CounterBehind, WrongTag, TableFull}
use Rattle.cells.specs.Rows.{Reaction, leave, become, Settled, find, settle}
use Rattle.aib.specs.declared.pairs.PairRow.{PairRow}
use Rattle.aib.specs.declared.pairs.Pairs.{Pairs}
use Rattle.aib.specs.Pairs.{PairCell, pair_rows, trust_center_link_key}
use Rattle.aib.specs.Counters.{in_use, holding, heard}
use Rattle.control.specs.Control.{identifier_of}
use Rattle.answer.specs.declared.Refusal.{Refusal}
use Rattle.claims.specs.declared.Claim.{Claim}
use Rattle.claims.specs.declared.Who.{Who}
use Rattle.claims.specs.declared.Who.TheVariants as who
use Rattle.aps.specs.declared.state.Aps.{Aps}
use Rattle.claims.specs.Claims.{aps_who}
use Rattle.protection.specs.Keys.{Choice, key_for}
use Rattle.protection.specs.Heard.{Heard, refused, equals, below}
use Rattle.protection.specs.Protection.{level, tag_size, payload_size, vouches, opened_octets}

-- an unknown device is tried with the trust centre link key; no counter is held for it
abbrev pub link_key : Option PairCell → List ℕ
link_key None = trust_center_link_key
link_key (Some p) = p.key

abbrev pub incoming : Option PairCell → Option ℕ
incoming None = None
incoming (Some p) = Some p.incoming

-- Known device and counter equal to its incoming counter: 33; below it: 34. Fewer than 4 bytes left: 2. Wrong tag: 5. Unknown device and no free row: 42.
-- (A key identifier that chooses no key is 32. No frame comes so far: `aps_who` has refused it, in its place in the order.)
-- Else 0, with the buffer as for NWK; the device's incoming counter is the frame's.
unfoldable pub aps_judged : Claim → Option PairCell → List ℕ → Reaction Heard PairCell
aps_judged c held b =
    let chosen : Choice = key_for (identifier_of c.control.byte) (link_key held) in
    let key : List ℕ = chosen.key in
    cond (equals (incoming held) c.counter) (leave (refused CounterRepeated b))
    (cond (below (incoming held) c.counter) (leave (refused CounterBehind b))
    (cond (ltb (length b) (c.payload + tag_size)) (leave (refused Cut b))
    (cond chosen.refused (leave (refused KeyNotAllowed b))
    (cond (not (vouches key c.sender c.counter c.at c.payload b)) (leave (refused WrongTag b))
    (become (heard held c.counter)
    (record { answer = Ok (Done c.payload (payload_size c.payload b)); frame = opened_octets key c.sender c.counter c.at c.payload b })
    (refused TableFull b))))))

-- what a call leaves: answer, the frame's octets, and the pairs
pub record Opened : Type 0 where
  pub answer : Answer
  pub frame : List ℕ
  pub pairs : Pairs

abbrev pub unchanged : Pairs → Heard → Opened
unchanged pairs h = record { answer = h.answer; frame = h.frame; pairs = pairs }

-- the commit
abbrev pub aps_committed : Pairs → Settled Heard PairRow → Opened
aps_committed pairs t = record { answer = t.out.answer; frame = t.out.frame; pairs = holding t.rows pairs }

unfoldable pub aps_placed : Pairs → List ℕ → Result Who Refusal → Opened
aps_placed pairs b (Err why) = unchanged pairs (refused why b)
aps_placed pairs b (Ok (who.Told a)) = unchanged pairs (record { answer = Ok a; frame = b })
aps_placed pairs b (Ok (who.Claims c)) =
    aps_committed pairs (settle pair_rows 16 (in_use pairs) c.sender (aps_judged c (find pair_rows (in_use pairs) c.sender) b))

-- State: level not 5, or a count in use above its capacity
abbrev pub aps_unfit : Aps → Pairs → Bool
aps_unfit s pairs = not (eqb s.level level) || ltb 16 pairs.used

-- OPENING APS
unfoldable pub open_aps : Aps → Pairs → List ℕ → Opened
open_aps s pairs b = cond (aps_unfit s pairs) (unchanged pairs (refused Unsupported b)) (aps_placed pairs b (aps_who b))
