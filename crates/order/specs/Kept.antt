-- What an opening leaves unless its answer is done, for any table: the common part of NwkKept.antt and ApsKept.antt. Assumes nothing.
use Rattle.std.specs.Prelude.{Err, Ok, ◌≡◌, refl, Bool, true, false, cond, List, ◌++◌, ℕ, ◌≤◌, length, take, drop}
use Rattle.std.proofs.Common.{take-append-drop, length-take-le}
use Rattle.answer.specs.Numbers.{Answer}
use Rattle.answer.specs.declared.Accepted.TheVariants.{Done}
use Rattle.answer.specs.declared.Refusal.{Refusal}
use Rattle.cells.specs.Rows.{Rows, Reaction, leave, become, Settled, put, room, settle}
use Rattle.protection.specs.Heard.{Heard, refused}

abbrev pub NotDone : Answer → Type 0
NotDone a = (start len : ℕ) → a ≡ Ok (Done start len) → ⊥

pub refused-not-done : {a : Answer} {why : Refusal} → a ≡ Err why → NotDone a
refused-not-done e start len f = cc

-- ---- what a judgement may say

-- a frame stops and stays as it is; or it opens, and where there is no room it stays as it is
pub data Tame {C : Type 0} (b : List ℕ) : Reaction Heard C → Type 0 where
  stops : (why : Refusal) → Tame b (leave (refused why b))
  opens : (c : C) (start len : ℕ) (frame : List ℕ) (why : Refusal) → Tame b (become c (record { answer = Ok (Done start len); frame = frame }) (refused why b))

pub settle-kept : {R K C : Type 0} (rows : Rows R K C) (places : ℕ) (rs : List R) (k : K) (b : List ℕ) {r : Reaction Heard C} → Tame b r
    → NotDone (settle rows places rs k r).out.answer
    → settle rows places rs k r ≡ record { out = record { answer = (settle rows places rs k r).out.answer; frame = b }; rows = rs }
unfolding settle
settle-kept rows places rs k b (stops why) n = refl
settle-kept {R} rows places rs k b (opens c start len frame why) n = at (room rows places rs k) refl
  where
    t : Bool → Settled Heard R
    t r = record { out = cond r (record { answer = Ok (Done start len); frame = frame }) (refused why b); rows = cond r (put rows rs k c) rs }

    at : (r : Bool) → room rows places rs k ≡ r → t r ≡ record { out = record { answer = (t r).out.answer; frame = b }; rows = rs }
    at true e = absurd (n start len (rw e))
    at false e = refl

-- the rows in use put over themselves are the rows
pub over-same : {A : Type 0} (rows : List A) (used : ℕ) → used ≤ length rows → take used rows ++ drop (length (take used rows)) rows ≡ rows
over-same rows used h = rw (length-take-le used rows h, take-append-drop)
