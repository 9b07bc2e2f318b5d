-- The two halves make up the opening: a judgement is a refusal or an opening, and the commit by its answer is the table's `settle`.
-- Assumes nothing.
use mathlib.Core.Path.{◌≡◌, refl, sym, ap, ◌∙◌}
use mathlib.Core.Bool.{Bool, true, false, cond, not, ◌||◌}
use mathlib.Core.List.{List}
use Prim.Native.Nat.{ℕ, ◌+◌, ◌-◌, ◌≤◌}
use native.Mathlib.Omega.{arith}
use lib.Dec.{eqb, ltb}
use lib.ListN.{length, take, take-append-drop}
use lib.Seq.{length-take-le}
use borrow.Author.Tests.{le-ltb, ltb-false}
use Rattle.std.specs.Prelude.{Option, Some, None, Result, Ok, Err}
use Rattle.std.specs.Result.{result_unwrap_or}
use Rattle.std.proofs.lemmas.Option.{none-some}
use Rattle.answer.specs.Numbers.{Answer, Outcome}
use Rattle.answer.specs.declared.Accepted.TheVariants.{Done, Plain}
use Rattle.answer.specs.declared.Refusal.{Refusal}
use Rattle.answer.specs.declared.Refusal.TheVariants.{Unsupported, Cut, CounterRepeated, CounterBehind, WrongTag, TableFull}
use Rattle.cells.specs.Rows.{Reaction, leave, become, has_row, find, room, settle}
use Rattle.cells.proofs.RowLaws.{no_row}
use Rattle.nib.specs.declared.counters.CounterRow.{CounterRow}
use Rattle.nib.specs.declared.counters.Standing.{Standing}
use Rattle.nib.specs.declared.keys.NetworkKeys.{NetworkKeys}
use Rattle.nib.specs.declared.state.Nwk.{Nwk}
use Rattle.nib.specs.Counters.{After, Cell, counting, counter_in, counter_rows, capacity, overfull, held_for, left, over, pair, placed, settled, standing}
use Rattle.nib.specs.Keys.{key_under}
use Rattle.nib.specs.Pairs.{Pair}
use Rattle.claims.specs.declared.Claim.{Claim}
use Rattle.claims.specs.declared.Who.{Who}
use Rattle.claims.specs.declared.Who.TheVariants as who
use Rattle.claims.specs.Claims.{number_of, nwk_who}
use Rattle.claims.proofs.ClaimLaws.{Sized, nwk-claim}
use Rattle.protection.specs.Heard.{Heard, refused, equals, below, freshness, tried}
use Rattle.protection.specs.Protection.{tag_size, payload_size, vouches, opened_octets}
use Rattle.judging.specs.declared.Caller.{Caller}
use Rattle.judging.specs.declared.Verdict.{Verdict}
use Rattle.judging.specs.OpenNwk.{Opened, unchanged, active_after, nwk_judged, nwk_placed, nwk_unfit, open_nwk}
use Rattle.judging.specs.Halves.{held_of, room_of, heard_from, judged_fresh, judged_heard, nwk_asked, caller_of, change_by, heard_frame, verdict_of}

-- ---- the judgement

-- what is told, check by check
told-chain : (x y l v r : Bool) (n : Cell) (repeated behind cut wrong opened full : Heard)
    → heard_from (cond x (leave repeated) (cond y (leave behind) (cond l (leave cut) (cond (not v) (leave wrong) (become n opened full))))) r
    ≡ cond x repeated (cond y behind (cond l cut (cond (not v) wrong (cond r opened full))))
told-chain true y l v r n repeated behind cut wrong opened full = refl
told-chain false true l v r n repeated behind cut wrong opened full = refl
told-chain false false true v r n repeated behind cut wrong opened full = refl
told-chain false false false true r n repeated behind cut wrong opened full = refl
told-chain false false false false r n repeated behind cut wrong opened full = refl

module _ (keys : NetworkKeys) (c : Claim) (s : Standing) (b : List ℕ) where
  abbrev repeated : Bool
  repeated = equals (counter_in (held_of s)) c.counter

  abbrev behind : Bool
  behind = below (counter_in (held_of s)) c.counter

  -- the tests of the counter come first
  judged-tested : judged_heard keys c s b
      ≡ cond repeated (refused CounterRepeated b) (cond behind (refused CounterBehind b) (judged_fresh keys c (room_of s) b))
  unfolding judged_heard nwk_judged judged_fresh tried
  judged-tested =
      let key : List ℕ = key_under keys (number_of c.key) in
      told-chain repeated behind (ltb (length b) (c.payload + tag_size)) (vouches key c.sender c.counter c.at c.payload b) (room_of s) (counting c.counter)
      (refused CounterRepeated b) (refused CounterBehind b) (refused Cut b) (refused WrongTag b)
      (record { answer = Ok (Done c.payload (payload_size c.payload b)); frame = opened_octets key c.sender c.counter c.at c.payload b })
      (refused TableFull b)

  never : {X : Type 0} {r : Refusal} → ◌≡◌ {A = Outcome} (Ok tt) (Err r) → X
  never e = let z : ◌≡◌ {A = ℕ} 0 1 = cc in absurd (omega arith)

  pub judged_stale : (why : Refusal) → freshness (counter_in (held_of s)) c.counter ≡ Err why → judged_heard keys c s b ≡ refused why b
  judged_stale why e = judged-tested ∙ at repeated behind e
    where
      at : (x y : Bool) → ◌≡◌ {A = Outcome} (cond x (Err CounterRepeated) (cond y (Err CounterBehind) (Ok tt))) (Err why)
          → cond x (refused CounterRepeated b) (cond y (refused CounterBehind b) (judged_fresh keys c (room_of s) b)) ≡ refused why b
      at true y q = let w : CounterRepeated ≡ why = cc in ap (λ (z : Refusal). refused z b) w
      at false true q = let w : CounterBehind ≡ why = cc in ap (λ (z : Refusal). refused z b) w
      at false false q = never q

  pub judged_as_fresh : freshness (counter_in (held_of s)) c.counter ≡ Ok tt → judged_heard keys c s b ≡ judged_fresh keys c (room_of s) b
  judged_as_fresh e = judged-tested ∙ at repeated behind e
    where
      at : (x y : Bool) → ◌≡◌ {A = Outcome} (cond x (Err CounterRepeated) (cond y (Err CounterBehind) (Ok tt))) (Ok tt)
          → cond x (refused CounterRepeated b) (cond y (refused CounterBehind b) (judged_fresh keys c (room_of s) b)) ≡ judged_fresh keys c (room_of s) b
      at true y q = never (sym q)
      at false true q = never (sym q)
      at false false q = refl

-- ---- the commit

-- a judgement of the frame b: a refusal, or an opening that wants the cell n in the row
data Judgement (n : Cell) (b : List ℕ) : Reaction Heard Cell → Type 0 where
  refusal : (why : Refusal) → Judgement n b (leave (refused why b))
  opening : (start len : ℕ) (f : List ℕ) → Judgement n b (become n (record { answer = Ok (Done start len); frame = f }) (refused TableFull b))

judgement : (keys : NetworkKeys) (c : Claim) (held : Option Cell) (b : List ℕ) → Judgement (counting c.counter) b (nwk_judged keys c held b)
unfolding nwk_judged
judgement keys c held b = go (equals (counter_in held) c.counter) (below (counter_in held) c.counter) (ltb (length b) (c.payload + tag_size)) (vouches _ c.sender c.counter c.at c.payload b)
  where
    go : (x y l v : Bool)
        → Judgement (counting c.counter) b
        (cond x (leave (refused CounterRepeated b))
        (cond y (leave (refused CounterBehind b))
        (cond l (leave (refused Cut b))
        (cond (not v) (leave (refused WrongTag b))
        (become (counting c.counter)
        (record { answer = Ok (Done c.payload (payload_size c.payload b)); frame = opened_octets (key_under keys (number_of c.key)) c.sender c.counter c.at c.payload b })
        (refused TableFull b))))))
    go true y l v = refusal CounterRepeated
    go false true l v = refusal CounterBehind
    go false false true v = refusal Cut
    go false false false false = refusal WrongTag
    go false false false true = opening _ _ _

module _ (rows : List CounterRow) (used : ℕ) (c : Claim) (fits : used ≤ capacity (length rows)) where
  abbrev k : Pair
  k = pair (number_of c.key) c.sender

  in_use : length (take used rows) ≡ used
  in_use = length-take-le used rows (omega arith)

  same_rows : over (take used rows) rows ≡ rows
  same_rows = rw in_use (take-append-drop used rows)

  -- what is heard of a reaction, and what the table does with it
  abbrev out : Reaction Heard Cell → Heard
  out r = heard_from r (room counter_rows (capacity (length rows)) (take used rows) k)

  abbrev after : Reaction Heard Cell → After
  after r = settled rows used (change_by c (out r).answer)

  -- what the table does with a judgement is what the code does: told by the room, and kept by the answer
  pub record Committed (r : Reaction Heard Cell) : Type 0 where
    pub told : (settle counter_rows (capacity (length rows)) (take used rows) k r).out ≡ out r
    pub used-after : length (settle counter_rows (capacity (length rows)) (take used rows) k r).rows ≡ (after r).used
    pub rows-after : over (settle counter_rows (capacity (length rows)) (take used rows) k r).rows rows ≡ (after r).rows

  commits : (b : List ℕ) (r : Reaction Heard Cell) → Judgement (counting c.counter) b r → Committed r
  unfolding settle settled placed
  commits b r (refusal why) = record { told = refl; used-after = in_use; rows-after = same_rows }
  commits b r (opening start len f) = go (room counter_rows (capacity (length rows)) (take used rows) k) refl
    where
      go : (t : Bool) → room counter_rows (capacity (length rows)) (take used rows) k ≡ t
          → Committed (become (counting c.counter) (record { answer = Ok (Done start len); frame = f }) (refused TableFull b))
      go true e =
          let fine : overfull rows used ≡ false = le-ltb (capacity (length rows)) used fits in
          record { told = refl; used-after = rw (e, fine, e); rows-after = rw (e, fine, e) }
      go false e = record { told = refl; used-after = rw e in_use; rows-after = rw e same_rows }

-- what is held is read back as it was found
held_found : (free : Bool) (k : Pair) (o : Option Cell) → held_of (standing free k o) ≡ o
held_found true k None = refl
held_found false k None = refl
held_found free k (Some c) = refl

-- and so is the room: a pair that has a row needs no free one
room_found : (places : ℕ) (rs : List CounterRow) (k : Pair) (o : Option Cell) → find counter_rows rs k ≡ o
    → room_of (standing (room counter_rows places rs k) k o) ≡ room counter_rows places rs k
unfolding room
room_found places rs k None e = at (has_row counter_rows rs k || ltb (length rs) places)
  where
    at : (t : Bool) → room_of (standing t k None) ≡ t
    at true = refl
    at false = refl
room_found places rs k (Some c) e = at (has_row counter_rows rs k) refl
  where
    at : (t : Bool) → has_row counter_rows rs k ≡ t → true ≡ (t || ltb (length rs) places)
    at true h = refl
    at false h = absurd (none-some c (sym (no_row counter_rows rs k h) ∙ e))

module _ (s : Nwk) (rows : List CounterRow) (used : ℕ) (b : List ℕ) (c : Claim) (fits : used ≤ capacity (length rows)) where
  heard-is : judged_heard s.keys c (held_for rows used (k rows used c fits)) b
      ≡ out rows used c fits (nwk_judged s.keys c (find counter_rows (take used rows) (k rows used c fits)) b)
  unfolding judged_heard held_for
  heard-is =
      let fine : overfull rows used ≡ false = le-ltb (capacity (length rows)) used fits in
      let p : Pair = k rows used c fits in
      let f = find counter_rows (take used rows) p in
      rw (fine, held_found (room counter_rows (capacity (length rows)) (take used rows) p) p f, room_found (capacity (length rows)) (take used rows) p f refl)

  -- an opening, from what was heard
  abbrev opened_by : Heard → Opened
  opened_by h =
      let t : After = settled rows used (change_by c h.answer) in
      record { answer = h.answer; frame = h.frame; rows = t.rows; used = t.used; active = active_after s.active (number_of c.key) h.answer }

  placed-is : nwk_placed s rows used b (Ok (who.Claims c)) ≡ opened_by (judged_heard s.keys c (held_for rows used (k rows used c fits)) b)
  unfolding nwk_placed
  placed-is =
      let r = nwk_judged s.keys c (find counter_rows (take used rows) (k rows used c fits)) b in
      let w = commits rows used c fits b r (judgement s.keys c (find counter_rows (take used rows) (k rows used c fits)) b) in
      (λ i. record { answer = (w.told i).answer; frame = (w.told i).frame; rows = w.rows-after i; used = w.used-after i; active = active_after s.active (number_of c.key) (w.told i).answer })
      ∙ ap opened_by (sym heard-is)

-- ---- the whole call: what the code's calls say, put together

who-of : (w : Result Who Refusal) → (caller_of w).who ≡ w
who-of (Err why) = refl
who-of (Ok (who.Told a)) = refl
who-of (Ok (who.Claims c)) = refl

never-claims : {X : Type 0} {why : Refusal} {c : Claim} → ◌≡◌ {A = Result Who Refusal} (Err why) (Ok (who.Claims c)) → X
never-claims e = let z : ◌≡◌ {A = ℕ} 0 1 = cc in absurd (omega arith)

module _ (s : Nwk) (rows : List CounterRow) (used : ℕ) (b : List ℕ) where
  abbrev asked : Result Who Refusal
  asked = nwk_asked s (length rows) used b

  open_is : open_nwk s rows used b ≡ nwk_placed s rows used b asked
  unfolding open_nwk nwk_asked nwk_placed
  open_is = at (nwk_unfit s rows used) (nwk_who s.keys b)
    where
      at : (t : Bool) (w : Result Who Refusal) → cond t (unchanged s rows used (refused Unsupported b)) (nwk_placed s rows used b w) ≡ nwk_placed s rows used b (cond t (Err Unsupported) w)
      at true w = refl
      at false w = refl

  -- a frame that claims to be somebody's: the state is fit, and the headers say so
  claims : (c : Claim) → asked ≡ Ok (who.Claims c) → (used ≤ capacity (length rows)) × (nwk_who s.keys b ≡ Ok (who.Claims c))
  unfolding nwk_asked
  claims c e = at (eqb s.level 5) (ltb 2 s.keys.used) (ltb (capacity (length rows)) used) refl e
    where
      at : (x y z : Bool) → ltb (capacity (length rows)) used ≡ z → cond (not x || (y || z)) (Err Unsupported) (nwk_who s.keys b) ≡ Ok (who.Claims c)
          → (used ≤ capacity (length rows)) × (nwk_who s.keys b ≡ Ok (who.Claims c))
      at true false false q h = (ltb-false (capacity (length rows)) used q, h)
      at true false true q h = never-claims h
      at true true z q h = never-claims h
      at false y z q h = never-claims h

  -- by what the headers settle or claim
  abbrev pair_of : Result Who Refusal → Pair
  pair_of w = pair (caller_of w).number (caller_of w).sender

  abbrev verdict_as : Result Who Refusal → Verdict
  verdict_as w = verdict_of s w (held_for rows used (pair_of w)) b

  abbrev after_change : Result Who Refusal → After
  after_change w = settled rows used (verdict_as w).change

  abbrev result : Result Who Refusal → Opened
  result w = record { answer = (verdict_as w).answer; frame = heard_frame s w (held_for rows used (pair_of w)) b; rows = (after_change w).rows; used = (after_change w).used; active = (verdict_as w).active }

  result-at : (w : Result Who Refusal) → asked ≡ w → result w ≡ nwk_placed s rows used b w
  unfolding nwk_placed settled
  result-at (Err why) e = refl
  result-at (Ok (who.Told a)) e = refl
  result-at (Ok (who.Claims c)) e = sym (placed-is s rows used b c (claims c e).0)

  -- the calls' answers: the caller, what is held for it, the judgement and the frame after it
  module _ (caller : Caller) (is-caller : caller ≡ caller_of asked) where
    is-who : caller.who ≡ asked
    is-who = ap (λ (x : Caller). x.who) is-caller ∙ who-of asked

    pub sized : (c : Claim) → caller.who ≡ Ok (who.Claims c) → Sized c b
    sized c e = nwk-claim c b s.keys (claims c (sym is-who ∙ e)).1

    module _ (standing : Standing) (is-standing : standing ≡ held_for rows used (pair caller.number caller.sender))
        (verdict : Verdict) (frame : List ℕ) (is-verdict : verdict ≡ verdict_of s caller.who standing b) (is-frame : frame ≡ heard_frame s caller.who standing b) where
      stands : standing ≡ held_for rows used (pair_of asked)
      stands = is-standing ∙ ap (λ (x : Caller). held_for rows used (pair x.number x.sender)) is-caller

      verdict-is : verdict ≡ verdict_as asked
      verdict-is = is-verdict ∙ (λ i. verdict_of s (is-who i) (stands i) b)

      frame_is : frame ≡ heard_frame s asked (held_for rows used (pair_of asked)) b
      frame_is = is-frame ∙ (λ i. heard_frame s (is-who i) (stands i) b)

      -- THE OPENING
      pub opened-settled : (r : Result ℕ Refusal) (zs : List CounterRow) → left r used zs ≡ settled rows used verdict.change
          → (n : ℕ) → n ≡ result_unwrap_or r used
          → record { answer = verdict.answer; frame = frame; rows = zs; used = n; active = verdict.active } ≡ open_nwk s rows used b
      opened-settled r zs e n is-count =
          let f : left r used zs ≡ after_change asked = e ∙ ap (λ (x : Verdict). settled rows used x.change) verdict-is in
          let g = parts r zs in
          (λ i. record { answer = (verdict-is i).answer; frame = frame_is i; rows = (sym g.0 ∙ ap (λ (x : After). x.rows) f) i; used = (is-count ∙ sym g.1 ∙ ap (λ (x : After). x.used) f) i; active = (verdict-is i).active })
          ∙ result-at asked refl ∙ sym open_is
        where
          parts : (r : Result ℕ Refusal) (zs : List CounterRow) → ((left r used zs).rows ≡ zs) × ((left r used zs).used ≡ result_unwrap_or r used)
          parts (Ok m) zs = (refl, refl)
          parts (Err why) zs = (refl, refl)
