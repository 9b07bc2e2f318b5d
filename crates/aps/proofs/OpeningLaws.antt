-- The steps of an opening make up its definition, on plain values. Assumes nothing.
use mathlib.Core.Path.{◌≡◌, refl, sym, ap, ◌∙◌, subst}
use mathlib.Core.Bool.{Bool, true, false, cond, not, ◌||◌}
use mathlib.Core.List.{List, [], ◌∷◌}
use Prim.Native.Nat.{ℕ, ◌+◌, ◌≤◌}
use native.Mathlib.Omega.{arith}
use lib.Dec.{eqb, ltb}
use lib.ListN.{length, take-append-drop}
use lib.Seq.{length-take-le}
use borrow.Author.Tests.{le-ltb, ltb-false}
use Rattle.std.specs.Prelude.{Option, Some, None, option_map, is_some, ok_or, Result, Ok, Err}
use Rattle.std.specs.Result.{result_and}
use Rattle.answer.specs.Numbers.{Answer, Outcome}
use Rattle.answer.specs.declared.Accepted.{Accepted}
use Rattle.answer.specs.declared.Accepted.TheVariants.{Done}
use Rattle.answer.specs.declared.Refusal.{Refusal}
use Rattle.answer.specs.declared.Refusal.TheVariants.{Unsupported, Cut, KeyNotAllowed, CounterRepeated, CounterBehind, WrongTag, TableFull}
use Rattle.cells.specs.Lists.{any}
use Rattle.cells.specs.Rows.{Reaction, leave, become, is_row, has_row, find, put, room, settle}
use Rattle.aib.specs.declared.pairs.PairRow.{PairRow}
use Rattle.aib.specs.declared.pairs.Pairs.{Pairs}
use Rattle.aib.specs.Pairs.{PairCell, cell_in, row_of, pair_rows, pair_found}
use Rattle.aib.specs.Counters.{Recorded, in_use, holding, heard, recorded}
use Rattle.control.specs.Control.{identifier_of}
use Rattle.claims.specs.declared.Claim.{Claim}
use Rattle.claims.specs.declared.Who.TheVariants as who
use Rattle.claims.specs.Claims.{aps_who}
use Rattle.protection.specs.Keys.{Choice, key_for, key_chosen}
use Rattle.protection.specs.Heard.{Heard, refused, equals, below, freshness, tried}
use Rattle.protection.specs.Protection.{payload_size, vouches, opened_octets}
use Rattle.aps.specs.declared.state.Aps.{Aps}
use Rattle.aps.specs.OpenAps.{aps_unfit, unchanged, aps_placed, open_aps, Opened, link_key, incoming, aps_judged, aps_committed}
use Rattle.aps.specs.Opening.{held_in, allowed, replied, committed}

-- ---- the tests before the tag, and the rest

module _ (c : Claim) (held : Option PairCell) (free : Bool) (b : List ℕ) where
  abbrev pub chosen : Choice
  chosen = key_for (identifier_of c.control.byte) (link_key held)

  abbrev pub reaction : Bool → Bool → Bool → Bool → Bool → Reaction Heard PairCell
  reaction repeated behind cut barred right =
      cond repeated (leave (refused CounterRepeated b))
      (cond behind (leave (refused CounterBehind b))
      (cond cut (leave (refused Cut b))
      (cond barred (leave (refused KeyNotAllowed b))
      (cond (not right) (leave (refused WrongTag b))
      (become (heard held c.counter)
      (record { answer = Ok (Done c.payload (payload_size c.payload b)); frame = opened_octets chosen.key c.sender c.counter c.at c.payload b })
      (refused TableFull b))))))

  abbrev by_counter : Bool → Bool → Outcome
  by_counter repeated behind = cond repeated (Err CounterRepeated) (cond behind (Err CounterBehind) (Ok tt))

  abbrev by_size : Bool → Outcome
  by_size cut = cond cut (Err Cut) (Ok tt)

  abbrev outcome : Bool → Bool → Bool → Outcome
  outcome repeated behind cut = result_and (by_counter repeated behind) (by_size cut)

  never : {X : Type 0} {why : Refusal} → ◌≡◌ {A = Outcome} (Ok tt) (Err why) → X
  never e = let z : ◌≡◌ {A = ℕ} 0 1 = cc in absurd (omega arith)

  pub judged-refused : (why : Refusal) → allowed c (incoming held) (length b) ≡ Err why → refused why b ≡ replied free (aps_judged c held b)
  unfolding allowed aps_judged
  judged-refused why =
      go (equals (incoming held) c.counter) (below (incoming held) c.counter) (ltb (length b) (c.payload + 4)) chosen.refused (vouches chosen.key c.sender c.counter c.at c.payload b)
    where
      is : {q : Refusal} → ◌≡◌ {A = Outcome} (Err q) (Err why) → refused why b ≡ refused q b
      is {q} e = let z : q ≡ why = cc in rw z

      go : (t1 t2 t3 t4 t5 : Bool) → outcome t1 t2 t3 ≡ Err why → refused why b ≡ replied free (reaction t1 t2 t3 t4 t5)
      go true t2 t3 t4 t5 e = is e
      go false true t3 t4 t5 e = is e
      go false false true t4 t5 e = is e
      go false false false t4 t5 e = never e

  -- what is left where the counter and the size are right: the key, and the tag
  pub record Allowed : Type 0 where
    pub barred : chosen.refused ≡ true → refused KeyNotAllowed b ≡ replied free (aps_judged c held b)
    pub judged : chosen.refused ≡ false → tried chosen.key c.sender c.counter c.at c.payload free b ≡ replied free (aps_judged c held b)
    pub size : c.payload + 4 ≤ length b

  is-allowed : equals (incoming held) c.counter ≡ false → below (incoming held) c.counter ≡ false → ltb (length b) (c.payload + 4) ≡ false → Allowed
  unfolding aps_judged tried
  is-allowed p q l = record {
    barred = λ e. rw (p, q, l, e);
    judged = λ e. rw (p, q, l, e) (by-tag (vouches chosen.key c.sender c.counter c.at c.payload b));
    size = ltb-false (length b) (c.payload + 4) l;
  }
    where
      opens : Heard
      opens = record { answer = Ok (Done c.payload (payload_size c.payload b)); frame = opened_octets chosen.key c.sender c.counter c.at c.payload b }

      by-tag : (t : Bool) → cond (not t) (refused WrongTag b) (cond free opens (refused TableFull b))
          ≡ replied free (cond (not t) (leave (refused WrongTag b)) (become (heard held c.counter) opens (refused TableFull b)))
      by-tag true = refl
      by-tag false = refl

  pub judged-allowed : allowed c (incoming held) (length b) ≡ Ok tt → Allowed
  unfolding allowed
  judged-allowed = go (equals (incoming held) c.counter) refl (below (incoming held) c.counter) refl (ltb (length b) (c.payload + 4)) refl
    where
      go : (t1 : Bool) → equals (incoming held) c.counter ≡ t1 → (t2 : Bool) → below (incoming held) c.counter ≡ t2 → (t3 : Bool) → ltb (length b) (c.payload + 4) ≡ t3
          → outcome t1 t2 t3 ≡ Ok tt → Allowed
      go true p t2 q t3 l e = never (sym e)
      go false p true q t3 l e = never (sym e)
      go false p false q true l e = never (sym e)
      go false p false q false l e = is-allowed p q l

-- what the code's choice of a key says of the definition's
module _ (choice : Choice) (o : Option (List ℕ)) (r : Result (List ℕ) Refusal) (is_chosen : o ≡ key_chosen choice) (is_answer : r ≡ ok_or o KeyNotAllowed) where
  abbrev answered : Bool → Result (List ℕ) Refusal
  answered t = ok_or (cond t None (Some choice.key)) KeyNotAllowed

  answer_is : r ≡ answered choice.refused
  answer_is = is_answer ∙ ap (λ (x : Option (List ℕ)). ok_or x KeyNotAllowed) is_chosen

  pub no-key : (why : Refusal) → r ≡ Err why → (choice.refused ≡ true) × (KeyNotAllowed ≡ why)
  no-key why e = at choice.refused refl (sym answer_is ∙ e)
    where
      at : (t : Bool) → choice.refused ≡ t → answered t ≡ Err why → (choice.refused ≡ true) × (KeyNotAllowed ≡ why)
      at true q h = (q, cc)
      at false q h = let z : ◌≡◌ {A = ℕ} 0 1 = cc in absurd (omega arith)

  pub some-key : (key : List ℕ) → r ≡ Ok key → (choice.refused ≡ false) × (key ≡ choice.key)
  some-key key e = at choice.refused refl (sym answer_is ∙ e)
    where
      at : (t : Bool) → choice.refused ≡ t → answered t ≡ Ok key → (choice.refused ≡ false) × (key ≡ choice.key)
      at true q h = let z : ◌≡◌ {A = ℕ} 0 1 = cc in absurd (omega arith)
      at false q h = (q, cc)

-- ---- what a search finds

found-row : (rs : List PairRow) (d : ℕ) → is_some (option_map (row_of d) (find pair_rows rs d)) ≡ has_row pair_rows rs d
unfolding find has_row any
found-row [] d = refl
found-row (r ∷ rs) d = at (is_row pair_rows d r) (found-row rs d)
  where
    at : (t : Bool) → is_some (option_map (row_of d) (find pair_rows rs d)) ≡ has_row pair_rows rs d
        → is_some (option_map (row_of d) (cond t (Some (cell_in r)) (find pair_rows rs d))) ≡ (t || has_row pair_rows rs d)
    at true e = refl
    at false e = e

held_found : (d : ℕ) (o : Option PairCell) → held_in (option_map (row_of d) o) ≡ o
held_found d None = refl
held_found d (Some p) = refl

module _ (pairs : Pairs) (d : ℕ) where
  pub held-is : held_in (pair_found pairs d) ≡ find pair_rows (in_use pairs) d
  unfolding pair_found
  held-is = held_found d (find pair_rows (in_use pairs) d)

  module _ (sixteen : length pairs.rows ≡ 16) (few : pairs.used ≤ 16) where
    counted : length (in_use pairs) ≡ pairs.used
    counted = length-take-le pairs.used pairs.rows (omega arith)

    pub room-is : (is_some (pair_found pairs d) || ltb pairs.used 16) ≡ room pair_rows 16 (in_use pairs) d
    unfolding pair_found room
    room-is = rw (found-row (in_use pairs) d, counted)

    -- the rows in use put back where they were
    unmoved : holding (in_use pairs) pairs ≡ pairs
    unmoved = rw (counted, take-append-drop)

    recorded-is : (c : ℕ) → room pair_rows 16 (in_use pairs) d ≡ true
        → recorded pairs d c ≡ record { outcome = Ok tt; pairs = holding (put pair_rows (in_use pairs) d (heard (find pair_rows (in_use pairs) d) c)) pairs }
    unfolding recorded
    recorded-is c e = rw (le-ltb 16 pairs.used few, e)

-- ---- the commit

module _ (pairs : Pairs) (c : Claim) (b : List ℕ) (sixteen : length pairs.rows ≡ 16) (few : pairs.used ≤ 16) where
  abbrev held : Option PairCell
  held = find pair_rows (in_use pairs) c.sender

  abbrev free : Bool
  free = room pair_rows 16 (in_use pairs) c.sender

  -- what the code leaves, by what was heard: a refusal nothing, an opening the record of its counter
  abbrev pub Leaves : Answer → List ℕ → Opened → Type 0
  Leaves (Err why) f o = record { answer = Err why; frame = f; pairs = pairs } ≡ o
  Leaves (Ok a) f o = (record { answer = Ok a; frame = f; pairs = (recorded pairs c.sender c.counter).pairs } ≡ o) × ((recorded pairs c.sender c.counter).outcome ≡ Ok tt)

  pub commits : Leaves (replied free (aps_judged c held b)).answer (replied free (aps_judged c held b)).frame (committed pairs c b)
  unfolding committed aps_judged settle
  commits =
      go (equals (incoming held) c.counter) (below (incoming held) c.counter) (ltb (length b) (c.payload + 4)) (chosen c held free b).refused (vouches (chosen c held free b).key c.sender c.counter c.at c.payload b) free refl
    where
      left : {h : Heard} → record { answer = h.answer; frame = h.frame; pairs = pairs } ≡ aps_committed pairs (record { out = h; rows = in_use pairs })
      left {h} = λ i. record { answer = h.answer; frame = h.frame; pairs = sym (unmoved pairs c.sender sixteen few) i }

      go : (t1 t2 t3 t4 t5 r : Bool) → free ≡ r
          → Leaves (replied r (reaction c held free b t1 t2 t3 t4 t5)).answer (replied r (reaction c held free b t1 t2 t3 t4 t5)).frame
          (aps_committed pairs (settle pair_rows 16 (in_use pairs) c.sender (reaction c held free b t1 t2 t3 t4 t5)))
      go true t2 t3 t4 t5 r e = left
      go false true t3 t4 t5 r e = left
      go false false true t4 t5 r e = left
      go false false false true t5 r e = left
      go false false false false false r e = left
      go false false false false true true e = let w = recorded-is pairs c.sender sixteen few c.counter e in (rw (e, w), rw w)
      go false false false false true false e = rw e left

  -- by what the code's calls say: what is held, the room, and what was heard
  module _ (held' : Option PairCell) (is-held : held' ≡ held) (room' : Bool) (is-room : room' ≡ free) (answer : Answer) (frame : List ℕ)
      (is-heard : record { answer = answer; frame = frame } ≡ replied room' (aps_judged c held' b)) where
    leaves : Leaves answer frame (committed pairs c b)
    leaves =
        let e : record { answer = answer; frame = frame } ≡ replied free (aps_judged c held b) = is-heard ∙ (λ i. replied (is-room i) (aps_judged c (is-held i) b)) in
        subst (λ (h : Heard). Leaves h.answer h.frame (committed pairs c b)) (sym e) commits

    pub stays : (why : Refusal) → answer ≡ Err why → record { answer = Err why; frame = frame; pairs = pairs } ≡ committed pairs c b
    stays why e = subst (λ (a : Answer). Leaves a frame (committed pairs c b)) e leaves

    pub opened : (a : Accepted) → answer ≡ Ok a
        → (record { answer = Ok a; frame = frame; pairs = (recorded pairs c.sender c.counter).pairs } ≡ committed pairs c b) × ((recorded pairs c.sender c.counter).outcome ≡ Ok tt)
    opened a e = subst (λ (a : Answer). Leaves a frame (committed pairs c b)) e leaves

-- ---- the whole

module _ (s : Aps) (pairs : Pairs) (b : List ℕ) where
  pub opens-unfit : aps_unfit s pairs ≡ true → unchanged pairs (refused Unsupported b) ≡ open_aps s pairs b
  unfolding open_aps
  opens-unfit u = rw u

  module _ (fits : aps_unfit s pairs ≡ false) where
    pub opens-refused : (why : Refusal) → aps_who b ≡ Err why → unchanged pairs (refused why b) ≡ open_aps s pairs b
    unfolding open_aps aps_placed
    opens-refused why w = rw (fits, w)

    pub opens-told : (a : Accepted) → aps_who b ≡ Ok (who.Told a) → unchanged pairs (record { answer = Ok a; frame = b }) ≡ open_aps s pairs b
    unfolding open_aps aps_placed
    opens-told a w = rw (fits, w)

    pub opens-claim : (c : Claim) → aps_who b ≡ Ok (who.Claims c) → committed pairs c b ≡ open_aps s pairs b
    unfolding open_aps aps_placed committed
    opens-claim c w = rw (fits, w)

-- a state that is taken has no more pair rows in use than there are
pub fit : (level used : ℕ) → (not (eqb level 5) || ltb 16 used) ≡ false → used ≤ 16
fit level used = go (not (eqb level 5)) (ltb 16 used) refl
  where
    go : (t u : Bool) → ltb 16 used ≡ u → (t || u) ≡ false → used ≤ 16
    go true u l e = let z : ◌≡◌ {A = ℕ} 0 1 = cc in absurd (omega arith)
    go false u l e = ltb-false 16 used (l ∙ e)
