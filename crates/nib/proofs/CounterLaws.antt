-- What is held and what a call leaves, by the place that a search yields. Assumes nothing.
use Rattle.std.specs.Prelude.{◌≡◌, ℕ, suc, ◌+◌, ◌<◌, ◌≤◌, Bool, true, false, cond, ltb, Option, None, Some, Result, Ok, Err, is_ok, position, List, ◌++◌, length, take, drop, nat_lt, slice_index_or, slice_set, refl}
use Rattle.std.proofs.Common.{sym, ap, ◌∙◌, true≢false, arith, add-one, length-set, take-append-drop, length-take-le, drop-set-lt}
use Rattle.std.proofs.Math.Decide.{dec_le}
use Rattle.std.proofs.Math.Seq.{take-append_seam}
use borrow.Author.Tests.{lt-ltb, le-ltb}
use Rattle.answer.specs.declared.Refusal.{Refusal}
use Rattle.answer.specs.declared.Refusal.TheVariants.{Unsupported, TableFull}
use Rattle.answer.specs.Numbers.{giving}
use Rattle.cells.specs.FirstLaws.{passes-used}
use Rattle.cells.specs.Rows.{is_row, put, place_of, room}
use Rattle.cells.proofs.Search.{lent-le, lent_row, lent-cell, lent-put, place-some, place-none}
use Rattle.nib.specs.declared.counters.CounterRow.{CounterRow}
use Rattle.nib.specs.declared.counters.Standing.TheVariants.{Held, Free, Full}
use Rattle.nib.specs.Pairs.{Pair, same-pair-eq}
use Rattle.nib.specs.Counters.{Cell, counter_rows, row_pair, row_cell, row_of, capacity, overfull, held_for, over, After, left, refused, placed, settled, empty, kept, closed, forgotten}

module _ (rows : List CounterRow) (used : ℕ) (k : Pair) where
  abbrev pub at : ℕ
  at = place_of counter_rows (take used rows) k

  pub held-over : capacity (length rows) < used → held_for rows used k ≡ Full
  unfolding held_for
  held-over h = rw (lt-ltb (capacity (length rows)) used h)

  module _ (c : Cell) where
    pub placed-over : capacity (length rows) < used → placed rows used k c ≡ refused Unsupported used rows
    unfolding placed
    placed-over h = rw (lt-ltb (capacity (length rows)) used h)

  module _ (fits : used ≤ capacity (length rows)) where
    in_use : used ≤ length rows
    in_use = omega arith

    counted : length (take used rows) ≡ used
    counted = length-take-le used rows in_use

    not-over : overfull rows used ≡ false
    not-over = le-ltb (capacity (length rows)) used fits

    pub at-le : at ≤ used
    at-le = lent-le counter_rows rows used k empty in_use

    -- whether there is a row for k, or room for one
    roomy : Bool
    roomy = room counter_rows (capacity (length rows)) (take used rows) k

    with_row : at < used → roomy ≡ true
    unfolding roomy room
    with_row h = rw (lent_row counter_rows rows used k empty in_use, lt-ltb at used h)

    with_none : at ≡ used → roomy ≡ nat_lt used (capacity (length rows))
    unfolding roomy room
    with_none e =
        let t : ltb at used ≡ false = le-ltb at used (omega arith) in
        rw (lent_row counter_rows rows used k empty in_use, t, counted)

    pub held-row : at < used → held_for rows used k ≡ Held (slice_index_or rows at empty)
    unfolding held_for roomy
    held-row h =
        let q : row_pair (slice_index_or rows at empty) ≡ k = same-pair-eq _ k (passes-used (is_row counter_rows k) rows used empty in_use h) in
        rw (not-over, with_row h, lent-cell counter_rows rows used k empty in_use, lt-ltb at used h) (λ i. Held (row_of (sym q i) (row_cell (slice_index_or rows at empty))))

    pub held_none : at ≡ used → held_for rows used k ≡ cond (nat_lt used (capacity (length rows))) Free Full
    unfolding held_for roomy
    held_none e =
        let t : ltb at used ≡ false = le-ltb at used (omega arith) in
        rw (not-over, with_none e, lent-cell counter_rows rows used k empty in_use, t)

    module _ (c : Cell) where
      abbrev made : CounterRow
      made = row_of k c

      pub placed-full : at ≡ used → used ≡ capacity (length rows) → placed rows used k c ≡ refused TableFull used rows
      unfolding placed roomy
      placed-full e f =
          let t : ltb used (capacity (length rows)) ≡ false = le-ltb used (capacity (length rows)) (omega arith) in
          rw (not-over, with_none e, t)

      -- k's row is written where it stands, or after the last
      written : (m : ℕ) → at < m → m ≤ length rows → put counter_rows (take used rows) k c ≡ take m (slice_set rows at made)
          → (length (put counter_rows (take used rows) k c) ≡ m) × (put counter_rows (take used rows) k c ++ drop m rows ≡ slice_set rows at made)
      written m h g e =
          let l : length (take m (slice_set rows at made)) ≡ m = length-take-le m (slice_set rows at made) (rw length-set g) in
          (ap length e ∙ l, rw (e, sym (drop-set-lt m rows at made h), take-append-drop))

      pub placed-old : at < used → placed rows used k c ≡ record { outcome = Ok tt; used = used; rows = slice_set rows at made }
      unfolding placed roomy
      placed-old h =
          let e : put counter_rows (take used rows) k c ≡ take used (slice_set rows at made) = lent-put counter_rows rows used k empty in_use c (omega arith) ∙ rw (lt-ltb at used h) in
          let w = written used h in_use e in
          rw (not-over, with_row h, w.0, w.1)

      pub placed-new : at ≡ used → used < capacity (length rows) → placed rows used k c ≡ record { outcome = Ok tt; used = used + 1; rows = slice_set rows at made }
      unfolding placed roomy
      placed-new q h =
          let t : ltb at used ≡ false = le-ltb at used (omega arith) in
          let e : put counter_rows (take used rows) k c ≡ take (suc used) (slice_set rows at made) = lent-put counter_rows rows used k empty in_use c (omega arith) ∙ rw t in
          let w = written (suc used) (omega arith) (omega arith) e in
          rw (not-over, with_none q, lt-ltb used (capacity (length rows)) h, w.0, w.1, add-one)

-- ---- the same, by what `position` gives of the rows in use

module _ (rows : List CounterRow) (used : ℕ) (k : Pair) (fits : used ≤ capacity (length rows)) where
  in_use_lent : used ≤ length rows
  in_use_lent = omega arith

  abbrev pub seen : Option ℕ
  seen = position (is_row counter_rows k) (take used rows)

  pub held_here : (i : ℕ) → seen ≡ Some i → Held (slice_index_or rows i empty) ≡ held_for rows used k
  held_here i e =
      let p = place-some counter_rows rows used k empty in_use_lent i e in
      ap (λ (j : ℕ). Held (slice_index_or rows j empty)) (sym p.0) ∙ sym (held-row rows used k fits (rw (sym p.0) at p.1))

  pub held_free : seen ≡ None → used < capacity (length rows) → Free ≡ held_for rows used k
  held_free e h =
      sym (held_none rows used k fits (place-none counter_rows rows used k empty in_use_lent e) ∙ ap (λ (b : Bool). cond b Free Full) (lt-ltb used (capacity (length rows)) h))

  pub held_full : seen ≡ None → capacity (length rows) ≤ used → Full ≡ held_for rows used k
  held_full e h =
      sym (held_none rows used k fits (place-none counter_rows rows used k empty in_use_lent e) ∙ ap (λ (b : Bool). cond b Free Full) (le-ltb used (capacity (length rows)) h))

  module _ (c : Cell) where
    pub placed_here : (i : ℕ) → seen ≡ Some i → record { outcome = Ok tt; used = used; rows = slice_set rows i (row_of k c) } ≡ placed rows used k c
    placed_here i e =
        let p = place-some counter_rows rows used k empty in_use_lent i e in
        (λ j. record { outcome = Ok tt; used = used; rows = slice_set rows (sym p.0 j) (row_of k c) }) ∙ sym (placed-old rows used k fits c (rw (sym p.0) at p.1))

    pub placed_last : seen ≡ None → used < capacity (length rows) → record { outcome = Ok tt; used = used + 1; rows = slice_set rows used (row_of k c) } ≡ placed rows used k c
    placed_last e h =
        let p = place-none counter_rows rows used k empty in_use_lent e in
        (λ j. record { outcome = Ok tt; used = used + 1; rows = slice_set rows (sym p j) (row_of k c) }) ∙ sym (placed-new rows used k fits c p h)

    pub placed_none : seen ≡ None → capacity (length rows) ≤ used → refused TableFull used rows ≡ placed rows used k c
    placed_none e h = sym (placed-full rows used k fits c (place-none counter_rows rows used k empty in_use_lent e) (omega arith))

-- ---- forgetting

module _ (rows : List CounterRow) (used n : ℕ) where
  pub forgotten-over : capacity (length rows) < used → forgotten rows used n ≡ refused Unsupported used rows
  unfolding forgotten
  forgotten-over h = rw (lt-ltb (capacity (length rows)) used h)

  pub forgotten-closed : used ≤ capacity (length rows) → forgotten rows used n ≡ record { outcome = Ok tt; used = length (kept n used rows); rows = closed n used rows }
  unfolding forgotten
  forgotten-closed h = rw (le-ltb (capacity (length rows)) used h)

-- ---- a refusal leaves the rows and the count in use as they were

module _ (rows : List CounterRow) (used : ℕ) where
  abbrev Stays : After → Type 0
  Stays a = (why : Refusal) → a.outcome ≡ Err why → (used ≡ a.used) × (rows ≡ a.rows)

  placed-stays : (k : Pair) (c : Cell) → Stays (placed rows used k c)
  unfolding placed
  placed-stays k c = go (overfull rows used) (room counter_rows (capacity (length rows)) (take used rows) k)
    where
      table : List CounterRow
      table = put counter_rows (take used rows) k c

      go : (b d : Bool) → Stays (cond b (refused Unsupported used rows) (cond d (record { outcome = Ok tt; used = length table; rows = over table rows }) (refused TableFull used rows)))
      go true d why e = (refl, refl)
      go false true why e = absurd (true≢false (ap is_ok e))
      go false false why e = (refl, refl)

  settled-stays : (change : Option CounterRow) → Stays (settled rows used change)
  unfolding settled
  settled-stays None why e = absurd (true≢false (ap is_ok e))
  settled-stays (Some row) why e = placed-stays (row_pair row) (row_cell row) why e

  forgotten-stays : (n : ℕ) → Stays (forgotten rows used n)
  unfolding forgotten
  forgotten-stays n = go (overfull rows used)
    where
      go : (b : Bool) → Stays (cond b (refused Unsupported used rows) (record { outcome = Ok tt; used = length (kept n used rows); rows = closed n used rows }))
      go true why e = (refl, refl)
      go false why e = absurd (true≢false (ap is_ok e))

  unmoved : (a : After) → Stays a → (why : Refusal) (l : List CounterRow) → refused why used l ≡ a → refused why used rows ≡ a
  unmoved a s why l e =
      let p = s why (sym (ap (λ (x : After). x.outcome) e)) in
      λ i. record { outcome = (e i).outcome; used = p.0 i; rows = p.1 i }

  pub settled-unmoved : (change : Option CounterRow) (why : Refusal) (l : List CounterRow) → refused why used l ≡ settled rows used change
      → refused why used rows ≡ settled rows used change
  settled-unmoved change = unmoved (settled rows used change) (settled-stays change)

  pub forgotten-unmoved : (n : ℕ) (why : Refusal) (l : List CounterRow) → refused why used l ≡ forgotten rows used n → refused why used rows ≡ forgotten rows used n
  forgotten-unmoved n = unmoved (forgotten rows used n) (forgotten-stays n)

-- ---- a promise of what a call leaves allows one answer, and one content of the rows

-- what is left says what was answered, and the rows
abbrev told : After → Result ℕ Refusal
told a = giving a.outcome a.used

told-back : (r : Result ℕ Refusal) (used : ℕ) (l : List CounterRow) → (told (left r used l) ≡ r) × ((left r used l).rows ≡ l)
told-back (Ok n) used l = (refl, refl)
told-back (Err why) used l = (refl, refl)

pub one : (after : After) (used : ℕ) (r r' : Result ℕ Refusal) (l l' : List CounterRow) → left r used l ≡ after → left r' used l' ≡ after → (r ≡ r') × (l ≡ l')
one after used r r' l l' e e' =
    let same : left r used l ≡ left r' used l' = e ∙ sym e' in
    let a = told-back r used l in
    let b = told-back r' used l' in
    (sym a.0 ∙ ap told same ∙ b.0, sym a.1 ∙ ap (λ (x : After). x.rows) same ∙ b.1)

-- ---- recording loses and adds no row of those lent, and what is in use after it is the table

module _ (rows : List CounterRow) (used : ℕ) (k : Pair) (c : Cell) where
  pub placed-length : length (placed rows used k c).rows ≡ length rows
  placed-length = at_all (dec_le used (capacity (length rows)))
    where
      many : (a : After) → placed rows used k c ≡ a → length a.rows ≡ length rows → length (placed rows used k c).rows ≡ length rows
      many a e l = ap (λ (x : After). length x.rows) e ∙ l

      new : (fits : used ≤ capacity (length rows)) → at rows used k ≡ used → Dec (used < capacity (length rows)) → length (placed rows used k c).rows ≡ length rows
      new fits e (yes h) = many _ (placed-new rows used k fits c e h) (length-set rows (at rows used k) _)
      new fits e (no h) = many _ (placed-full rows used k fits c e (omega arith)) refl

      old : (fits : used ≤ capacity (length rows)) → Dec (at rows used k < used) → length (placed rows used k c).rows ≡ length rows
      old fits (yes h) = many _ (placed-old rows used k fits c h) (length-set rows (at rows used k) _)
      old fits (no h) = new fits (omega (arith, at-le rows used k fits)) (dec_le (suc used) (capacity (length rows)))

      at_all : Dec (used ≤ capacity (length rows)) → length (placed rows used k c).rows ≡ length rows
      at_all (yes fits) = old fits (dec_le (suc (at rows used k)) used)
      at_all (no h) = many _ (placed-over rows used k c (omega arith)) refl

-- a table put over the rows is what is in use
pub over-used : (table rows : List CounterRow) → take (length table) (over table rows) ≡ table
over-used table rows = take-append_seam table (drop (length table) rows)
