-- What is found, and what advance and record leave, by the place that a search yields. Assumes nothing.
use Rattle.std.specs.Prelude.{◌≡◌, Bool, true, List, ◌++◌, ℕ, suc, ◌+◌, ◌≤◌, ◌<◌, min, length, drop}
use Rattle.std.proofs.Common.{refl, sym, ap, ◌∙◌, arith, add-one, length-set, take-append-drop, take_all, length-take-le, drop-set-lt}
use Rattle.std.proofs.Math.Bool.{false}
use Rattle.std.specs.Prelude.{None, Some, Result, Ok, Err}
use Rattle.std.proofs.Math.Decide.{dec_le}
use Rattle.std.proofs.Math.Dec.{ltb}
use Rattle.std.proofs.Math.ListN.{take, get_or, set}
use borrow.Author.Tests.{lt-ltb, le-ltb, eq-eqb, ne_eqb, eqb-true}
use Rattle.answer.specs.declared.Refusal.{Refusal}
use Rattle.answer.specs.declared.Refusal.TheVariants.{Unsupported, NoPair, CounterSpent, TableFull}
use Rattle.answer.specs.Numbers.{Outcome, giving}
use Rattle.cells.specs.Rows.{is_row, put, place_of, find, room}
use Rattle.cells.proofs.Search.{lent-le, lent_row, lent-cell, lent-put}
use Rattle.aib.specs.declared.pairs.PairRow.{PairRow}
use Rattle.aib.specs.declared.pairs.Pairs.{Pairs}
use Rattle.cells.specs.First.{first_where}
use Rattle.cells.specs.FirstLaws as laws
use Rattle.aib.specs.Pairs.{pair_rows, row_of, cell_in, new_row, may_use, pair_found, usable_found}
use Rattle.aib.specs.Counters.{Advanced, Recorded, advancing, recording, in_use, raised, not_advanced, advanced, heard, not_recorded, recorded}

-- ---- searches

module _ (pairs : Pairs) (d : ℕ) (past : PairRow) (sixteen : length pairs.rows ≡ 16) where
  abbrev some-used : ℕ
  some-used = min pairs.used 16

  -- a count above 16 takes in the 16 rows that there are
  in_use-some_used : in_use pairs ≡ take some-used pairs.rows
  in_use-some_used = at (dec_le pairs.used 16)
    where
      at : Dec (pairs.used ≤ 16) → in_use pairs ≡ take some-used pairs.rows
      at (yes h) = let e : some-used ≡ pairs.used = omega arith in rw e
      at (no h) = let e : some-used ≡ 16 = omega arith in rw (e, take_all pairs.used pairs.rows (omega arith), take_all 16 pairs.rows (omega arith))

  some_fits : some-used ≤ length pairs.rows
  some_fits = omega arith

  abbrev pub found_at : ℕ
  found_at = place_of pair_rows (take some-used pairs.rows) d

  pub found-le : found_at ≤ some-used
  found-le = lent-le pair_rows pairs.rows some-used d past some_fits

  pub not_found : found_at ≡ some-used → None ≡ pair_found pairs d
  unfolding pair_found
  not_found e = rw (in_use-some_used, lent-cell pair_rows pairs.rows some-used d past some_fits, le-ltb found_at some-used (omega arith))

  pub found : found_at < some-used → Some (get_or pairs.rows found_at past) ≡ pair_found pairs d
  unfolding pair_found
  found h =
      let r = get_or pairs.rows found_at past in
      let e : r.device ≡ d = eqb-true r.device d (laws.passes-used (is_row pair_rows d) pairs.rows some-used past some_fits h) in
      rw (in_use-some_used, lent-cell pair_rows pairs.rows some-used d past some_fits, lt-ltb found_at some-used h)
      (λ i. Some (row_of (e i) (cell_in r)))

  abbrev pub usable_at : ℕ
  usable_at = first_where (may_use d) (take some-used pairs.rows)

  pub usable-le : usable_at ≤ some-used
  usable-le = laws.place-le (may_use d) pairs.rows some-used past some_fits

  pub not-usable : usable_at ≡ some-used → None ≡ usable_found pairs d
  unfolding usable_found
  not-usable e = rw (in_use-some_used, laws.none-used (may_use d) pairs.rows some-used past some_fits e)

  pub usable : usable_at < some-used → Some (get_or pairs.rows usable_at past) ≡ usable_found pairs d
  unfolding usable_found
  usable h = rw (in_use-some_used, laws.first-used (may_use d) pairs.rows some-used past some_fits h)

-- ---- advance and record

-- a row with another incoming counter
abbrev pub updated : PairRow → ℕ → PairRow
updated r c = record { device = r.device; attribute = r.attribute; key = r.key; kind = r.kind; outgoing = r.outgoing; incoming = c }

module _ (pairs : Pairs) (d : ℕ) where
  pub advanced-over : 16 < pairs.used → not_advanced Unsupported pairs ≡ advanced pairs d
  unfolding advanced
  advanced-over h = rw (lt-ltb 16 pairs.used h)

  pub recorded-over : (c : ℕ) → 16 < pairs.used → not_recorded Unsupported pairs ≡ recorded pairs d c
  unfolding recorded
  recorded-over c h = rw (lt-ltb 16 pairs.used h)

  module _ (past : PairRow) (sixteen : length pairs.rows ≡ 16) (few : pairs.used ≤ 16) where
    fits : pairs.used ≤ length pairs.rows
    fits = omega arith

    not-over : ltb 16 pairs.used ≡ false
    not-over = le-ltb 16 pairs.used few

    counted : length (in_use pairs) ≡ pairs.used
    counted = length-take-le pairs.used pairs.rows fits

    abbrev pub sends-at : ℕ
    sends-at = first_where (may_use d) (in_use pairs)

    pub sends-le : sends-at ≤ pairs.used
    sends-le = laws.place-le (may_use d) pairs.rows pairs.used past fits

    pub advanced-none : sends-at ≡ pairs.used → not_advanced NoPair pairs ≡ advanced pairs d
    unfolding advanced
    advanced-none e = rw (not-over, laws.none-used (may_use d) pairs.rows pairs.used past fits e)

    module _ (h : sends-at < pairs.used) where
      abbrev sender : PairRow
      sender = get_or pairs.rows sends-at past

      pub advanced-spent : sender.outgoing ≡ 4294967295 → not_advanced CounterSpent pairs ≡ advanced pairs d
      unfolding advanced
      advanced-spent e = rw (not-over, laws.first-used (may_use d) pairs.rows pairs.used past fits h, eq-eqb sender.outgoing 4294967295 e)

      pub advanced-done : (sender.outgoing ≡ 4294967295 → ⊥)
          → record { outcome = Ok tt; counter = sender.outgoing; pairs = record { rows = set pairs.rows sends-at (raised sender); used = pairs.used } } ≡ advanced pairs d
      unfolding advanced
      advanced-done n =
          rw (not-over, laws.first-used (may_use d) pairs.rows pairs.used past fits h, ne_eqb sender.outgoing 4294967295 n, laws.changed-length (may_use d) pairs.rows pairs.used past fits h raised, laws.changed-used (may_use d) pairs.rows pairs.used past fits h raised)

    -- ---- record

    abbrev pub heard-at : ℕ
    heard-at = place_of pair_rows (in_use pairs) d

    pub heard-le : heard-at ≤ pairs.used
    heard-le = lent-le pair_rows pairs.rows pairs.used d past fits

    roomy : Bool
    roomy = room pair_rows 16 (in_use pairs) d

    with_row : heard-at < pairs.used → roomy ≡ true
    unfolding roomy room
    with_row h = rw (lent_row pair_rows pairs.rows pairs.used d past fits, lt-ltb heard-at pairs.used h)

    with_none : heard-at ≡ pairs.used → roomy ≡ ltb pairs.used 16
    unfolding roomy room
    with_none e = rw (lent_row pair_rows pairs.rows pairs.used d past fits, le-ltb heard-at pairs.used (omega arith), counted)

    module _ (c : ℕ) where
      -- the device's row is written where it stands, or after the last
      written : (m : ℕ) (x : PairRow) (rs : List PairRow) → heard-at < m → m ≤ length pairs.rows → rs ≡ take m (set pairs.rows heard-at x)
          → (length rs ≡ m) × (rs ++ drop m pairs.rows ≡ set pairs.rows heard-at x)
      written m x rs h g e =
          let l : length (take m (set pairs.rows heard-at x)) ≡ m = length-take-le m (set pairs.rows heard-at x) (rw length-set g) in
          (ap length e ∙ l, rw (e, sym (drop-set-lt m pairs.rows heard-at x h), take-append-drop))

      pub recorded-full : heard-at ≡ 16 → not_recorded TableFull pairs ≡ recorded pairs d c
      unfolding recorded roomy
      recorded-full e =
          let q : heard-at ≡ pairs.used = omega (arith, heard-le) in
          rw (not-over, with_none q, le-ltb pairs.used 16 (omega arith))

      pub recorded-new : heard-at ≡ pairs.used → (heard-at ≡ 16 → ⊥)
          → record { outcome = Ok tt; pairs = record { rows = set pairs.rows heard-at (new_row d c); used = pairs.used + 1 } } ≡ recorded pairs d c
      unfolding recorded roomy
      recorded-new q n =
          let t : ltb heard-at pairs.used ≡ false = le-ltb heard-at pairs.used (omega arith) in
          let e : put pair_rows (in_use pairs) d (heard (find pair_rows (in_use pairs) d) c) ≡ take (suc pairs.used) (set pairs.rows heard-at (new_row d c)) =
          lent-put pair_rows pairs.rows pairs.used d past fits (heard (find pair_rows (in_use pairs) d) c) (omega arith)
          ∙ rw (lent-cell pair_rows pairs.rows pairs.used d past fits, t) in
          let w = written (suc pairs.used) (new_row d c) (put pair_rows (in_use pairs) d (heard (find pair_rows (in_use pairs) d) c)) (omega arith) (omega arith) e in
          rw (not-over, with_none q, lt-ltb pairs.used 16 (omega arith), w.0, w.1, add-one)

      abbrev known : PairRow
      known = get_or pairs.rows heard-at past

      pub recorded-old : heard-at < pairs.used
          → record { outcome = Ok tt; pairs = record { rows = set pairs.rows heard-at (updated known c); used = pairs.used } } ≡ recorded pairs d c
      unfolding recorded roomy
      recorded-old h =
          let q : known.device ≡ d = eqb-true known.device d (laws.passes-used (is_row pair_rows d) pairs.rows pairs.used past fits h) in
          let e : put pair_rows (in_use pairs) d (heard (find pair_rows (in_use pairs) d) c) ≡ take pairs.used (set pairs.rows heard-at (row_of d (heard (Some (cell_in known)) c))) =
          lent-put pair_rows pairs.rows pairs.used d past fits (heard (find pair_rows (in_use pairs) d) c) (omega arith)
          ∙ rw (lent-cell pair_rows pairs.rows pairs.used d past fits, lt-ltb heard-at pairs.used h) in
          let w = written pairs.used (row_of d (heard (Some (cell_in known)) c)) (put pair_rows (in_use pairs) d (heard (find pair_rows (in_use pairs) d) c)) h fits e in
          rw (not-over, with_row h, w.0, w.1) (λ i. record { outcome = Ok tt; pairs = record { rows = set pairs.rows heard-at (row_of (q i) (heard (Some (cell_in known)) c)); used = pairs.used } })

-- ---- a promise of what a call leaves allows one answer, and one content of the pairs

abbrev told : Advanced → Result ℕ Refusal
told a = giving a.outcome a.counter

told-back : (r : Result ℕ Refusal) (l : Pairs) → (told (advancing r l) ≡ r) × ((advancing r l).pairs ≡ l)
told-back (Ok n) l = (refl, refl)
told-back (Err why) l = (refl, refl)

pub one_advanced : (after : Advanced) (r r' : Result ℕ Refusal) (l l' : Pairs) → advancing r l ≡ after → advancing r' l' ≡ after → (r ≡ r') × (l ≡ l')
one_advanced after r r' l l' e e' =
    let same : advancing r l ≡ advancing r' l' = e ∙ sym e' in
    let a = told-back r l in
    let b = told-back r' l' in
    (sym a.0 ∙ ap told same ∙ b.0, sym a.1 ∙ ap (λ (x : Advanced). x.pairs) same ∙ b.1)

pub one_recorded : (after : Recorded) (r r' : Outcome) (l l' : Pairs) → recording r l ≡ after → recording r' l' ≡ after → (r ≡ r') × (l ≡ l')
one_recorded after r r' l l' e e' =
    let same : recording r l ≡ recording r' l' = e ∙ sym e' in
    ((λ i. (same i).outcome), (λ i. (same i).pairs))
