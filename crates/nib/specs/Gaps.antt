-- Closing gaps: what the rows are when the first i have been gone through and g places have been given up. Assumes nothing.
use Rattle.std.specs.Prelude.{◌≡◌, ℕ, zero, suc, ◌+◌, ◌-◌, ◌<◌, ◌≤◌, Bool, true, false, cond, List, [], ◌∷◌, ◌++◌, length, get_or, take, drop, set, replicate, slice_index_or, slice_set}
use Rattle.std.proofs.Common.{arith, add-one, sym, ◌∙◌, length-append, length-drop, take-suc, drop-cons}
use Rattle.std.proofs.Math.Path.{refl, ap}
use mathlib.Core.List.{append_assoc, append-nil}
use Rattle.std.proofs.lemmas.List.{length-replicate, set_at, get_or_at}
use Rattle.cells.specs.Lists.{keep}
use Rattle.nib.specs.declared.counters.CounterRow.{CounterRow}
use Rattle.nib.specs.Counters.{empty, stays, kept, closed}

keep_append : (t : CounterRow → Bool) (l m : List CounterRow) → keep t (l ++ m) ≡ keep t l ++ keep t m
unfolding keep
keep_append t [] m = refl
keep_append t (r ∷ l) m = at (t r) (keep_append t l m)
  where
    at : (b : Bool) → keep t (l ++ m) ≡ keep t l ++ keep t m → cond b (r ∷ keep t (l ++ m)) (keep t (l ++ m)) ≡ cond b (r ∷ keep t l) (keep t l) ++ keep t m
    at true h = ap (λ (z : List CounterRow). r ∷ z) h
    at false h = h

-- an empty row after g of them is one before them
through : (g : ℕ) (l : List CounterRow) → replicate g empty ++ (empty ∷ l) ≡ empty ∷ (replicate g empty ++ l)
through zero l = refl
through (suc g) l = ap (λ (z : List CounterRow). empty ∷ z) (through g l)

module _ (n : ℕ) (rows : List CounterRow) where
  abbrev pub state : ℕ → ℕ → List CounterRow
  state i g = kept n i rows ++ (replicate g empty ++ drop i rows)

  pub at-start : state 0 0 ≡ rows
  unfolding keep
  at-start = refl

  pub state-length : (i g : ℕ) → length (kept n i rows) + g ≡ i → i ≤ length rows → length (state i g) ≡ length rows
  state-length i g e h = simp (length-append, length-replicate, length-drop) (omega arith)

  pub at-end : (used g : ℕ) → length (kept n used rows) + g ≡ used → state used g ≡ closed n used rows
  at-end used g e =
      let h : g ≡ used - length (kept n used rows) = omega arith in
      ap (λ (m : ℕ). kept n used rows ++ (replicate m empty ++ drop used rows)) h

  module _ (i g : ℕ) (e : length (kept n i rows) + g ≡ i) (below : i < length rows) where
    abbrev front : List CounterRow
    front = kept n i rows ++ replicate g empty

    abbrev row : CounterRow
    row = slice_index_or rows i empty

    front_length : length front ≡ i
    front_length = simp (length-append, length-replicate) e

    split : state i g ≡ front ++ (row ∷ drop (suc i) rows)
    split = sym (append_assoc (kept n i rows) (replicate g empty) (drop i rows)) ∙ ap (λ (z : List CounterRow). front ++ z) (drop-cons rows i empty below)

    -- the row at i is as it was
    pub row_is : get_or (state i g) i empty ≡ row
    row_is = ap (λ (z : List CounterRow). get_or z i empty) split ∙ get_or_at front row (drop (suc i) rows) empty i front_length

    -- an empty row in its place
    emptied : set (state i g) i empty ≡ kept n i rows ++ (empty ∷ (replicate g empty ++ drop (suc i) rows))
    emptied =
        ap (λ (z : List CounterRow). set z i empty) split ∙ set_at front row (drop (suc i) rows) empty i front_length
        ∙ append_assoc (kept n i rows) (replicate g empty) (empty ∷ drop (suc i) rows) ∙ ap (λ (z : List CounterRow). kept n i rows ++ z) (through g (drop (suc i) rows))

    next : kept n (suc i) rows ≡ kept n i rows ++ keep (stays n) (row ∷ [])
    next = ap (keep (stays n)) (take-suc rows i empty below) ∙ keep_append (stays n) (take i rows) (row ∷ [])

    -- the row goes
    module _ (t : stays n row ≡ false) where
      kept_same : kept n (suc i) rows ≡ kept n i rows
      unfolding keep
      kept_same = next ∙ ap (λ (b : Bool). kept n i rows ++ cond b (row ∷ []) []) t ∙ append-nil (kept n i rows)

      pub goes : set (state i g) i empty ≡ state (i + 1) (g + 1)
      goes = rw (add-one i, add-one g) (emptied ∙ ap (λ (z : List CounterRow). z ++ (empty ∷ (replicate g empty ++ drop (suc i) rows))) (sym kept_same))

      pub goes-count : length (kept n (i + 1) rows) ≡ length (kept n i rows)
      goes-count = rw (add-one i) (ap length kept_same)

    -- the row stays, and moves up
    module _ (t : stays n row ≡ true) where
      kept_more : kept n (suc i) rows ≡ kept n i rows ++ (row ∷ [])
      unfolding keep
      kept_more = next ∙ ap (λ (b : Bool). kept n i rows ++ cond b (row ∷ []) []) t

      pub moves : set (slice_set (state i g) i empty) (length (kept n i rows)) row ≡ state (i + 1) g
      moves =
          rw (add-one i)
          (ap (λ (z : List CounterRow). set z (length (kept n i rows)) row) emptied
          ∙ set_at (kept n i rows) empty (replicate g empty ++ drop (suc i) rows) row (length (kept n i rows)) refl
          ∙ sym (append_assoc (kept n i rows) (row ∷ []) (replicate g empty ++ drop (suc i) rows))
          ∙ ap (λ (z : List CounterRow). z ++ (replicate g empty ++ drop (suc i) rows)) (sym kept_more))

      pub moves-count : length (kept n (i + 1) rows) ≡ length (kept n i rows) + 1
      moves-count = rw (add-one i) (ap length kept_more ∙ length-append (kept n i rows) (row ∷ []))
