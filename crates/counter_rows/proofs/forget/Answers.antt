-- `counter_rows::forget` meets its contract: a row goes, or stays and moves up; and at the end the gaps are closed. Assumes nothing.
use Rattle.std.proofs.Common.{◌≡◌, Ok, ◌<◌, ◌≤◌, ◌-◌, ◌+◌, ℕ, List, true, false, not, length, get_or, set, refl, sym, ap, ◌∙◌, arith, eq-eqb, ne_eqb}
use Rattle.cells.specs.Lists.{keep}
use Rattle.nib.specs.declared.counters.CounterRow.{CounterRow}
use Rattle.nib.specs.Counters.{empty, kept, closed, stays, After}
use Rattle.nib.proofs.CounterLaws.{forgotten-over, forgotten-closed}
use Rattle.nib.specs.Gaps.{state, at-start, at-end, row_is, goes as goes_up, goes-count, moves as moves_up, moves-count}
use Rattle.counter_rows.proofs.forget.Goals as goal
use Rattle.counter_rows.proofs.forget.Goals.{then-row-number, else-row-number}

module _ (n i k : ℕ) (ys zs : List CounterRow) (zero : CounterRow) (z : zero ≡ empty) (counts : k ≡ length (kept n i ys)) (fewer : k ≤ i) (below : i < length ys) (rows : zs ≡ state n ys i (i - k)) where
  e : length (kept n i ys) + (i - k) ≡ i
  e = omega arith

  row : get_or zs i empty ≡ get_or ys i empty
  row = ap (λ (l : List CounterRow). get_or l i empty) rows ∙ row_is n ys i (i - k) e below

  emptied : set zs i zero ≡ set (state n ys i (i - k)) i empty
  emptied = λ t. set (rows t) i (z t)

  goes : (get_or zs i empty).number ≡ n → (k ≡ length (kept n (i + 1) ys)) × (set zs i zero ≡ state n ys (i + 1) (i + 1 - k))
  goes h =
      let t : stays n (get_or ys i empty) ≡ false = ap not (eq-eqb _ _ (sym (ap (λ (r : CounterRow). r.number) row) ∙ h)) in
      let g : (i - k) + 1 ≡ i + 1 - k = omega arith in
      (counts ∙ sym (goes-count n ys i (i - k) e below t), emptied ∙ goes_up n ys i (i - k) e below t ∙ ap (state n ys (i + 1)) g)

  moves : ((get_or zs i empty).number ≡ n → ⊥) → (k + 1 ≡ length (kept n (i + 1) ys)) × (set (set zs i zero) k (get_or zs i empty) ≡ state n ys (i + 1) (i + 1 - (k + 1)))
  moves h =
      let t : stays n (get_or ys i empty) ≡ true = ap not (ne_eqb _ _ (λ q. h (ap (λ (r : CounterRow). r.number) row ∙ q))) in
      let g : i - k ≡ i + 1 - (k + 1) = omega arith in (
        ap (λ (j : ℕ). j + 1) counts ∙ sym (moves-count n ys i (i - k) e below t),
        (λ j. set (emptied j) (counts j) (row j)) ∙ moves_up n ys i (i - k) e below t ∙ ap (state n ys (i + 1)) g,
      )

ends : (n used i k : ℕ) (ys zs : List CounterRow) → i ≡ used → k ≡ length (kept n i ys) → k ≤ i → zs ≡ state n ys i (i - k)
    → ◌≡◌ {A = After} (record { outcome = Ok tt; used = k; rows = zs }) (record { outcome = Ok tt; used = length (kept n used ys); rows = closed n used ys })
ends n used i k ys zs e counts fewer rows =
    let h : length (kept n i ys) + (i - k) ≡ i = omega arith in
    (λ t. record { outcome = Ok tt; used = counts t; rows = (rows ∙ at-end n ys i (i - k) h) t })
    ∙ ap (λ (j : ℕ). record { outcome = Ok tt; used = length (kept n j ys); rows = closed n j ys }) e

pub returns-then-capacity-used : goal.returns-then-capacity-used
returns-then-capacity-used c = sym (forgotten-over c.args.rows.now c.args.used c.args.number (rw c.capacity.ensures at c.if-capacity-used.true))

pub loop-i-init : goal.loop-i-init
unfolding keep
loop-i-init c = record { fewer = omega arith; counts = refl; rows = sym (at-start c.args.number c.args.rows.now) }

pub loop-i-preserved : goal.loop-i-preserved
loop-i-preserved c =
    let x = c.args in
    let l = c.loop-i in
    let i = l.invariant in
    let below : l.i < length x.rows.now = omega arith in
    elim c.if-row-number.branch [
      | then-row-number w ↦ (
          let m = moves x.number l.i l.kept x.rows.now l.rows c.empty_row-empty.result c.empty_row-empty.ensures i.counts i.fewer below i.rows w.if-row-number.true in
          record { fewer = omega arith; counts = w.kept-is ∙ m.0; rows = w.rows-is ∙ m.1 ∙ ap (λ (j : ℕ). state x.number x.rows.now (l.i + 1) (l.i + 1 - j)) (sym w.kept-is) })
      | else-row-number w ↦ (
          let g = goes x.number l.i l.kept x.rows.now l.rows c.empty_row-empty.result c.empty_row-empty.ensures i.counts i.fewer below i.rows w.if-row-number.false in
          record { fewer = omega arith; counts = w.kept-is ∙ g.0; rows = w.rows-is ∙ g.1 ∙ ap (λ (j : ℕ). state x.number x.rows.now (l.i + 1) (l.i + 1 - j)) (sym w.kept-is) })
    ]

pub returns : goal.returns
returns c =
    let x = c.args in
    let l = c.loop-i in
    ends x.number x.used l.i l.kept x.rows.now l.rows (omega arith) l.invariant.counts l.invariant.fewer l.invariant.rows
    ∙ sym (forgotten-closed x.rows.now x.used x.number (rw c.capacity.ensures at c.if-capacity-used.false))
