-- What forgetting does, in words: no row of that number is left, and the others stay in their order.
use Rattle.std.specs.Prelude.{◌≡◌, ℕ, true, List, take, ◌==◌, ◌≢◌}
use mathlib.Core.List.{Memᴰ as Mem, Sublistᴰ as Sublist}
use Rattle.std.proofs.lemmas.Bool.{eqb-false, not-true}
use Rattle.cells.specs.ListLaws.{keep-part, keep-mem, keep_taken}
use Rattle.nib.specs.declared.counters.CounterRow.{CounterRow}
use Rattle.nib.specs.Counters.{stays, kept}

module _ (n used : ℕ) (rows : List CounterRow) where
  pub none_left : (r : CounterRow) → Mem r (kept n used rows) → r.number ≢ n
  none_left r m = eqb-false r.number n (not-true (r.number == n) (keep_taken (stays n) (take used rows) m))

  pub others-stay : (r : CounterRow) → Mem r (take used rows) → stays n r ≡ true → Mem r (kept n used rows)
  others-stay r m e = keep-mem (stays n) m e

  pub in_order : Sublist (kept n used rows) (take used rows)
  in_order = keep-part (stays n) (take used rows)
