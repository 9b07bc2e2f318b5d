-- What is held, and a frame that is too long, on plain lists and records. Assumes nothing.
use Rattle.std.specs.Prelude.{◌≡◌, ℕ, ◌<◌, ◌≤◌, Bool, true, false, cond, List, length, take, nat_lt, slice_index_or, None, Some}
use Rattle.std.proofs.Common.{refl, arith}
use borrow.Author.Tests.{lt-ltb, le-ltb}
use Rattle.answer.specs.declared.Refusal.TheVariants.{Unsupported}
use Rattle.cells.specs.Rows.{has_row, place_of}
use Rattle.cells.proofs.Search.{lent_row, lent-cell}
use Rattle.nib.specs.declared.counters.CounterRow.{CounterRow}
use Rattle.nib.specs.declared.counters.Standing.{Standing}
use Rattle.nib.specs.declared.counters.Standing.TheVariants.{Held, Free, Full, HeldWithoutRoom}
use Rattle.nib.specs.declared.state.Nwk.{Nwk}
use Rattle.nib.specs.Pairs.{Pair}
use Rattle.nib.specs.Counters.{capacity, counter_rows, held_for, empty, standing}
use Rattle.claims.specs.Claims.{nwk_who}
use Rattle.protection.specs.Heard.{refused}
use Rattle.judging.specs.OpenNwk.{open_nwk, nwk_placed, nwk_unfit, unchanged}

-- a row is held where the table has one
abbrev pub is_held : Standing → Bool
is_held (Held row) = true
is_held Free = false
is_held Full = false
is_held (HeldWithoutRoom row) = true

pub has_held : (rows : List CounterRow) (used : ℕ) (k : Pair) → used ≤ capacity (length rows) → has_row counter_rows (take used rows) k ≡ is_held (held_for rows used k)
unfolding held_for
has_held rows used k fits =
    rw (le-ltb (capacity (length rows)) used fits, lent_row counter_rows rows used k empty (omega arith), lent-cell counter_rows rows used k empty (omega arith))
    (by (nat_lt (place_of counter_rows (take used rows) k) used) _)
  where
    by : (b room : Bool) → b ≡ is_held (standing room k (cond b (Some (counter_rows.cell_of (slice_index_or rows (place_of counter_rows (take used rows) k) empty))) None))
    by true room = refl
    by false true = refl
    by false false = refl

-- a frame of more than 1,024 bytes is refused, whatever the state
pub too_long : (s : Nwk) (rows : List CounterRow) (used : ℕ) (body : List ℕ) → 1024 < length body → open_nwk s rows used body ≡ unchanged s rows used (refused Unsupported body)
unfolding open_nwk nwk_placed nwk_who
too_long s rows used body h = rw (lt-ltb 1024 (length body) h) (either (nwk_unfit s rows used))
  where
    either : (b : Bool) → cond b (unchanged s rows used (refused Unsupported body)) (unchanged s rows used (refused Unsupported body)) ≡ unchanged s rows used (refused Unsupported body)
    either true = refl
    either false = refl
