-- The counters of a pair (document 01, 'Called alone'): what advance and record answer and leave.
use Rattle.std.specs.Prelude.{cond, List, ◌++◌, ℕ, ◌+◌, eqb, ltb, length, take, drop}
use Rattle.std.specs.Prelude.{Option, None, Some, Result, Ok, Err}
use Rattle.answer.specs.declared.Refusal.{Refusal}
use Rattle.answer.specs.declared.Refusal.TheVariants.{Unsupported, NoPair, CounterSpent, TableFull}
use Rattle.answer.specs.Numbers.{Outcome}
use Rattle.cells.specs.Rows.{find, put, room}
use Rattle.aib.specs.declared.pairs.PairRow.{PairRow}
use Rattle.aib.specs.declared.pairs.Pairs.{Pairs}
use Rattle.cells.specs.First.{first, at_first}
use Rattle.aib.specs.Pairs.{PairCell, pair_rows, new_pair, may_use}

abbrev pub in_use : Pairs → List PairRow
in_use pairs = take pairs.used pairs.rows

-- the rows `table` are in use now; the rows past them stay as they were
abbrev pub holding : List PairRow → Pairs → Pairs
holding table pairs = record { rows = table ++ drop (length table) pairs.rows; used = length table }

-- ---- advance: a refusal changes nothing; else the row that securing would use has its outgoing counter raised by 1

abbrev pub raised : PairRow → PairRow
raised r = record { device = r.device; attribute = r.attribute; key = r.key; kind = r.kind; outgoing = r.outgoing + 1; incoming = r.incoming }

-- the outcome, the counter taken (0 where it is a refusal), and the pairs after it
pub record Advanced : Type 0 where
  pub outcome : Outcome
  pub counter : ℕ
  pub pairs : Pairs

abbrev pub not_advanced : Refusal → Pairs → Advanced
not_advanced why pairs = record { outcome = Err why; counter = 0; pairs = pairs }

-- the answer r, and the pairs as they are then
abbrev pub advancing : Result ℕ Refusal → Pairs → Advanced
advancing (Ok n) pairs = record { outcome = Ok tt; counter = n; pairs = pairs }
advancing (Err why) pairs = not_advanced why pairs

abbrev pub advanced_by : Pairs → ℕ → Option PairRow → Advanced
advanced_by pairs d None = not_advanced NoPair pairs
advanced_by pairs d (Some r) =
    cond (eqb r.outgoing 4294967295) (not_advanced CounterSpent pairs)
    (record { outcome = Ok tt; counter = r.outgoing; pairs = holding (at_first (may_use d) raised (in_use pairs)) pairs })

unfoldable pub advanced : Pairs → ℕ → Advanced
advanced pairs d = cond (ltb 16 pairs.used) (not_advanced Unsupported pairs) (advanced_by pairs d (first (may_use d) (in_use pairs)))

-- ---- record: a refusal changes nothing; else the device's incoming counter is set; a device not known gets a row as on opening

abbrev pub heard : Option PairCell → ℕ → PairCell
heard None c = new_pair c
heard (Some p) c = record { attribute = p.attribute; key = p.key; kind = p.kind; outgoing = p.outgoing; incoming = c }

-- the outcome, and the pairs after it
pub record Recorded : Type 0 where
  pub outcome : Outcome
  pub pairs : Pairs

abbrev pub recording : Outcome → Pairs → Recorded
recording r pairs = record { outcome = r; pairs = pairs }

abbrev pub not_recorded : Refusal → Pairs → Recorded
not_recorded why pairs = record { outcome = Err why; pairs = pairs }

unfoldable pub recorded : Pairs → ℕ → ℕ → Recorded
recorded pairs d c =
    cond (ltb 16 pairs.used) (not_recorded Unsupported pairs)
    (cond (room pair_rows 16 (in_use pairs) d)
    (record { outcome = Ok tt; pairs = holding (put pair_rows (in_use pairs) d (heard (find pair_rows (in_use pairs) d) c)) pairs })
    (not_recorded TableFull pairs))
