-- The counters heard (document 01, 'The state' and 'Called alone'): a table of rows, each for a key number and a sender. The
-- rows are lent, and the first `used` of them are in use.
use Rattle.std.specs.Prelude.{ℕ, ◌-◌, min, Bool, cond, not, List, ◌++◌, length, take, drop, replicate, ◌==◌, nat_lt, refl}
use Rattle.std.specs.Prelude.{Option, None, Some, Result, Ok, Err}
use Rattle.answer.specs.declared.Refusal.{Refusal}
use Rattle.answer.specs.declared.Refusal.TheVariants.{Unsupported, TableFull}
use Rattle.answer.specs.Numbers.{Outcome}
use Rattle.cells.specs.Lists.{keep}
use Rattle.cells.specs.Rows.{Rows, find, put, room}
use Rattle.nib.specs.declared.counters.CounterRow.{CounterRow}
use Rattle.nib.specs.declared.counters.Standing.{Standing}
use Rattle.nib.specs.declared.counters.Standing.TheVariants.{Held, Free, Full}
use Rattle.nib.specs.Pairs.{Pair, same_pair, same-pair-refl, same-pair-eq}

abbrev pub pair : ℕ → ℕ → Pair
pair n s = record { number = n; sender = s }

-- what a row holds for its pair
pub record Cell : Type 0 where
  pub counter : ℕ

-- a cell that holds this counter and nothing else
abbrev pub counting : ℕ → Cell
counting n = record { counter = n }

-- the counter that is held, if there is a cell
abbrev pub counter_in : Option Cell → Option ℕ
counter_in None = None
counter_in (Some c) = Some c.counter

abbrev pub row_of : Pair → Cell → CounterRow
row_of k c = record { number = k.number; sender = k.sender; counter = c.counter }

abbrev pub row_pair : CounterRow → Pair
row_pair r = pair r.number r.sender

abbrev pub row_cell : CounterRow → Cell
row_cell r = record { counter = r.counter }

-- a row's key is its key number and sender; its cell is the rest
abbrev pub counter_rows : Rows CounterRow Pair Cell
counter_rows = record {
  key_of = row_pair;
  cell_of = row_cell;
  make = row_of;
  same = same_pair;
  key-make = λ k c. refl;
  cell-make = λ k c. refl;
  same_refl = same-pair-refl;
  same-eq = same-pair-eq;
}

-- how many rows may be in use, of so many that are lent
abbrev pub capacity : ℕ → ℕ
capacity lent = min 64 lent

-- more rows are said to be in use than may be
abbrev pub overfull : List CounterRow → ℕ → Bool
overfull rows used = nat_lt (capacity (length rows)) used

-- ---- what is held

-- zeros
abbrev pub empty : CounterRow
empty = record { number = 0; sender = 0; counter = 0 }

-- the row that is found, or whether there is room for one
abbrev pub standing : Bool → Pair → Option Cell → Standing
standing room k None = cond room Free Full
standing room k (Some c) = Held (row_of k c)

unfoldable pub held_for : List CounterRow → ℕ → Pair → Standing
held_for rows used k =
    cond (overfull rows used) Full
    (standing (room counter_rows (capacity (length rows)) (take used rows) k) k (find counter_rows (take used rows) k))

-- ---- what a call leaves: its outcome, the count in use, and all rows that were lent

pub record After : Type 0 where
  pub outcome : Outcome
  pub used : ℕ
  pub rows : List CounterRow

-- the answer r, and the rows as they are then: it has the new count in use, and a refusal leaves the old one
abbrev pub left : Result ℕ Refusal → ℕ → List CounterRow → After
left (Ok used) before rows = record { outcome = Ok tt; used = used; rows = rows }
left (Err why) before rows = record { outcome = Err why; used = before; rows = rows }

-- a refusal changes nothing
abbrev pub refused : Refusal → ℕ → List CounterRow → After
refused why used rows = record { outcome = Err why; used = used; rows = rows }

-- the rows `table` are in use now; the rows past them stay as they were
abbrev pub over : {A : Type 0} → List A → List A → List A
over table rows = table ++ drop (length table) rows

-- the pair's row holds the cell, a new row goes after the last
unfoldable pub placed : List CounterRow → ℕ → Pair → Cell → After
placed rows used k c =
    cond (overfull rows used) (refused Unsupported used rows)
    (cond (room counter_rows (capacity (length rows)) (take used rows) k)
    (let table = put counter_rows (take used rows) k c in record { outcome = Ok tt; used = length table; rows = over table rows })
    (refused TableFull used rows))

-- recording, as an opening does it: the pair's row holds the counter
abbrev pub recorded : List CounterRow → ℕ → Pair → ℕ → After
recorded rows used k n = placed rows used k (counting n)

-- what a frame makes of the table: its row, or nothing
unfoldable pub settled : List CounterRow → ℕ → Option CounterRow → After
unfolding placed
settled rows used None = record { outcome = Ok tt; used = used; rows = rows }
settled rows used (Some row) = placed rows used (row_pair row) (row_cell row)

-- forgetting: every row of one key number goes, gaps close in order, and zeros stand in the places given up
abbrev pub stays : ℕ → CounterRow → Bool
stays n row = not (row.number == n)

-- the rows that stay, of the first i
abbrev pub kept : ℕ → ℕ → List CounterRow → List CounterRow
kept n i rows = keep (stays n) (take i rows)

abbrev pub closed : ℕ → ℕ → List CounterRow → List CounterRow
closed n used rows = kept n used rows ++ (replicate (used - length (kept n used rows)) empty ++ drop used rows)

unfoldable pub forgotten : List CounterRow → ℕ → ℕ → After
forgotten rows used n =
    cond (overfull rows used) (refused Unsupported used rows)
    (record { outcome = Ok tt; used = length (kept n used rows); rows = closed n used rows })
