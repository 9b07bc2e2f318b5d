-- A table of rows, each with a key and a cell: what is looked up in it, and the one way in which a frame changes it.
-- A search takes the first row that matches; a new row goes after the last.
use Rattle.std.specs.Prelude.{◌≡◌, Bool, true, ◌||◌, ℕ, length}
use Rattle.std.proofs.Math.Bool.{cond}
use Rattle.std.specs.Prelude.{Option, None, Some}
use mathlib.Core.List.{List, [], ◌∷◌}
use Rattle.std.proofs.Math.Dec.{ltb}
use Rattle.cells.specs.Lists.{any}
use Rattle.cells.specs.First.{first_where}

-- How a row shows its key and its cell, and how it is made of them. The cell is all that the row holds but its key.
-- `same` is the test for equal keys.
pub record Rows (R K C : Type 0) : Type 0 where
  pub key_of : R → K
  pub cell_of : R → C
  pub make : K → C → R
  pub same : K → K → Bool
  pub key-make : (k : K) (c : C) → key_of (make k c) ≡ k
  pub cell-make : (k : K) (c : C) → cell_of (make k c) ≡ c
  pub same_refl : (k : K) → same k k ≡ true
  pub same-eq : (j k : K) → same j k ≡ true → j ≡ k

-- What a frame does to its row. Either it leaves the table alone, and `out` is its answer; or its cell becomes c, and `out` is
-- its answer: but where it has no row and no place is free, `full` is its answer, and nothing changes.
pub data Reaction (O C : Type 0) : Type 0 where
  leave : (out : O) → Reaction O C
  become : (c : C) (out full : O) → Reaction O C

-- An answer, and the rows after it.
pub record Settled (O R : Type 0) : Type 0 where
  pub out : O
  pub rows : List R

module _ {R K C : Type 0} (rows : Rows R K C) where
  -- the row's key is k
  abbrev pub is_row : K → R → Bool
  is_row k r = rows.same (rows.key_of r) k

  -- Two tests, kept apart. A row is found for k: that is what room asks.
  unfoldable pub has_row : List R → K → Bool
  has_row rs k = any (is_row k) rs

  -- And the cell that is held in it, in the first row whose key is k: that is what a frame is judged by.
  unfoldable pub find : List R → K → Option C
  find [] k = None
  find (r ∷ rs) k = cond (is_row k r) (Some (rows.cell_of r)) (find rs k)

  -- That row with the cell c instead, or where there is none a new row after the last. Every other row stays as it is.
  unfoldable pub put : List R → K → C → List R
  put [] k c = rows.make k c ∷ []
  put (r ∷ rs) k c = cond (is_row k r) (rows.make k c ∷ rs) (r ∷ put rs k c)

  -- the place of the first row whose key is k, or the number of rows: what a loop over the rows yields
  abbrev pub place_of : List R → K → ℕ
  place_of rs k = first_where (is_row k) rs

  -- k has a row, or one of the places is free
  unfoldable pub room : (places : ℕ) → List R → K → Bool
  unfolding has_row
  room places rs k = has_row rs k || ltb (length rs) places

  -- The one way in which a frame that names k changes the table.
  unfoldable pub settle : {O : Type 0} → (places : ℕ) → List R → K → Reaction O C → Settled O R
  unfolding put room
  settle places rs k (leave out) = record { out = out; rows = rs }
  settle places rs k (become c out full) = record {
    out = cond (room places rs k) out full;
    rows = cond (room places rs k) (put rs k c) rs;
  }

  -- one more key, unless it has a row or is listed already
  unfoldable pub with_key : List R → Option K → List K → List K
  unfolding has_row
  with_key rs None ks = ks
  with_key rs (Some k) ks = cond (has_row rs k || any (λ (j : K). rows.same j k) ks) ks (k ∷ ks)

  -- the keys that the frames name and that have no row, each once
  unfoldable pub new_keys : {F : Type 0} → (names : F → Option K) → List R → List F → List K
  unfolding with_key
  new_keys names rs [] = []
  new_keys names rs (f ∷ fs) = with_key rs (names f) (new_keys names rs fs)

-- One cell's share of a reaction, where there is room: its answer, and the cell afterwards.
unfoldable pub reply_of : {O C : Type 0} → Reaction O C → O
reply_of (leave out) = out
reply_of (become c out full) = out

unfoldable pub cell_after : {O C : Type 0} → Option C → Reaction O C → Option C
cell_after old (leave out) = old
cell_after old (become c out full) = Some c
