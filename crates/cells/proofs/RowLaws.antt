-- Laws of the table: what `find`, `has_row` and `put` say of each other, and what `settle` does to each cell.
-- Assumes nothing.
use Rattle.std.specs.Prelude.{◌≡◌, Bool, ◌||◌}
use Rattle.std.proofs.Math.Path.{refl, ap}
use Rattle.std.proofs.Common.{◌∙◌}
use Rattle.std.proofs.Math.Bool.{true, false, cond}
use Rattle.std.specs.Prelude.{Option, None, Some}
use mathlib.Core.List.{List, [], ◌∷◌}
use Prim.Native.Nat.{ℕ, suc, ◌≤◌}
use native.Mathlib.Omega.{arith}
use Rattle.std.proofs.Math.ListN.{length}
use Rattle.std.proofs.Math.Dec.{ltb}
use borrow.Author.Tests.{ltb-true}
use Rattle.cells.specs.Lists.{any}
use Rattle.cells.specs.ListLaws.{clash, either}
use Rattle.cells.specs.Rows.{Rows, Reaction, leave, become, is_row, has_row, find, put, room, settle, reply_of, cell_after}

module _ {R K C : Type 0} (rows : Rows R K C) where
  -- a row that is k's is no other key's
  not-other : (r : R) (k j : K) → rows.key_of r ≡ k → rows.same k j ≡ false → is_row rows j r ≡ false
  not-other r k j e d = ap (λ (i : K). rows.same i j) e ∙ d

  -- the row that is made for k is k's
  made : (k : K) (c : C) → is_row rows k (rows.make k c) ≡ true
  made k c = ap (λ (j : K). rows.same j k) (rows.key-make k c) ∙ rows.same_refl k

  -- ---- `put`

  -- every other key's cell is as before, and k's is the one that was put
  pub find-put-other : (rs : List R) (k j : K) (c : C) → rows.same k j ≡ false → find rows (put rows rs k c) j ≡ find rows rs j
  unfolding find put
  find-put-other [] k j c d = rw (not-other (rows.make k c) k j (rows.key-make k c) d)
  find-put-other (r ∷ rs) k j c d = at (is_row rows k r) refl (find-put-other rs k j c d)
    where
      at : (b : Bool) → is_row rows k r ≡ b → find rows (put rows rs k c) j ≡ find rows rs j → find rows (put rows (r ∷ rs) k c) j ≡ find rows (r ∷ rs) j
      at true e ih = rw (e, not-other (rows.make k c) k j (rows.key-make k c) d, not-other r k j (rows.same-eq (rows.key_of r) k e) d)
      at false e ih = rw (e, ih)

  pub find-put : (rs : List R) (k : K) (c : C) → find rows (put rows rs k c) k ≡ Some c
  unfolding find put
  find-put [] k c = rw (made k c) (ap Some (rows.cell-make k c))
  find-put (r ∷ rs) k c = at (is_row rows k r) refl (find-put rs k c)
    where
      at : (b : Bool) → is_row rows k r ≡ b → find rows (put rows rs k c) k ≡ Some c → find rows (put rows (r ∷ rs) k c) k ≡ Some c
      at true e ih = rw (e, made k c) (ap Some (rows.cell-make k c))
      at false e ih = rw (e, e) ih

  -- every other key has a row if it had one, and k has one
  pub has-put-other : (rs : List R) (k j : K) (c : C) → rows.same k j ≡ false → has_row rows (put rows rs k c) j ≡ has_row rows rs j
  unfolding has_row put any
  has-put-other [] k j c d = rw (not-other (rows.make k c) k j (rows.key-make k c) d)
  has-put-other (r ∷ rs) k j c d = at (is_row rows k r) refl (has-put-other rs k j c d)
    where
      at : (b : Bool) → is_row rows k r ≡ b → has_row rows (put rows rs k c) j ≡ has_row rows rs j → has_row rows (put rows (r ∷ rs) k c) j ≡ has_row rows (r ∷ rs) j
      at true e ih = rw (e, not-other (rows.make k c) k j (rows.key-make k c) d, not-other r k j (rows.same-eq (rows.key_of r) k e) d)
      at false e ih = rw e (ap (λ (b : Bool). is_row rows j r || b) ih)

  pub has-put : (rs : List R) (k : K) (c : C) → has_row rows (put rows rs k c) k ≡ true
  unfolding has_row put any
  has-put [] k c = rw (made k c)
  has-put (r ∷ rs) k c = at (is_row rows k r) refl (has-put rs k c)
    where
      at : (b : Bool) → is_row rows k r ≡ b → has_row rows (put rows rs k c) k ≡ true → has_row rows (put rows (r ∷ rs) k c) k ≡ true
      at true e ih = rw (e, made k c)
      at false e ih = rw (e, e) ih

  -- one row more, if k had none
  pub length-put : (rs : List R) (k : K) (c : C) → length (put rows rs k c) ≡ cond (has_row rows rs k) (length rs) (suc (length rs))
  unfolding has_row put any
  length-put [] k c = refl
  length-put (r ∷ rs) k c = at (is_row rows k r) (has_row rows rs k) (length-put rs k c)
    where
      at : (b h : Bool) → length (put rows rs k c) ≡ cond h (length rs) (suc (length rs))
          → length (cond b (rows.make k c ∷ rs) (r ∷ put rows rs k c)) ≡ cond (b || h) (suc (length rs)) (suc (suc (length rs)))
      at true h ih = refl
      at false true ih = ap suc ih
      at false false ih = ap suc ih

  -- where no row is found no cell is
  pub no_row : (rs : List R) (k : K) → has_row rows rs k ≡ false → find rows rs k ≡ None
  unfolding has_row any find
  no_row [] k e = refl
  no_row (r ∷ rs) k e = at (is_row rows k r) (λ f. no_row rs k f) e
    where
      at : (b : Bool) → (has_row rows rs k ≡ false → find rows rs k ≡ None) → (b || has_row rows rs k) ≡ false → cond b (Some (rows.cell_of r)) (find rows rs k) ≡ None
      at true ih f = clash true refl f
      at false ih f = ih f

  -- ---- `settle`

  module _ {O : Type 0} (places : ℕ) (rs : List R) (k : K) where
    -- With room for k, the answer and k's cell are the reaction's.
    pub settle-out : (r : Reaction O C) → room rows places rs k ≡ true → (settle rows places rs k r).out ≡ reply_of r
    unfolding settle reply_of
    settle-out (leave out) h = refl
    settle-out (become c out full) h = rw h

    pub settle-cell : (r : Reaction O C) → room rows places rs k ≡ true → find rows (settle rows places rs k r).rows k ≡ cell_after (find rows rs k) r
    unfolding settle cell_after
    settle-cell (leave out) h = refl
    settle-cell (become c out full) h = rw h (find-put rs k c)

    -- With room or without, every other key keeps its cell,
    pub settle_other : (r : Reaction O C) (j : K) → rows.same k j ≡ false → find rows (settle rows places rs k r).rows j ≡ find rows rs j
    unfolding settle
    settle_other (leave out) j d = refl
    settle_other (become c out full) j d =
        either (λ (l : List R). find rows l j ≡ find rows rs j) (room rows places rs k) (find-put-other rs k j c d) refl

    -- what holds of k's cell before and of the reaction's cell holds of k's cell after,
    pub settle-keeps : (r : Reaction O C) (P : Option C → Type 0) → P (find rows rs k) → P (cell_after (find rows rs k) r)
        → P (find rows (settle rows places rs k r).rows k)
    unfolding settle cell_after
    settle-keeps (leave out) P old new = old
    settle-keeps (become c out full) P old new =
        either (λ (l : List R). P (find rows l k)) (room rows places rs k) (rw (find-put rs k c) new) old

    -- and the table stays within its places.
    pub settle-fits : (r : Reaction O C) → length rs ≤ places → length (settle rows places rs k r).rows ≤ places
    unfolding settle room
    settle-fits (leave out) h = h
    settle-fits (become c out full) h = at (has_row rows rs k) (ltb (length rs) places) refl (length-put rs k c)
      where
        at : (b f : Bool) → ltb (length rs) places ≡ f → length (put rows rs k c) ≡ cond b (length rs) (suc (length rs))
            → length (cond (b || f) (put rows rs k c) rs) ≤ places
        at true f e l = omega arith
        at false true e l = omega (arith, ltb-true (length rs) places e)
        at false false e l = h
