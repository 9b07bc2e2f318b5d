-- A machine whose cells are counted, and never fall: once a frame has been taken its number is held for its key (`taken-held`), and no frame takes a
-- number away that is held (`one_kept`). Assumes nothing.
use Rattle.std.specs.Prelude.{◌≡◌, refl, Bool, cond, ℕ, ◌≤◌}
use Rattle.std.proofs.Common.{sym, ◌∙◌, subst, le_trans}
use Rattle.std.proofs.Math.Path.{ap}
use Rattle.std.proofs.Math.Bool.{true, false}
use mathlib.Core.List.{List}
use Rattle.std.specs.Prelude.{Option, None, Some}
use Rattle.std.proofs.Math.Nat.{le_refl}
use native.Mathlib.Omega.{arith}
use Rattle.cells.specs.ListLaws.{clash, either}
use Rattle.cells.specs.Rows.{Rows, Reaction, find, put, room, settle}
use Rattle.cells.proofs.RowLaws.{find-put, find-put-other}
use Rattle.cells.specs.Machine.{Machine, cell_in}
use Rattle.cells.specs.Rising.{Rising, stops, rises, AtLeast}

module _ {O C : Type 0} (counted : C → ℕ) (taken : O → Bool) where
  module _ {R K : Type 0} (rows : Rows R K C) (places : ℕ) (rs : List R) (k : K) (n : ℕ) where
    -- no cell falls
    kept : {r : Reaction O C} → Rising counted taken n (find rows rs k) r → (j : K) (c : C) → find rows rs j ≡ Some c
        → AtLeast counted taken (counted c) (find rows (settle rows places rs k r).rows j)
    unfolding settle
    kept (stops out untaken) j c e = record { cell = c; is = e; up = le_refl (counted c) }
    kept (rises d out full is over untaken) j c e =
        either (λ (l : List R). AtLeast counted taken (counted c) (find rows l j)) (room rows places rs k) (at (rows.same k j) refl) (record { cell = c; is = e; up = le_refl (counted c) })
      where
        at : (t : Bool) → rows.same k j ≡ t → AtLeast counted taken (counted c) (find rows (put rows rs k d) j)
        at true t =
            let q : k ≡ j = rows.same-eq k j t in
            let l : counted c ≤ n = over c (ap (find rows rs) q ∙ e) in
            record { cell = d; is = ap (find rows (put rows rs k d)) (sym q) ∙ find-put rows rs k d; up = omega arith }
        at false t = record { cell = c; is = find-put-other rows rs k j d t ∙ e; up = le_refl (counted c) }

    -- a frame that is taken has its number held
    held : {r : Reaction O C} → Rising counted taken n (find rows rs k) r → taken (settle rows places rs k r).out ≡ true → AtLeast counted taken n (find rows (settle rows places rs k r).rows k)
    unfolding settle
    held (stops out untaken) e = clash (taken out) e untaken
    held (rises d out full is over untaken) e = at (room rows places rs k) e
      where
        at : (t : Bool) → taken (cond t out full) ≡ true → AtLeast counted taken n (find rows (cond t (put rows rs k d) rs) k)
        at true f = record { cell = d; is = find-put rows rs k d; up = omega arith }
        at false f = clash (taken full) f untaken

  module _ {S F R K : Type 0} (M : Machine S F O R K C) (number : F → ℕ)
      (rising : (f : F) (k : K) → M.names f ≡ Some k → (now : Option C) → Rising counted taken (number f) now (M.react f now)) where
    -- after a frame no cell has fallen
    pub one_kept : (s : S) → M.Good s → (f : F) (j : K) (h : ℕ) → AtLeast counted taken h (cell_in M s j) → AtLeast counted taken h (cell_in M (M.after s f) j)
    one_kept s good f j h a = at (M.names f) refl
      where
        at : (w : Option K) → M.names f ≡ w → AtLeast counted taken h (cell_in M (M.after s f) j)
        at None e = subst (λ t. AtLeast counted taken h (find M.rows t.rows j)) (sym (M.nameless s f good e)) a
        at (Some k) e =
            let b = kept M.rows M.places (M.rows_of s) k (number f) (rising f k e (cell_in M s k)) j a.cell a.is in
            subst (λ t. AtLeast counted taken h (find M.rows t.rows j)) (sym (M.named s f k good e)) (record { cell = b.cell; is = b.is; up = le_trans a.up b.up })

    -- and where it was taken its number is held for its key
    pub taken-held : (s : S) → M.Good s → (f : F) (k : K) → M.names f ≡ Some k → taken (M.answer s f) ≡ true → AtLeast counted taken (number f) (cell_in M (M.after s f) k)
    taken-held s good f k name done =
        let e = M.named s f k good name in
        subst (λ t. AtLeast counted taken (number f) (find M.rows t.rows k)) (sym e)
        (held M.rows M.places (M.rows_of s) k (number f) (rising f k name (cell_in M s k)) (ap (λ t. taken t.out) (sym e) ∙ done))
