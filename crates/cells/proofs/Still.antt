-- A desk whose state no frame changes: it ends alike in any order. Assumes nothing.
use Rattle.std.specs.Prelude.{◌≡◌, ℕ, length}
use Rattle.std.proofs.Math.Path.{refl}
use Rattle.std.proofs.Common.{sym, ◌∙◌, arith}
use Rattle.std.specs.Prelude.{Option, None}
use Rattle.std.proofs.lemmas.Option.{none-some}
use mathlib.Core.List.{List, [], ◌∷◌}
use Rattle.cells.specs.Rows.{Rows, leave, new_keys}
use Rattle.cells.specs.Machine.{Machine, final}
use Rattle.cells.specs.Reorder.{Reordered}
use Rattle.cells.specs.Desk.{Desk, open_all, Alike}
use Rattle.cells.specs.DeskLaws.{desk-state}
use Rattle.cells.proofs.Order.{any_order}

no-new-keys : {R K C : Type 0} (rows : Rows R K C) (rs : List R) (p : List ℕ) → length (new_keys rows (λ (i : ℕ). None) rs p) ≡ 0
unfolding new_keys
no-new-keys rows rs [] = refl
no-new-keys rows rs (i ∷ p) = no-new-keys rows rs p

module _ {S F O T R K C : Type 0} (answer : S → F → O) (after : S → F → S) (written : F → O → F) (says : O → T) (rows : Rows R K C) (rows_of : S → List R)
    (d : Desk S F T) (still : (f : F) → after d.state f ≡ d.state) where
  -- its state at the end is the one at the start
  pub still-state : (p q : List ℕ) {names : ℕ → Option K} → Reordered names p q
      → (open_all answer after written says d p).state ≡ (open_all answer after written says d q).state
  unfolding final
  still-state p q re =
      desk-state answer after written says d p re.once ∙ stays p
      ∙ sym (desk-state answer after written says d q re.once_after ∙ stays q)
    where
      stays : (l : List ℕ) → final (λ (s : S) (i : ℕ). after s (d.buffer i)) d.state l ≡ d.state
      stays [] = refl
      stays (i ∷ l) = rw (still (d.buffer i)) (stays l)

  pub still_alike : (p q : List ℕ) {names : ℕ → Option K} → Reordered names p q
      → Alike rows rows_of (open_all answer after written says d p) (open_all answer after written says d q)
  still_alike p q re =
      any_order machine written says d p q refl (rw (no-new-keys rows (rows_of d.state) p) (omega arith))
      (record { once = re.once; once_after = re.once_after; none-lost = re.none-lost; none-added = re.none-added; order-kept = λ i j k e f. absurd (none-some k e) })
    where
      -- a machine whose frames name no key
      machine : Machine S F O R K C
      machine = record {
        answer = answer;
        after = after;
        rows = rows;
        rows_of = rows_of;
        places = length (rows_of d.state);
        names = λ f. None;
        react = λ f c. leave (answer d.state f);
        idle = answer d.state;
        Good = λ s. s ≡ d.state;
        stays-good = λ s f g. rw g (still f);
        named = λ s f k g n. absurd (none-some k n);
        nameless = λ s f g n. rw g (λ i. record { out = answer d.state f; rows = rows_of (still f i) });
      }
