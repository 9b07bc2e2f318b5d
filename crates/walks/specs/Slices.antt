-- The elements of a lent slice, from what the slice owns to plain memory and back.
--     opens-own, closes-own    a `&κ mut [T]`: its borrow is opened; and closed at a list of the same length, which the slice then holds
--     looks-own, shuts-own     a `&κ [T]`: it is looked into, where T is Copy (`Denote/Copied.antt`'s `Copied`), and shut
-- What a slice owns is the same whatever lifetime the code writes for it. Assumes `Logic`.
use Rattle.std.specs.Prelude.{◌≡◌, List, [], ◌∷◌, ℕ, length}
use Rattle.std.proofs.Common.{sym, ap, subst}
use seplogic.Ra.Ura.{Ura}
use base.Fraction.{full_share}
use mir.Syntax.{named}
use mir.Val.{Val}
use base.Fml.{GName, Lft, Share, flft, fobs, fauth, fobor}
use types.Logic.{Logic}
use types.Kit.{Item, Goal, Soaks, ‵, Seq, Step, step, ◌$◌, drop, fjoin, fsplit, move}
use Rattle.std.specs.Borrow.{RattleType, MutBor}
use denote.Bor.{Bor}
use denote.Copied.{Copied}
use denote.Opens.{Shut}
use denote.Shadow.{pure_i}
use denote.Slice.{MutSlice, ShrSlice, Room, mut_slice_at, coded_holeys, heres, slice_val}
use denote.Lend.{Held}
use denote.Index.{row, opens_slice, closes_slice, looks_slice, shuts_slice}

-- the slice at (b, o), whose ghost name is γ, at the list l; the same of a shared one, which has no ghost name; and the machine value, of n elements
abbrev lent : {X : Type 0} → ℕ → ℕ → GName → List X → MutBor (List X)
lent b o γ l = record { ref_ptr = (b, o); ghost_name = γ; now = l }

abbrev shown : {X : Type 0} → ℕ → ℕ → List X → Bor (List X)
shown b o l = record { ref_ptr = (b, o); now = l }

abbrev spelled : ℕ → ℕ → ℕ → List Val
spelled b o n = slice_val (b, o) n ∷ []

module _ {M : Type 1} {𝓤 : Ura M} {𝓛 : Logic 𝓤} {K : Type 0} {Γ : List (Item 𝓤)} {G : Goal 𝓤 𝓛.H} (t : K) (z : Soaks G) (R : RattleType) {κ : Lft} {q : Share} {γ : GName} (b o : ℕ) (ys : List R.Denot) where
  pub opens-own : Step K 𝓛 (‵ (row R full_share ys b o) ∷ ‵ (fobor κ q (Held R (length ys) b o γ)) ∷ ‵ (fobs γ ((coded_holeys R).code (heres R ys))) ∷ ‵ (fauth γ ((coded_holeys R).code (heres R ys))) ∷ Γ) G
      (‵ (flft κ q) ∷ ‵ ((MutSlice (named 0) κ R).own_val (lent b o γ ys) (spelled b o (length ys))) ∷ Γ) G
  opens-own = step (λ s. move t (1 ∷ []) $ fsplit t $ drop t $ fsplit t $ opens_slice t z R ys b o $ s)

  pub closes-own : Room R (length ys) → (zs : List R.Denot) → length zs ≡ length ys → Step K 𝓛 (‵ (flft κ q) ∷ ‵ ((MutSlice (named 0) κ R).own_val (lent b o γ zs) (spelled b o (length ys))) ∷ Γ) G
      (‵ (row R full_share zs b o) ∷ ‵ (fobor κ q (Held R (length ys) b o γ)) ∷ ‵ (fobs γ ((coded_holeys R).code (heres R ys))) ∷ ‵ (fauth γ ((coded_holeys R).code (heres R ys))) ∷ Γ) G
  closes-own room zs same = step (λ s. closes_slice t z R ys zs same b o $ fjoin t $
      pure_i t (mut_slice_at R (lent b o γ zs) (spelled b o (length ys))) (tt, (tt, tt)) (ap (λ (m : ℕ). slice_val (b, o) m ∷ []) (sym same), subst (Room R) (sym same) room) $ fjoin t $ move t (1 ∷ []) $ s)

module _ {M : Type 1} {𝓤 : Ura M} {𝓛 : Logic 𝓤} {K : Type 0} {Γ : List (Item 𝓤)} {G : Goal 𝓤 𝓛.H} (t : K) (z : Soaks G) (R : RattleType) {κ : Lft} {q : Share} (b o : ℕ) (ys : List R.Denot) where
  pub looks-own : Copied 𝓛 R
      → ((q' : Share) → Seq K 𝓛 (‵ (row R q' ys b o) ∷ Shut 𝓛 κ q (row R q' ys b o) ∷ ‵ ((ShrSlice (named 0) κ R).own_val (shown b o ys) (spelled b o (length ys))) ∷ Γ) G)
      → Seq K 𝓛 (‵ (flft κ q) ∷ ‵ ((ShrSlice (named 0) κ R).own_val (shown b o ys) (spelled b o (length ys))) ∷ Γ) G
  looks-own c k = move t (1 ∷ []) $ fsplit t $ move t (1 ∷ 2 ∷ []) $ looks_slice t z R c ys b o (λ q'. move t (3 ∷ 2 ∷ []) $ fjoin t $ move t (1 ∷ 2 ∷ []) $ k q')

  pub shuts-own : (q' : Share) → Step K 𝓛 (‵ (flft κ q) ∷ ‵ ((ShrSlice (named 0) κ R).own_val (shown b o ys) (spelled b o (length ys))) ∷ Γ) G
      (‵ (row R q' ys b o) ∷ Shut 𝓛 κ q (row R q' ys b o) ∷ ‵ ((ShrSlice (named 0) κ R).own_val (shown b o ys) (spelled b o (length ys))) ∷ Γ) G
  shuts-own q' = shuts_slice t z R q' ys b o
