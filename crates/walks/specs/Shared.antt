-- A `&κ mut [T]` that is lent as a `&κ' [T]` for a lifetime κ' of a call, and comes back as it was.
--     LentShared       what the holder keeps while the slice is lent as shared: the lender's part at κ', and its own borrow at κ, open, with both halves of its ghost variable
--     lends-row        given `Room`:  ys, whole, from (b, o)  ⊢ ⇛ own (the `&κ [T]` ((b, o), ys)) ∗ the lender's part
--     lends_shared     own (the `&κ mut [T]` ((b, o), γ, ys)) ∗ [κ]_q  ⊢ ⇛ own (the `&κ' [T]` ((b, o), ys)) ∗ LentShared
--     shared_back      given `Room`:  [†κ'] ∗ LentShared  ⊢ ⇛ (own (the `&κ mut [T]` ((b, o), γ, ys)) ∗ [κ]_q)
-- `lends-row` and `lends_shared` take it that the elements are lent as `&` out of the memory itself (`Denote/Lends.antt`'s `Lent`), as those of a type that is Copy are (`Denote/Copied.antt`'s `each_lends`).
-- Assumes `Logic`.
use Rattle.std.specs.Prelude.{refl, ℕ, List, [], ◌∷◌, length}
use seplogic.Ra.Ura.{Ura}
use base.Fraction.{full_share}
use mir.Syntax.{Lifetime}
use mir.Val.{Val}
use base.Logic.{ent, sep}
use base.Fml.{Lft, GName, Share, Fml, fsep, flft, fdead, fobs, fauth, flent, fobor}
use types.Logic.{Logic, sem}
use types.Kit.{‵, ◌⊛◌, later, ◌$◌, ◌∵◌, !, qed, move, use1, drop, split, fsplit, fjoin, feq_i, frame, await, updating, now as at_once, done}
use types.Tokens.{lent_back}
use types.Share.{arr_parts}
use Rattle.std.specs.Borrow.{RattleType, MutBor}
use denote.Bor.{Bor}
use denote.Shadow.{pure_l, pure_i}
use denote.Memory.{shares}
use denote.Slice.{slice_val, MutSlice, ShrSlice, elements_shared, heres, Room, shr_slice_at, mut_slice_at, coded_holeys}
use denote.Lend.{Held, LentShrs}
use denote.Lends.{Lent, Lent-map}
use denote.Index.{row, opens_slice, closes_slice}
use denote.Opens.{hide}

module _ {M : Type 1} {𝓤 : Ura M} (𝓛 : Logic 𝓤) (R : RattleType) (ys : List R.Denot) (b o : ℕ) (lends : Lent 𝓛 (row R full_share ys b o) (elements_shared R ys b o)) where
  open 𝓛 use {H}

  abbrev Whole : Fml
  Whole = (arr_parts (shares R) (length ys)).part full_share ys b o

  lends-whole : Lent 𝓛 Whole (elements_shared R ys b o)
  lends-whole = Lent-map 𝓛 Whole (row R full_share ys b o) (elements_shared R ys b o) (qed 𝓛 (‵ Whole ∷ []) ∵ fsplit ! $ drop ! $ done !)
      (qed 𝓛 (‵ (row R full_share ys b o) ∷ []) ∵ feq_i ! ℕ (length ys) (length ys) refl $ done !) lends

  pub lends-row : (ℓ : Lifetime) (κ : Lft) → Room R (length ys) → ent 𝓤 (sem 𝓛 Whole) (H.⇛ (LentShrs 𝓛 R ℓ κ full_share ys b o))
  lends-row ℓ κ room =
      qed 𝓛 (‵ Whole ∷ []) ∵ updating ! $ use1 𝓛 (later (‵ (elements_shared R ys b o κ) ⊛ ‵ (flent κ Whole))) (lends-whole κ) $ await ! tt $ split ! $ at_once ! $ hide ! $
      pure_i ! (shr_slice_at R (record { ref_ptr = (b, o); now = ys }) (slice_val (b, o) (length ys) ∷ [])) (tt, (tt, tt)) (refl, room) $ fjoin ! $ done !

module _ (R : RattleType) (κ κ' : Lft) (q : Share) (γ : GName) (b o : ℕ) where
  abbrev at-list : GName → List R.Denot → MutBor (List R.Denot)
  at-list δ ys = record { ref_ptr = (b, o); ghost_name = δ; now = ys }

  abbrev All : List R.Denot → Fml
  All ys = (arr_parts (shares R) (length ys)).part full_share ys b o

  abbrev pub LentShared : List R.Denot → Fml
  LentShared ys = fsep (flent κ' (All ys)) (fsep (fobor κ q (Held R (length ys) b o γ)) (fsep (fobs γ ((coded_holeys R).code (heres R ys))) (fauth γ ((coded_holeys R).code (heres R ys)))))

  module _ {M : Type 1} {𝓤 : Ura M} (𝓛 : Logic 𝓤) (ℓ ℓ' : Lifetime) (ys : List R.Denot) where
    open 𝓛 use {H, A}

    abbrev vals : List Val
    vals = slice_val (b, o) (length ys) ∷ []

    abbrev as-shared : Bor (List R.Denot)
    as-shared = record { ref_ptr = (b, o); now = ys }

    pub lends_shared : Lent 𝓛 (row R full_share ys b o) (elements_shared R ys b o)
        → ent 𝓤 (sep 𝓤 (sem 𝓛 ((MutSlice ℓ κ R).own_val (at-list γ ys) vals)) (A.lft κ q)) (H.⇛ (sep 𝓤 (sem 𝓛 ((ShrSlice ℓ' κ' R).own_val as-shared vals)) (sem 𝓛 (LentShared ys))))
    lends_shared lends =
        qed 𝓛 (‵ ((MutSlice ℓ κ R).own_val (at-list γ ys) vals) ∷ ‵ (flft κ q) ∷ []) ∵ updating ! $ fsplit ! $ pure_l ! (mut_slice_at R (at-list γ ys) vals) (λ p. fsplit ! $ opens_slice ! tt R ys b o $
        feq_i ! ℕ (length ys) (length ys) refl $ fjoin ! $
        use1 𝓛 (later (‵ ((ShrSlice ℓ' κ' R).own_val as-shared vals) ⊛ ‵ (flent κ' (All ys)))) (lends-row 𝓛 R ys b o lends ℓ' κ' p.1) $ await ! tt $ split ! $
        -- [the shared slice; the lender's part at κ'; the open borrow at κ; obs γ; auth γ]
        at_once ! $ frame ! $ move ! (2 ∷ 3 ∷ []) $ fjoin ! $ move ! (2 ∷ 0 ∷ []) $ fjoin ! $ move ! (1 ∷ 0 ∷ []) $ fjoin ! $ done !)

    pub shared_back : Room R (length ys)
        → ent 𝓤 (sep 𝓤 (A.dead κ') (sem 𝓛 (LentShared ys))) (H.⇛ (sep 𝓤 (sem 𝓛 ((MutSlice ℓ κ R).own_val (at-list γ ys) vals)) (A.lft κ q)))
    shared_back room =
        qed 𝓛 (‵ (fdead κ') ∷ ‵ (LentShared ys) ∷ []) ∵ updating ! $ move ! (1 ∷ []) $ fsplit ! $ move ! (2 ∷ 0 ∷ []) $ lent_back ! tt $ fsplit ! $ drop ! $
        -- [the rows; the open borrow with obs γ and auth γ]
        move ! (1 ∷ []) $ fsplit ! $ move ! (1 ∷ []) $ fsplit ! $ move ! (3 ∷ 2 ∷ 0 ∷ 1 ∷ []) $ closes_slice ! tt R ys ys refl b o $ at_once ! $
        fjoin ! $ pure_i ! (mut_slice_at R (at-list γ ys) vals) (tt, (tt, tt)) (refl, room) $ fjoin ! $ done !
