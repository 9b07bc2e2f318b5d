-- A local array of n elements that is lent as a `&κ mut [T]`, or as a `&κ [T]`, for a lifetime κ of a call, and comes back at the list that the callee left.
--     lends_local      given the array's relation, and room:  the local's cell at ys  ⊢ ⇛ ∃ γ. own (the `&κ mut [T]` ((l, 0), γ, ys)) ∗ the lender's part
--     local_back       given that zs is as long as ys:  [†κ] ∗ the lender's part ∗ finally γ zs  ⊢ ⇛ ∃. ⌜the array's relation at zs⌝ ∗ the local's cell at zs
--     lends-local-shared, local-shared-back        the same of a `&κ [T]`, at ys, with no ghost name, where the elements can be lent so (`Shared.antt`)
--     on-local, off-local, on-local-shared, off-local-shared       these as steps of a walk, where T is a struct: for a lifetime ν that is made for the call
-- T is Plain (it owns facts alone) and has one MIR type. Assumes `Logic`.
use Rattle.std.specs.Prelude.{◌≡◌, refl, List, [], ◌∷◌, length}
use Rattle.std.proofs.Common.{◌∙◌, sym, subst}
use Prim.Native.Nat.{ℕ}
use seplogic.Ra.Ura.{Ura}
use base.Fraction.{full_share}
use mir.Syntax.{Body, Lifetime, Ty, ty_array}
use mir.Val.{Val}
use base.Logic.{ent, sep, ex, guard}
use base.Fml.{Fml, Lft, GName, fat, fsep, fdead, flent, flft}
use prog.Wp.{Env, Calls, Loops}
use types.Logic.{Logic, sem}
use types.Kit.{Item, Post, Seq, Step, step, runs, ‵, ◌⊛◌, some, given, learn, pick, split, rewrite, later, ◌$◌, ◌∵◌, !, qed, by, move, use1, use2, use3, drop, check, fsplit, fjoin, fpick, fpack, feq_i, await, updating, now as at_once, done}
use types.SemTy.{cells, Arr}
use types.Share.{arr_parts}
use types.Tokens.{lent_back, lft_end, lft_new}
use Rattle.std.specs.Borrow.{RattleType, MutBor}
use denote.Laws.{Is, Makes, Tells, shows}
use denote.Memory.{mem, lone, shares, cell_at, part_at, part_of}
use denote.Array.{Array, array_vals, Array-Tells, Array-Makes}
use denote.ArrayMemory.{Single, Array-apart, Array-whole}
use denote.Slice.{MutSlice, Room, ShrSlice, elements_shared, finally, slice_val}
use denote.Steps.{only, owned, peeks}
use denote.Struct.Declared.{Declared, fields, row as struct}
use denote.Struct.Laws as LL
use denote.Struct.Steps.{spelt}
use denote.Struct.Struct.{Plains}
use denote.Lend.{Held, Lent, LentShrs, lends_slice, slice_back}
use denote.Lends.{Lent as LentFree}
use denote.Index.{row, whole_in, whole_out}
use Rattle.walks.specs.Shared.{lends-row}

-- what the lender of a `&κ [T]` of the elements ys at l keeps
abbrev All : (R : RattleType) → List R.Denot → ℕ → Fml
All R ys l = (arr_parts (shares R) (length ys)).part full_share ys l 0

module _ (R : RattleType) (one : Single R.mir) (n : ℕ) {M : Type 1} {𝓤 : Ura M} (𝓛 : Logic 𝓤)
    (vals : R.Denot → List Val) (tells : Tells R (Is R) vals) (makes : Makes 𝓛 R (Is R)) where
  open 𝓛 use {H, A}

  abbrev Arr' : RattleType
  Arr' = Array R n

  -- the array is its elements, side by side; and they are the array
  apart : (ys : List R.Denot) (l : ℕ) → Is Arr' ys (array_vals vals ys) → ent 𝓤 (sem 𝓛 (cell_at full_share Arr'.mir (array_vals vals ys) l 0)) (sem 𝓛 (row R full_share ys l 0))
  unfolding part_of
  apart ys l is =
      qed 𝓛 (‵ (cell_at full_share Arr'.mir (array_vals vals ys) l 0) ∷ []) ∵
      owned ! Arr' (Is Arr') (Array-Makes 𝓛 R makes n) ys (array_vals vals ys) is $ move ! (1 ∷ 0 ∷ []) $ fjoin ! $
      fpack ! (List Val) (λ us. fsep (cell_at full_share Arr'.mir us l 0) (Arr'.own_val ys us)) (array_vals vals ys) $
      use1 𝓛 (‵ ((arr_parts (shares R) n).part full_share ys l 0)) (Array-apart 𝓛 R full_share one n ys l 0) $ fsplit ! $ drop ! $ done !

  gathered : (zs : List R.Denot) (l : ℕ) → length zs ≡ n → ent 𝓤 (sem 𝓛 (row R full_share zs l 0)) (guard 𝓤 (Is Arr' zs (array_vals vals zs)) (sem 𝓛 (cell_at full_share Arr'.mir (array_vals vals zs) l 0)))
  unfolding part_of
  gathered zs l long =
      qed 𝓛 (‵ (row R full_share zs l 0) ∷ []) ∵ feq_i ! ℕ (length zs) n long $ fjoin ! $ use1 𝓛 (‵ (part_at Arr' full_share zs l 0)) (Array-whole 𝓛 R full_share n zs l 0) $
      fpick ! (λ vs. fsplit ! $ spelt ! Arr' (Is Arr') (shows 𝓛 Arr') (array_vals vals) (Array-Tells R vals tells n) full_share zs vs l 0 $
      move ! (1 ∷ []) $ peeks ! Arr' (Is Arr') (shows 𝓛 Arr') zs (array_vals vals zs) (λ is. drop ! $ check ! is $ done !))

  pub lends_local : (ℓ : Lifetime) (κ : Lft) (ys : List R.Denot) (l : ℕ) → Is Arr' ys (array_vals vals ys) → Room R (length ys)
      → ent 𝓤 (sem 𝓛 (cell_at full_share Arr'.mir (array_vals vals ys) l 0)) (H.⇛ (ex 𝓤 (Lent 𝓛 R ℓ κ ys l 0)))
  lends_local ℓ κ ys l is room =
      qed 𝓛 (‵ (cell_at full_share Arr'.mir (array_vals vals ys) l 0) ∷ []) ∵ use1 𝓛 (‵ (row R full_share ys l 0)) (apart ys l is) $
      use1 𝓛 (‵ (cells (mem R) ys l 0)) (whole_in 𝓛 R ys l 0) $ by ! (lends_slice 𝓛 R ℓ κ ys l 0 room)

  pub local_back : (κ : Lft) (γ : GName) (ys zs : List R.Denot) (l : ℕ) → length ys ≡ n → length zs ≡ length ys
      → ent 𝓤 (sep 𝓤 (A.dead κ) (sep 𝓤 (A.lent κ (Held R (length ys) l 0 γ)) (sem 𝓛 (finally R γ zs))))
      (H.⇛ (guard 𝓤 (Is Arr' zs (array_vals vals zs)) (sem 𝓛 (cell_at full_share Arr'.mir (array_vals vals zs) l 0))))
  local_back κ γ ys zs l long same =
      qed 𝓛 (‵ (fdead κ) ∷ ‵ (flent κ (Held R (length ys) l 0 γ)) ∷ ‵ (finally R γ zs) ∷ []) ∵ updating ! $
      use3 𝓛 (later (‵ ((Arr (mem R) (length ys)).own_at zs l 0))) (slice_back 𝓛 R κ γ zs (length ys) l 0) $ await ! tt $ fsplit ! $ drop ! $ use1 𝓛 (‵ (row R full_share zs l 0)) (whole_out 𝓛 R zs l 0) $
      at_once ! $ by ! (gathered zs l (same ∙ long))

  pub lends-local-shared : (ℓ : Lifetime) (κ : Lft) (ys : List R.Denot) (l : ℕ) → Is Arr' ys (array_vals vals ys) → Room R (length ys) → LentFree 𝓛 (row R full_share ys l 0) (elements_shared R ys l 0)
      → ent 𝓤 (sem 𝓛 (cell_at full_share Arr'.mir (array_vals vals ys) l 0)) (H.⇛ (LentShrs 𝓛 R ℓ κ full_share ys l 0))
  lends-local-shared ℓ κ ys l is room lends =
      qed 𝓛 (‵ (cell_at full_share Arr'.mir (array_vals vals ys) l 0) ∷ []) ∵ use1 𝓛 (‵ (row R full_share ys l 0)) (apart ys l is) $
      feq_i ! ℕ (length ys) (length ys) refl $ fjoin ! $ by ! (lends-row 𝓛 R ys l 0 lends ℓ κ room)

  pub local-shared-back : (κ : Lft) (ys : List R.Denot) (l : ℕ) → length ys ≡ n
      → ent 𝓤 (sep 𝓤 (A.dead κ) (A.lent κ (All R ys l))) (H.⇛ (guard 𝓤 (Is Arr' ys (array_vals vals ys)) (sem 𝓛 (cell_at full_share Arr'.mir (array_vals vals ys) l 0))))
  local-shared-back κ ys l long =
      qed 𝓛 (‵ (fdead κ) ∷ ‵ (flent κ (All R ys l)) ∷ []) ∵ updating ! $ lent_back ! tt $ fsplit ! $ drop ! $ at_once ! $ by ! (gathered ys l long)

-- ---- the steps. The slice is spelled with the array's n, as the code has it
abbrev Rows : Declared → ℕ → RattleType
Rows T n = Array (struct T) n

abbrev τ : Declared → ℕ → Ty
τ T n = ty_array (lone (struct T).mir) n

abbrev v : (T : Declared) → LL.Laws T → List T.D → Val
v T L zs = only (array_vals (LL.vals T L) zs)

abbrev Cell : (T : Declared) → LL.Laws T → ℕ → ℕ → List T.D → Fml
Cell T L n l zs = fat full_share (τ T n) l 0 (v T L zs)

abbrev Raw : (T : Declared) → LL.Laws T → ℕ → ℕ → List T.D → Fml
Raw T L n l zs = cell_at full_share (τ T n ∷ []) (v T L zs ∷ []) l 0

module _ (T : Declared) (l : ℕ) (ys : List T.D) where
  abbrev the : GName → MutBor (List T.D)
  the δ = record { ref_ptr = (l, 0); ghost_name = δ; now = ys }

  abbrev Mut : Lifetime → ℕ → GName → ℕ → Fml
  Mut ℓ ν δ m = (MutSlice ℓ (ν ∷ []) (struct T)).own_val (the δ) (slice_val (l, 0) m ∷ [])

  abbrev Shr : Lifetime → ℕ → ℕ → Fml
  Shr ℓ ν m = (ShrSlice ℓ (ν ∷ []) (struct T)).own_val (record { ref_ptr = (l, 0); now = ys }) (slice_val (l, 0) m ∷ [])

  abbrev Lends : ℕ → GName → Fml
  Lends ν δ = flent (ν ∷ []) (Held (struct T) (length ys) l 0 δ)

  abbrev Shares : ℕ → Fml
  Shares ν = flent (ν ∷ []) (All (struct T) ys l)

module _ {M : Type 1} {𝓤 : Ura M} {𝓛 : Logic 𝓤} {K : Type 0} {Γ : List (Item 𝓤)} {C : Calls 𝓤 𝓛.H} {Λ : Loops 𝓤 𝓛.H} {E : Env 𝓤 𝓛.H} {body : Body} {p : Post 𝓤 𝓛.H}
    (t : K) (T : Declared) (L : LL.Laws T) (pl : Plains (fields T)) (n l : ℕ) (ys : List T.D) (is : Is (Rows T n) ys (v T L ys ∷ [])) where
  pub on-local : (ℓ : Lifetime) → Room (struct T) n → ((ν : ℕ) (δ : GName) → Seq K 𝓛 (‵ (flft (ν ∷ []) full_share) ∷ ‵ (Mut T l ys ℓ ν δ n) ∷ ‵ (Lends T l ys ν δ) ∷ Γ) (runs C Λ E body p)) → Seq K 𝓛 (‵ (Cell T L n l ys) ∷ Γ) (runs C Λ E body p)
  on-local ℓ room k = lft_new t tt (λ ν. move t (1 ∷ []) $ use1 𝓛 (‵ (Raw T L n l ys)) (𝓛.laws.at_raw full_share (τ T n) l 0 (v T L ys)) $
      use1 𝓛 (later (some (λ (δ : GName). ‵ (Mut T l ys ℓ ν δ (length ys)) ⊛ ‵ (Lends T l ys ν δ))))
      (lends_local (struct T) tt n 𝓛 (LL.vals T L) (LL.tells T L) (LL.makes T pl 𝓛) ℓ (ν ∷ []) ys l is (subst (Room (struct T)) (sym is.1.0.1) room)) $
      await t tt $ pick t (λ δ. split t $ rewrite t 0 (λ (m : ℕ). ‵ (Mut T l ys ℓ ν δ m)) is.1.0.1 refl $ move t (2 ∷ 0 ∷ []) $ k ν δ))

  pub off-local : (ν : ℕ) (δ : GName) (zs : List T.D) → length zs ≡ length ys → (Is (Rows T n) zs (v T L zs ∷ []) → Seq K 𝓛 (‵ (Cell T L n l zs) ∷ Γ) (runs C Λ E body p))
      → Seq K 𝓛 (‵ (flft (ν ∷ []) full_share) ∷ ‵ (Lends T l ys ν δ) ∷ ‵ (finally (struct T) δ zs) ∷ Γ) (runs C Λ E body p)
  off-local ν δ zs same k = lft_end t tt $
      use3 𝓛 (later (given (Is (Rows T n) zs (v T L zs ∷ [])) (‵ (Raw T L n l zs)))) (local_back (struct T) tt n 𝓛 (LL.vals T L) (LL.tells T L) (LL.makes T pl 𝓛) (ν ∷ []) δ ys zs l is.1.0.1 same) $
      await t tt $ learn t (λ zs-is. use1 𝓛 (‵ (Cell T L n l zs)) (𝓛.laws.raw_at full_share (τ T n) l 0 (v T L zs)) $ k zs-is)

  pub on-local-shared : (ℓ : Lifetime) → Room (struct T) n → LentFree 𝓛 (row (struct T) full_share ys l 0) (elements_shared (struct T) ys l 0)
      → ((ν : ℕ) → Seq K 𝓛 (‵ (flft (ν ∷ []) full_share) ∷ ‵ (Shr T l ys ℓ ν n) ∷ ‵ (Shares T l ys ν) ∷ Γ) (runs C Λ E body p)) → Seq K 𝓛 (‵ (Cell T L n l ys) ∷ Γ) (runs C Λ E body p)
  on-local-shared ℓ room lends k = lft_new t tt (λ ν. move t (1 ∷ []) $ use1 𝓛 (‵ (Raw T L n l ys)) (𝓛.laws.at_raw full_share (τ T n) l 0 (v T L ys)) $
      use1 𝓛 (later (‵ (Shr T l ys ℓ ν (length ys)) ⊛ ‵ (Shares T l ys ν)))
      (lends-local-shared (struct T) tt n 𝓛 (LL.vals T L) (LL.tells T L) (LL.makes T pl 𝓛) ℓ (ν ∷ []) ys l is (subst (Room (struct T)) (sym is.1.0.1) room) lends) $
      await t tt $ split t $ rewrite t 0 (λ (m : ℕ). ‵ (Shr T l ys ℓ ν m)) is.1.0.1 refl $ move t (2 ∷ 0 ∷ []) $ k ν)

  pub off-local-shared : (ν : ℕ) → Step K 𝓛 (‵ (Cell T L n l ys) ∷ Γ) (runs C Λ E body p) (‵ (flft (ν ∷ []) full_share) ∷ ‵ (Shares T l ys ν) ∷ Γ) (runs C Λ E body p)
  off-local-shared ν = step (λ s. lft_end t tt $
      use2 𝓛 (later (given (Is (Rows T n) ys (v T L ys ∷ [])) (‵ (Raw T L n l ys)))) (local-shared-back (struct T) tt n 𝓛 (LL.vals T L) (LL.tells T L) (LL.makes T pl 𝓛) (ν ∷ []) ys l is.1.0.1) $
      await t tt $ learn t (λ _. use1 𝓛 (‵ (Cell T L n l ys)) (𝓛.laws.raw_at full_share (τ T n) l 0 (v T L ys)) $ s))
