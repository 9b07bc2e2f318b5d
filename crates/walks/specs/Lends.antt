-- What a walk does before and after a call to which it lends what it holds by `&κ mut`, for a lifetime ν that is made for the call.
--     on-shared, on-again      a `&κ mut [T]` is lent on as a `&ν [T]`, where its elements can be (`Shared.antt`), or as a `&ν mut [T]`.      on-ref       a `&κ mut T` is lent on as a `&ν mut T`
--     off-shared, off-again, off-ref       ν is over, and the walk has its own again: at the list, or the value, that the callee left
--     token        the one token of a callee that is lent one reference
--     learns       the callee has returned r, and the caller knows what the contract says of r and of what it left
-- Assumes `Logic`.
use Rattle.std.specs.Prelude.{◌≡◌, List, [], ◌∷◌, ℕ, length}
use Rattle.std.proofs.Common.{ap, subst, sym}
use seplogic.Ra.Ura.{Ura}
use base.Fraction.{full_share}
use mir.Syntax.{Callee, Lifetime, Place, Opd as Operand, Body, seq, call}
use mir.Val.{Val, vptr}
use base.Logic.{ent, sep, emp, id⊢}
use base.Fml.{Lft, GName, Share, Fml, flft, fres, ftrue}
use prog.Wp.{Env, Calls, Loops}
use types.Logic.{Logic}
use sound.WpLaws.{FmC}
use contract.Monad.{fact}
use types.Kit.{Item, ‵, raw, ◌⊛◌, some, later, Post, Goal, runs, lands, Seq, Step, step, ◌$◌, use1, use2, use3, await, pick, split, move, drop}
use types.Run.{Opds}
use types.Tokens.{lft_new, lft_end}
use Rattle.std.specs.Borrow.{RattleType}
use denote.Bor.{Bor}
use denote.Index.{row}
use denote.Laws.{Is, Tells}
use denote.Lends.{Lent}
use denote.Ref.{MutBor, MutRef}
use denote.Slice.{slice_val, MutSlice, ShrSlice, Room, elements_shared, finally}
use denote.Lend as ref
use denote.Signature.{type_at}
use denote.Steps.{heard, only}
use denote.Triple.Bound.{Bound, passed}
use denote.Triple.Clauses.{Clauses, Ended, Lasts, at_exit, closing, lasts}
use denote.Triple.Entry.{Res, alive}
use denote.Triple.Spec.{triple_of}
use denote.Triple.Statement.{Triple}
use Rattle.walks.specs.Again.{LentAgain, lends_again, comes_back}
use Rattle.walks.specs.Calls.{answers}
use Rattle.walks.specs.Shared.{LentShared, lends_shared, shared_back}

-- a list that is lent, by `&mut` and as shared, and what a `&κ mut` of it owns, which was lent at ys
abbrev list : (R : RattleType) → ℕ → ℕ → GName → List R.Denot → MutBor (List R.Denot)
list R b o δ l = record { ref_ptr = (b, o); ghost_name = δ; now = l }

abbrev shared : (R : RattleType) → ℕ → ℕ → List R.Denot → Bor (List R.Denot)
shared R b o l = record { ref_ptr = (b, o); now = l }

abbrev vals : (R : RattleType) → ℕ → ℕ → List R.Denot → List Val
vals R b o ys = slice_val (b, o) (length ys) ∷ []

abbrev Own : (R : RattleType) → Lifetime → Lft → GName → ℕ → ℕ → List R.Denot → List R.Denot → Fml
Own R ℓ κ γ b o ys zs = (MutSlice ℓ κ R).own_val (list R b o γ zs) (vals R b o ys)

-- the same of one value
abbrev one : (R : RattleType) → ℕ → ℕ → GName → R.Denot → MutBor R.Denot
one R b o δ y = record { ref_ptr = (b, o); ghost_name = δ; now = y }

abbrev Held : (R : RattleType) → Lifetime → Lft → GName → ℕ → ℕ → R.Denot → Fml
Held R ℓ κ γ b o y = (MutRef ℓ κ R).own_val (one R b o γ y) (vptr b o ∷ [])

module _ {M : Type 1} {𝓤 : Ura M} {𝓛 : Logic 𝓤} {K : Type 0} {Γ : List (Item 𝓤)} where
  open 𝓛 use {H, A}

  pub token : K → (κ : Lft) (q : Share) {G : Goal 𝓤 H} → Step K 𝓛 (‵ (flft κ q) ∷ Γ) G (raw (sep 𝓤 (A.lft κ q) (emp 𝓤)) ∷ Γ) G
  token t κ q = step (λ s. use1 𝓛 (‵ (flft κ q) ⊛ ‵ ftrue) (id⊢ 𝓤 _) $ split t $ move t (1 ∷ []) $ drop t $ s)

  module _ {C : Calls 𝓤 H} {Λ : Loops 𝓤 H} {E : Env 𝓤 H} {body : Body} {p : Post 𝓤 H} (t : K) (R : RattleType) (ℓ ℓ' : Lifetime) (κ : Lft) (q : Share) (γ : GName) (b o : ℕ) where
    module _ (ys : List R.Denot) where
      pub on-shared : Lent 𝓛 (row R full_share ys b o) (elements_shared R ys b o)
          → ((ν : ℕ) → Seq K 𝓛 (‵ (flft (ν ∷ []) full_share) ∷ ‵ ((ShrSlice ℓ' (ν ∷ []) R).own_val (shared R b o ys) (vals R b o ys)) ∷ ‵ (LentShared R κ (ν ∷ []) q γ b o ys) ∷ Γ) (runs C Λ E body p))
          → Seq K 𝓛 (‵ (flft κ q) ∷ ‵ (Own R ℓ κ γ b o ys ys) ∷ Γ) (runs C Λ E body p)
      on-shared lends k = lft_new t tt (λ ν. move t (2 ∷ 1 ∷ []) $
          use2 𝓛 (later (‵ ((ShrSlice ℓ' (ν ∷ []) R).own_val (shared R b o ys) (vals R b o ys)) ⊛ ‵ (LentShared R κ (ν ∷ []) q γ b o ys))) (lends_shared R κ (ν ∷ []) q γ b o 𝓛 ℓ ℓ' ys lends) $
          await t tt $ split t $ move t (2 ∷ 0 ∷ []) $ k ν)

      pub on-again : ((ν : ℕ) (δ : GName) → Seq K 𝓛 (‵ (flft (ν ∷ []) full_share) ∷ ‵ ((MutSlice ℓ' (ν ∷ []) R).own_val (list R b o δ ys) (vals R b o ys)) ∷ ‵ (LentAgain R κ (ν ∷ []) q γ b o δ ys) ∷ Γ) (runs C Λ E body p))
          → Seq K 𝓛 (‵ (flft κ q) ∷ ‵ (Own R ℓ κ γ b o ys ys) ∷ Γ) (runs C Λ E body p)
      on-again k = lft_new t tt (λ ν. move t (2 ∷ 1 ∷ []) $
          use2 𝓛 (later (some (λ (δ : GName). ‵ ((MutSlice ℓ' (ν ∷ []) R).own_val (list R b o δ ys) (vals R b o ys)) ⊛ ‵ (LentAgain R κ (ν ∷ []) q γ b o δ ys)))) (lends_again R κ (ν ∷ []) q γ b o 𝓛 ℓ ℓ' ys) $
          await t tt $ pick t (λ δ. split t $ move t (2 ∷ 0 ∷ []) $ k ν δ))

      module _ (room : Room R (length ys)) (ν : ℕ) where
        pub off-shared : Step K 𝓛 (‵ (flft κ q) ∷ ‵ (Own R ℓ κ γ b o ys ys) ∷ Γ) (runs C Λ E body p) (‵ (flft (ν ∷ []) full_share) ∷ ‵ (LentShared R κ (ν ∷ []) q γ b o ys) ∷ Γ) (runs C Λ E body p)
        off-shared = step (λ s. lft_end t tt $
            use2 𝓛 (later (‵ (Own R ℓ κ γ b o ys ys) ⊛ ‵ (flft κ q))) (shared_back R κ (ν ∷ []) q γ b o 𝓛 ℓ ℓ' ys room) $ await t tt $ split t $ move t (1 ∷ 0 ∷ []) $ s)

        pub off-again : (δ : GName) (zs : List R.Denot) → length zs ≡ length ys
            → Step K 𝓛 (‵ (flft κ q) ∷ ‵ (Own R ℓ κ γ b o ys zs) ∷ Γ) (runs C Λ E body p) (‵ (flft (ν ∷ []) full_share) ∷ ‵ (LentAgain R κ (ν ∷ []) q γ b o δ ys) ∷ ‵ (finally R δ zs) ∷ Γ) (runs C Λ E body p)
        off-again δ zs same = step (λ s. lft_end t tt $
            use3 𝓛 (later (‵ (Own R ℓ κ γ b o ys zs) ⊛ ‵ (flft κ q))) (comes_back R κ (ν ∷ []) q γ b o 𝓛 ℓ ℓ' ys δ zs room same) $ await t tt $ split t $ move t (1 ∷ 0 ∷ []) $ s)

    module _ (y : R.Denot) where
      pub on-ref : ((ν : ℕ) (δ : GName) → Seq K 𝓛 (‵ (flft (ν ∷ []) full_share) ∷ ‵ ((MutRef ℓ' (ν ∷ []) R).own_val (one R b o δ y) (vptr b o ∷ [])) ∷ ‵ (ref.LentAgain R κ (ν ∷ []) q γ b o δ y) ∷ Γ) (runs C Λ E body p))
          → Seq K 𝓛 (‵ (flft κ q) ∷ ‵ (Held R ℓ κ γ b o y) ∷ Γ) (runs C Λ E body p)
      on-ref k = lft_new t tt (λ ν. move t (2 ∷ 1 ∷ []) $
          use2 𝓛 (later (some (λ (δ : GName). ‵ ((MutRef ℓ' (ν ∷ []) R).own_val (one R b o δ y) (vptr b o ∷ [])) ⊛ ‵ (ref.LentAgain R κ (ν ∷ []) q γ b o δ y)))) (ref.lends_again 𝓛 R ℓ κ (ν ∷ []) q γ b o ℓ' y) $
          await t tt $ pick t (λ δ. split t $ move t (2 ∷ 0 ∷ []) $ k ν δ))

      pub off-ref : (ν : ℕ) (δ : GName) (z : R.Denot) → Step K 𝓛 (‵ (flft κ q) ∷ ‵ (Held R ℓ κ γ b o z) ∷ Γ) (runs C Λ E body p) (‵ (flft (ν ∷ []) full_share) ∷ ‵ (ref.LentAgain R κ (ν ∷ []) q γ b o δ y) ∷ ‵ (fres δ (R.coded.code z)) ∷ Γ) (runs C Λ E body p)
      off-ref ν δ z = step (λ s. lft_end t tt $
          use3 𝓛 (later (‵ (Held R ℓ κ γ b o z) ⊛ ‵ (flft κ q))) (ref.comes_back 𝓛 R ℓ κ (ν ∷ []) q γ b o δ y z) $ await t tt $ split t $ move t (1 ∷ 0 ∷ []) $ s)

module _ {M : Type 1} {𝓤 : Ura M} {𝓛 : Logic 𝓤} {K : Type 0} {Γ : List (Item 𝓤)} {E : Env 𝓤 𝓛.H} {C : Calls 𝓤 𝓛.H} {f : Callee} {xs : List Operand} {Λ : Loops 𝓤 𝓛.H} {q : Post 𝓤 𝓛.H} {d : Place} where
  open 𝓛 use {H}

  module _ (t : K) (fm : FmC 𝓤 H 𝓛.laws C) {rest : Body} (T : Ended) (c : Clauses 𝓤 T) (met : Triple 𝓤 (C f) (triple_of 𝓛 T.signature (closing 𝓛 T c))) (y : (x : Bound 𝓛 T.signature) × (c x.0 x.3).ghost)
      (os : Opds K 𝓛 (raw ((triple_of 𝓛 T.signature (closing 𝓛 T c)).pre y) ∷ Γ) E xs (passed 𝓛 T.signature y.0))
      (vals : Res T.signature y.0.0 → List Val) (tl : Tells (type_at T.signature.result y.0.0) (Is (type_at T.signature.result y.0.0)) vals) where
    pub learns : (φ : Res T.signature y.0.0 → Lasts T y.0.0 y.0.3 → Type 0)
        → ((r : Res T.signature y.0.0) (ws : Lasts T y.0.0 y.0.3) → ent 𝓤 ((c y.0.0 y.0.3).ensures y.1 r (at_exit T y.0.0 y.0.3 ws)) (fact 𝓤 (φ r ws)))
        → ((r : Res T.signature y.0.0) (ws : Lasts T y.0.0 y.0.3) → Is (type_at T.signature.result y.0.0) r (only (vals r) ∷ []) → φ r ws
        → Seq K 𝓛 (raw (alive 𝓛 T.signature y.0.0 y.0.1) ∷ ‵ (lasts T y.0.0 y.0.3 ws) ∷ Γ) (lands C Λ E d (only (vals r)) rest q))
        → Seq K 𝓛 (raw ((triple_of 𝓛 T.signature (closing 𝓛 T c)).pre y) ∷ Γ) (runs C Λ E (seq (call f xs d) rest) q)
    learns φ said k = answers t fm T c met y os (λ v r is. move t (1 ∷ []) $
        use1 𝓛 (some (λ (ws : Lasts T y.0.0 y.0.3). ‵ (lasts T y.0.0 y.0.3 ws) ⊛ raw ((c y.0.0 y.0.3).ensures y.1 r (at_exit T y.0.0 y.0.3 ws)))) (id⊢ 𝓤 _) $ pick t (λ ws. split t $
        move t (1 ∷ []) $ use1 𝓛 (raw (fact 𝓤 (φ r ws))) (said r ws) $ heard t (φ r ws) (λ e. move t (1 ∷ 0 ∷ []) $
        let v-is : v ≡ only (vals r) = ap only (tl r (v ∷ []) is) in
        subst (λ (u : Val). Seq K 𝓛 (raw (alive 𝓛 T.signature y.0.0 y.0.1) ∷ ‵ (lasts T y.0.0 y.0.3 ws) ∷ Γ) (lands C Λ E d u rest q)) (sym v-is)
        (k r ws (subst (λ (u : Val). Is (type_at T.signature.result y.0.0) r (u ∷ [])) v-is is) e))))
