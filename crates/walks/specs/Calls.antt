-- A call in a walk, of a function of which no more is known than its contract.
--     answers      the callee has returned v, which is r: the caller has its tokens back, and what the contract ensures of r
--     gives        the callee's contract ensures that r is r₀: what lands is r₀'s machine value, and the caller has its tokens back
--     covered      the same of a callee to which nothing is lent: what it asks is had from nothing
-- Assumes `Logic`.
use Rattle.std.specs.Prelude.{◌≡◌, List, [], ◌∷◌}
use Rattle.std.proofs.Common.{◌∙◌, ap, sym, subst}
use seplogic.Ra.Ura.{Ura}
use mir.Syntax.{Callee, Place, Opd as Operand, Body, seq, call}
use mir.Val.{Val}
use base.Logic.{emp, ent, ex_e, id⊢, snd∗, via}
use prog.Wp.{Env, Calls, Loops}
use types.Logic.{Logic, sem}
use sound.WpLaws.{FmC}
use contract.Monad.{fact}
use types.Kit.{Item, ‵, raw, ◌⊛◌, some, later, Post, runs, lands, Seq, ◌$◌, use0, use1, await, pick, split, move, drop}
use types.Run.{Opds}
use denote.Laws.{Is, Tells, shows}
use denote.Signature.{type_at}
use denote.Steps.{only, peeks, heard}
use denote.Triple.Bound.{Bound, passed}
use denote.Triple.Call.{calls_at}
use denote.Triple.Clauses.{Clauses, Ended, Lasts, at_exit, closing, ensured, lasts}
use denote.Triple.Entry.{Res, alive}
use denote.Triple.Spec.{triple_of}
use denote.Triple.Statement.{Triple}

module _ {M : Type 1} {𝓤 : Ura M} {𝓛 : Logic 𝓤} {K : Type 0} {Γ : List (Item 𝓤)} {E : Env 𝓤 𝓛.H} {C : Calls 𝓤 𝓛.H} {f : Callee} {xs : List Operand} {Λ : Loops 𝓤 𝓛.H} {q : Post 𝓤 𝓛.H} {d : Place} where
  open 𝓛 use {H}

  module _ (t : K) (fm : FmC 𝓤 H 𝓛.laws C) {rest : Body} (T : Ended) (c : Clauses 𝓤 T) (met : Triple 𝓤 (C f) (triple_of 𝓛 T.signature (closing 𝓛 T c))) (y : (x : Bound 𝓛 T.signature) × (c x.0 x.3).ghost)
      (os : Opds K 𝓛 (raw ((triple_of 𝓛 T.signature (closing 𝓛 T c)).pre y) ∷ Γ) E xs (passed 𝓛 T.signature y.0)) where
    pub answers : ((v : Val) (r : Res T.signature y.0.0) → Is (type_at T.signature.result y.0.0) r (v ∷ [])
        → Seq K 𝓛 (raw (alive 𝓛 T.signature y.0.0 y.0.1) ∷ raw (ensured 𝓛 T c y.0.0 y.0.3 y.1 r) ∷ Γ) (lands C Λ E d v rest q))
        → Seq K 𝓛 (raw ((triple_of 𝓛 T.signature (closing 𝓛 T c)).pre y) ∷ Γ) (runs C Λ E (seq (call f xs d) rest) q)
    answers k =
        calls_at t fm (triple_of 𝓛 T.signature (closing 𝓛 T c)) met y os (λ v.
        use1 𝓛 (later (some (λ (r : Res T.signature y.0.0). (raw (alive 𝓛 T.signature y.0.0 y.0.1) ⊛ ‵ ((type_at T.signature.result y.0.0).own_val r (v ∷ []))) ⊛ raw (ensured 𝓛 T c y.0.0 y.0.3 y.1 r)))) (id⊢ 𝓤 _) $
        await t tt $ pick t (λ r. split t $ split t $ move t (1 ∷ []) $
        peeks t (type_at T.signature.result y.0.0) (Is (type_at T.signature.result y.0.0)) (shows 𝓛 (type_at T.signature.result y.0.0)) r (v ∷ []) (λ is. drop t $ k v r is)))

    pub gives : (vals : Res T.signature y.0.0 → List Val) → Tells (type_at T.signature.result y.0.0) (Is (type_at T.signature.result y.0.0)) vals → (r₀ : Res T.signature y.0.0)
        → ((r : Res T.signature y.0.0) → ent 𝓤 (ensured 𝓛 T c y.0.0 y.0.3 y.1 r) (fact 𝓤 (r ≡ r₀)))
        → (Is (type_at T.signature.result y.0.0) r₀ (only (vals r₀) ∷ []) → Seq K 𝓛 (raw (alive 𝓛 T.signature y.0.0 y.0.1) ∷ Γ) (lands C Λ E d (only (vals r₀)) rest q))
        → Seq K 𝓛 (raw ((triple_of 𝓛 T.signature (closing 𝓛 T c)).pre y) ∷ Γ) (runs C Λ E (seq (call f xs d) rest) q)
    gives vals tl r₀ said k = answers (λ v r is. move t (1 ∷ []) $ use1 𝓛 (raw (fact 𝓤 (r ≡ r₀))) (said r) $ heard t (r ≡ r₀) (λ e.
        let v-is : v ≡ only (vals r₀) = ap only (tl r (v ∷ []) is ∙ ap vals e) in
        let is₀ : Is (type_at T.signature.result y.0.0) r₀ (only (vals r₀) ∷ []) =
        subst (λ (u : Val). Is (type_at T.signature.result y.0.0) r₀ (u ∷ [])) v-is (subst (λ (z : Res T.signature y.0.0). Is (type_at T.signature.result y.0.0) z (v ∷ [])) e is) in
        subst (λ (u : Val). Seq K 𝓛 (raw (alive 𝓛 T.signature y.0.0 y.0.1) ∷ Γ) (lands C Λ E d u rest q)) (sym v-is) (k is₀)))

    pub covered : ent 𝓤 (emp 𝓤) ((triple_of 𝓛 T.signature (closing 𝓛 T c)).pre y)
        → (vals : Res T.signature y.0.0 → List Val) → Tells (type_at T.signature.result y.0.0) (Is (type_at T.signature.result y.0.0)) vals → (r₀ : Res T.signature y.0.0)
        → ((r : Res T.signature y.0.0) (ws : Lasts T y.0.0 y.0.3) → ent 𝓤 ((c y.0.0 y.0.3).ensures y.1 r (at_exit T y.0.0 y.0.3 ws)) (fact 𝓤 (r ≡ r₀)))
        → (Is (type_at T.signature.result y.0.0) r₀ (only (vals r₀) ∷ []) → Seq K 𝓛 Γ (lands C Λ E d (only (vals r₀)) rest q))
        → Seq K 𝓛 Γ (runs C Λ E (seq (call f xs d) rest) q)
    covered asks vals tl r₀ said k = use0 𝓛 (raw ((triple_of 𝓛 T.signature (closing 𝓛 T c)).pre y)) asks $
        gives vals tl r₀ (λ r. ex_e 𝓤 _ (λ ws. via 𝓤 _ (snd∗ 𝓤 (sem 𝓛 (lasts T y.0.0 y.0.3 ws)) _) (said r ws))) (λ is. drop t $ k is)
