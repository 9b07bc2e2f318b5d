-- A walk that ends in the function's own contract. At the exit it has the tokens, and of each parameter what says its last value (`lasts`): of one that is not lent by `&mut` nothing; of one
-- that is handed on to a callee for good, what the callee's contract says of it.
--     Own              the contract.       Post y       what a walk has to end in
--     left-ref         a `&mut T` is given up at the value l: what says its last value is left
--     left-slice       a `&mut [T]` is given up at the list l: what says its last value is left
--     ends_with        how it ends, and ends-later, where something is given up first: the tokens and the last values ws, with a result r that is v, and a proof of what is ensured
--     hands            a call of a function with the same parameters, to which all that stands in front is handed on for good: what comes back says the parameters' last values
--     meets            how such a walk, with the parameters' machine values written out and their relations in hand, becomes the theorem that the check asks
-- Assumes `Logic`, but for `from-fact`, which assumes nothing.
use Rattle.std.specs.Prelude.{◌≡◌, List, [], ◌∷◌, ℕ, length}
use seplogic.Ra.Ura.{Ura}
use mir.Syntax.{Body, Callee, Fn, Opd as Operand, Place, call, seq}
use mir.Val.{Val}
use base.Logic.{SProp, ent, id⊢, sep, wand, emp, via, comm∗, mono_l, wand_i, apply∗}
use prog.Wp.{Calls, Env as PEnv, Loops, WpFn, Closed}
use prog.Model.{Model}
use prog.Routine.{Env}
use types.Logic.{Logic, sem}
use types.Kit.{Goal, Item, Post, Seq, Soaks, Step, lands, runs, step, use2, ‵, raw, later, await, ◌$◌, ◌∵◌, !, qed, move, use0, use1, join, show, frame, updating, now as at_once, done}
use contract.Monad.{Fun, fact, fact_i}
use sound.WpLaws.{FmC}
use types.Run.{Opds}
use contract.Lifetimes.{Lfts, Shares, AllOutlive}
use contract.Running.{Running, tables, tables_of}
use denote.Laws.{Are, Is, Ises, Spells, Tells, valss, Tellss}
use denote.RattleType.{flat}
use denote.Exit.{yes, Last, left}
use denote.Ref.{at_last}
use denote.Signature.{AllWithin, Signature, Slot, mut_ref_to, mut_slice_of, type_at, types_at}
use denote.Steps.{only, said}
use denote.Triple.Clauses.{Clauses, Ended, Lasts, at_exit, closing, ensured, lasts}
use denote.Triple.Bound.{passed}
use denote.Triple.Entry.{Args, Res, Vals, alive, on_entry}
use denote.Triple.Spec.{Back, Meets, triple_of}
use denote.Triple.Statement.{Contract, Triple}
use denote.Triple.Table.{entered}
use denote.Triple.Walked.{Goes-ref, Goes-slice}
use Rattle.walks.specs.Lends.{learns}

module _ {M : Type 1} {𝓤 : Ura M} (𝓛 : Logic 𝓤) (T : Ended) (c : Clauses 𝓤 T) where
  open 𝓛 use {H}

  abbrev S : Signature
  S = T.signature

  abbrev pub Own : Contract 𝓤
  Own = triple_of 𝓛 S (closing 𝓛 T c)

  pub ends_with : (y : Own.Ghost) (v : Val) (r : Res S y.0.0) (ws : Lasts T y.0.0 y.0.3) → ent 𝓤 (emp 𝓤) (sem 𝓛 ((type_at S.result y.0.0).own_val r (v ∷ [])))
      → ent 𝓤 (emp 𝓤) ((c y.0.0 y.0.3).ensures y.1 r (at_exit T y.0.0 y.0.3 ws))
      → ent 𝓤 (sep 𝓤 (alive 𝓛 S y.0.0 y.0.1) (sem 𝓛 (lasts T y.0.0 y.0.3 ws))) (Own.post y v)
  ends_with y v r ws own told =
      qed 𝓛 (raw (alive 𝓛 S y.0.0 y.0.1) ∷ ‵ (lasts T y.0.0 y.0.3 ws) ∷ []) ∵ updating ! $ at_once ! $
      show ! (λ (r' : Res S y.0.0). sep 𝓤 (Back 𝓛 S y.0 v r') (ensured 𝓛 T c y.0.0 y.0.3 y.1 r')) r $
      use0 𝓛 (‵ ((type_at S.result y.0.0).own_val r (v ∷ []))) own $ move ! (1 ∷ 0 ∷ []) $ join ! $ frame ! $
      show ! (λ (ws' : Lasts T y.0.0 y.0.3). sep 𝓤 (sem 𝓛 (lasts T y.0.0 y.0.3 ws')) ((c y.0.0 y.0.3).ensures y.1 r (at_exit T y.0.0 y.0.3 ws'))) ws $
      use0 𝓛 (raw ((c y.0.0 y.0.3).ensures y.1 r (at_exit T y.0.0 y.0.3 ws))) told $ move ! (1 ∷ 0 ∷ []) $ join ! $ done !

  pub ends-later : (y : Own.Ghost) (v : Val) (r : Res S y.0.0) (ws : Lasts T y.0.0 y.0.3) → ent 𝓤 (emp 𝓤) (sem 𝓛 ((type_at S.result y.0.0).own_val r (v ∷ [])))
      → ent 𝓤 (emp 𝓤) ((c y.0.0 y.0.3).ensures y.1 r (at_exit T y.0.0 y.0.3 ws))
      → ent 𝓤 (H.⇛ (sep 𝓤 (alive 𝓛 S y.0.0 y.0.1) (sem 𝓛 (lasts T y.0.0 y.0.3 ws)))) (Own.post y v)
  ends-later y v r ws own told = via 𝓤 (H.⇛ (Own.post y v)) (𝓛.laws.⇛_mono _ _ (ends_with y v r ws own told)) (𝓛.laws.⇛_trans _)

  direct : (run : Fun 𝓤) (sp : (κs : Lfts S.lifetimes) → Spells (types_at S.params κs)) → ((κs : Lfts S.lifetimes) → Tellss (types_at S.params κs) (Ises (types_at S.params κs)) (sp κs))
      → ((κs : Lfts S.lifetimes) (qs : Shares S.lifetimes) (bounds : AllOutlive S.lifetimes S.outlives κs) (a : Args S κs) (g : (c κs a).ghost)
      → Are (types_at S.params κs) (Ises (types_at S.params κs)) a (valss (types_at S.params κs) (sp κs) a)
      → ent 𝓤 (sep 𝓤 (on_entry 𝓛 S κs qs a (valss (types_at S.params κs) (sp κs) a)) ((c κs a).requires g))
      (run (flat (types_at S.params κs) (valss (types_at S.params κs) (sp κs) a)) (Own.post ((κs, qs, bounds, a, valss (types_at S.params κs) (sp κs) a), g))))
      → Triple 𝓤 run Own
  direct run sp tl k y =
      let R : SProp 𝓤 = (c y.0.0 y.0.3).requires y.1 in
      let Q : Vals S y.0.0 → SProp 𝓤 = λ us. run (flat (types_at S.params y.0.0) us) (Own.post ((y.0.0, y.0.1, y.0.2, y.0.3, us), y.1)) in
      via 𝓤 (sep 𝓤 R (wand 𝓤 R (Q y.0.4)))
      (via 𝓤 (sep 𝓤 (wand 𝓤 R (Q y.0.4)) R)
      (mono_l 𝓤 R (said 𝓛 S y.0.0 y.0.1 (sp y.0.0) (tl y.0.0) y.0.3 (λ us. wand 𝓤 R (Q us)) y.0.4 (λ are. wand_i 𝓤 _ R _ (k y.0.0 y.0.1 y.0.2 y.0.3 y.1 are))))
      (comm∗ 𝓤 (wand 𝓤 R (Q y.0.4)) R))
      (apply∗ 𝓤 R (Q y.0.4))

module _ {M : Type 1} {𝓤 : Ura M} {𝓛 : Logic 𝓤} {K : Type 0} {Γ : List (Item 𝓤)} {G : Goal 𝓤 𝓛.H} (t : K) (z : Soaks G) (n j : ℕ) (ok : AllWithin n (j ∷ [])) (s : Slot n) (κs : Lfts n) where
  pub left-ref : (x : ((mut_ref_to (j ∷ []) ok s).row κs).Denot) (l : Last (((mut_ref_to (j ∷ []) ok s).row κs).exit yes) x) (vs : List Val)
      → Step K 𝓛 (‵ (left (((mut_ref_to (j ∷ []) ok s).row κs).exit yes) x l) ∷ Γ) G (‵ (((mut_ref_to (j ∷ []) ok s).row κs).own_val (at_last x l) vs) ∷ Γ) G
  left-ref x l vs = step (λ q. use1 𝓛 (later (‵ (left (((mut_ref_to (j ∷ []) ok s).row κs).exit yes) x l))) (Goes-ref 𝓛 n j ok s κs x l vs tt) $ await t z $ q)

  pub left-slice : (x : ((mut_slice_of (j ∷ []) ok s).row κs).Denot) (l : Last (((mut_slice_of (j ∷ []) ok s).row κs).exit yes) x) (vs : List Val) → length l ≡ length x.now
      → Step K 𝓛 (‵ (left (((mut_slice_of (j ∷ []) ok s).row κs).exit yes) x l) ∷ Γ) G (‵ (((mut_slice_of (j ∷ []) ok s).row κs).own_val (at_last x l) vs) ∷ Γ) G
  left-slice x l vs same = step (λ q. use1 𝓛 (later (‵ (left (((mut_slice_of (j ∷ []) ok s).row κs).exit yes) x l))) (Goes-slice 𝓛 n j ok s κs x l vs same) $ await t z $ q)

module _ {M : Type 1} {𝓤 : Ura M} {𝓛 : Logic 𝓤} {K : Type 0} {Γ : List (Item 𝓤)} {E : PEnv 𝓤 𝓛.H} {C : Calls 𝓤 𝓛.H} {f : Callee} {xs : List Operand} {Λ : Loops 𝓤 𝓛.H} {q : Post 𝓤 𝓛.H} {d : Place} where
  open 𝓛 use {H}

  -- the entry that stands in front is handed on
  pub hands : (t : K) (fm : FmC 𝓤 H 𝓛.laws C) {rest : Body} (T : Ended) (c : Clauses 𝓤 T) (met : Triple 𝓤 (C f) (Own 𝓛 T c)) (y : (Own 𝓛 T c).Ghost)
      (os : Opds K 𝓛 (raw ((Own 𝓛 T c).pre y) ∷ Γ) E xs (passed 𝓛 T.signature y.0))
      (vals : Res T.signature y.0.0 → List Val) → Tells (type_at T.signature.result y.0.0) (Is (type_at T.signature.result y.0.0)) vals
      → ent 𝓤 (emp 𝓤) ((c y.0.0 y.0.3).requires y.1)
      → (φ : Res T.signature y.0.0 → Lasts T y.0.0 y.0.3 → Type 0)
      → ((r : Res T.signature y.0.0) (ws : Lasts T y.0.0 y.0.3) → ent 𝓤 ((c y.0.0 y.0.3).ensures y.1 r (at_exit T y.0.0 y.0.3 ws)) (fact 𝓤 (φ r ws)))
      → ((r : Res T.signature y.0.0) (ws : Lasts T y.0.0 y.0.3) → Is (type_at T.signature.result y.0.0) r (only (vals r) ∷ []) → φ r ws
      → Seq K 𝓛 (raw (sep 𝓤 (alive 𝓛 T.signature y.0.0 y.0.1) (sem 𝓛 (lasts T y.0.0 y.0.3 ws))) ∷ Γ) (lands C Λ E d (only (vals r)) rest q))
      → Seq K 𝓛 (raw (on_entry 𝓛 T.signature y.0.0 y.0.1 y.0.3 y.0.4) ∷ Γ) (runs C Λ E (seq (call f xs d) rest) q)
  hands t fm T c met y os vals tl asks φ said k =
      use0 𝓛 (raw ((c y.0.0 y.0.3).requires y.1)) asks $ move t (1 ∷ 0 ∷ []) $ use2 𝓛 (raw ((Own 𝓛 T c).pre y)) (id⊢ 𝓤 _) $
      learns t fm T c met y os vals tl φ said (λ r ws is e. use2 𝓛 (raw (sep 𝓤 (alive 𝓛 T.signature y.0.0 y.0.1) (sem 𝓛 (lasts T y.0.0 y.0.3 ws)))) (id⊢ 𝓤 _) $ k r ws is e)

-- a fact, from nothing
pub from-fact : {M : Type 1} (𝓤 : Ura M) (φ : Type 0) → φ → ent 𝓤 (emp 𝓤) (fact 𝓤 φ)
from-fact 𝓤 φ x = fact_i 𝓤 φ (emp 𝓤) x

module _ {M : Type 1} {𝓤 : Ura M} (𝓛 : Logic 𝓤) (𝓜 : Model 𝓤 𝓛.H) (𝓡 : Running 𝓤 𝓛.H 𝓜) where
  open 𝓛 use {H}

  pub meets : (T : Ended) (c : Clauses 𝓤 T) (γ : Env) (k : Callee) (e : Fn) → Closed 𝓤 H (tables 𝓤 H 𝓜 𝓡 γ).C (tables 𝓤 H 𝓜 𝓡 γ).Λ k e
      → (sp : (κs : Lfts T.signature.lifetimes) → Spells (types_at T.signature.params κs)) → ((κs : Lfts T.signature.lifetimes) → Tellss (types_at T.signature.params κs) (Ises (types_at T.signature.params κs)) (sp κs))
      → ((κs : Lfts T.signature.lifetimes) (qs : Shares T.signature.lifetimes) (bounds : AllOutlive T.signature.lifetimes T.signature.outlives κs) (a : Args T.signature κs) (g : (c κs a).ghost)
      → Are (types_at T.signature.params κs) (Ises (types_at T.signature.params κs)) a (valss (types_at T.signature.params κs) (sp κs) a)
      → ent 𝓤 (sep 𝓤 (on_entry 𝓛 T.signature κs qs a (valss (types_at T.signature.params κs) (sp κs) a)) ((c κs a).requires g))
      (WpFn 𝓤 H (tables 𝓤 H 𝓜 𝓡 γ).C (tables 𝓤 H 𝓜 𝓡 γ).Λ e (flat (types_at T.signature.params κs) (valss (types_at T.signature.params κs) (sp κs) a))
      ((Own 𝓛 T c).post ((κs, qs, bounds, a, valss (types_at T.signature.params κs) (sp κs) a), g))))
      → Meets 𝓛 T.signature (𝓡.run (γ k)) (closing 𝓛 T c)
  unfolding tables_of
  meets T c γ k e unfolded sp tl walk =
      entered 𝓤 H (Own 𝓛 T c) (tables 𝓤 H 𝓜 𝓡 γ).C (tables 𝓤 H 𝓜 𝓡 γ).Λ k e unfolded (direct 𝓛 T c (WpFn 𝓤 H (tables 𝓤 H 𝓜 𝓡 γ).C (tables 𝓤 H 𝓜 𝓡 γ).Λ e) sp tl walk)
