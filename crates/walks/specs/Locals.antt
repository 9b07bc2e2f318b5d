-- A function's locals, as a walk's context has them: the last one first, each by what it holds and what frees it.
--     empty, full      a local that holds nothing, and one that holds a value
--     Local            a local's type, its place and what it holds.        stack      the context of a list of locals, _0 first
--     leave            where the function returns: every local is freed, whatever it holds, and what stands in front of them is left
--     number           a number owns nothing
-- Assumes `Logic`.
use Rattle.std.specs.Prelude.{refl, List, [], ◌∷◌, ◌++◌, ℕ, ◌<◌, ◌^◌}
use Rattle.std.proofs.Math.Option.{Option, none, some}
use seplogic.Ra.Ura.{Ura}
use base.Fraction.{full_share}
use mir.Syntax.{Ty, Width}
use mir.Val.{Val, vint, bits}
use base.Logic.{SProp, ent, sep, id⊢, via, mono_l, mono_r, assoc∗, assoc', comm∗}
use base.Fml.{Fml, fat, froom, fdies}
use prog.Wp.{Env, release}
use types.Logic.{Logic, sem}
use types.Kit.{Item, ‵, mean, ⋆, push, pop, Goal, prop, frees, Step, step}
use denote.Laws.{Is}
use denote.Plain.{UInt, uint_Makes}
use denote.Steps.{owned}

-- its type, its place, and what it holds
abbrev pub Local : Type 0
Local = Ty × ℕ × Option Val

abbrev pub held : Local → Fml
held (τ, l, none) = froom τ l 0
held (τ, l, some v) = fat full_share τ l 0 v

module _ {M : Type 1} {𝓤 : Ura M} where
  abbrev pub empty : Ty → ℕ → List (Item 𝓤) → List (Item 𝓤)
  empty τ l Γ = ‵ (froom τ l 0) ∷ ‵ (fdies τ l) ∷ Γ

  abbrev pub full : Ty → ℕ → Val → List (Item 𝓤) → List (Item 𝓤)
  full τ l v Γ = ‵ (fat full_share τ l 0 v) ∷ ‵ (fdies τ l) ∷ Γ

  abbrev pub stack : List Local → List (Item 𝓤) → List (Item 𝓤)
  stack [] Γ = Γ
  stack (x ∷ L) Γ = stack L (‵ (held x) ∷ ‵ (fdies x.0 x.1) ∷ Γ)

abbrev pub places : List Local → List (Ty × ℕ)
places [] = []
places (x ∷ L) = (x.0, x.1) ∷ places L

module _ {M : Type 1} {𝓤 : Ura M} (𝓛 : Logic 𝓤) where
  open 𝓛 use {H}

  swap : (P Q R : SProp 𝓤) → ent 𝓤 (sep 𝓤 P (sep 𝓤 Q R)) (sep 𝓤 Q (sep 𝓤 P R))
  swap P Q R = via 𝓤 (sep 𝓤 (sep 𝓤 P Q) R) (assoc' 𝓤 P Q R) (via 𝓤 (sep 𝓤 (sep 𝓤 Q P) R) (mono_l 𝓤 R (comm∗ 𝓤 P Q)) (assoc∗ 𝓤 Q P R))

  -- an entry in the midst of a context is taken out
  out : (Γ : List (Item 𝓤)) (i : Item 𝓤) (Δ : List (Item 𝓤)) → ent 𝓤 (⋆ 𝓛 (Γ ++ (i ∷ Δ))) (sep 𝓤 (mean 𝓛 i) (⋆ 𝓛 (Γ ++ Δ)))
  out [] i Δ = pop 𝓛 i Δ
  out (j ∷ Γ) i Δ =
      let P : SProp 𝓤 = mean 𝓛 j in
      let Q : SProp 𝓤 = mean 𝓛 i in
      let R : SProp 𝓤 = ⋆ 𝓛 (Γ ++ Δ) in
      via 𝓤 (sep 𝓤 P (⋆ 𝓛 (Γ ++ (i ∷ Δ)))) (pop 𝓛 j (Γ ++ (i ∷ Δ)))
      (via 𝓤 (sep 𝓤 P (sep 𝓤 Q R)) (mono_r 𝓤 P (out Γ i Δ)) (via 𝓤 (sep 𝓤 Q (sep 𝓤 P R)) (swap P Q R) (mono_r 𝓤 Q (push 𝓛 j (Γ ++ Δ)))))

  -- what is had after the locals are freed can be had before
  before : (E : Env 𝓤 H) (R P : SProp 𝓤) → ent 𝓤 (release 𝓤 H E (sep 𝓤 R P)) (sep 𝓤 R (release 𝓤 H E P))
  before [] R P = id⊢ 𝓤 (sep 𝓤 R P)
  before (e ∷ E) R P =
      let F : SProp 𝓤 = sep 𝓤 (H.room e.0 e.1 0) (H.dies e.0 e.1) in
      via 𝓤 (sep 𝓤 F (sep 𝓤 R (release 𝓤 H E P))) (mono_r 𝓤 F (before E R P)) (swap F R (release 𝓤 H E P))

  -- what a local holds is room
  room : (x : Local) → ent 𝓤 (sem 𝓛 (held x)) (H.room x.0 x.1 0)
  room (τ, l, none) = id⊢ 𝓤 (H.room τ l 0)
  room (τ, l, some v) = 𝓛.laws.at_room τ l 0 v

  freed : (Γ : List (Item 𝓤)) (L : List Local) (Δ : List (Item 𝓤)) (P : SProp 𝓤) → ent 𝓤 (⋆ 𝓛 (Γ ++ Δ)) P → ent 𝓤 (⋆ 𝓛 (Γ ++ stack L Δ)) (release 𝓤 H (places L) P)
  freed Γ [] Δ P h = h
  freed Γ (x ∷ L) Δ P h =
      let R : SProp 𝓤 = H.room x.0 x.1 0 in
      let D : SProp 𝓤 = H.dies x.0 x.1 in
      via 𝓤 (release 𝓤 H (places L) (sep 𝓤 (sep 𝓤 R D) P))
      (freed Γ L (‵ (held x) ∷ ‵ (fdies x.0 x.1) ∷ Δ) (sep 𝓤 (sep 𝓤 R D) P)
      (via 𝓤 (sep 𝓤 (sem 𝓛 (held x)) (⋆ 𝓛 (Γ ++ (‵ (fdies x.0 x.1) ∷ Δ)))) (out Γ (‵ (held x)) (‵ (fdies x.0 x.1) ∷ Δ))
      (via 𝓤 (sep 𝓤 R (⋆ 𝓛 (Γ ++ (‵ (fdies x.0 x.1) ∷ Δ)))) (mono_l 𝓤 (⋆ 𝓛 (Γ ++ (‵ (fdies x.0 x.1) ∷ Δ))) (room x))
      (via 𝓤 (sep 𝓤 R (sep 𝓤 D (⋆ 𝓛 (Γ ++ Δ)))) (mono_r 𝓤 R (out Γ (‵ (fdies x.0 x.1)) Δ))
      (via 𝓤 (sep 𝓤 R (sep 𝓤 D P)) (mono_r 𝓤 R (mono_r 𝓤 D h)) (assoc' 𝓤 R D P))))))
      (before (places L) (sep 𝓤 R D) P)

module _ {M : Type 1} {𝓤 : Ura M} {𝓛 : Logic 𝓤} {K : Type 0} where
  open 𝓛 use {H}

  pub leave : K → (Γ : List (Item 𝓤)) (L : List Local) {P : SProp 𝓤} → Step K 𝓛 (Γ ++ []) (prop P) (Γ ++ stack L []) (frees (places L) (prop P))
  leave t Γ L {P} = step (λ s. record { prf = freed 𝓛 Γ L [] P s.prf })

  pub number : K → (w : Width) (n : ℕ) → n < 2 ^ bits w → {Γ : List (Item 𝓤)} {G : Goal 𝓤 H} → Step K 𝓛 (‵ ((UInt w).own_val n (vint w n ∷ [])) ∷ Γ) G Γ G
  number t w n fits = owned t (UInt w) (Is (UInt w)) (uint_Makes 𝓛 w) n (vint w n ∷ []) (refl, fits)
