-- Steps that use things of a rank, each above those used before: nothing is used twice. Assumes nothing.
use Rattle.std.specs.Prelude.{◌≡◌, ◌⊎◌, ℕ, ◌≤◌, ◌<◌}
use Rattle.std.proofs.Math.Path.{refl, ap}
use Rattle.std.proofs.Common.{sym, ◌∙◌, inl, inr, arith}
use Rattle.std.specs.Prelude.{Option, None, Some}
use mathlib.Core.List.Memᴰ.{cases_cons}
use mathlib.Core.List.Memᴰ.{not-nil}
use mathlib.Core.List.{List, [], ◌∷◌, Memᴰ as Mem}
use Rattle.std.proofs.Math.Nat.{le_trans}
use Rattle.cells.specs.Lists.{Distinct}

-- one more, if there is one
unfoldable pub listed : {A : Type 0} → Option A → List A → List A
listed None l = l
listed (Some x) l = x ∷ l

-- what the steps use, in their order
unfoldable pub used_by : {S F A : Type 0} → (S → F → Option A) → (S → F → S) → S → List F → List A
unfolding listed
used_by uses after s [] = []
used_by uses after s (f ∷ fs) = listed (uses s f) (used_by uses after (after s f) fs)

-- `least` is a bound below what a state will use: no step lowers it, and a step that uses something lifts it above that.
module _ {S F A : Type 0} (uses : S → F → Option A) (after : S → F → S) (rank : A → ℕ) (least : S → ℕ) (Good : S → Type 0)
    (stays : (s : S) (f : F) → Good s → Good (after s f))
    (climbs : (s : S) (f : F) → Good s → least s ≤ least (after s f))
    (lifts : (s : S) (f : F) (x : A) → Good s → uses s f ≡ Some x → (least s ≤ rank x) × (rank x < least (after s f))) where
  above : (s : S) (fs : List F) (x : A) → Good s → Mem x (used_by uses after s fs) → least s ≤ rank x
  unfolding used_by
  above s [] x g m = absurd (not-nil m)
  above s (f ∷ fs) x g m = at (uses s f) refl m (λ n. above (after s f) fs x (stays s f g) n)
    where
      at : (o : Option A) → uses s f ≡ o → Mem x (listed o (used_by uses after (after s f) fs)) → (Mem x (used_by uses after (after s f) fs) → least (after s f) ≤ rank x) → least s ≤ rank x
      at None e n ih = le_trans (climbs s f g) (ih n)
      at (Some y) e n ih = first (cases_cons n)
        where
          first : (x ≡ y) ⊎ Mem x (used_by uses after (after s f) fs) → least s ≤ rank x
          first (inl q) = (lifts s f x g (e ∙ ap Some (sym q))).0
          first (inr q) = le_trans (climbs s f g) (ih q)

  -- THE LAW
  pub used-once : (s : S) (fs : List F) → Good s → Distinct (used_by uses after s fs)
  unfolding used_by Distinct
  used-once s [] g = tt
  used-once s (f ∷ fs) g = at (uses s f) refl (used-once (after s f) fs (stays s f g))
    where
      at : (o : Option A) → uses s f ≡ o → Distinct (used_by uses after (after s f) fs) → Distinct (listed o (used_by uses after (after s f) fs))
      at None e ih = ih
      at (Some x) e ih = (λ m. let h = lifts s f x g e in omega (arith, h.1, above (after s f) fs x (stays s f g) m), ih)
