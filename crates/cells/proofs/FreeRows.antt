-- A free row for each new key is room for every frame, to the end of the list: `free-rows`, `free-room` and `free-next`.
-- Assumes nothing.
use Rattle.std.specs.Prelude.{◌≡◌, ◌⊎◌, Bool, cond, not, ◌||◌, ℕ, suc, ◌+◌, ◌≤◌, ◌<◌, ltb}
use Rattle.std.proofs.Math.Path.{refl}
use Rattle.std.proofs.Common.{sym, ap, ◌∙◌, inl, inr, lt-ltb}
use Rattle.std.proofs.Math.Bool.{true, false}
use Rattle.std.specs.Prelude.{Option, None, Some}
use mathlib.Core.List.Memᴰ
use mathlib.Core.List.Memᴰ.{cases_cons}
use mathlib.Core.List.Memᴰ.{head as here}
use mathlib.Core.List.Memᴰ.{not-nil}
use mathlib.Core.List.Memᴰ.{tail as there}
use mathlib.Core.List.{List, [], ◌∷◌, Memᴰ as Mem}
use native.Mathlib.Omega.{arith}
use Rattle.std.proofs.Math.ListN.{length}
use Rattle.cells.specs.Lists.{keep, any}
use Rattle.cells.specs.ListLaws.{clash, either, keep-mem, keep-length, keep-shorter, any_found}
use Rattle.cells.specs.Rows.{Rows, Reaction, leave, become, has_row, put, room, settle, with_key, new_keys}
use Rattle.cells.proofs.RowLaws.{has-put, has-put-other, length-put}

module _ {R K C F : Type 0} (rows : Rows R K C) (names : F → Option K) (places : ℕ) where
  -- A list with the keys that the frames name and that have no row (and perhaps others), and a free place for each of the list.
  pub record FreeRows (rs : List R) (fs : List F) : Type 0 where
    pub fresh : List K
    pub enough : length rs + length fresh ≤ places
    pub each : (f : F) → Mem f fs → (k : K) → names f ≡ Some k → has_row rows rs k ≡ false → Mem k fresh

  -- ---- it is there at the start: `new_keys` is such a list

  newly : (rs : List R) (ks : List K) (k : K) → has_row rows rs k ≡ false → Mem k (with_key rows rs (Some k) ks)
  unfolding with_key
  newly rs ks k e = at (any (λ (j : K). rows.same j k) ks) refl
    where
      at : (b : Bool) → any (λ (j : K). rows.same j k) ks ≡ b → Mem k (with_key rows rs (Some k) ks)
      at false q = rw (e, q) (here refl)
      at true q =
          let x = any_found (λ (j : K). rows.same j k) ks q in
          rw (e, q) (Memᴰ.cast (sym (rows.same-eq x.0 k x.2)) x.1)

  listed : (rs : List R) (o : Option K) (ks : List K) (k : K) → Mem k ks → Mem k (with_key rows rs o ks)
  unfolding with_key
  listed rs None ks k m = m
  listed rs (Some j) ks k m = either (Mem k) (has_row rows rs j || any (λ (i : K). rows.same i j) ks) m (there m)

  new_keys-each : (rs : List R) (fs : List F) (f : F) → Mem f fs → (k : K) → names f ≡ Some k → has_row rows rs k ≡ false → Mem k (new_keys rows names rs fs)
  unfolding new_keys
  new_keys-each rs [] f m k n e = absurd (not-nil m)
  new_keys-each rs (g ∷ gs) f m k n e = at (λ q. new_keys-each rs gs f q k n e) (cases_cons m)
    where
      at : (Mem f gs → Mem k (new_keys rows names rs gs)) → (f ≡ g) ⊎ Mem f gs → Mem k (with_key rows rs (names g) (new_keys rows names rs gs))
      at ih (inl p) = rw (ap names (sym p) ∙ n) (newly rs (new_keys rows names rs gs) k e)
      at ih (inr q) = listed rs (names g) (new_keys rows names rs gs) k (ih q)

  pub free-rows : (rs : List R) (fs : List F) → length rs + length (new_keys rows names rs fs) ≤ places → FreeRows rs fs
  free-rows rs fs h = record { fresh = new_keys rows names rs fs; enough = h; each = new_keys-each rs fs }

  -- ---- it gives room, and it lasts

  pub free-room : (rs : List R) (f : F) (fs : List F) (k : K) → FreeRows rs (f ∷ fs) → names f ≡ Some k → room rows places rs k ≡ true
  unfolding room
  free-room rs f fs k r n = at (has_row rows rs k) refl
    where
      some-place : {l : List K} → Mem k l → 0 < length l
      some-place (here e) = omega arith
      some-place (there m) = omega arith

      at : (b : Bool) → has_row rows rs k ≡ b → (b || ltb (length rs) places) ≡ true
      at true e = refl
      at false e = lt-ltb (length rs) places (omega (arith, r.enough, some-place (r.each f (here refl) k n e)))

  -- for fewer frames too, or the same in another order
  pub free-fewer : (rs : List R) (fs gs : List F) → ((f : F) → Mem f gs → Mem f fs) → FreeRows rs fs → FreeRows rs gs
  free-fewer rs fs gs sub r = record { fresh = r.fresh; enough = r.enough; each = λ f m. r.each f (sub f m) }

  module _ (rs : List R) (f : F) (fs : List F) (k : K) (r : FreeRows rs (f ∷ fs)) (n : names f ≡ Some k) where
    -- with a row for k, k is no more among the fresh keys
    free-put : (c : C) → FreeRows (put rows rs k c) fs
    free-put c = record {
      fresh = keep other r.fresh;
      enough = enough (has_row rows rs k) refl (length-put rows rs k c);
      each = λ g m j q z. each g m j q z (rows.same k j) refl;
    }
      where
        other : K → Bool
        other j = not (rows.same k j)

        enough : (b : Bool) → has_row rows rs k ≡ b → length (put rows rs k c) ≡ cond b (length rs) (suc (length rs))
            → length (put rows rs k c) + length (keep other r.fresh) ≤ places
        enough true e l = omega (arith, r.enough, keep-length other r.fresh)
        enough false e l = omega (arith, r.enough, keep-shorter other (r.each f (here refl) k n e) (ap not (rows.same_refl k)))

        each : (g : F) → Mem g fs → (j : K) → names g ≡ Some j → has_row rows (put rows rs k c) j ≡ false → (b : Bool) → rows.same k j ≡ b → Mem j (keep other r.fresh)
        each g m j q z true e = clash (has_row rows (put rows rs k c) j) (ap (has_row rows (put rows rs k c)) (sym (rows.same-eq k j e)) ∙ has-put rows rs k c) z
        each g m j q z false e = keep-mem other (r.each g (there m) j q (sym (has-put-other rows rs k j c e) ∙ z)) (ap not e)

    -- After a frame that names k the free places suffice for the frames that are left.
    pub free-next : {O : Type 0} (x : Reaction O C) → FreeRows (settle rows places rs k x).rows fs
    unfolding settle
    free-next (leave out) = free-fewer rs (f ∷ fs) fs (λ g m. there m) r
    free-next (become c out full) =
        either (λ (l : List R). FreeRows l fs) (room rows places rs k) (free-put c) (free-fewer rs (f ∷ fs) fs (λ g m. there m) r)
