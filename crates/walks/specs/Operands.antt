-- What an operand of the code is worth, by what the locals hold: a number written out, a local, or a field of a local that is a struct.
--     worth L x        its value, where there is one
--     Has              where the context has the local that the operand reads: for local i, entry `at i`
--     operand          an operand is read at its worth. The code says which local it is, and the walk what the value has to be
-- Assumes `Logic`.
use Rattle.std.specs.Prelude.{◌≡◌, refl, Bool, true, false, cond, List, [], ◌∷◌, ℕ, zero, suc, ◌+◌, ◌^◌, T, ltb, get_or}
use Rattle.std.proofs.Common.{subst, sym}
use Rattle.std.proofs.Math.Option.{Option, none, some, none-ne-some, some-injective}
use seplogic.Ra.Ura.{Ura}
use base.Fraction.{full_share}
use mir.Syntax.{Opd as Operand, Step as Into, Sym, Ty, Tys, Width, align_of, copy, deref, field, float, fn_addr, int, int_big, int_neg, num_of, opd_false, opd_true, opd_unit, place, ptr_const, size_of, ttnil, ty_array, ty_array_p, ty_bool, ty_const, ty_enum, ty_float, ty_int, ty_named, ty_param, ty_ptr, ty_ref, ty_struct, ty_unit, variant, vtable}
use mir.Fields.{get_v, set_v}
use mir.Val.{Val, bits, vbool, vcode, vfloat, vint, vptr, vstruct, vunit}
use base.Logic.{SProp, ent}
use base.Fml.{fat}
use prog.Memory.{field_at, field_of}
use prog.Wp.{Env, part, read, walk}
use types.Logic.{Logic}
use types.Kit.{Item, nth, ‵, ⋆}
use types.Part.{Part, look_in, sub, whole}
use types.Run.{Opd, lit, look}
use Rattle.walks.specs.Locals.{Local, held, places}

-- ---- the value
abbrev got : Val → ℕ → Option Val
got vunit k = none
got (vbool b) k = none
got (vint w n) k = none
got (vfloat f x) k = none
got (vptr b o) k = none
got (vstruct vs) k = some (get_v vs k)
got (vcode ι) k = none

abbrev found : Option (Ty × ℕ) → Val → ℕ → Option Val
found none u k = none
found (some f) u k = got u k

-- field k of a value of the type
abbrev inside : Ty → Val → ℕ → Option Val
inside (ty_int w) u k = none
inside ty_bool u k = none
inside (ty_float f) u k = none
inside ty_ptr u k = none
inside (ty_ref κ μ τ) u k = none
inside (ty_array τ n) u k = none
inside ty_unit u k = none
inside (ty_struct ν τs) u k = found (field_at zero τs k) u k
inside (ty_enum ν τss) u k = none
inside (ty_named ν τs) u k = none
inside (ty_param i) u k = none
inside (ty_const n) u k = none
inside (ty_array_p τ i) u k = none

abbrev reached : Local → List Into → Option Val
reached (τ, l, none) st = none
reached (τ, l, some u) [] = some u
reached (τ, l, some u) (field k ∷ []) = inside τ u k
reached (τ, l, some u) (field k ∷ s ∷ st) = none
reached (τ, l, some u) (deref σ ∷ st) = none
reached (τ, l, some u) (variant k ∷ st) = none

abbrev nowhere : Local
nowhere = (ty_enum [] ttnil, zero, none)

abbrev pub worth : List Local → Operand → Option Val
worth L (copy (place i st)) = reached (get_or L i nowhere) st
worth L (int w n) = cond (ltb n (2 ^ bits w)) (some (vint w n)) none
worth L (int_neg w k) = none
worth L (int_big w n) = none
worth L (float f n) = none
worth L opd_true = none
worth L opd_false = none
worth L opd_unit = none
worth L (ptr_const n) = none
worth L (size_of τ) = none
worth L (align_of τ) = none
worth L (num_of w τ) = none
worth L (fn_addr f σ) = none
worth L (vtable τ fs) = none

-- ---- where it is
module _ {M : Type 1} {𝓤 : Ura M} (𝓛 : Logic 𝓤) (Γ : List (Item 𝓤)) where
  abbrev spot : (ℕ → ℕ) → Operand → ℕ
  spot at (copy (place i st)) = at i
  spot at (int w n) = zero
  spot at (int_neg w k) = zero
  spot at (int_big w n) = zero
  spot at (float f n) = zero
  spot at opd_true = zero
  spot at opd_false = zero
  spot at opd_unit = zero
  spot at (ptr_const n) = zero
  spot at (size_of τ) = zero
  spot at (align_of τ) = zero
  spot at (num_of w τ) = zero
  spot at (fn_addr f σ) = zero
  spot at (vtable τ fs) = zero

  abbrev entry : List Local → Operand → Item 𝓤
  entry L (copy (place i st)) = ‵ (held (get_or L i nowhere))
  entry L (int w n) = nth 𝓛 zero Γ
  entry L (int_neg w k) = nth 𝓛 zero Γ
  entry L (int_big w n) = nth 𝓛 zero Γ
  entry L (float f n) = nth 𝓛 zero Γ
  entry L opd_true = nth 𝓛 zero Γ
  entry L opd_false = nth 𝓛 zero Γ
  entry L opd_unit = nth 𝓛 zero Γ
  entry L (ptr_const n) = nth 𝓛 zero Γ
  entry L (size_of τ) = nth 𝓛 zero Γ
  entry L (align_of τ) = nth 𝓛 zero Γ
  entry L (num_of w τ) = nth 𝓛 zero Γ
  entry L (fn_addr f σ) = nth 𝓛 zero Γ
  entry L (vtable τ fs) = nth 𝓛 zero Γ

place-of : (L : List Local) (i : ℕ) → get_or (places L) i (ty_enum [] ttnil, zero) ≡ ((get_or L i nowhere).0, (get_or L i nowhere).1)
place-of [] i = refl
place-of (x ∷ L) zero = refl
place-of (x ∷ L) (suc i) = place-of L i

module _ {M : Type 1} {𝓤 : Ura M} (𝓛 : Logic 𝓤) (K : Type 0) (t : K) (Γ : List (Item 𝓤)) where
  open 𝓛 use {H}

  -- a field of a struct
  in_struct : (n : ℕ) (ν : Sym) (τs : Tys) (l : ℕ) (u : Val) (k : ℕ) (v : Val) → nth 𝓛 n Γ ≡ ‵ (fat full_share (ty_struct ν τs) l 0 u) → (p : Option (Ty × ℕ)) → field_at zero τs k ≡ p → found p u k ≡ some v
      → (Kt : Val → SProp 𝓤) → ent 𝓤 (⋆ 𝓛 Γ) (Kt v) → ent 𝓤 (⋆ 𝓛 Γ) (part 𝓤 H p (λ τ d. read 𝓤 H τ l (0 + d) Kt))
  in_struct n ν τs l u k v e none is h Kt g = absurd (none-ne-some v h)
  in_struct n ν τs l (vstruct vs) k v e (some f) is h Kt g =
      (look_in {𝓛 = 𝓛} {Γ = Γ} t n (subst (λ (i : Item 𝓤). Part K 𝓛 i full_share f.0 l (0 + f.1) (get_v vs k) (λ u. ‵ (fat full_share (ty_struct ν τs) l 0 (vstruct (set_v vs k u))))) (sym e) (sub t k is (whole t)))
      ).go Kt (subst (λ (u : Val). ent 𝓤 (⋆ 𝓛 Γ) (Kt u)) (sym (some-injective (get_v vs k) v h)) g)
  in_struct n ν τs l vunit k v e (some f) is h Kt g = absurd (none-ne-some v h)
  in_struct n ν τs l (vbool b) k v e (some f) is h Kt g = absurd (none-ne-some v h)
  in_struct n ν τs l (vint w m) k v e (some f) is h Kt g = absurd (none-ne-some v h)
  in_struct n ν τs l (vfloat φ x) k v e (some f) is h Kt g = absurd (none-ne-some v h)
  in_struct n ν τs l (vptr b o) k v e (some f) is h Kt g = absurd (none-ne-some v h)
  in_struct n ν τs l (vcode ι) k v e (some f) is h Kt g = absurd (none-ne-some v h)

  in-part : (n : ℕ) (τ : Ty) (l : ℕ) (u : Val) (k : ℕ) (v : Val) → nth 𝓛 n Γ ≡ ‵ (fat full_share τ l 0 u) → inside τ u k ≡ some v
      → (Kt : Val → SProp 𝓤) → ent 𝓤 (⋆ 𝓛 Γ) (Kt v) → ent 𝓤 (⋆ 𝓛 Γ) (part 𝓤 H (field_of τ k) (λ σ d. read 𝓤 H σ l (0 + d) Kt))
  in-part n (ty_struct ν τs) l u k v e h Kt g = in_struct n ν τs l u k v e (field_at zero τs k) refl h Kt g
  in-part n (ty_int w) l u k v e h Kt g = absurd (none-ne-some v h)
  in-part n ty_bool l u k v e h Kt g = absurd (none-ne-some v h)
  in-part n (ty_float f) l u k v e h Kt g = absurd (none-ne-some v h)
  in-part n ty_ptr l u k v e h Kt g = absurd (none-ne-some v h)
  in-part n (ty_ref κ μ σ) l u k v e h Kt g = absurd (none-ne-some v h)
  in-part n (ty_array σ m) l u k v e h Kt g = absurd (none-ne-some v h)
  in-part n ty_unit l u k v e h Kt g = absurd (none-ne-some v h)
  in-part n (ty_enum ν τss) l u k v e h Kt g = absurd (none-ne-some v h)
  in-part n (ty_named ν τs) l u k v e h Kt g = absurd (none-ne-some v h)
  in-part n (ty_param i) l u k v e h Kt g = absurd (none-ne-some v h)
  in-part n (ty_const m) l u k v e h Kt g = absurd (none-ne-some v h)
  in-part n (ty_array_p σ i) l u k v e h Kt g = absurd (none-ne-some v h)

  -- a local, and what is reached from it
  in-local : (E : Env 𝓤 H) (n : ℕ) (x : Local) (st : List Into) (v : Val) → nth 𝓛 n Γ ≡ ‵ (held x) → reached x st ≡ some v
      → (Kt : Val → SProp 𝓤) → ent 𝓤 (⋆ 𝓛 Γ) (Kt v) → ent 𝓤 (⋆ 𝓛 Γ) (walk 𝓤 H E (x.0, x.1, 0) st (λ sp. read 𝓤 H sp.0 sp.1 sp.2 Kt))
  in-local E n (τ, l, none) st v e h Kt g = absurd (none-ne-some v h)
  in-local E n (τ, l, some u) [] v e h Kt g = (look {𝓛 = 𝓛} {Γ = Γ} t n e).go Kt (subst (λ (z : Val). ent 𝓤 (⋆ 𝓛 Γ) (Kt z)) (sym (some-injective u v h)) g)
  in-local E n (τ, l, some u) (field k ∷ []) v e h Kt g = in-part n τ l u k v e h Kt g
  in-local E n (τ, l, some u) (field k ∷ s ∷ st) v e h Kt g = absurd (none-ne-some v h)
  in-local E n (τ, l, some u) (deref σ ∷ st) v e h Kt g = absurd (none-ne-some v h)
  in-local E n (τ, l, some u) (variant k ∷ st) v e h Kt g = absurd (none-ne-some v h)

  written : (E : Env 𝓤 H) (w : Width) (n : ℕ) (v : Val) (b : Bool) → ltb n (2 ^ bits w) ≡ b → cond b (some (vint w n)) none ≡ some v → Opd K 𝓛 Γ E (int w n) v
  written E w n v true e h = subst (Opd K 𝓛 Γ E (int w n)) (some-injective (vint w n) v h) (lit t (subst T (sym e) tt))
  written E w n v false e h = absurd (none-ne-some v h)

  evaluated : (at : ℕ → ℕ) (L : List Local) (x : Operand) (v : Val) → nth 𝓛 (spot 𝓛 Γ at x) Γ ≡ entry 𝓛 Γ L x → worth L x ≡ some v → Opd K 𝓛 Γ (places L) x v
  evaluated at L (copy (place i st)) v e h = record {
    go = λ Kt g. subst (λ (s : Ty × ℕ). ent 𝓤 (⋆ 𝓛 Γ) (walk 𝓤 H (places L) (s.0, s.1, 0) st (λ sp. read 𝓤 H sp.0 sp.1 sp.2 Kt))) (sym (place-of L i)) (in-local (places L) (at i) (get_or L i nowhere) st v e h Kt g);
  }
  evaluated at L (int w n) v e h = written (places L) w n v (ltb n (2 ^ bits w)) refl h
  evaluated at L (int_neg w k) v e h = absurd (none-ne-some v h)
  evaluated at L (int_big w n) v e h = absurd (none-ne-some v h)
  evaluated at L (float f n) v e h = absurd (none-ne-some v h)
  evaluated at L opd_true v e h = absurd (none-ne-some v h)
  evaluated at L opd_false v e h = absurd (none-ne-some v h)
  evaluated at L opd_unit v e h = absurd (none-ne-some v h)
  evaluated at L (ptr_const n) v e h = absurd (none-ne-some v h)
  evaluated at L (size_of τ) v e h = absurd (none-ne-some v h)
  evaluated at L (align_of τ) v e h = absurd (none-ne-some v h)
  evaluated at L (num_of w τ) v e h = absurd (none-ne-some v h)
  evaluated at L (fn_addr f σ) v e h = absurd (none-ne-some v h)
  evaluated at L (vtable τ fs) v e h = absurd (none-ne-some v h)

module _ {M : Type 1} {𝓤 : Ura M} {𝓛 : Logic 𝓤} {K : Type 0} {Γ : List (Item 𝓤)} where
  pub operand : K → (at : ℕ → ℕ) (L : List Local) {x : Operand} {v : Val} → nth 𝓛 (spot 𝓛 Γ at x) Γ ≡ entry 𝓛 Γ L x → worth L x ≡ some v → Opd K 𝓛 Γ (places L) x v
  operand t at L {x} {v} = evaluated 𝓛 K t Γ at L x v
