-- Where a whole field lies. Assumes nothing.
use Rattle.std.specs.Prelude.{◌≡◌, Bool, cond, Option, Some, None, Result, Ok, Err, List, ℕ, ◌+◌, ◌<◌, ◌≤◌, length}
use Rattle.std.proofs.Math.Path.{refl}
use Rattle.std.proofs.Common.{sym, subst}
use Rattle.std.proofs.Math.Bool.{true, false}
use native.Mathlib.Omega.{arith}
use Rattle.std.proofs.Math.Dec.{leb, ltb}
use Rattle.std.proofs.Math.ListN.{get_or}
use borrow.Author.Tests.{leb-false, ltb-false}
use Rattle.laws.specs.Numbers.{field}
use Rattle.fields.specs.declared.Field.{Field}
use Rattle.fields.specs.declared.Cut.{Cut}
use Rattle.fields.specs.Fields.{field_at}

module _ (s : List ℕ) (at : ℕ) where
  -- a whole field begins within the input, its body lies within the input, and ends further on
  abbrev pub Lies : Result (Option Field) Cut → Type 0
  Lies (Ok (Some f)) = ((f.from ≤ f.to) × (f.to ≤ length s)) × ((at < f.to) × (at < length s))
  Lies (Err c) = 0 ≤ length s
  Lies (Ok None) = 0 ≤ length s

  pub lies : Lies (field_at s at)
  unfolding field_at
  lies = by (leb (length s) at) (ltb (length s) (at + 3 + field s (at + 1) 2)) refl refl
    where
      by : (b d : Bool) → leb (length s) at ≡ b → ltb (length s) (at + 3 + field s (at + 1) 2) ≡ d
          → Lies (cond b (Ok None) (cond d (Err (record {})) (Ok (Some (record { tag = get_or s at 0; from = at + 3; to = at + 3 + field s (at + 1) 2 })))))
      by true d g h = omega arith
      by false true g h = omega arith
      by false false g h =
          ((omega arith, omega (arith, ltb-false (length s) (at + 3 + field s (at + 1) 2) h)), (omega arith, leb-false (length s) at g))

  pub field-within : (f : Field) → Ok (Some f) ≡ field_at s at → (f.from ≤ f.to) × (f.to ≤ length s)
  field-within f e = (subst Lies (sym e) lies).0
