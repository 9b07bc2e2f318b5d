-- The lines of an input: step by step, and to an end. A step that goes on stands further on, so the steps that `lines` takes are all
-- that there are. Assumes nothing.
use Rattle.std.specs.Prelude.{◌≡◌, ℕ, zero, suc, ◌+◌, ◌-◌, ◌<◌, ◌≤◌, Bool, true, false, cond, List, length, take, drop, nat_lt, Option, Some, None, Result, Ok, Err}
use Rattle.std.proofs.Math.Path.{refl}
use native.Mathlib.Omega.{arith}
use Rattle.fields.specs.declared.Cut.{Cut}
use Rattle.fields.specs.declared.Field.{Field}
use Rattle.fields.specs.Fields.{field_at}
use Rattle.fields.specs.FieldLaws.{Lies, lies}
use Rattle.reader.specs.declared.faults.BadField.{BadField}
use Rattle.reader.specs.declared.faults.Fault.TheVariants as fault
use Rattle.reader.specs.declared.reading.Event.{Event}
use Rattle.reader.specs.declared.reading.Event.TheVariants.{Quiet, Tells, End}
use Rattle.reader.specs.declared.reading.Reader.{Reader}
use Rattle.reader.specs.Reading.{Printed, started, bad, acted, taken, stepped, printed, lines_from, lines}

-- what is printed from here on is what one step prints, and then the rest
pub unrolls : (n : ℕ) (s : List ℕ) (r : Reader) → lines_from (suc n) s r ≡ printed (stepped r s).event (lines_from n s (stepped r s).reader)
unfolding lines_from
unrolls n s r = refl

-- ---- a step that goes on

module _ (s : List ℕ) where
  abbrev Moves : ℕ → Result Event BadField → ℕ → Type 0
  Moves a (Ok Quiet) b = (a < b) × (a < length s)
  Moves a (Ok (Tells l)) b = (a < b) × (a < length s)
  Moves a (Err f) b = a ≤ a
  Moves a (Ok End) b = a ≤ a

  moved : (e : Result Event BadField) (a b : ℕ) → a < b → a < length s → Moves a e b
  moved (Ok Quiet) a b h k = (h, k)
  moved (Ok (Tells l)) a b h k = (h, k)
  moved (Err f) a b h k = omega arith
  moved (Ok End) a b h k = omega arith

  moves : (r : Reader) → Moves r.at (stepped r s).event (stepped r s).reader.at
  unfolding stepped
  moves r = by (nat_lt 65536 (length s)) (field_at s r.at) (lies s r.at)
    where
      by : (b : Bool) (f : Result (Option Field) Cut) → Lies s r.at f
          → (let t = cond b (bad r fault.InputTooLong) (taken r s f) in Moves r.at t.event t.reader.at)
      by true f l = omega arith
      by false (Ok None) l = omega arith
      by false (Err c) l = omega arith
      by false (Ok (Some f)) l =
          moved (acted r f.tag (take (f.to - f.from) (drop f.from s))).event r.at f.to l.1.0 l.1.1

  -- what a step prints, by what is printed after it
  same : (e : Result Event BadField) (a b n : ℕ) (xs ys : List Printed) → Moves a e b → length s ≤ a + n → (a < length s → length s < b + n → xs ≡ ys) → printed e xs ≡ printed e ys
  unfolding printed
  same (Ok Quiet) a b n xs ys m h f = f m.1 (omega arith)
  same (Ok (Tells l)) a b n xs ys m h f = rw (f m.1 (omega arith))
  same (Err x) a b n xs ys m h f = refl
  same (Ok End) a b n xs ys m h f = refl

  enough : (n m : ℕ) (r : Reader) → n ≤ m → length s ≤ r.at + n → lines_from (suc m) s r ≡ lines_from (suc n) s r
  unfolding lines_from
  enough zero m r l h =
      let t = stepped r s in
      same t.event r.at t.reader.at 0 (lines_from m s t.reader) (lines_from zero s t.reader) (moves r) h (λ x y. absurd (omega arith))
  enough (suc n) zero r l h = absurd (omega arith)
  enough (suc n) (suc m) r l h =
      let t = stepped r s in
      same t.event r.at t.reader.at (suc n) (lines_from (suc m) s t.reader) (lines_from (suc n) s t.reader) (moves r) h
      (λ x y. enough n m t.reader (omega arith) (omega arith))

-- more steps print nothing more
pub more-steps : (s : List ℕ) (n : ℕ) → length s ≤ n → lines_from (suc n) s started ≡ lines s
unfolding lines started
more-steps s n h = enough s (length s) n started h (omega arith)
