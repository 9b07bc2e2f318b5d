-- Laws of the auxiliary header: its lengths, and that what was written is read back. Assumes nothing.
use Rattle.std.specs.Prelude.{◌≡◌, Bool, cond, Some, Ok, Err, take, drop, get_or, set}
use Rattle.std.proofs.Math.Path.{refl, ap}
use Rattle.std.proofs.Common.{◌∙◌, arith, le-leb, length-take-le}
use Rattle.std.proofs.Math.Bool.{true, false}
use mathlib.Core.List.{List, [], ◌∷◌, ◌++◌, append_assoc}
use Prim.Native.Nat.{ℕ, ◌+◌, ◌^◌, ◌≤◌, ◌<◌}
use Rattle.std.proofs.lemmas.Bool.{lt-leb}
use Rattle.std.proofs.Math.ListN.{length, length-append}
use Rattle.std.proofs.Math.Seq.{get_or_at}
use Rattle.laws.specs.Numbers.{low, field}
use Rattle.laws.specs.NumberLaws.{low-length, field-low}
use Rattle.control.specs.Control.{filled, identifier_of, has_sender, has_number}
use Rattle.control.specs.ControlLaws.{filled-sender, filled-number, is_network, number-of-network}
use Rattle.auxiliary_header.specs.Auxiliary.{sender_length, number_length, auxiliary_length, sender_if, key_used, fields, fields_at, auxiliary_at, sender_octets, number_octets, auxiliary_octets}
use Rattle.auxiliary_header.specs.Written.{written}
use Rattle.auxiliary_header.specs.WrittenLaws.{put, stored}
use Rattle.control.specs.declared.KeyIdentifier.{KeyIdentifier}
use Rattle.control.specs.declared.KeyIdentifier.TheVariants as identifier
use Rattle.auxiliary_header.specs.declared.auxiliary.KeyUsed.TheVariants as used
use Rattle.answer.specs.declared.Refusal.TheVariants.{Cut}

-- ---- lengths

at_most : (present : Bool) (n : ℕ) → cond present n 0 ≤ n
at_most true n = omega arith
at_most false n = omega arith

pub sender-at-most : (control : ℕ) → sender_length control ≤ 8
sender-at-most control = at_most (has_sender control) 8

pub number-at-most : (control : ℕ) → number_length control ≤ 1
number-at-most control = at_most (has_number control) 1

length-if : (present : Bool) (octets : List ℕ) (n : ℕ) → length octets ≡ n → length (cond present octets []) ≡ cond present n 0
length-if true octets n e = e
length-if false octets n e = refl

pub sender-octets : (control sender : ℕ) → length (sender_octets control sender) ≡ sender_length control
sender-octets control sender = length-if (has_sender control) (low 8 sender) 8 (low-length 8 sender)

pub number-octets : (control number : ℕ) → length (number_octets control number) ≡ number_length control
number-octets control number = length-if (has_number control) (number ∷ []) 1 refl

pub octets-length : (control counter sender number : ℕ) → length (auxiliary_octets control counter sender number) ≡ auxiliary_length control
unfolding auxiliary_octets
octets-length control counter sender number =
    let s : length (sender_octets control sender) ≡ sender_length control = sender-octets control sender in
    let n : length (number_octets control number) ≡ number_length control = number-octets control number in
    simp (length-append, low-length) (omega arith)

-- ---- the level changes the first octet and no other

pub filled-length : (control l : ℕ) → auxiliary_length (filled control l) ≡ auxiliary_length control
filled-length control l = rw (filled-sender control l, filled-number control l)

pub filled-octets : (control l counter sender number : ℕ)
    → auxiliary_octets (filled control l) counter sender number ≡ set (auxiliary_octets control counter sender number) 0 (filled control l)
unfolding auxiliary_octets
filled-octets control l counter sender number = rw (filled-sender control l, filled-number control l)

-- ---- read: cut, or whole

module _ (s : List ℕ) (at : ℕ) where
  pub read-cut : length s < at + auxiliary_length (get_or s at 0) → auxiliary_at s at ≡ Err Cut
  unfolding auxiliary_at
  read-cut h = rw (lt-leb (at + auxiliary_length (get_or s at 0)) (length s) h)

  pub read_whole : at + auxiliary_length (get_or s at 0) ≤ length s → auxiliary_at s at ≡ Ok (fields_at s at (get_or s at 0))
  unfolding auxiliary_at
  read_whole h = rw (le-leb (at + auxiliary_length (get_or s at 0)) (length s) h)

-- ---- what was written is read back

module _ (before after : List ℕ) (at control counter sender number : ℕ) (here : length before ≡ at) (counter-fits : counter < 2 ^ 32) (sender-fits : sender < 2 ^ 64) where
  abbrev octets : List ℕ
  octets = auxiliary_octets control counter sender number

  abbrev whole : List ℕ
  whole = before ++ (octets ++ after)

  control-back : get_or whole at 0 ≡ control
  unfolding auxiliary_octets
  control-back = get_or_at before control _ 0 at here

  counter-back : field whole (at + 1) 4 ≡ counter
  unfolding auxiliary_octets
  counter-back =
      let front : List ℕ = before ++ (control ∷ []) in
      let rest : List ℕ = (sender_octets control sender ++ number_octets control number) ++ after in
      let parts : whole ≡ front ++ (low 4 counter ++ rest) = simp append_assoc in
      let size : length front ≡ at + 1 = simp length-append (omega arith) in
      rw parts (field-low front rest (at + 1) 4 counter size counter-fits)

  sender-back : (present : Bool) → has_sender control ≡ present → sender_if present (field whole (at + 5) 8) ≡ sender_if present sender
  unfolding auxiliary_octets
  sender-back false e = refl
  sender-back true e =
      let front : List ℕ = before ++ (control ∷ low 4 counter) in
      let rest : List ℕ = number_octets control number ++ after in
      let parts : whole ≡ front ++ (low 8 sender ++ rest) = simp (e, append_assoc) in
      let size : length front ≡ at + 5 = simp (length-append, low-length) (omega arith) in
      ap Some (rw parts (field-low front rest (at + 5) 8 sender size sender-fits))

  key_back : (key : KeyIdentifier) → identifier_of control ≡ key → key_used key (get_or whole (at + 5 + sender_length control) 0) ≡ key_used key number
  unfolding auxiliary_octets
  key_back identifier.Link e = refl
  key_back identifier.Network e =
      let has : has_number control ≡ true = number-of-network control ∙ ap is_network e in
      let front : List ℕ = before ++ (control ∷ (low 4 counter ++ sender_octets control sender)) in
      let parts : whole ≡ front ++ (number ∷ after) = simp (has, append_assoc) in
      let size : length front ≡ at + 5 + sender_length control = simp (length-append, low-length, sender-octets) (omega arith) in
      ap used.Network (rw parts (get_or_at front number after 0 (at + 5 + sender_length control) size))
  key_back identifier.Transport e = refl
  key_back identifier.Load e = refl

  -- the fields that went in, and the place after them
  pub read_back : auxiliary_at whole at ≡ Ok (fields control counter sender number (at + auxiliary_length control))
  read_back =
      let long : length whole ≡ at + (auxiliary_length control + length after) = simp (length-append, octets-length) (omega arith) in
      let room : at + auxiliary_length (get_or whole at 0) ≤ length whole = rw control-back (omega arith) in
      read_whole whole at room
      ∙ ap (λ (c : ℕ). Ok (fields_at whole at c)) control-back
      ∙ (λ i. Ok (record {
        control = record { byte = control };
        counter = counter-back i;
        sender = sender-back (has_sender control) refl i;
        key = key_back (identifier_of control) refl i;
        next = at + auxiliary_length control;
      }))

-- what `write` leaves where there is room
pub written_back : (out : List ℕ) (at control counter sender number : ℕ) → counter < 2 ^ 32 → sender < 2 ^ 64
    → at + auxiliary_length control ≤ length out
    → auxiliary_at (written out at (auxiliary_octets control counter sender number)) at ≡ Ok (fields control counter sender number (at + auxiliary_length control))
written_back out at control counter sender number counter-fits sender-fits h =
    let octets = auxiliary_octets control counter sender number in
    let room : at + length octets ≤ length out = rw (octets-length control counter sender number) h in
    ap (λ (s : List ℕ). auxiliary_at s at) (put out at octets room)
    ∙ read_back (take at out) (drop (at + length octets) out) at control counter sender number (length-take-le at out (omega arith)) counter-fits sender-fits

-- ---- what the check takes of these laws

pub ruleset lengths = (octets-length, stored)

pub ruleset networks = (number-of-network)
