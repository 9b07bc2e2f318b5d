-- The auxiliary header (document 01, Layouts; ZB 4.5.1): control, counter (4), sender (8, if present), key number (1, if key
-- identifier is 1). All numbers are low byte first.
use Rattle.std.specs.Prelude.{Bool, cond, Option, Some, None, Result, Ok, Err, List, [], ◌∷◌, ◌++◌, ℕ, ◌+◌, leb, length, get_or}
use Rattle.answer.specs.declared.Refusal.{Refusal}
use Rattle.answer.specs.declared.Refusal.TheVariants.{Cut}
use Rattle.laws.specs.Numbers.{field, low}
use Rattle.control.specs.Control.{identifier_of, has_sender, has_number}
use Rattle.control.specs.declared.KeyIdentifier.{KeyIdentifier}
use Rattle.control.specs.declared.KeyIdentifier.TheVariants as identifier
use Rattle.auxiliary_header.specs.declared.auxiliary.KeyUsed.{KeyUsed}
use Rattle.auxiliary_header.specs.declared.auxiliary.KeyUsed.TheVariants as used
use Rattle.auxiliary_header.specs.declared.auxiliary.Auxiliary.{Auxiliary}

-- how long it is
abbrev pub sender_length : ℕ → ℕ
sender_length control = cond (has_sender control) 8 0

abbrev pub number_length : ℕ → ℕ
number_length control = cond (has_number control) 1 0

abbrev pub auxiliary_length : ℕ → ℕ
auxiliary_length control = 1 + 4 + sender_length control + number_length control

-- its fields, from the octets at its place
abbrev pub sender_if : Bool → ℕ → Option ℕ
sender_if present sender = cond present (Some sender) None

abbrev pub key_used : KeyIdentifier → ℕ → KeyUsed
key_used identifier.Link number = used.Link
key_used identifier.Network number = used.Network number
key_used identifier.Transport number = used.Transport
key_used identifier.Load number = used.Load

abbrev pub fields : ℕ → ℕ → ℕ → ℕ → ℕ → Auxiliary
fields control counter sender number next = record {
  control = record { byte = control };
  counter = counter;
  sender = sender_if (has_sender control) sender;
  key = key_used (identifier_of control) number;
  next = next;
}

abbrev pub fields_at : List ℕ → ℕ → ℕ → Auxiliary
fields_at s at control =
    fields control (field s (at + 1) 4) (field s (at + 5) 8) (get_or s (at + 5 + sender_length control) 0) (at + auxiliary_length control)

-- read from any place of any string: the fields with the place after them, or cut
unfoldable pub auxiliary_at : List ℕ → ℕ → Result Auxiliary Refusal
auxiliary_at s at =
    let control : ℕ = get_or s at 0 in
    cond (leb (at + auxiliary_length control) (length s)) (Ok (fields_at s at control)) (Err Cut)

-- its octets
abbrev pub sender_octets : ℕ → ℕ → List ℕ
sender_octets control sender = cond (has_sender control) (low 8 sender) []

abbrev pub number_octets : ℕ → ℕ → List ℕ
number_octets control number = cond (has_number control) (number ∷ []) []

unfoldable pub auxiliary_octets : ℕ → ℕ → ℕ → ℕ → List ℕ
auxiliary_octets control counter sender number =
    control ∷ (low 4 counter ++ (sender_octets control sender ++ number_octets control number))
