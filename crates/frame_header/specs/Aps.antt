-- The APS header (document 01, Layouts; ZB 2.2.5.1): frame control 1; command: counter 1; data: endpoint 1 or group 2, cluster 2,
-- profile 2, source endpoint 1, counter 1.
use Rattle.std.specs.Prelude.{Bool, not, cond, Result, Ok, Err, ◌||◌, ◌&&◌, List, ℕ, ◌+◌, ◌/◌, ◌%◌, leb, eqb, length, get_or}
use Rattle.laws.specs.Numbers.{bit}
use Rattle.answer.specs.declared.Refusal.{Refusal}
use Rattle.answer.specs.declared.Refusal.TheVariants.{Unsupported, Cut}
use Rattle.frame_header.specs.declared.application.ApsKind.{ApsKind}
use Rattle.frame_header.specs.declared.application.ApsKind.TheVariants as kind
use Rattle.frame_header.specs.declared.application.Delivery.{Delivery}
use Rattle.frame_header.specs.declared.application.Delivery.TheVariants as delivery
use Rattle.frame_header.specs.declared.application.ApsHeader.{ApsHeader}

-- 2.2.5.1.1: the frame control: type bits 0 and 1, delivery 2 and 3, security 5, extended header 7
abbrev pub aps_kind : ℕ → ℕ
aps_kind control = control % 4

abbrev pub aps_delivery : ℕ → ℕ
aps_delivery control = control / 4 % 4

-- the numbers of the frame types and of the delivery modes
abbrev pub aps_kind_number : ApsKind → ℕ
aps_kind_number kind.Data = 0
aps_kind_number kind.Command = 1
aps_kind_number kind.Acknowledgement = 2
aps_kind_number kind.InterPan = 3

abbrev pub delivery_number : Delivery → ℕ
delivery_number delivery.Unicast = 0
delivery_number delivery.Reserved = 1
delivery_number delivery.Broadcast = 2
delivery_number delivery.Group = 3

abbrev pub is_data : ℕ → Bool
is_data control = eqb (aps_kind control) 0

abbrev pub is_command : ℕ → Bool
is_command control = eqb (aps_kind control) 1

abbrev pub is_secured : ℕ → Bool
is_secured control = bit 5 control

-- kind not taken: type 2 or 3, bit 7 set, or data with delivery 1
unfoldable pub aps_taken : ℕ → Bool
aps_taken control = not (leb 2 (aps_kind control) || (bit 7 control || (is_data control && eqb (aps_delivery control) 1)))

-- endpoint (delivery 0 or 2) or group (delivery 3)
abbrev pub destination_length : ℕ → ℕ
destination_length control = cond (eqb (aps_delivery control) 3) 2 1

unfoldable pub aps_length : ℕ → ℕ
aps_length control = cond (is_command control) (1 + 1) (1 + destination_length control + 2 + 2 + 1 + 1)

-- the header; an empty string is cut, a kind that is not taken is told before a header that is cut
unfoldable pub aps_of : List ℕ → Result ApsHeader Refusal
aps_of s =
    let control : ℕ = get_or s 0 0 in
    cond (eqb (length s) 0) (Err Cut)
    (cond (not (aps_taken control)) (Err Unsupported)
    (cond (leb (aps_length control) (length s))
    (Ok (record { len = aps_length control; command = is_command control; secured = is_secured control }))
    (Err Cut)))
