-- Case 15 of document 01 and a bad field, computed on the definitions. Assumes nothing.
use Rattle.std.specs.Prelude.{◌≡◌, ℕ, List, [], ◌∷◌, Err, refl}
use Rattle.laws.specs.Numbers.{field, value, bit}
use Rattle.cells.specs.Rows.{find}
use Rattle.auxiliary_header.specs.Auxiliary.{auxiliary_at}
use Rattle.control.specs.Control.{has_sender, has_number, identifier_of}
use Rattle.frame_header.specs.Nwk.{nwk_of, nwk_length, nwk_fixed}
use Rattle.nib.specs.Keys.{key_found}
use Rattle.claims.specs.Claims.{nwk_who}
use Rattle.judging.specs.OpenNwk.{open_nwk, nwk_placed}
use Rattle.fields.specs.Fields.{field_at}
use Rattle.reader.specs.declared.faults.Fault.TheVariants.{UnknownTag}
use Rattle.reader.specs.Reading.{Printed, line, started, active_field, frame_field, acted, stepped, printed, lines_from, lines}

abbrev case-15 : List ℕ
case-15 =
    0x03 ∷ 0x01 ∷ 0x00 ∷ 0x07 ∷
    0x10 ∷ 0x09 ∷ 0x00 ∷ 0x08 ∷ 0x00 ∷ 0x00 ∷ 0x00 ∷ 0x34 ∷ 0x12 ∷ 0x1E ∷ 0x01 ∷ 0xAA ∷
    0x10 ∷ 0x03 ∷ 0x00 ∷ 0x08 ∷ 0x02 ∷ 0x00 ∷
    0x10 ∷ 0x1B ∷ 0x00 ∷ 0x08 ∷ 0x02 ∷ 0x00 ∷ 0x00 ∷ 0x34 ∷ 0x12 ∷ 0x1E ∷ 0x02 ∷ 0x28 ∷ 0x05 ∷ 0x00 ∷
    0x00 ∷ 0x00 ∷ 0x77 ∷ 0x66 ∷ 0x55 ∷ 0x44 ∷ 0x33 ∷ 0x22 ∷ 0x11 ∷ 0x00 ∷ 0x07 ∷ 0xAA ∷ 0xBB ∷ 0xCC ∷ 0xDD ∷ 0xEE ∷ []

-- a line's number, answer, start and length
abbrev says : ℕ → ℕ → ℕ → ℕ → Printed
says k n start len = line (record { frame = k; told = record { number = n; start = start; len = len } })

pub prints-case-15 : lines case-15 ≡ says 1 1 8 1 ∷ says 2 2 0 0 ∷ says 3 40 0 0 ∷ []
unfolding lines lines_from printed stepped field_at acted active_field frame_field started field value bit find auxiliary_at has_sender has_number identifier_of nwk_of nwk_length nwk_fixed key_found nwk_who open_nwk nwk_placed
prints-case-15 = refl

-- an active number, and then an unknown tag, 0x09: the second field, which begins at byte 4
abbrev unknown-tag : List ℕ
unknown-tag = 0x03 ∷ 0x01 ∷ 0x00 ∷ 0x07 ∷ 0x09 ∷ 0x00 ∷ 0x00 ∷ []

pub tells-unknown-tag : (stepped (stepped started unknown-tag).reader unknown-tag).event ≡ Err (record { field = 2; at = 4; fault = UnknownTag })
unfolding stepped field_at acted active_field started field value
tells-unknown-tag = refl
