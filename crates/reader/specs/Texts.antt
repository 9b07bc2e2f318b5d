-- What a person is told of a field that is not right.
use Rattle.std.specs.Prelude.{ℕ, List, ◌++◌, codes}
use Rattle.std.specs.Fmt.{decimal}
use Rattle.reader.specs.declared.faults.BadField.{BadField}
use Rattle.reader.specs.declared.faults.Fault.{Fault}
use Rattle.reader.specs.declared.faults.Fault.TheVariants.{UnknownTag, WrongLength, RepeatedKey, RepeatedRow, ThirdKey, SurplusRow, CutField, InputTooLong}

abbrev pub fault_text : Fault → List ℕ
fault_text UnknownTag = codes "unknown tag; a field begins with 0x01, 0x02, 0x03 or 0x10"
fault_text WrongLength = codes "wrong length; a key row has 17 bytes, a counter row 13, an active number 1"
fault_text RepeatedKey = codes "repeated row; there is a key of this number already"
fault_text RepeatedRow = codes "repeated row; there is a counter row of this key number and sender already"
fault_text ThirdKey = codes "third key; there is room for two"
fault_text SurplusRow = codes "65th counter row; there is room for 64"
fault_text CutField = codes "cut field; the input ends within it"
fault_text InputTooLong = codes "input over 65536 bytes; no field of it was taken"

-- the field's number, the place where it begins, and what is wrong with it
abbrev pub bad_text : BadField → List ℕ
bad_text bad = codes "bad: field " ++ decimal bad.field ++ codes " at byte offset " ++ decimal bad.at ++ codes ": " ++ fault_text bad.fault
