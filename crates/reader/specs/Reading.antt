-- The frame reader (document 01): fields act in order, from level 5, active 0 and empty tables; a line for each frame.
use Rattle.std.specs.Prelude.{ℕ, zero, suc, ◌+◌, ◌-◌, ◌%◌, ◌^◌, cond, not, List, [], ◌∷◌, length, take, drop, replicate, ◌==◌, nat_le, nat_lt, slice_index, slice_set, is_some, Option, None, Some, Result, Ok, Err, ⊤}
use Rattle.laws.specs.Numbers.{field}
use Rattle.answer.specs.Numbers.{told}
use Rattle.cells.specs.Rows.{has_row}
use Rattle.nib.specs.declared.keys.NetworkKey.{NetworkKey}
use Rattle.nib.specs.declared.keys.NetworkKeys.{NetworkKeys}
use Rattle.nib.specs.Counters.{After, counter_rows, pair, recorded, empty}
use Rattle.nib.specs.Keys.{key_found, key_row}
use Rattle.nib.specs.Pairs.{Pair}
use Rattle.nib.specs.declared.state.Nwk.{Nwk}
use Rattle.by_value.specs.declared.CounterTable.{CounterTable}
use Rattle.judging.specs.OpenNwk.{Opened, open_nwk}
use Rattle.fields.specs.declared.Cut.{Cut}
use Rattle.fields.specs.declared.Field.{Field}
use Rattle.fields.specs.Fields.{field_at}
use Rattle.reader.specs.declared.reading.Reader.{Reader}
use Rattle.reader.specs.declared.reading.Line.{Line}
use Rattle.reader.specs.declared.faults.BadField.{BadField}
use Rattle.reader.specs.declared.faults.Fault.{Fault}
use Rattle.reader.specs.declared.faults.Fault.TheVariants as fault
use Rattle.reader.specs.declared.reading.Event.{Event}
use Rattle.reader.specs.declared.reading.Event.TheVariants.{Quiet, Tells, End}

unfoldable pub started : Reader
started = record {
  nwk = record { level = 5; own = 0; active = 0; keys = record { rows = replicate 2 (key_row 0 (replicate 16 0)); used = 0 } };
  table = record { rows = replicate 64 empty; used = 0 };
  at = 0;
  fields = 0;
  frames = 0;
}

-- ---- what a field gives: an event, or what is wrong with it; and the reader after it

pub record Step : Type 0 where
  pub event : Result Event BadField
  pub reader : Reader

abbrev pub with_nwk : Reader → Nwk → Reader
with_nwk r nwk = record { nwk = nwk; table = r.table; at = r.at; fields = r.fields; frames = r.frames }

abbrev pub with_table : Reader → CounterTable → Reader
with_table r table = record { nwk = r.nwk; table = table; at = r.at; fields = r.fields; frames = r.frames }

-- one more, as a number of 64 bits wraps
abbrev pub counted : ℕ → ℕ
counted n = (n + 1) % 2 ^ 64

-- a field that is not right: its number from 1, the place where it begins, and what is wrong
abbrev pub bad_field : Reader → Fault → BadField
bad_field r fault = record { field = counted r.fields; at = r.at; fault = fault }

abbrev pub bad : Reader → Fault → Step
bad r fault = record { event = Err (bad_field r fault); reader = r }

abbrev pub quiet : Reader → Step
quiet r = record { event = Ok Quiet; reader = r }

-- the answer to a field that has nothing to tell, and to any field, with the reader after it
abbrev pub quietly : Result ⊤ Fault → Reader → Step
quietly (Ok _) after = quiet after
quietly (Err fault) after = bad after fault

abbrev pub eventually : Result Event Fault → Reader → Step
eventually (Ok event) after = record { event = Ok event; reader = after }
eventually (Err fault) after = bad after fault

-- ---- 0x01: a key row (number, key). Wrong length, surplus or repeated row: bad

abbrev pub with_key : NetworkKeys → NetworkKey → NetworkKeys
with_key keys row = cond (nat_le 2 keys.used) keys (record { rows = slice_set keys.rows keys.used row; used = keys.used + 1 })

abbrev pub with_keys : Nwk → NetworkKeys → Nwk
with_keys s keys = record { level = s.level; own = s.own; active = s.active; keys = keys }

unfoldable pub key_field : Reader → List ℕ → Step
key_field r body =
    cond (not (length body == 17)) (bad r fault.WrongLength)
    (cond (nat_le 2 r.nwk.keys.used) (bad r fault.ThirdKey)
    (cond (is_some (key_found r.nwk.keys (slice_index body 0))) (bad r fault.RepeatedKey)
    (quiet (with_nwk r (with_keys r.nwk (with_key r.nwk.keys (key_row (slice_index body 0) (drop 1 body))))))))

-- ---- 0x02: a counter row (number, sender, counter). Wrong length, surplus or repeated row: bad

abbrev pub with_row : Reader → After → Reader
with_row r after = with_table r (record { rows = after.rows; used = after.used })

unfoldable pub counter_field : Reader → List ℕ → Step
counter_field r body =
    let k : Pair = pair (slice_index body 0) (field body 1 8) in
    cond (not (length body == 13)) (bad r fault.WrongLength)
    (cond (nat_le 64 r.table.used) (bad r fault.SurplusRow)
    (cond (has_row counter_rows (take r.table.used r.table.rows) k) (bad r fault.RepeatedRow)
    (quiet (with_row r (recorded r.table.rows r.table.used k (field body 9 4))))))

-- ---- 0x03: the active number

abbrev pub with_active : Nwk → ℕ → Nwk
with_active s active = record { level = s.level; own = s.own; active = active; keys = s.keys }

unfoldable pub active_field : Reader → List ℕ → Step
active_field r body = cond (not (length body == 1)) (bad r fault.WrongLength) (quiet (with_nwk r (with_active r.nwk (slice_index body 0))))

-- ---- 0x10: an NWK frame is opened. Its number from 1, answer, start, length

abbrev pub opened_by : Reader → Opened → Reader
opened_by r o = record {
  nwk = with_active r.nwk o.active;
  table = record { rows = o.rows; used = o.used };
  at = r.at;
  fields = r.fields;
  frames = r.frames;
}

abbrev pub presented : Reader → Opened → Reader
presented r o =
    let t : Reader = opened_by r o in
    record { nwk = t.nwk; table = t.table; at = t.at; fields = t.fields; frames = counted t.frames }

unfoldable pub frame_field : Reader → List ℕ → Step
frame_field r body =
    let o : Opened = open_nwk r.nwk r.table.rows r.table.used body in
    record { event = Ok (Tells (record { frame = counted r.frames; told = told o.answer })); reader = presented r o }

-- a line, and the reader after it
abbrev pub telling : Line → Reader → Step
telling line after = record { event = Ok (Tells line); reader = after }

-- ---- one field: an unknown tag is bad

unfoldable pub acted : Reader → ℕ → List ℕ → Step
acted r tag body =
    cond (tag == 0x01) (key_field r body)
    (cond (tag == 0x02) (counter_field r body)
    (cond (tag == 0x03) (active_field r body)
    (cond (tag == 0x10) (frame_field r body)
    (bad r fault.UnknownTag))))

-- the reader goes past a whole field, whatever the field gave
abbrev pub past : Step → ℕ → Step
past t to =
    let r : Reader = t.reader in
    record { event = t.event; reader = record { nwk = r.nwk; table = r.table; at = to; fields = counted r.fields; frames = r.frames } }

-- a cut field is bad
abbrev pub taken : Reader → List ℕ → Result (Option Field) Cut → Step
taken r s (Ok None) = record { event = Ok End; reader = r }
taken r s (Err _) = bad r fault.CutField
taken r s (Ok (Some f)) = past (acted r f.tag (take (f.to - f.from) (drop f.from s))) f.to

-- input over 65,536 bytes is bad, and that is checked first
unfoldable pub stepped : Reader → List ℕ → Step
stepped r s = cond (nat_lt 65536 (length s)) (bad r fault.InputTooLong) (taken r s (field_at s r.at))

-- ---- what is printed: the lines of an input

pub data Printed : Type 0 where
  line : Line → Printed
  is_bad : Printed

-- a line or none, and then the rest; `bad` is a line, and stops
unfoldable pub printed : Result Event BadField → List Printed → List Printed
printed (Ok Quiet) rest = rest
printed (Ok (Tells l)) rest = line l ∷ rest
printed (Ok End) rest = []
printed (Err f) rest = is_bad ∷ []

unfoldable pub lines_from : ℕ → List ℕ → Reader → List Printed
unfolding stepped printed
lines_from zero s r = []
lines_from (suc n) s r = printed (stepped r s).event (lines_from n s (stepped r s).reader)

-- THE LINES of an input: each step but the last goes past a byte at least
unfoldable pub lines : List ℕ → List Printed
unfolding lines_from
lines s = lines_from (suc (length s)) s started
