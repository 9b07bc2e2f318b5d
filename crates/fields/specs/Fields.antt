-- Fields (document 01, the frame reader): tag 1 byte, length 2 bytes low first, and so many bytes.
use Rattle.std.specs.Prelude.{cond, Option, Some, None, Result, Ok, Err, List, ℕ, ◌+◌, leb, ltb, length, get_or}
use Rattle.laws.specs.Numbers.{field}
use Rattle.fields.specs.declared.Field.{Field}
use Rattle.fields.specs.declared.Cut.{Cut}

-- the field at a place: its tag and where its body lies; or the end of the input, or a field that is cut
unfoldable pub field_at : List ℕ → ℕ → Result (Option Field) Cut
field_at s at =
    let size : ℕ = field s (at + 1) 2 in
    cond (leb (length s) at) (Ok None)
    (cond (ltb (length s) (at + 3 + size)) (Err (record {}))
    (Ok (Some (record { tag = get_or s at 0; from = at + 3; to = at + 3 + size }))))
