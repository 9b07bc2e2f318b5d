-- Security levels (document 01, Layouts; ZB 4.5.1.1.1, table 4-30).
use Rattle.std.specs.Prelude.{ℕ, ◌%◌, [], ◌∷◌, get_or}

-- level numbers 0 to 7 have tag lengths 0, 4, 8, 16, 0, 4, 8, 16
abbrev pub tag_length : ℕ → ℕ
tag_length level = get_or (0 ∷ 4 ∷ 8 ∷ 16 ∷ 0 ∷ 4 ∷ 8 ∷ 16 ∷ []) (level % 8) 0
