-- Desks with the two frames of OnAir.antt, opened forth and back, and what they end with: computed. Assumes nothing.
use Rattle.std.specs.Prelude.{cond, List, [], ◌∷◌, ℕ, eqb, None}
use Rattle.aib.specs.declared.pairs.PairRow.{PairRow}
use Rattle.aib.specs.Pairs.{new_row}
use Rattle.order.specs.Aps.{ApsDesk}
use Rattle.needed_aps.specs.OnAir.{from_one, from_other}

-- ---- a gateway with so many rows in use, of other devices, and frames in the buffers 0 and 1

abbrev pub others : List PairRow
others =
    new_row 1 0 ∷ new_row 2 0 ∷ new_row 3 0 ∷ new_row 4 0 ∷ new_row 5 0 ∷ new_row 6 0 ∷ new_row 7 0 ∷ new_row 8 0
    ∷ new_row 9 0 ∷ new_row 10 0 ∷ new_row 11 0 ∷ new_row 12 0 ∷ new_row 13 0 ∷ new_row 14 0 ∷ new_row 15 0 ∷ new_row 16 0 ∷ []

abbrev pub start : ℕ → (ℕ → List ℕ) → ApsDesk
start used buffer = record {
  state = record { aps = record { level = 5; own = 0 }; pairs = record { rows = others; used = used } };
  buffer = buffer;
  told = λ i. None;
}

-- one frame of each sender; the same frame twice
abbrev pub both : ℕ → List ℕ
both i = cond (eqb i 0) from_one from_other

abbrev pub copies : ℕ → List ℕ
copies i = from_one
