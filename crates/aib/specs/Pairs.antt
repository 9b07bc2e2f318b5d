-- The pair rows (document 01, 'The state', 'Opening APS' and 'Securing APS'): a table of rows, each for a device.
use Rattle.std.specs.Prelude.{refl, Bool, ◌&&◌, List, [], ◌∷◌, ℕ, eqb, leb, take, Option, option_map}
use Rattle.std.proofs.Common.{eq-eqb, eqb-true}
use Rattle.cells.specs.Rows.{Rows, find}
use Rattle.aib.specs.declared.pairs.PairRow.{PairRow}
use Rattle.aib.specs.declared.pairs.Pairs.{Pairs}
use Rattle.cells.specs.First.{first}

-- key attributes and link key types
abbrev pub provisional : ℕ
provisional = 0

abbrev pub unverified : ℕ
unverified = 1

abbrev pub verified : ℕ
verified = 2

abbrev pub global : ℕ
global = 1

-- the trust centre link key
abbrev pub trust_center_link_key : List ℕ
trust_center_link_key = 90 ∷ 105 ∷ 103 ∷ 66 ∷ 101 ∷ 101 ∷ 65 ∷ 108 ∷ 108 ∷ 105 ∷ 97 ∷ 110 ∷ 99 ∷ 101 ∷ 48 ∷ 57 ∷ []

-- what a row holds but its device
pub record PairCell : Type 0 where
  pub attribute : ℕ
  pub key : List ℕ
  pub kind : ℕ
  pub outgoing : ℕ
  pub incoming : ℕ

abbrev pub cell_in : PairRow → PairCell
cell_in r = record { attribute = r.attribute; key = r.key; kind = r.kind; outgoing = r.outgoing; incoming = r.incoming }

abbrev pub row_of : ℕ → PairCell → PairRow
row_of d p = record { device = d; attribute = p.attribute; key = p.key; kind = p.kind; outgoing = p.outgoing; incoming = p.incoming }

-- a row's key in the table is its device; its cell is the rest
abbrev pub pair_rows : Rows PairRow ℕ PairCell
pair_rows = record {
  key_of = λ r. r.device;
  cell_of = cell_in;
  make = row_of;
  same = eqb;
  key-make = λ d p. refl;
  cell-make = λ d p. refl;
  same_refl = λ d. eq-eqb d d refl;
  same-eq = eqb-true;
}

-- what a device that was not known gets on opening
abbrev pub new_pair : ℕ → PairCell
new_pair counter = record { attribute = verified; key = trust_center_link_key; kind = global; outgoing = 0; incoming = counter }

abbrev pub new_row : ℕ → ℕ → PairRow
new_row d counter = row_of d (new_pair counter)

-- ---- searches among the rows in use

-- opening: the first row of that device
unfoldable pub pair_found : Pairs → ℕ → Option PairRow
pair_found pairs d = option_map (row_of d) (find pair_rows (take pairs.used pairs.rows) d)

-- securing: the first row of that device with attribute 0, 1 or 2
abbrev pub may_use : ℕ → PairRow → Bool
may_use d r = eqb r.device d && leb r.attribute verified

unfoldable pub usable_found : Pairs → ℕ → Option PairRow
usable_found pairs d = first (may_use d) (take pairs.used pairs.rows)
