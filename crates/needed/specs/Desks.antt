-- Desks with the two frames of OnAir.antt, opened forth and back, and what they end with: computed. Assumes nothing.
use Rattle.std.specs.Prelude.{cond, List, [], ◌∷◌, ℕ, eqb, replicate, None}
use Rattle.nib.specs.declared.keys.NetworkKey.{NetworkKey}
use Rattle.nib.specs.declared.keys.NetworkKeys.{NetworkKeys}
use Rattle.nib.specs.Counters.{empty}
use Rattle.order.specs.Nwk.{NwkDesk}
use Rattle.needed.specs.OnAir.{key, under_two, under_three}

-- ---- a gateway with the keys 2 and 3 and so many free rows, and frames in the buffers 0 and 1

abbrev pub key_row : ℕ → NetworkKey
key_row n = record { number = n; key = key }

abbrev pub keys : NetworkKeys
keys = record { rows = key_row 2 ∷ key_row 3 ∷ []; used = 2 }

abbrev pub start : (active places : ℕ) → (ℕ → List ℕ) → NwkDesk
start active places buffer = record {
  state = record { nwk = record { level = 5; own = 0; active = active; keys = keys }; rows = replicate places empty; used = 0 };
  buffer = buffer;
  told = λ i. None;
}

-- one frame of each key number; the same frame twice
abbrev pub both : ℕ → List ℕ
both i = cond (eqb i 0) under_two under_three

abbrev pub copies : ℕ → List ℕ
copies i = under_two
