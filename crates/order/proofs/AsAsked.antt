-- DEMAND 3 in its own words: instances of AnyOrder.antt. Assumes nothing.
use Rattle.std.specs.Prelude.{◌≡◌, ℕ, ◌+◌, ◌≤◌, length}
use mathlib.Core.List.{List, Memᴰ as Mem}
use Rattle.cells.specs.Reorder.{Reordered}
use Rattle.nib.specs.Counters.{capacity}
use Rattle.order.specs.Nwk as Nwk
use Rattle.order.specs.Aps as Aps
use Rattle.order.proofs.AnyOrder.{nwk-in-any-order, aps-in-any-order}

-- As it was asked for: at level 5, and for NWK with at most two network keys. What it asks for more is not used: a state of another level, or with
-- more keys, answers every frame 7 and stays as it is, in any order.
pub nwk-as-asked : (d : Nwk.NwkDesk) (p q : List ℕ) → d.state.nwk.level ≡ 5 → d.state.nwk.keys.used ≤ 2
    → Mem d.state.nwk.active (Nwk.numbers d.state.nwk.keys) → d.state.used + length (Nwk.new_pairs d p) ≤ capacity (length d.state.rows) → Reordered (Nwk.names d) p q
    → Nwk.Alike (Nwk.opened d p) (Nwk.opened d q)
nwk-as-asked d p q level two = nwk-in-any-order d p q

pub aps-as-asked : (d : Aps.ApsDesk) (p q : List ℕ) → d.state.aps.level ≡ 5 → d.state.pairs.used + length (Aps.new_senders d p) ≤ 16 → Reordered (Aps.names d) p q
    → Aps.Alike (Aps.opened d p) (Aps.opened d q)
aps-as-asked d p q level = aps-in-any-order d p q
