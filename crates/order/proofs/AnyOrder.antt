-- DEMAND 3, as it is to be read. Two lists of openings start from the same desk: a gateway, and frames each in a buffer of its own. The
-- first opens the frames in the buffers p, one after another; the second the same frames in the order q. They end alike (`Alike`, in
-- Nwk.antt and Aps.antt). What `Reordered` says stands word by word in `cells`, specs/Reorder.antt. Every hypothesis of `nwk-in-any-order` and of
-- `aps-in-any-order` is needed: the crates `needed` and `needed_aps` refute each theorem without it. Assumes nothing.
use Rattle.std.specs.Prelude.{ℕ, ◌+◌, ◌≤◌, length}
use mathlib.Core.List.{List, Memᴰ as Mem}
use Rattle.cells.specs.Reorder.{Reordered}
use Rattle.nib.specs.Counters.{capacity}
use Rattle.order.specs.Nwk as Nwk
use Rattle.order.specs.Aps as Aps
use Rattle.order.proofs.NwkOrder.{nwk-alike}
use Rattle.order.proofs.ApsOrder.{aps-alike}

pub nwk-in-any-order : (d : Nwk.NwkDesk) (p q : List ℕ)
    -- the active number that of one of the network keys,
    → Mem d.state.nwk.active (Nwk.numbers d.state.nwk.keys)
    -- a free row for each new pair of key number and sender that the frames name,
    → d.state.used + length (Nwk.new_pairs d p) ≤ capacity (length d.state.rows)
    -- the list reordered so that each pair's frames keep their order:
    → Reordered (Nwk.names d) p q
    -- every frame gets the same answer, start and length and ends as the same octets, every pair has the same held counter, the active
    -- number is the same
    → Nwk.Alike (Nwk.opened d p) (Nwk.opened d q)
nwk-in-any-order = nwk-alike

pub aps-in-any-order : (d : Aps.ApsDesk) (p q : List ℕ)
    -- a free row for each new sender that the frames name,
    → d.state.pairs.used + length (Aps.new_senders d p) ≤ 16
    -- the list reordered so that each sender's frames keep their order:
    → Reordered (Aps.names d) p q
    -- every frame gets the same answer, start and length and ends as the same octets, every device has the same pair row
    → Aps.Alike (Aps.opened d p) (Aps.opened d q)
aps-in-any-order = aps-alike
