-- What order leaves as it is in a list of NWK openings: of a state that is taken by the law of order of `cells` and by what is known of the
-- active number, and of any other because it answers every frame 7. Assumes nothing.
use Rattle.std.specs.Prelude.{◌≡◌, refl, Bool, true, false, ℕ, ◌+◌, ◌≤◌, length}
use Rattle.std.proofs.Math.Path.{ap}
use mathlib.Core.List.{List, Memᴰ as Mem}
use Rattle.cells.specs.Reorder.{Reordered}
use Rattle.cells.proofs.Still.{still-state, still_alike}
use Rattle.nib.specs.Counters.{counter_rows, capacity}
use Rattle.judging.specs.OpenNwk.{nwk_unfit, open_nwk}
use Rattle.order.specs.Frames.{leaves, says}
use Rattle.order.specs.Nwk.{Gateway, numbers, answer, after, NwkDesk, opened, names, new_pairs, Alike}
use Rattle.order.specs.NwkMachine.{rows_in_use}
use Rattle.order.proofs.NwkPlaced.{taken-good}
use Rattle.order.proofs.NwkTaken.{taken-alike}

-- a state that is not taken stays as it is
untaken-alike : (d : NwkDesk) (p q : List ℕ) → nwk_unfit d.state.nwk d.state.rows d.state.used ≡ true → Reordered (names d) p q → Alike (opened d p) (opened d q)
unfolding open_nwk
untaken-alike d p q unfit re =
    let still : (b : List ℕ) → after d.state b ≡ d.state = λ b. rw unfit in
    let same = still_alike answer after leaves says counter_rows rows_in_use d still p q re in
    record {
      octets = same.buffers;
      answers = same.answers;
      counters = same.cells;
      active = ap (λ (g : Gateway). g.nwk.active) (still-state answer after leaves says counter_rows rows_in_use d still p q re);
    }

pub nwk-alike : (d : NwkDesk) (p q : List ℕ) → Mem d.state.nwk.active (numbers d.state.nwk.keys)
    → d.state.used + length (new_pairs d p) ≤ capacity (length d.state.rows) → Reordered (names d) p q → Alike (opened d p) (opened d q)
nwk-alike d p q member free re = at (nwk_unfit d.state.nwk d.state.rows d.state.used) refl
  where
    at : (t : Bool) → nwk_unfit d.state.nwk d.state.rows d.state.used ≡ t → Alike (opened d p) (opened d q)
    at true e = untaken-alike d p q e re
    at false e = let fit = taken-good d.state e in taken-alike d p q fit.0.level fit.1 member free re
