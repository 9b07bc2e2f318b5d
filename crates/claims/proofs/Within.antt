-- A header that was read lies within its frame. Assumes nothing.
use mathlib.Core.Path.{◌≡◌}
use mathlib.Core.List.{List}
use Prim.Native.Nat.{ℕ, ◌≤◌, ◌<◌}
use native.Mathlib.Omega.{arith}
use lib.ListN.{length}
use Rattle.std.specs.Prelude.{Ok}
use Rattle.std.proofs.lemmas.Grind.{common_steps}
use Rattle.frame_header.specs.declared.network.NwkHeader.{NwkHeader}
use Rattle.frame_header.specs.Nwk.{nwk_of}
use Rattle.frame_header.specs.declared.application.ApsHeader.{ApsHeader}
use Rattle.frame_header.specs.Aps.{aps_of}
use Rattle.auxiliary_header.specs.declared.auxiliary.Auxiliary.{Auxiliary}
use Rattle.auxiliary_header.specs.Auxiliary.{auxiliary_at}

pub nwk_within : (s : List ℕ) (h : NwkHeader) → nwk_of s ≡ Ok h → h.len ≤ length s
unfolding nwk_of
nwk_within s h e = grind (arith, common_steps)

pub aps_within : (s : List ℕ) (h : ApsHeader) → aps_of s ≡ Ok h → h.len ≤ length s
unfolding aps_of
aps_within s h e = grind (arith, common_steps)

pub auxiliary_within : (s : List ℕ) (at : ℕ) (a : Auxiliary) → auxiliary_at s at ≡ Ok a → (at < a.next) × (a.next ≤ length s)
unfolding auxiliary_at
auxiliary_within s at a e = (grind (arith, common_steps), grind (arith, common_steps))
