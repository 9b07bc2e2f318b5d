-- NO FRAME OPENS TWICE. Once a frame has opened, no frame of the same pair (NWK) or of the same sender (APS) opens whose counter is not above its own,
-- whatever frames are opened and secured between the two. What `Stale` says stands in Stale.antt. Assumes nothing.
use Rattle.std.specs.Prelude.{◌≡◌, true, List, ℕ, ◌≤◌, Ok}
use Rattle.answer.specs.declared.Refusal.TheVariants.{CounterRepeated, CounterBehind}
use Rattle.cells.specs.Machine.{final}
use Rattle.claims.specs.declared.Claim.{Claim}
use Rattle.claims.specs.declared.Who.TheVariants as who
use Rattle.claims.specs.Claims.{nwk_who, aps_who}
use Rattle.aps.specs.OpenAps.{incoming}
use Rattle.order.specs.Stale.{opens, Stale}
use Rattle.order.specs.Nwk as nwk
use Rattle.order.specs.Aps as aps
use Rattle.order.specs.NwkSteps as nwk-steps
use Rattle.order.specs.ApsSteps as aps-steps
use Rattle.order.proofs.NwkAgain as nwk-proof
use Rattle.order.proofs.ApsAgain as aps-proof

-- A device opens `frame`, then opens, secures and takes whatever it may, then is given `again`, which claims the same key number and sender, with a
-- counter not above that of `frame`: that is refused, 33 if its counter is the one held by then, 34 if below.
pub nwk-not-again : (d : nwk-steps.Device) (frame : List ℕ) (between : List nwk-steps.Step) (again : List ℕ) (c c' : Claim)
    → nwk_who d.gateway.nwk.keys frame ≡ Ok (who.Claims c)
    → nwk_who d.gateway.nwk.keys again ≡ Ok (who.Claims c')
    → nwk.claimed_pair c' ≡ nwk.claimed_pair c
    → c'.counter ≤ c.counter
    → opens (nwk.answer d.gateway frame) ≡ true
    → (let later : nwk.Gateway = (final nwk-steps.after_step (nwk-steps.after_step d (nwk-steps.opening frame)) between).gateway in
    Stale (nwk.held_counter later (nwk.claimed_pair c')) c'.counter CounterRepeated CounterBehind again (nwk.answer later again))
nwk-not-again = nwk-proof.not-again

-- The same for APS, by sender, with securings to any devices and advances between.
pub aps-not-again : (g : aps.Gateway) (frame : List ℕ) (between : List aps-steps.Step) (again : List ℕ) (c c' : Claim)
    → aps_who frame ≡ Ok (who.Claims c)
    → aps_who again ≡ Ok (who.Claims c')
    → c'.sender ≡ c.sender
    → c'.counter ≤ c.counter
    → opens (aps.answer g frame) ≡ true
    → (let later : aps.Gateway = final aps-steps.after_step (aps-steps.after_step g (aps-steps.opening frame)) between in
    Stale (incoming (aps.held_pair later c'.sender)) c'.counter CounterRepeated CounterBehind again (aps.answer later again))
aps-not-again = aps-proof.not-again
