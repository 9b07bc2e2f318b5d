-- A device on the network that opens frames, secures frames and takes counters, in any mix; and which counters and nonces it uses.
use Rattle.std.specs.Prelude.{List, ℕ, Option, None}
use Rattle.auxiliary_header.specs.Nonce.{nonce_of}
use Rattle.nib.specs.declared.outgoing.Outgoing.{Outgoing}
use Rattle.nib.specs.Sending.{taken}
use Rattle.securing.specs.SecureNwk.{Secured, secure_nwk}
use Rattle.order.specs.Frames.{if_done, if_taken}
use Rattle.order.specs.Nwk.{Gateway, after}

-- what goes from call to call
pub record Device : Type 0 where
  pub gateway : Gateway
  pub outgoing : Outgoing

-- one call
pub data Step : Type 0 where
  opening : (frame : List ℕ) → Step
  securing : (plain out : List ℕ) → Step
  taking : Step

abbrev pub secured : Device → List ℕ → List ℕ → Secured
secured d plain out = secure_nwk d.gateway.nwk d.outgoing plain out

-- what the next call finds
abbrev pub after_step : Device → Step → Device
after_step d (opening frame) = record { gateway = after d.gateway frame; outgoing = d.outgoing }
after_step d (securing plain out) = record { gateway = d.gateway; outgoing = (secured d plain out).outgoing }
after_step d taking = record { gateway = d.gateway; outgoing = (taken d.outgoing).outgoing }

-- the counter that a call uses: that of the frame that it secures, or the one that it hands out
abbrev pub counter_used : Device → Step → Option ℕ
counter_used d (opening frame) = None
counter_used d (securing plain out) = if_done (secured d plain out).answer d.outgoing.next
counter_used d taking = if_taken (taken d.outgoing).outcome (taken d.outgoing).counter

-- the nonce of the frame that it secures: own address, counter, and the control byte that NWK sends, with the level filled in
abbrev pub nonce_used : Device → Step → Option (List ℕ)
nonce_used d (opening frame) = None
nonce_used d (securing plain out) = if_done (secured d plain out).answer (nonce_of d.gateway.nwk.own d.outgoing.next 0x2D)
nonce_used d taking = None
