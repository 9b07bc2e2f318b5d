-- A device that opens APS frames, secures APS frames and advances outgoing counters, in any mix; and which counters and nonces it uses with the row
-- of one device.
use Rattle.std.specs.Prelude.{Bool, cond, List, ℕ, eqb, get_or, Option, None, Some}
use Rattle.cells.specs.First.{first}
use Rattle.control.specs.Control.{filled, sent}
use Rattle.control.specs.declared.KeyIdentifier.{KeyIdentifier}
use Rattle.auxiliary_header.specs.Nonce.{nonce_of}
use Rattle.frame_header.specs.Aps.{aps_length}
use Rattle.aib.specs.declared.pairs.PairRow.{PairRow}
use Rattle.aib.specs.Counters.{in_use, advanced}
use Rattle.aib.specs.Pairs.{may_use}
use Rattle.aps.specs.SecureAps.{Secured, identifier_for, secure_aps}
use Rattle.order.specs.Frames.{if_done, if_taken}
use Rattle.order.specs.Aps.{Gateway, after}

-- one call
pub data Step : Type 0 where
  opening : (frame : List ℕ) → Step
  securing : (device : ℕ) (extended : Bool) (plain out : List ℕ) → Step
  advancing : (device : ℕ) → Step

abbrev pub secured : Gateway → ℕ → Bool → List ℕ → List ℕ → Secured
secured g device extended plain out = secure_aps g.aps g.pairs device extended plain out

-- what the next call finds
abbrev pub after_step : Gateway → Step → Gateway
after_step g (opening frame) = after g frame
after_step g (securing device extended plain out) = record { aps = g.aps; pairs = (secured g device extended plain out).pairs }
after_step g (advancing device) = record { aps = g.aps; pairs = (advanced g.pairs device).pairs }

-- the outgoing counter of the row that a securing to this device uses; 0 if there is none, as a new row has it
abbrev pub outgoing_in : Option PairRow → ℕ
outgoing_in None = 0
outgoing_in (Some row) = row.outgoing

abbrev pub outgoing_to : ℕ → Gateway → ℕ
outgoing_to device g = outgoing_in (first (may_use device) (in_use g.pairs))

-- the counter of the row for `to` that a call uses: that of the frame that it secures, or the one that it hands out
abbrev pub counter_used : ℕ → Gateway → Step → Option ℕ
counter_used to g (opening frame) = None
counter_used to g (securing device extended plain out) = cond (eqb device to) (if_done (secured g device extended plain out).answer (outgoing_to to g)) None
counter_used to g (advancing device) = cond (eqb device to) (if_taken (advanced g.pairs device).outcome (advanced g.pairs device).counter) None

-- the control byte that is sent, with the level filled in
abbrev pub control_of : Option KeyIdentifier → ℕ
control_of None = 0
control_of (Some identifier) = filled (sent identifier) 5

-- the nonce of the frame that it secures with that row: own address, counter, and that control byte
abbrev pub nonce_used : ℕ → Gateway → Step → Option (List ℕ)
nonce_used to g (opening frame) = None
nonce_used to g (securing device extended plain out) =
    cond (eqb device to)
    (if_done (secured g device extended plain out).answer (nonce_of g.aps.own (outgoing_to to g) (control_of (identifier_for plain (aps_length (get_or plain 0 0))))))
    None
nonce_used to g (advancing device) = None
