-- NO NONCE TWICE. Whatever frames a device opens and secures (done or refused) and whatever counters it takes, in any mix and for as long as
-- the outgoing counter is not reset: no counter is used twice, so no two frames are secured under one nonce. For NWK that is said of all keys
-- together, for APS of each pair row. Two rows may hold one key, and then a nonce may come twice under it: see the crate `needed_aps`,
-- proofs/Reuse.antt. Assumes nothing.
use Rattle.std.specs.Prelude.{Ok, ◌≡◌, refl, Bool, List, ◌++◌, ℕ, ◌≤◌, ◌<◌, ◌^◌, length, take, get_or, Option}
use Rattle.std.proofs.Common.{sym, ap, ◌∙◌, length-take-le}
use Rattle.std.proofs.lemmas.List.{get_or_at}
use Rattle.answer.specs.declared.Accepted.TheVariants.{Done}
use Rattle.cells.specs.Lists.{Distinct}
use Rattle.cells.specs.Once.{used_by}
use Rattle.control.specs.Control.{filled, sent}
use Rattle.control.specs.declared.KeyIdentifier.{KeyIdentifier}
use Rattle.control.specs.declared.KeyIdentifier.TheVariants.{Network}
use Rattle.auxiliary_header.specs.Auxiliary.{auxiliary_octets}
use Rattle.auxiliary_header.specs.Nonce.{nonce_of}
use Rattle.frame_header.specs.Aps.{aps_length}
use Rattle.frame_header.specs.Nwk.{nwk_length}
use Rattle.nib.specs.declared.outgoing.Outgoing.{Outgoing}
use Rattle.nib.specs.declared.state.Nwk.{Nwk}
use Rattle.securing.specs.SecureNwk.{secure_nwk}
use Rattle.securing.specs.SecureNwk as nwk-secured
use Rattle.aps.specs.SecureAps as aps-secured
use Rattle.order.specs.NwkSteps as nwk
use Rattle.order.specs.ApsSteps as aps
use Rattle.order.proofs.NwkOnce as nwk-laws
use Rattle.order.proofs.ApsOnce as aps-laws
use Rattle.order.specs.NwkSent as nwk-sent
use Rattle.order.specs.ApsSent as aps-sent
use Rattle.order.specs.Aps.{Gateway}
use Rattle.order.specs.Nonces.{NwkSealed, ApsSealed}

-- ---- NWK

-- no two calls that were done used one counter
pub nwk-counters-once : (d : nwk.Device) (steps : List nwk.Step) → Distinct (used_by nwk.counter_used nwk.after_step d steps)
nwk-counters-once = nwk-laws.counters-once

-- from a counter of 32 bits: no two frames were secured under one nonce
pub nwk-nonces-once : (d : nwk.Device) (steps : List nwk.Step) → d.outgoing.next < 2 ^ 32 → Distinct (used_by nwk.nonce_used nwk.after_step d steps)
nwk-nonces-once = nwk-laws.nonces-once

-- ---- APS, for the row that securing to the device `to` uses

-- no two calls that were done used one counter of it
pub aps-counters-once : (to : ℕ) (g : Gateway) (steps : List aps.Step) → Distinct (used_by (aps.counter_used to) aps.after_step g steps)
aps-counters-once = aps-laws.counters-once

-- from a counter of 32 bits: no two frames to the device were secured under one nonce
pub aps-nonces-once : (to : ℕ) (g : Gateway) (steps : List aps.Step) → aps.outgoing_to to g < 2 ^ 32 → Distinct (used_by (aps.nonce_used to) aps.after_step g steps)
aps-nonces-once = aps-laws.nonces-once

-- ---- and these are the nonces that the frames are sealed under: `nonce_at` is what `secured_octets` takes (protection, specs/Protection.antt)

control-at : (identifier : KeyIdentifier) (counter own number : ℕ) (plain : List ℕ) (header : ℕ) → header ≤ length plain
    → get_or (take header plain ++ auxiliary_octets (sent identifier) counter own number) header 0 ≡ sent identifier
unfolding auxiliary_octets
control-at identifier counter own number plain header whole = get_or_at (take header plain) (sent identifier) _ 0 header (length-take-le header plain whole)

module _ (s : Nwk) (o : Outgoing) (plain out : List ℕ) where
  -- so it is wherever a securing was done
  pub nwk-sealed-under : (start len : ℕ) → (secure_nwk s o plain out).answer ≡ Ok (Done start len) → NwkSealed s o plain out (secure_nwk s o plain out).out
  nwk-sealed-under start len = at (nwk-sent.securing s o plain out)
    where
      at : {x : nwk-secured.Secured} → nwk-sent.Sent s o plain out x → x.answer ≡ Ok (Done start len) → NwkSealed s o plain out x.out
      at (nwk-sent.not-sent why) e = cc
      at (nwk-sent.sent whole usable) e =
          (refl, ap (λ (control : ℕ). nonce_of s.own o.next (filled control 5)) (control-at Network o.next s.own s.active plain (nwk_length plain) whole))

module _ (g : Gateway) (device : ℕ) (extended : Bool) (plain out : List ℕ) where
  abbrev header : ℕ
  header = aps_length (get_or plain 0 0)

  -- so it is wherever a securing was done
  pub aps-sealed-under : (start len : ℕ) → (aps.secured g device extended plain out).answer ≡ Ok (Done start len) → ApsSealed g device extended plain out (aps.secured g device extended plain out).out
  aps-sealed-under start len = at (aps-sent.securing g.aps g.pairs device extended plain out)
    where
      at : {x : aps-secured.Secured} → aps-sent.Sent g.aps g.pairs device extended plain out x → x.answer ≡ Ok (Done start len) → ApsSealed g device extended plain out x.out
      at (aps-sent.not-sent why) e = cc
      at (aps-sent.sent row identifier found chosen whole usable) e = (
        row,
        identifier,
        found,
        chosen,
        refl,
        ap (λ (control : ℕ). nonce_of g.aps.own row.outgoing (filled control 5)) (control-at identifier row.outgoing g.aps.own 0 plain header whole)
            ∙ ap (λ (k : Option KeyIdentifier). nonce_of g.aps.own row.outgoing (aps.control_of k)) (sym chosen),
      )
