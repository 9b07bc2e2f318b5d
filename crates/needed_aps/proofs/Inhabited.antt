-- THE HYPOTHESES CAN BE MET. As in `needed`, for what the theorems over APS ask for. Assumes nothing.
use Rattle.std.specs.Prelude.{◌≡◌, refl, List, [], ◌∷◌, ℕ, replicate}
use Rattle.std.proofs.Common.{ap, le_refl, arith}
use Rattle.std.proofs.lemmas.Option.{same_Some}
use Rattle.laws.specs.Numbers.{field, value, bit}
use Rattle.answer.specs.declared.Refusal.TheVariants.{CounterRepeated, CounterBehind}
use Rattle.cells.specs.Lists.{any}
use Rattle.cells.specs.Machine.{final}
use Rattle.cells.specs.Rows.{find, has_row, room, settle, new_keys}
use Rattle.control.specs.Control.{has_sender, has_number, identifier_of}
use Rattle.auxiliary_header.specs.Auxiliary.{auxiliary_at}
use Rattle.auxiliary_header.specs.declared.auxiliary.KeyUsed.TheVariants as used
use Rattle.frame_header.specs.Aps.{aps_of, aps_taken, aps_length}
use Rattle.aib.specs.Pairs.{PairCell, new_pair, new_row, trust_center_link_key}
use Rattle.claims.specs.Claims.{aps_who}
use Rattle.aps.specs.OpenAps.{incoming, aps_placed, open_aps}
use Rattle.aps.proofs.RoundAps as RoundAps
use Rattle.order.proofs.AnyOrder.{aps-in-any-order}
use Rattle.order.specs.Cases.{ApsHeard}
use Rattle.order.proofs.NotAgain.{aps-not-again}
use Rattle.order.specs.Stale.{Stale}
use Rattle.order.specs.Aps as aps
use Rattle.order.specs.ApsSteps as aps-steps
use Rattle.needed.specs.TwoFrames.{forth, back}
use Rattle.needed_aps.specs.OnAir.{one, from_one, claim_from}
use Rattle.needed_aps.proofs.OnAirLaws.{one-claims, other-claims, one-opens}
use Rattle.needed_aps.specs.Desks as aps-desks
use Rattle.needed_aps.proofs.Desks as aps-laws

-- ---- P6

-- a frame from `one` with counter 0, whose row has incoming 0
abbrev first : List ℕ
first = 0x21 ∷ 0x00 ∷ 0x20 ∷ 0x00 ∷ 0x00 ∷ 0x00 ∷ 0x00 ∷ 0x77 ∷ 0x66 ∷ 0x55 ∷ 0x44 ∷ 0x33 ∷ 0x22 ∷ 0x11 ∷ 0x00 ∷ 0x00 ∷ 0x00 ∷ 0x00 ∷ 0x00 ∷ []

pub p6 : ApsHeard (record { level = 5; own = 1 }) (record { rows = new_row one 0 ∷ replicate 15 (new_row 0 0); used = 1 }) first 0 0
unfolding aps_who aps_of aps_taken aps_length auxiliary_at has_sender has_number identifier_of field value bit find
p6 = record {
  claim = record { key = used.Link; sender = one; counter = 0; control = record { byte = 0x20 }; at = 2; payload = 15 };
  known = new_pair 0;
  taken = refl;
  claims = refl;
  row = refl;
  holds = refl;
  counts = refl;
}

-- ---- demand 3: two frames of different senders, with a free row for each

pub aps-example : aps.Alike (aps.opened (aps-desks.start 14 aps-desks.both) forth) (aps.opened (aps-desks.start 14 aps-desks.both) back)
unfolding new_keys any
aps-example = aps-in-any-order (aps-desks.start 14 aps-desks.both) forth back (rw (one-claims, other-claims) (omega arith)) (aps-laws.reordered 14)

-- ---- no frame opens twice: `from_one`, an advance for its sender, and `from_one` again

abbrev gateway : aps.Gateway
gateway = (aps-desks.start 0 aps-desks.both).state

pub aps-again-example : (let later : aps.Gateway = aps-steps.after_step (aps-steps.after_step gateway (aps-steps.opening from_one)) (aps-steps.advancing one) in
    Stale (incoming (aps.held_pair later one)) 5 CounterRepeated CounterBehind from_one (aps.answer later from_one))
unfolding open_aps aps_placed find any settle final
aps-again-example =
    aps-not-again gateway from_one (aps-steps.advancing one ∷ []) from_one (claim_from one) (claim_from one) one-claims one-claims refl (le_refl 5) (rw (one-claims, one-opens))

-- ---- the round trip: a gateway that hears what was sent

pub aps-hears : RoundAps.Hears one 6 trust_center_link_key (record { level = 5; own = 1 }) (record { rows = new_row one 5 ∷ replicate 15 (new_row 0 0); used = 1 })
unfolding find room has_row any
aps-hears = record {
  fit = refl;
  same_key = refl;
  lower = λ p e. let n : 5 ≡ p.incoming = ap (λ (q : PairCell). q.incoming) (same_Some (new_pair 5) p e) in omega arith;
  has_room = refl;
}
