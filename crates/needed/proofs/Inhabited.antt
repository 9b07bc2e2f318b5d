-- THE HYPOTHESES CAN BE MET. For each record that a theorem over NWK asks for there is a frame and a state that has it, and for demand 3 and for 'no
-- frame opens twice' a list of frames that has all that is asked for. (For APS: crate `needed_aps`.) Assumes nothing.
use Rattle.std.specs.Prelude.{◌≡◌, refl, true, List, [], ◌∷◌, ℕ}
use mathlib.Core.List.Memᴰ.{head as here}
use Rattle.std.proofs.lemmas.Option.{same_Some}
use Rattle.std.proofs.Common.{le_refl, arith}
use Rattle.laws.specs.Numbers.{field, value, bit}
use Rattle.answer.specs.declared.Refusal.TheVariants.{CounterRepeated, CounterBehind}
use Rattle.cells.specs.Lists.{any}
use Rattle.cells.specs.Machine.{final}
use Rattle.cells.specs.Rows.{find, has_row, room, settle, new_keys}
use Rattle.control.specs.Control.{has_sender, has_number, identifier_of}
use Rattle.auxiliary_header.specs.Auxiliary.{auxiliary_at}
use Rattle.auxiliary_header.specs.declared.auxiliary.KeyUsed.TheVariants as used
use Rattle.frame_header.specs.declared.network.NwkKind.TheVariants.{Data}
use Rattle.frame_header.specs.Nwk.{nwk_of, nwk_kind, nwk_length, nwk_fixed}
use Rattle.nib.specs.declared.counters.CounterRow.{CounterRow}
use Rattle.nib.specs.Counters.{empty}
use Rattle.nib.specs.Keys.{key_found}
use Rattle.claims.specs.Claims.{nwk_who}
use Rattle.nib.specs.declared.state.Nwk.{Nwk}
use Rattle.judging.specs.OpenNwk.{nwk_placed, open_nwk}
use Rattle.nwk.proofs.RoundNwk as RoundNwk
use Rattle.order.proofs.AnyOrder.{nwk-in-any-order}
use Rattle.order.specs.Cases.{NwkHeard, NwkOpens, NwkSends}
use Rattle.order.proofs.NotAgain.{nwk-not-again}
use Rattle.order.specs.Stale.{Stale}
use Rattle.order.specs.Nwk as nwk
use Rattle.order.specs.NwkSteps as nwk-steps
use Rattle.needed.specs.TwoFrames.{forth, back}
use Rattle.needed.specs.OnAir.{sender, claim_under, under_zero, under_two, under_nine}
use Rattle.needed.proofs.OnAirLaws.{zero-vouches, nine-vouches, claims-under, opens-under, two-claims, three-claims, two-opens}
use Rattle.needed.specs.Desks as nwk-desks
use Rattle.needed.proofs.Desks as nwk-laws

-- ---- states

-- active, and a key of this number
abbrev state : ℕ → ℕ → Nwk
state active n = record { level = 5; own = sender; active = active; keys = record { rows = nwk-desks.key_row n ∷ nwk-desks.key_row 100 ∷ []; used = 1 } }

abbrev rows : List CounterRow
rows = record { number = 2; sender = sender; counter = 5 } ∷ []

-- as `under_two`, with counter 4
abbrev lower : List ℕ
lower =
    0x08 ∷ 0x02 ∷ 0x00 ∷ 0x00 ∷ 0x34 ∷ 0x12 ∷ 0x1E ∷ 0x01
    ∷ 0x28 ∷ 0x04 ∷ 0x00 ∷ 0x00 ∷ 0x00 ∷ 0x77 ∷ 0x66 ∷ 0x55 ∷ 0x44 ∷ 0x33 ∷ 0x22 ∷ 0x11 ∷ 0x00 ∷ 0x02
    ∷ 0x00 ∷ 0x00 ∷ 0x00 ∷ 0x00 ∷ []

-- ---- P5, P7, P8, P10

pub p5-lower : NwkHeard (state 2 2) rows 1 lower 5 4
unfolding nwk_who nwk_of nwk_length nwk_fixed auxiliary_at has_sender has_number identifier_of field value bit key_found find
p5-lower = record {
  claim = record { key = used.Network 2; sender = sender; counter = 4; control = record { byte = 0x28 }; at = 8; payload = 22 };
  taken = refl;
  claims = refl;
  holds = refl;
  counts = refl;
}

pub p5-equal : NwkHeard (state 2 2) rows 1 under_two 5 5
unfolding key_found find
p5-equal = record { claim = claim_under 2; taken = refl; claims = two-claims (state 2 2).keys refl; holds = refl; counts = refl }

-- active 255 and a frame under 0, active 7 and a frame under 9, that open
pub p7 : NwkOpens (state 255 0) (empty ∷ []) 0 under_zero 0
unfolding open_nwk nwk_placed find any settle key_found
p7 = record {
  claim = claim_under 0;
  claims = claims-under 0 _ _ _ _ (state 255 0).keys refl;
  under = refl;
  start = 22;
  len = 0;
  opens = rw (claims-under 0 0x4F 0x7E 0x26 0x59 (state 255 0).keys refl, opens-under 0 0x4F 0x7E 0x26 0x59 (state 255 0).keys refl zero-vouches);
}

pub p8 : NwkOpens (state 7 9) (empty ∷ []) 0 under_nine 9
unfolding open_nwk nwk_placed find any settle key_found
p8 = record {
  claim = claim_under 9;
  claims = claims-under 9 _ _ _ _ (state 7 9).keys refl;
  under = refl;
  start = 22;
  len = 0;
  opens = rw (claims-under 9 0x71 0xC7 0x9B 0xFE (state 7 9).keys refl, opens-under 9 0x71 0xC7 0x9B 0xFE (state 7 9).keys refl nine-vouches);
}

-- a plain frame of a header alone
pub p10 : NwkSends (state 2 2) (0x08 ∷ 0x02 ∷ 0x00 ∷ 0x00 ∷ 0x34 ∷ 0x12 ∷ 0x1E ∷ 0x01 ∷ [])
unfolding nwk_of nwk_kind nwk_length nwk_fixed field value bit key_found find
p10 = record {
  header = record { len = 8; kind = Data; secured = true };
  level = refl;
  keys = omega arith;
  size = omega arith;
  framed = refl;
  kind = omega arith;
  secured = refl;
  key = refl;
}

-- ---- demand 3: two frames of different key numbers, with a free row for each

pub nwk-example : nwk.Alike (nwk.opened (nwk-desks.start 2 2 nwk-desks.both) forth) (nwk.opened (nwk-desks.start 2 2 nwk-desks.both) back)
unfolding new_keys any
nwk-example =
    nwk-in-any-order (nwk-desks.start 2 2 nwk-desks.both) forth back (here refl)
    (rw (two-claims nwk-desks.keys nwk-laws.has-two, three-claims nwk-desks.keys nwk-laws.has-three) (omega arith)) (nwk-laws.reordered 2 2)

-- ---- no frame opens twice: `under_two`, a taken counter, and `under_two` again

abbrev device : nwk-steps.Device
device = record { gateway = record { nwk = state 2 2; rows = empty ∷ []; used = 0 }; outgoing = record { next = 0 } }

pub again-example : (let later : nwk.Gateway = (nwk-steps.after_step (nwk-steps.after_step device (nwk-steps.opening under_two)) nwk-steps.taking).gateway in
    Stale (nwk.held_counter later (nwk.claimed_pair (claim_under 2))) 5 CounterRepeated CounterBehind under_two (nwk.answer later under_two))
unfolding open_nwk nwk_placed find any settle key_found final
again-example =
    nwk-not-again device under_two (nwk-steps.taking ∷ []) under_two (claim_under 2) (claim_under 2) (two-claims (state 2 2).keys refl) (two-claims (state 2 2).keys refl) refl (le_refl 5)
    (rw (two-claims (state 2 2).keys refl, two-opens (state 2 2).keys refl))

-- ---- the round trip: a gateway that hears what was sent

pub nwk-hears : RoundNwk.Hears (state 2 2) (record { next = 6 }) (state 2 2) rows 1
unfolding find room has_row any
nwk-hears = record {
  fit = refl;
  same_key = refl;
  lower = λ held e. let n : 5 ≡ held = same_Some 5 held e in omega arith;
  has_room = refl;
}
