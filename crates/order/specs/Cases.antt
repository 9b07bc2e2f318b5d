-- P1 TO P10: document 01's cases that are marked P, as one list, on the definitions that the promises use. That there are frames and states as the
-- records here ask for is shown in the crates `needed` and `needed_aps`, proofs/Inhabited.antt. Assumes nothing.
use Rattle.std.specs.Prelude.{Ok, is_some, Err, Result, ◌≡◌, refl, Bool, true, false, cond, List, [], ◌∷◌, ℕ, ◌≤◌, ◌<◌, length, take, Some}
use Rattle.std.proofs.Common.{ap, ◌∙◌, eq-eqb, le-ltb}
use Rattle.std.proofs.lemmas.Bool.{lt-leb}
use Rattle.answer.specs.Numbers.{Answer, outcome_number, told}
use Rattle.answer.specs.declared.Accepted.TheVariants.{Done}
use Rattle.answer.specs.declared.Refusal.TheVariants.{Unsupported}
use Rattle.cells.specs.Rows.{find, settle}
use Rattle.control.specs.declared.KeyIdentifier.TheVariants.{Link, Network, Transport, Load}
use Rattle.control.specs.Control.{filled, sent}
use Rattle.auxiliary_header.specs.Nonce.{nonce_of}
use Rattle.auxiliary_header.specs.Cases as frame
use Rattle.frame_header.specs.declared.network.NwkHeader.{NwkHeader}
use Rattle.frame_header.specs.Nwk.{nwk_kind_number, nwk_of}
use Rattle.mmo.specs.Hash.{padding}
use Rattle.nib.specs.declared.counters.CounterRow.{CounterRow}
use Rattle.nib.specs.Active.{turn}
use Rattle.nib.specs.Counters.{counter_in, counter_rows, pair}
use Rattle.nib.specs.Keys.{key_found}
use Rattle.nib.specs.Sending.{taken, restarted}
use Rattle.nib.specs.Cases as nib
use Rattle.aib.specs.declared.pairs.Pairs.{Pairs}
use Rattle.aib.specs.Counters.{in_use}
use Rattle.aib.specs.Pairs.{PairCell, pair_rows}
use Rattle.answer.specs.declared.Refusal.{Refusal}
use Rattle.claims.specs.declared.Claim.{Claim}
use Rattle.claims.specs.declared.Who.{Who}
use Rattle.claims.specs.declared.Who.TheVariants as who
use Rattle.claims.specs.Claims.{number_of, nwk_who, aps_who}
use Rattle.protection.specs.Heard.{refused}
use Rattle.nib.specs.declared.state.Nwk.{Nwk}
use Rattle.judging.specs.OpenNwk.{unchanged, active_after, nwk_judged, nwk_placed, nwk_unfit, open_nwk}
use Rattle.securing.specs.SecureNwk.{secure_nwk}
use Rattle.aps.specs.declared.state.Aps.{Aps}
use Rattle.aps.specs.OpenAps.{aps_judged, aps_placed, aps_unfit, open_aps}

-- the number of an answer
abbrev numbered : Answer → ℕ
numbered a = (told a).number

-- An NWK frame with this counter claims to be of a pair, and `held` is held for the pair; the state is taken.
pub record NwkHeard (s : Nwk) (rows : List CounterRow) (used : ℕ) (b : List ℕ) (held counter : ℕ) : Type 0 where
  pub claim : Claim
  pub taken : nwk_unfit s rows used ≡ false
  pub claims : nwk_who s.keys b ≡ Ok (who.Claims claim)
  pub holds : counter_in (find counter_rows (take used rows) (pair (number_of claim.key) claim.sender)) ≡ Some held
  pub counts : claim.counter ≡ counter

-- An NWK frame opens, under this key number.
pub record NwkOpens (s : Nwk) (rows : List CounterRow) (used : ℕ) (b : List ℕ) (number : ℕ) : Type 0 where
  pub claim : Claim
  pub claims : nwk_who s.keys b ≡ Ok (who.Claims claim)
  pub under : number_of claim.key ≡ number
  pub start : ℕ
  pub len : ℕ
  pub opens : (open_nwk s rows used b).answer ≡ Ok (Done start len)

-- As `NwkHeard`, for an APS frame of a known device.
pub record ApsHeard (s : Aps) (pairs : Pairs) (b : List ℕ) (held counter : ℕ) : Type 0 where
  pub claim : Claim
  pub known : PairCell
  pub taken : aps_unfit s pairs ≡ false
  pub claims : aps_who b ≡ Ok (who.Claims claim)
  pub row : find pair_rows (in_use pairs) claim.sender ≡ Some known
  pub holds : known.incoming ≡ held
  pub counts : claim.counter ≡ counter

-- A plain NWK frame that securing takes, up to the outgoing counter.
pub record NwkSends (s : Nwk) (plain : List ℕ) : Type 0 where
  pub header : NwkHeader
  pub level : s.level ≡ 5
  pub keys : s.keys.used ≤ 2
  pub size : length plain ≤ 1006
  pub framed : nwk_of plain ≡ Ok header
  pub kind : nwk_kind_number header.kind < 2
  pub secured : header.secured ≡ true
  pub key : is_some (key_found s.keys s.active) ≡ true

pub record Cases : Type 0 where
  -- NWK control sent, filled: 0x28, 0x2D
  pub p1 : (sent Network ≡ 0x28) × (filled (sent Network) 5 ≡ 0x2D)
  -- APS data, transport, load sent: 0x20, 0x30, 0x38
  pub p2 : (sent Link ≡ 0x20) × (sent Transport ≡ 0x30) × (sent Load ≡ 0x38)
  -- sender 0x0011223344556677, counter 5, 0x2D: nonce 77 66 55 44 33 22 11 00 05 00 00 00 2D
  pub p3 : nonce_of 0x0011223344556677 5 0x2D ≡ 0x77 ∷ 0x66 ∷ 0x55 ∷ 0x44 ∷ 0x33 ∷ 0x22 ∷ 0x11 ∷ 0x00 ∷ 0x05 ∷ 0x00 ∷ 0x00 ∷ 0x00 ∷ 0x2D ∷ []
  -- pad bytes after 13, 14, 15, 16, 17: 3, 18, 17, 16, 15
  pub p4 : (length (padding 13) ≡ 3) × (length (padding 14) ≡ 18) × (length (padding 15) ≡ 17) × (length (padding 16) ≡ 16) × (length (padding 17) ≡ 15)
  -- held 5, frame counter 4, 5: 34, 33, whatever else the frame, the keys and the rows are
  pub p5 : (s : Nwk) (rows : List CounterRow) (used : ℕ) (b : List ℕ)
      → (NwkHeard s rows used b 5 4 → numbered (open_nwk s rows used b).answer ≡ 34) × (NwkHeard s rows used b 5 5 → numbered (open_nwk s rows used b).answer ≡ 33)
  -- APS known with held 0, counter 0: 33, whatever else the frame and the pairs are
  pub p6 : (s : Aps) (pairs : Pairs) (b : List ℕ) → ApsHeard s pairs b 0 0 → numbered (open_aps s pairs b).answer ≡ 33
  -- active 255, opened under 0: active 0, whatever else the frame, the keys and the rows are
  pub p7 : (s : Nwk) (rows : List CounterRow) (used : ℕ) (b : List ℕ) → s.active ≡ 255 → NwkOpens s rows used b 0 → (open_nwk s rows used b).active ≡ 0
  -- active 7, opened under 9: active 7, likewise
  pub p8 : (s : Nwk) (rows : List CounterRow) (used : ℕ) (b : List ℕ) → s.active ≡ 7 → NwkOpens s rows used b 9 → (open_nwk s rows used b).active ≡ 7
  -- reset at 0x80000000, 0x80000001: unchanged, 0
  pub p9 : (restarted (record { next = 0x80000000 }) ≡ record { next = 0x80000000 }) × (restarted (record { next = 0x80000001 }) ≡ record { next = 0 })
  -- NWK outgoing 2^32-1: 6, on taking a counter and on securing
  pub p10 : (outcome_number (taken (record { next = 4294967295 })).outcome ≡ 6)
      × ((s : Nwk) (plain out : List ℕ) → NwkSends s plain → numbered (secure_nwk s (record { next = 4294967295 }) plain out).answer ≡ 6)

-- a frame that opens turns the active number
turns : (s : Nwk) (rows : List CounterRow) (used : ℕ) (b : List ℕ) (n : ℕ) → NwkOpens s rows used b n → (open_nwk s rows used b).active ≡ turn s.active n
unfolding open_nwk nwk_placed
turns s rows used b n h = at (nwk_unfit s rows used) h.opens
  where
    placed : (w : Result Who Refusal) → w ≡ Ok (who.Claims h.claim) → (nwk_placed s rows used b w).answer ≡ Ok (Done h.start h.len) → (nwk_placed s rows used b w).active ≡ turn s.active n
    placed (Err why) e f = cc
    placed (Ok (who.Told a)) e f = cc
    placed (Ok (who.Claims c)) e f =
        let same : number_of c.key ≡ n = cc in
        ap (active_after s.active (number_of c.key)) f ∙ ap (turn s.active) same

    at : (t : Bool) → (cond t (unchanged s rows used (refused Unsupported b)) (nwk_placed s rows used b (nwk_who s.keys b))).answer ≡ Ok (Done h.start h.len)
        → (cond t (unchanged s rows used (refused Unsupported b)) (nwk_placed s rows used b (nwk_who s.keys b))).active ≡ turn s.active n
    at true f = cc
    at false f = placed (nwk_who s.keys b) h.claims f

pub cases : Cases
unfolding padding nwk_judged nwk_placed open_nwk secure_nwk aps_judged aps_placed open_aps settle
cases = record {
  p1 = frame.p1;
  p2 = frame.p2;
  p3 = frame.p3;
  p4 = (refl, refl, refl, refl, refl);
  p5 = λ s rows used b.
      (λ h. rw (h.taken, h.claims, h.holds, h.counts), λ h. rw (h.taken, h.claims, h.holds, h.counts));
  p6 = λ s pairs b h. rw (h.taken, h.claims, h.row, h.holds, h.counts);
  p7 = λ s rows used b a h. turns s rows used b 0 h ∙ rw a nib.p7;
  p8 = λ s rows used b a h. turns s rows used b 9 h ∙ rw a nib.p8;
  p9 = nib.p9;
  p10 = (
    nib.p10,
    λ s plain out h.
        rw (eq-eqb s.level 5 h.level, le-ltb 2 s.keys.used h.keys, le-ltb 1006 (length plain) h.size, h.framed, lt-leb 2 (nwk_kind_number h.header.kind) h.kind, h.secured, h.key),
  );
}
