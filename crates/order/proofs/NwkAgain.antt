-- No NWK frame opens twice: the proof. Assumes nothing.
use Rattle.std.specs.Prelude.{◌≡◌, refl, Bool, true, false, cond, not, List, ℕ, ◌+◌, ◌≤◌, ltb, length, Err, Ok, Result, Option, Some}
use Rattle.std.proofs.Common.{ap, ◌∙◌, le_trans, arith, eq-eqb, ne_eqb, lt-ltb}
use Rattle.answer.specs.declared.Refusal.TheVariants.{Unsupported, CounterRepeated, CounterBehind}
use Rattle.cells.specs.ListLaws.{either, which}
use Rattle.cells.specs.Rows.{Reaction, settle}
use Rattle.cells.specs.Machine.{final}
use Rattle.nib.specs.declared.keys.NetworkKeys.{NetworkKeys}
use Rattle.nib.specs.Counters.{Cell, counter_in}
use Rattle.nib.specs.Pairs.{Pair}
use Rattle.answer.specs.declared.Refusal.{Refusal}
use Rattle.claims.specs.declared.Claim.{Claim}
use Rattle.claims.specs.declared.Who.{Who}
use Rattle.claims.specs.declared.Who.TheVariants as who
use Rattle.claims.specs.Claims.{nwk_who, pair_of}
use Rattle.protection.specs.Heard.{Heard, refused, equals, below}
use Rattle.protection.specs.Protection.{tag_size, vouches}
use Rattle.judging.specs.OpenNwk.{unchanged, nwk_judged, nwk_placed, nwk_unfit, open_nwk}
use Rattle.cells.specs.Rising.{Rising, stops, rises, AtLeast}
use Rattle.cells.proofs.RisingLaws.{one_kept, taken-held}
use Rattle.cells.proofs.Product.{final-keeps}
use Rattle.order.specs.Stale.{is_done, opens, counter_of, Stale, not-above}
use Rattle.order.specs.Nwk.{Gateway, claimed_pair, held_cell, held_counter, answer, after}
use Rattle.order.specs.NwkSteps.{Device, Step, opening, securing, taking, after_step}
use Rattle.order.specs.NwkMachine.{reaction, Good}
use Rattle.order.proofs.NwkPlaced.{taken-good, stays-good}
use Rattle.order.proofs.NwkRun.{machine}
use Rattle.order.proofs.NwkPlaced as taken

rising : (keys : NetworkKeys) (c : Claim) (held : Option Cell) (b : List ℕ) → Rising (λ n. n.counter) opens c.counter held (nwk_judged keys c held b)
unfolding nwk_judged
rising keys c held b =
    let S : Reaction Heard Cell → Type 0 = Rising (λ n. n.counter) opens c.counter held in
    either S (equals (counter_in held) c.counter) (stops _ refl)
    (which S (below (counter_in held) c.counter) (λ t. stops _ refl) (λ t.
    either S (ltb (length b) (c.payload + tag_size)) (stops _ refl)
    (either S (not (vouches _ _ _ _ _ b)) (stops _ refl) (rises _ _ _ refl (λ d q. not-above (counter_in held) c.counter t d.counter (ap counter_in q)) refl))))

module _ (keys : NetworkKeys) (b : List ℕ) where
  reacts : (w : Result Who Refusal) (k : Pair) → pair_of w ≡ Some k → (held : Option Cell) → Rising (λ n. n.counter) opens (counter_of w) held (reaction keys b w held)
  unfolding reaction
  reacts (Err why) k e held = cc
  reacts (Ok (who.Told a)) k e held = cc
  reacts (Ok (who.Claims c)) k e held = rising keys c held b

-- a state in which a frame opens is one that is taken
opens-good : (g : Gateway) (b : List ℕ) → opens (answer g b) ≡ true → (Good g.nwk.keys (length g.rows) g) × (g.nwk.keys.used ≤ 2)
unfolding open_nwk
opens-good g b = at (nwk_unfit g.nwk g.rows g.used) refl
  where
    at : (t : Bool) → nwk_unfit g.nwk g.rows g.used ≡ t
        → (let o = cond t (unchanged g.nwk g.rows g.used (refused Unsupported b)) (nwk_placed g.nwk g.rows g.used b (nwk_who g.nwk.keys b)) in
        is_done o.answer ≡ true) → (Good g.nwk.keys (length g.rows) g) × (g.nwk.keys.used ≤ 2)
    at true e f = cc
    at false e f = taken-good g e

-- a frame that is not above what is held is refused, 33 or 34
stale : (keys : NetworkKeys) (lent : ℕ) → keys.used ≤ 2 → (g : Gateway) → Good keys lent g → (b : List ℕ) (c : Claim) → nwk_who keys b ≡ Ok (who.Claims c)
    → (h : ℕ) → held_counter g (claimed_pair c) ≡ Some h → c.counter ≤ h
    → Stale (held_counter g (claimed_pair c)) c.counter CounterRepeated CounterBehind b (answer g b)
unfolding nwk_placed nwk_judged settle
stale keys lent two g good b c claims h holds low = record {
  held = h;
  holds = holds;
  not-above = low;
  equal = λ e. rw (taken.opening keys lent two g b good, claims, good.same_keys, holds, eq-eqb c.counter h e);
  lower = λ l. rw (taken.opening keys lent two g b good, claims, good.same_keys, holds, ne_eqb c.counter h (λ e. omega arith), lt-ltb c.counter h l);
}

-- what is held for k through any calls
record Holds (keys : NetworkKeys) (lent : ℕ) (k : Pair) (h : ℕ) (d : Device) : Type 0 where
  good : Good keys lent d.gateway
  least : AtLeast (λ (n : Cell). n.counter) opens h (held_cell d.gateway k)

keeps : (keys : NetworkKeys) (lent : ℕ) → keys.used ≤ 2 → (k : Pair) (h : ℕ) (d : Device) (f : Step) → Holds keys lent k h d → Holds keys lent k h (after_step d f)
unfolding machine
keeps keys lent two k h d (opening b) p = record {
  good = stays-good keys lent two d.gateway b p.good;
  least = one_kept (λ n. n.counter) opens (machine keys lent two) (λ b. counter_of (nwk_who keys b)) (λ b. reacts keys b (nwk_who keys b)) d.gateway p.good b k h p.least;
}
keeps keys lent two k h d (securing plain out) p = record { good = p.good; least = p.least }
keeps keys lent two k h d taking p = record { good = p.good; least = p.least }

-- A device opens `frame`, then opens, secures and takes whatever it may, then is given `again`, which claims the same key number and sender, with a
-- counter not above that of `frame`: that is refused, 33 if its counter is the one held by then, 34 if below.
pub not-again : (d : Device) (frame : List ℕ) (between : List Step) (again : List ℕ) (c c' : Claim)
    → nwk_who d.gateway.nwk.keys frame ≡ Ok (who.Claims c)
    → nwk_who d.gateway.nwk.keys again ≡ Ok (who.Claims c')
    → claimed_pair c' ≡ claimed_pair c
    → c'.counter ≤ c.counter
    → opens (answer d.gateway frame) ≡ true
    → (let later : Gateway = (final after_step (after_step d (opening frame)) between).gateway in
    Stale (held_counter later (claimed_pair c')) c'.counter CounterRepeated CounterBehind again (answer later again))
unfolding machine
not-again d frame between again c c' first second same low done =
    let keys = d.gateway.nwk.keys in
    let lent = length d.gateway.rows in
    let t = opens-good d.gateway frame done in
    let k = claimed_pair c in
    let held : AtLeast (λ (n : Cell). n.counter) opens c.counter (held_cell (after d.gateway frame) k) =
    rw (ap counter_of first) at (taken-held (λ n. n.counter) opens (machine keys lent t.1) (λ b. counter_of (nwk_who keys b)) (λ b. reacts keys b (nwk_who keys b)) d.gateway t.0 frame k (ap pair_of first) done) in
    let now = final-keeps after_step (Holds keys lent k c.counter) (keeps keys lent t.1 k c.counter) (after_step d (opening frame)) between
    (record { good = stays-good keys lent t.1 d.gateway frame t.0; least = held }) in
    let later : Gateway = (final after_step (after_step d (opening frame)) between).gateway in
    stale keys lent t.1 later now.good again c' second now.least.cell.counter (ap (held_counter later) same ∙ ap counter_in now.least.is) (le_trans low now.least.up)
