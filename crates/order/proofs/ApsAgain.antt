-- No APS frame opens twice: the proof. Assumes nothing.
use Rattle.std.specs.Prelude.{◌≡◌, refl, Bool, true, false, cond, not, List, ℕ, ◌+◌, ◌≤◌, ltb, length, drop, Err, Ok, Result, Option, None, Some}
use Rattle.std.proofs.Common.{ap, ◌∙◌, le_trans, arith, length-take, eq-eqb, ne_eqb, lt-ltb}
use Rattle.std.proofs.Math.Seq.{take-append_seam}
use Rattle.answer.specs.declared.Refusal.TheVariants.{Unsupported, CounterRepeated, CounterBehind}
use Rattle.cells.specs.First.{at_first}
use Rattle.cells.specs.ListLaws.{either, which}
use Rattle.cells.specs.Rows.{Reaction, find, settle}
use Rattle.cells.specs.Machine.{final}
use Rattle.aib.specs.Counters.{Advanced, in_use, holding, raised, heard}
use Rattle.aib.specs.Pairs.{PairCell, pair_rows, may_use}
use Rattle.answer.specs.declared.Refusal.{Refusal}
use Rattle.claims.specs.declared.Claim.{Claim}
use Rattle.claims.specs.declared.Who.{Who}
use Rattle.claims.specs.declared.Who.TheVariants as who
use Rattle.claims.specs.Claims.{aps_who, sender_of}
use Rattle.protection.specs.Heard.{Heard, refused, equals, below}
use Rattle.protection.specs.Keys.{key_for}
use Rattle.protection.specs.Protection.{tag_size, vouches}
use Rattle.aps.specs.OpenAps.{incoming, aps_judged, unchanged as aps-unchanged, aps_placed, aps_unfit, open_aps}
use Rattle.aps.specs.SecureAps.{Secured}
use Rattle.cells.specs.Rising.{Rising, stops, rises, AtLeast}
use Rattle.cells.proofs.RisingLaws.{one_kept, taken-held}
use Rattle.cells.proofs.Product.{final-keeps}
use Rattle.order.specs.Stale.{opens, counter_of, Stale, not-above}
use Rattle.order.specs.Aps.{Gateway, held_pair, answer, after}
use Rattle.order.specs.ApsSent as sends
use Rattle.order.specs.ApsRows.{raising-incoming, raising-length}
use Rattle.order.specs.ApsSteps.{Step, opening, securing, advancing, after_step}
use Rattle.order.specs.ApsOrder.{reaction, Good}
use Rattle.order.proofs.ApsPlaced.{taken-good, stays-good}
use Rattle.order.proofs.ApsOrder.{machine}
use Rattle.order.proofs.ApsPlaced as taken

heard-counter : (held : Option PairCell) (n : ℕ) → (heard held n).incoming ≡ n
heard-counter None n = refl
heard-counter (Some p) n = refl

rising : (c : Claim) (held : Option PairCell) (b : List ℕ) → Rising (λ p. p.incoming) opens c.counter held (aps_judged c held b)
unfolding aps_judged
rising c held b =
    let S : Reaction Heard PairCell → Type 0 = Rising (λ (p : PairCell). p.incoming) opens c.counter held in
    either S (equals (incoming held) c.counter) (stops _ refl)
    (which S (below (incoming held) c.counter) (λ t. stops _ refl) (λ t.
    either S (ltb (length b) (c.payload + tag_size)) (stops _ refl)
    (either S (key_for _ _).refused (stops _ refl)
    (either S (not (vouches _ _ _ _ _ b)) (stops _ refl)
    (rises _ _ _ (heard-counter held c.counter) (λ p q. not-above (incoming held) c.counter t p.incoming (ap incoming q)) refl)))))

reacts : (b : List ℕ) (w : Result Who Refusal) (k : ℕ) → sender_of w ≡ Some k → (held : Option PairCell) → Rising (λ p. p.incoming) opens (counter_of w) held (reaction b w held)
unfolding reaction
reacts b (Err why) k e held = cc
reacts b (Ok (who.Told a)) k e held = cc
reacts b (Ok (who.Claims c)) k e held = rising c held b

opens-good : (g : Gateway) (b : List ℕ) → opens (answer g b) ≡ true → Good g
unfolding open_aps
opens-good g b = at (aps_unfit g.aps g.pairs) refl
  where
    at : (t : Bool) → aps_unfit g.aps g.pairs ≡ t
        → (let o = cond t (aps-unchanged g.pairs (refused Unsupported b)) (aps_placed g.pairs b (aps_who b)) in opens (record { answer = o.answer; frame = o.frame }) ≡ true)
        → Good g
    at true e f = cc
    at false e f = taken-good g e

stale : (g : Gateway) → Good g → (b : List ℕ) (c : Claim) → aps_who b ≡ Ok (who.Claims c) → (p : PairCell) → held_pair g c.sender ≡ Some p → c.counter ≤ p.incoming
    → Stale (incoming (held_pair g c.sender)) c.counter CounterRepeated CounterBehind b (answer g b)
unfolding aps_placed aps_judged settle
stale g good b c claims p holds low = record {
  held = p.incoming;
  holds = ap incoming holds;
  not-above = low;
  equal = λ e. rw (taken.opening g b good, claims, holds, eq-eqb c.counter p.incoming e);
  lower = λ l. rw (taken.opening g b good, claims, holds, ne_eqb c.counter p.incoming (λ e. omega arith), lt-ltb c.counter p.incoming l);
}

-- what is held for a sender through any calls
record Holds (sender h : ℕ) (g : Gateway) : Type 0 where
  good : Good g
  least : AtLeast (λ (p : PairCell). p.incoming) opens h (held_pair g sender)

-- a row whose outgoing counter was raised keeps its incoming one
raised-holds : (g : Gateway) (device sender h : ℕ) → Holds sender h g
    → Holds sender h (record { aps = g.aps; pairs = holding (at_first (may_use device) raised (in_use g.pairs)) g.pairs })
raised-holds g device sender h p =
    let after = at_first (may_use device) raised (in_use g.pairs) in
    record {
      good = record { level = p.good.level; fits = rw (raising-length device (in_use g.pairs), length-take) (omega (arith, p.good.fits)) };
      least = rw (take-append_seam after (drop (length after) g.pairs.rows)) (at (find pair_rows after sender) refl);
    }
  where
    same : incoming (find pair_rows (at_first (may_use device) raised (in_use g.pairs)) sender) ≡ Some p.least.cell.incoming
    same = raising-incoming device sender (in_use g.pairs) ∙ ap incoming p.least.is

    at : (o : Option PairCell) → find pair_rows (at_first (may_use device) raised (in_use g.pairs)) sender ≡ o
        → AtLeast (λ (p : PairCell). p.incoming) opens h o
    at None e = cc (ap incoming e, same)
    at (Some q) e = let n : q.incoming ≡ p.least.cell.incoming = cc (ap incoming e, same) in record { cell = q; is = refl; up = omega (arith, p.least.up) }

keeps : (sender h : ℕ) (g : Gateway) (f : Step) → Holds sender h g → Holds sender h (after_step g f)
unfolding machine
keeps sender h g (opening b) p = record {
  good = stays-good g b p.good;
  least = one_kept (λ p. p.incoming) opens machine (λ b. counter_of (aps_who b)) (λ b. reacts b (aps_who b)) g p.good b sender h p.least;
}
keeps sender h g (securing device extended plain out) p = at (sends.securing g.aps g.pairs device extended plain out)
  where
    at : {x : Secured} → sends.Sent g.aps g.pairs device extended plain out x → Holds sender h (record { aps = g.aps; pairs = x.pairs })
    at (sends.not-sent why) = record { good = record { level = p.good.level; fits = p.good.fits }; least = p.least }
    at (sends.sent row identifier found chosen whole usable) = raised-holds g device sender h p
keeps sender h g (advancing device) p = at (sends.advancing g.pairs device)
  where
    at : {x : Advanced} → sends.Advances g.pairs device x → Holds sender h (record { aps = g.aps; pairs = x.pairs })
    at (sends.not-advanced why) = record { good = record { level = p.good.level; fits = p.good.fits }; least = p.least }
    at (sends.advances row found usable) = raised-holds g device sender h p

-- The same for APS, by sender, with securings to any devices and advances between.
pub not-again : (g : Gateway) (frame : List ℕ) (between : List Step) (again : List ℕ) (c c' : Claim)
    → aps_who frame ≡ Ok (who.Claims c)
    → aps_who again ≡ Ok (who.Claims c')
    → c'.sender ≡ c.sender
    → c'.counter ≤ c.counter
    → opens (answer g frame) ≡ true
    → (let later : Gateway = final after_step (after_step g (opening frame)) between in
    Stale (incoming (held_pair later c'.sender)) c'.counter CounterRepeated CounterBehind again (answer later again))
unfolding machine
not-again g frame between again c c' first second same low done =
    let good = opens-good g frame done in
    let held : AtLeast (λ (p : PairCell). p.incoming) opens c.counter (held_pair (after g frame) c.sender) =
    rw (ap counter_of first) at (taken-held (λ p. p.incoming) opens machine (λ b. counter_of (aps_who b)) (λ b. reacts b (aps_who b)) g good frame c.sender (ap sender_of first) done) in
    let now = final-keeps after_step (Holds c.sender c.counter) (keeps c.sender c.counter) (after g frame) between
    (record { good = stays-good g frame good; least = held }) in
    let later : Gateway = final after_step (after_step g (opening frame)) between in
    stale later now.good again c' second now.least.cell (ap (held_pair later) same ∙ now.least.is) (le_trans low now.least.up)
