-- The outgoing counter of a pair row through any calls of APS: it never falls, and rises above what was used. Assumes nothing.
use Rattle.std.specs.Prelude.{◌≡◌, refl, Bool, true, false, cond, List, ℕ, ◌≤◌, ◌<◌, ◌^◌, eqb, length, drop, get_or, Option, None, Some}
use Rattle.std.proofs.Common.{sym, ap, ◌∙◌, arith, eqb-true}
use Rattle.std.proofs.Math.Seq.{take-append_seam}
use Rattle.std.proofs.lemmas.Bool.{eqb-false}
use Rattle.laws.specs.Numbers.{field}
use Rattle.cells.specs.First.{first, at_first}
use Rattle.cells.specs.Lists.{Distinct}
use Rattle.cells.specs.ListLaws.{either}
use Rattle.frame_header.specs.Aps.{aps_length}
use Rattle.aib.specs.declared.pairs.PairRow.{PairRow}
use Rattle.aib.specs.declared.pairs.Pairs.{Pairs}
use Rattle.aib.specs.Counters.{Advanced, in_use, holding, raised}
use Rattle.aib.specs.Pairs.{may_use}
use Rattle.claims.specs.Claims.{spent}
use Rattle.aps.specs.SecureAps.{Secured, identifier_for}
use Rattle.order.specs.Frames.{if_done, if_taken}
use Rattle.auxiliary_header.specs.NonceLaws.{counter-in}
use Rattle.order.specs.Moves.{Moves, stays, rises}
use Rattle.cells.specs.Once.{used_by, used-once}
use Rattle.order.specs.Aps.{Gateway}
use Rattle.order.specs.ApsSent as aps
use Rattle.order.specs.ApsRows.{opened_rows, opening-outgoing, raising-other, raising-own}
use Rattle.order.specs.ApsSteps.{Step, opening, securing, advancing, after_step, outgoing_in, outgoing_to, counter_used, control_of, nonce_used}

-- ---- one call

module _ {A : Type 0} (to : ℕ) (pairs : Pairs) (device : ℕ) (it : A) where
  abbrev before : ℕ
  before = outgoing_in (first (may_use to) (in_use pairs))

  -- what a call for `device` does to the row for `to`
  abbrev MovesTo : Pairs → Option A → Type 0
  MovesTo after used = Moves before (outgoing_in (first (may_use to) (in_use after))) (cond (eqb device to) used None) it

  pub unmoved : MovesTo pairs None
  unmoved = either (λ (o : Option A). Moves before before o it) (eqb device to) (stays before it) (stays before it)

  pub moved : (row : PairRow) → first (may_use device) (in_use pairs) ≡ Some row → eqb row.outgoing spent ≡ false
      → MovesTo (holding (at_first (may_use device) raised (in_use pairs)) pairs) (Some it)
  moved row found usable = rw (take-append_seam after (drop (length after) pairs.rows)) (at (eqb device to) refl)
    where
      after : List PairRow
      after = at_first (may_use device) raised (in_use pairs)

      at : (t : Bool) → eqb device to ≡ t → Moves before (outgoing_in (first (may_use to) after)) (cond t (Some it) None) it
      at true e =
          let same : device ≡ to = eqb-true device to e in
          let was : first (may_use to) (in_use pairs) ≡ Some row = rw same at found in
          let now : first (may_use to) after ≡ Some (raised row) = rw (ap (λ (d : ℕ). first (may_use d) after) (sym same)) (raising-own device (in_use pairs) row found) in
          rw (was, now) (rises row.outgoing it (eqb-false row.outgoing spent usable))
      at false e = rw (raising-other device to e (in_use pairs)) (stays before it)

module _ {A : Type 0} (to : ℕ) (it : A) (g : Gateway) where
  secured-moves : (device : ℕ) (extended : Bool) (plain out : List ℕ) {x : Secured} → aps.Sent g.aps g.pairs device extended plain out x
      → MovesTo to g.pairs device it x.pairs (if_done x.answer it)
  secured-moves device extended plain out (aps.not-sent why) = unmoved to g.pairs device it
  secured-moves device extended plain out (aps.sent row identifier found chosen whole usable) = moved to g.pairs device it row found usable

module _ (to device : ℕ) (g : Gateway) where
  abbrev MovesBy : Advanced → Type 0
  MovesBy x = MovesTo to g.pairs device (outgoing_to to g) x.pairs (if_taken x.outcome x.counter)

  -- what is handed out is the counter of the row for `to`, if that is the device
  handed : (row : PairRow) → first (may_use device) (in_use g.pairs) ≡ Some row → (t : Bool) → eqb device to ≡ t
      → ◌≡◌ {A = Option ℕ} (cond t (Some (outgoing_to to g)) None) (cond t (Some row.outgoing) None)
  handed row found true e = ap (λ (r : Option PairRow). Some (outgoing_in r)) (ap (λ (d : ℕ). first (may_use d) (in_use g.pairs)) (sym (eqb-true device to e)) ∙ found)
  handed row found false e = refl

  advanced-moves : {x : Advanced} → aps.Advances g.pairs device x → MovesBy x
  advanced-moves (aps.not-advanced why) = unmoved to g.pairs device (outgoing_to to g)
  advanced-moves (aps.advances row found usable) = rw (handed row found (eqb device to) refl) at (moved to g.pairs device (outgoing_to to g) row found usable)

counter-moves : (to : ℕ) (g : Gateway) (f : Step) → Moves (outgoing_to to g) (outgoing_to to (after_step g f)) (counter_used to g f) (outgoing_to to g)
counter-moves to g (opening frame) = rw (opening-outgoing to (opened_rows g frame)) (stays (outgoing_to to g) (outgoing_to to g))
counter-moves to g (securing device extended plain out) =
    secured-moves to (outgoing_to to g) g device extended plain out (aps.securing g.aps g.pairs device extended plain out)
counter-moves to g (advancing device) = advanced-moves to device g (aps.advancing g.pairs device)

-- ---- any calls

pub counters-once : (to : ℕ) (g : Gateway) (steps : List Step) → Distinct (used_by (counter_used to) after_step g steps)
counters-once to g steps =
    used-once (counter_used to) after_step (λ n. n) (outgoing_to to) (λ g. Unit {0}) (λ g f h. tt) (λ g f h. (counter-moves to g f).up)
    (λ g f x h e. let u = (counter-moves to g f).uses x e in (omega (arith, u.0), omega (arith, u.0, u.1))) g steps tt

pub nonces-once : (to : ℕ) (g : Gateway) (steps : List Step) → outgoing_to to g < 2 ^ 32 → Distinct (used_by (nonce_used to) after_step g steps)
nonces-once to g steps small =
    used-once (nonce_used to) after_step (λ n. field n 8 4) (outgoing_to to) (λ g. outgoing_to to g < 2 ^ 32) (λ g f. (counter-moves to g f).fits) (λ g f h. (counter-moves to g f).up) lifts g steps small
  where
    lifts : (g : Gateway) (f : Step) (x : List ℕ) → outgoing_to to g < 2 ^ 32 → nonce_used to g f ≡ Some x → (outgoing_to to g ≤ field x 8 4) × (field x 8 4 < outgoing_to to (after_step g f))
    lifts g (opening frame) x h e = cc
    lifts g (securing device extended plain out) x h e =
        let m = secured-moves to _ g device extended plain out (aps.securing g.aps g.pairs device extended plain out) in
        let u = m.uses x e in
        let n : field x 8 4 ≡ outgoing_to to g = ap (λ (y : List ℕ). field y 8 4) (sym u.0) ∙ counter-in g.aps.own (outgoing_to to g) (control_of (identifier_for plain (aps_length (get_or plain 0 0)))) h in
        (omega arith, omega (arith, u.1))
    lifts g (advancing device) x h e = cc
