-- The outgoing counter of NWK through any calls: it never falls, and rises above what was used. Assumes nothing.
use Rattle.std.specs.Prelude.{◌≡◌, true, List, ℕ, ◌≤◌, ◌<◌, ◌^◌, Some}
use Rattle.std.proofs.Common.{sym, ap, ◌∙◌, arith}
use Rattle.std.proofs.lemmas.Bool.{eqb-false}
use Rattle.laws.specs.Numbers.{field}
use Rattle.cells.specs.ListLaws.{not-true, which}
use Rattle.cells.specs.Lists.{Distinct}
use Rattle.nib.specs.declared.outgoing.Outgoing.{Outgoing}
use Rattle.nib.specs.Sending.{AfterTaking, may_use, taken}
use Rattle.nib.specs.declared.state.Nwk.{Nwk}
use Rattle.securing.specs.SecureNwk.{Secured}
use Rattle.order.specs.Frames.{if_done, if_taken}
use Rattle.auxiliary_header.specs.NonceLaws.{counter-in}
use Rattle.order.specs.Moves.{Moves, stays, rises}
use Rattle.cells.specs.Once.{used_by, used-once}
use Rattle.order.specs.NwkSent as nwk
use Rattle.order.specs.NwkSteps.{Device, Step, opening, securing, taking, after_step, counter_used, nonce_used}

-- ---- one call

not_last : (o : Outgoing) → may_use o ≡ true → o.next ≡ 4294967295 → ⊥
not_last o e = eqb-false o.next 4294967295 (not-true _ e)

module _ {A : Type 0} (it : A) where
  secured-moves : (s : Nwk) (o : Outgoing) (plain out : List ℕ) {x : Secured} → nwk.Sent s o plain out x → Moves o.next x.outgoing.next (if_done x.answer it) it
  secured-moves s o plain out (nwk.not-sent why) = stays o.next it
  secured-moves s o plain out (nwk.sent whole usable) = rises o.next it (not_last o usable)

taken-moves : (o : Outgoing) → Moves o.next (taken o).outgoing.next (if_taken (taken o).outcome (taken o).counter) o.next
unfolding taken
taken-moves o =
    which (λ (x : AfterTaking). Moves o.next x.outgoing.next (if_taken x.outcome x.counter) o.next) (may_use o)
    (λ usable. rises o.next o.next (not_last o usable)) (λ spent. stays o.next o.next)

abbrev next : Device → ℕ
next d = d.outgoing.next

counter-moves : (d : Device) (f : Step) → Moves (next d) (next (after_step d f)) (counter_used d f) (next d)
counter-moves d (opening frame) = stays (next d) (next d)
counter-moves d (securing plain out) = secured-moves (next d) d.gateway.nwk d.outgoing plain out (nwk.securing d.gateway.nwk d.outgoing plain out)
counter-moves d taking = taken-moves d.outgoing

-- ---- any calls

pub counters-once : (d : Device) (steps : List Step) → Distinct (used_by counter_used after_step d steps)
counters-once d steps =
    used-once counter_used after_step (λ n. n) next (λ d. Unit {0}) (λ d f g. tt) (λ d f g. (counter-moves d f).up)
    (λ d f x g e. let u = (counter-moves d f).uses x e in (omega (arith, u.0), omega (arith, u.0, u.1))) d steps tt

pub nonces-once : (d : Device) (steps : List Step) → next d < 2 ^ 32 → Distinct (used_by nonce_used after_step d steps)
nonces-once d steps small =
    used-once nonce_used after_step (λ n. field n 8 4) next (λ d. next d < 2 ^ 32) (λ d f. (counter-moves d f).fits) (λ d f g. (counter-moves d f).up) lifts d steps small
  where
    lifts : (d : Device) (f : Step) (x : List ℕ) → next d < 2 ^ 32 → nonce_used d f ≡ Some x → (next d ≤ field x 8 4) × (field x 8 4 < next (after_step d f))
    lifts d (opening frame) x h e = cc
    lifts d (securing plain out) x h e =
        let m = secured-moves _ d.gateway.nwk d.outgoing plain out (nwk.securing d.gateway.nwk d.outgoing plain out) in
        let u = m.uses x e in
        let n : field x 8 4 ≡ next d = ap (λ (y : List ℕ). field y 8 4) (sym u.0) ∙ counter-in d.gateway.nwk.own (next d) 0x2D h in
        (omega arith, omega (arith, u.1))
    lifts d taking x h e = cc
