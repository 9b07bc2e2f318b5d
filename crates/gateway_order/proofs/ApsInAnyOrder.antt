-- DEMAND 3 OF THE CODE, APS: `aps-code-in-any-order`. Assumes nothing.
use Rattle.std.specs.Prelude.{◌≡◌, refl, List, [], ◌∷◌, ℕ, ◌+◌, ◌≤◌, length, Some}
use Rattle.std.proofs.Common.{ap, ◌∙◌}
use Rattle.answer.specs.Numbers.{told}
use Rattle.cells.specs.Desk.{write, open_at, open_all}
use Rattle.cells.specs.Reorder.{Reordered}
use Rattle.aps.specs.OpenAps.{open_aps}
use Rattle.order.proofs.AnyOrder.{aps-in-any-order}
use Rattle.order.specs.Frames.{leaves, says}
use Rattle.order.specs.Aps as aps
use Rattle.gateway_order.specs.ApsCalls.{Call, called, Calls, none, then}

-- a call leaves what the definition says
promised-is : (g : aps.Gateway) (b : List ℕ) (c : Call g b) → record { answer = c.result; frame = c.last.1.1.0; pairs = c.last.1.0 } ≡ open_aps g.aps g.pairs b
promised-is g b c = c.promised ∙ (λ i. open_aps (c.aps i) (c.pairs i) (c.frame i))

called_is : (d : aps.ApsDesk) (i : ℕ) (c : Call d.state (d.buffer i)) → called d i c ≡ open_at aps.answer aps.after leaves says d i
unfolding open_at
called_is d i c =
    let same = promised-is d.state (d.buffer i) c in
    λ j. record {
      state = record { aps = d.state.aps; pairs = (same j).pairs };
      buffer = write d.buffer i (same j).frame;
      told = write d.told i (Some ((same j).answer, told (same j).answer));
    }

-- so do calls one after another
pub calls_are : {d e : aps.ApsDesk} {p : List ℕ} → Calls d p e → e ≡ aps.opened d p
unfolding open_all
calls_are none = refl
calls_are {d} (then i p c rest) = calls_are rest ∙ ap (λ (x : aps.ApsDesk). aps.opened x p) (called_is d i c)

pub aps-code-in-any-order : (d e e' : aps.ApsDesk) (p q : List ℕ)
    -- a free row for each new sender that the frames name,
    → d.state.pairs.used + length (aps.new_senders d p) ≤ 16
    -- the list reordered so that each sender's frames keep their order,
    → Reordered (aps.names d) p q
    -- calls in the one order, and calls in the other, with any results that the promise allows:
    → Calls d p e → Calls d q e'
    -- every frame gets the same answer, start and length and ends as the same octets, every device has the same pair row
    → aps.Alike e e'
aps-code-in-any-order d e e' p q free re first second = rw (calls_are first, calls_are second) (aps-in-any-order d p q free re)

-- There are such calls, from every desk for every list: those that return and leave what the definition says.
call-of : (g : aps.Gateway) (b : List ℕ) → Call g b
call-of g b =
    let o = open_aps g.aps g.pairs b in
    record {
      lifetimes = ([], ([], tt));
      arguments = (g.aps, (record { ref_ptr = (0, 0); ghost_name = 0; now = g.pairs }, (record { ref_ptr = (0, 0); ghost_name = 1; now = b }, tt)));
      result = o.answer;
      last = (tt, (o.pairs, (o.frame, tt)));
      aps = refl;
      pairs = refl;
      frame = refl;
      promised = refl;
    }

pub calls-exist : (d : aps.ApsDesk) (p : List ℕ) → Calls d p (aps.opened d p)
unfolding open_all open_at call-of
calls-exist d [] = none
calls-exist d (i ∷ p) = then i p (call-of d.state (d.buffer i)) (calls-exist (open_at aps.answer aps.after leaves says d i) p)
