-- DEMAND 3 OF THE CODE: `code-in-any-order`. Assumes nothing.
use Rattle.std.specs.Prelude.{◌≡◌, refl, ℕ, ◌+◌, ◌≤◌, length, Some}
use Rattle.std.proofs.Common.{ap, ◌∙◌}
use mathlib.Core.List.{List, [], ◌∷◌, Memᴰ as Mem}
use Rattle.answer.specs.Numbers.{told}
use Rattle.cells.specs.Desk.{write, open_at, open_all}
use Rattle.cells.specs.Reorder.{Reordered}
use Rattle.nib.specs.Counters.{capacity}
use Rattle.nwk.specs.Leaves.{opened}
use Rattle.judging.specs.OpenNwk.{open_nwk}
use Rattle.order.proofs.AnyOrder.{nwk-in-any-order}
use Rattle.order.specs.Frames.{leaves, says}
use Rattle.order.specs.Nwk as nwk
use Rattle.gateway_order.specs.Calls.{Call, called, Calls, none, then}

-- a call leaves what the definition says
promised-is : (g : nwk.Gateway) (b : List ℕ) (c : Call g b) → opened c.result c.last.1.0 c.last.1.1.1.0 ≡ open_nwk g.nwk g.rows g.used b
promised-is g b c = c.promised ∙ (λ i. open_nwk (c.nwk i) (c.rows i) (c.used i) (c.frame i))

called_is : (d : nwk.NwkDesk) (i : ℕ) (c : Call d.state (d.buffer i)) → called d i c ≡ open_at nwk.answer nwk.after leaves says d i
unfolding open_at
called_is d i c =
    let same = promised-is d.state (d.buffer i) c in
    λ j. record {
      state = record {
        nwk = record { level = d.state.nwk.level; own = d.state.nwk.own; active = (same j).active; keys = d.state.nwk.keys };
        rows = (same j).rows;
        used = (same j).used;
      };
      buffer = write d.buffer i (same j).frame;
      told = write d.told i (Some ((same j).answer, told (same j).answer));
    }

-- so do calls one after another
pub calls_are : {d e : nwk.NwkDesk} {p : List ℕ} → Calls d p e → e ≡ nwk.opened d p
unfolding open_all
calls_are none = refl
calls_are {d} (then i p c rest) = calls_are rest ∙ ap (λ (x : nwk.NwkDesk). nwk.opened x p) (called_is d i c)

pub code-in-any-order : (d e e' : nwk.NwkDesk) (p q : List ℕ)
    -- the active number that of one of the network keys,
    → Mem d.state.nwk.active (nwk.numbers d.state.nwk.keys)
    -- a free row for each new pair of key number and sender that the frames name,
    → d.state.used + length (nwk.new_pairs d p) ≤ capacity (length d.state.rows)
    -- the list reordered so that each pair's frames keep their order,
    → Reordered (nwk.names d) p q
    -- calls in the one order, and calls in the other, with any results that the promise allows:
    → Calls d p e → Calls d q e'
    -- every frame gets the same answer, start and length and ends as the same octets, every pair has the same held counter, the active
    -- number is the same
    → nwk.Alike e e'
code-in-any-order d e e' p q member free re first second = rw (calls_are first, calls_are second) (nwk-in-any-order d p q member free re)

-- There are such calls, from every desk for every list: those that return and leave what the definition says.
call-of : (g : nwk.Gateway) (b : List ℕ) → Call g b
call-of g b =
    let o = open_nwk g.nwk g.rows g.used b in
    record {
      lifetimes = ([], ([], tt));
      arguments = (g.nwk, (record { ref_ptr = (0, 0); ghost_name = 0; now = g.rows }, (g.used, (record { ref_ptr = (0, 0); ghost_name = 1; now = b }, tt))));
      result = record { answer = o.answer; used = o.used; active = o.active };
      last = (tt, (o.rows, (tt, (o.frame, tt))));
      nwk = refl;
      rows = refl;
      used = refl;
      frame = refl;
      promised = refl;
    }

pub calls-exist : (d : nwk.NwkDesk) (p : List ℕ) → Calls d p (nwk.opened d p)
unfolding open_all open_at call-of
calls-exist d [] = none
calls-exist d (i ∷ p) = then i p (call-of d.state (d.buffer i)) (calls-exist (open_at nwk.answer nwk.after leaves says d i) p)
