-- Demand 3 of NWK where the state is taken. Assumes nothing.
use Rattle.std.specs.Prelude.{◌≡◌, refl, ◌↔◌, Bool, true, ℕ, ◌+◌, ◌≤◌, length}
use Rattle.std.proofs.Math.Path.{sym, ap}
use Rattle.std.proofs.Common.{◌∙◌, arith, length-take-le}
use Rattle.std.proofs.Math.Bool.{cond}
use mathlib.Core.List.{List, Memᴰ as Mem}
use Rattle.cells.specs.ListLaws.{any_same}
use Rattle.cells.specs.Machine.{Machine, run}
use Rattle.cells.specs.Reorder.{Reordered}
use Rattle.cells.specs.DeskLaws.{desk-state}
use Rattle.cells.proofs.Order.{any_order, same_entries}
use Rattle.nib.specs.declared.counters.CounterRow.{CounterRow}
use Rattle.nib.specs.declared.keys.NetworkKeys.{NetworkKeys}
use Rattle.nib.specs.Active.{next}
use Rattle.nib.specs.Counters.{Cell, capacity}
use Rattle.nib.specs.Pairs.{Pair}
use Rattle.claims.specs.Claims.{nwk_who, pair_of}
use Rattle.protection.specs.Heard.{Heard}
use Rattle.order.specs.Frames.{leaves, says}
use Rattle.order.specs.Nwk.{Gateway, numbers, answer, after, NwkDesk, opened, names, new_pairs, Alike}
use Rattle.order.specs.NwkMachine.{Good, rows_in_use}
use Rattle.order.proofs.NwkRun.{machine}
use Rattle.order.proofs.NwkActive.{opens, opens-named, turned}

module _ (d : NwkDesk) (p q : List ℕ) (level : d.state.nwk.level ≡ 5) (two : d.state.nwk.keys.used ≤ 2)
    (member : Mem d.state.nwk.active (numbers d.state.nwk.keys))
    (free : d.state.used + length (new_pairs d p) ≤ capacity (length d.state.rows)) (re : Reordered (names d) p q) where
  abbrev keys : NetworkKeys
  keys = d.state.nwk.keys

  abbrev lent : ℕ
  lent = length d.state.rows

  abbrev its_machine : Machine Gateway (List ℕ) Heard CounterRow Pair Cell
  its_machine = machine keys lent two

  good : Good keys lent d.state
  good = record { level = level; same_keys = refl; same-lent = refl; fits = omega arith }

  -- the answers, by the numbers of the buffers
  abbrev entries : List ℕ → List (ℕ × Heard)
  entries r = run (λ (g : Gateway) (i : ℕ). answer g (d.buffer i)) (λ (g : Gateway) (i : ℕ). after g (d.buffer i)) d.state r

  abbrev up_next : ℕ
  up_next = next d.state.nwk.active

  pub taken-alike : Alike (opened d p) (opened d q)
  unfolding machine
  taken-alike =
      let same = any_order its_machine leaves says d p q good rows-free re in
      record {
        octets = same.buffers;
        answers = same.answers;
        counters = same.cells;
        active =
            ap (λ (g : Gateway). g.nwk.active) (desk-state answer after leaves says d p re.once)
            ∙ turned keys lent two d.buffer d.state p good member
            ∙ ap (λ (t : Bool). cond t up_next d.state.nwk.active)
            (any_same (opens keys lent two d.buffer up_next) (entries p) (entries q) (λ e t. (moves e t).0) (λ e t. (moves e t).1))
            ∙ sym (turned keys lent two d.buffer d.state q good member)
            ∙ sym (ap (λ (g : Gateway). g.nwk.active) (desk-state answer after leaves says d q re.once_after));
      }
    where
      rows-free : length (rows_in_use d.state) + length (new_pairs d p) ≤ capacity lent
      rows-free = rw (length-take-le d.state.used d.state.rows (omega arith)) free

      -- a frame that opens under the next number in the one order does so in the other
      moves : (e : ℕ × Heard) → opens keys lent two d.buffer up_next e ≡ true → Mem e (entries p) ↔ Mem e (entries q)
      moves e t =
          let x = opens-named up_next (pair_of (nwk_who keys (d.buffer e.0))) e.1.answer t in
          same_entries its_machine leaves says d p q good rows-free re x.0 e x.1
