-- WHY DEMAND 3 ASKS WHAT IT ASKS. Without any one of the hypotheses of `nwk-in-any-order` (the active number, the free rows, the order) it does
-- not hold, not even at level 5 and with at most two keys: each theorem here takes one away, and frames that are there to see (OnAir.antt,
-- Desks.antt) refute what is left. Level and number of keys are not needed: in another state every frame is answered 7. Assumes nothing.
use Rattle.std.specs.Prelude.{Err, Ok, ◌≡◌, refl, ℕ, ◌+◌, ◌≤◌, length}
use Rattle.std.proofs.Common.{sym, ap, ◌∙◌, arith}
use mathlib.Core.List.Memᴰ.{head as here}
use mathlib.Core.List.{List, Memᴰ as Mem}
use Rattle.answer.specs.declared.Accepted.TheVariants.{Done}
use Rattle.answer.specs.declared.Refusal.TheVariants.{CounterRepeated, TableFull}
use Rattle.cells.specs.Lists.{any, Distinct}
use Rattle.cells.specs.Rows.{new_keys}
use Rattle.cells.specs.Reorder.{Reordered}
use Rattle.nib.specs.Counters.{capacity}
use Rattle.order.specs.Nwk.{NwkDesk, numbers, names, new_pairs, opened, Alike}
use Rattle.needed.specs.TwoFrames.{forth, back, saying, said_number, forth-once, back-once, none-lost, none-added}
use Rattle.needed.proofs.OnAirLaws.{two-claims, three-claims}
use Rattle.needed.specs.Desks.{keys, start, both, copies}
use Rattle.needed.proofs.Desks.{has-two, has-three, reordered, active-forth, active-back, full-forth, full_back, copy-forth, copy-back}

-- the active number one of the keys'
pub needs-active : ¬ ((d : NwkDesk) (p q : List ℕ)
    → d.state.nwk.level ≡ 5
    → d.state.nwk.keys.used ≤ 2
    → d.state.used + length (new_pairs d p) ≤ capacity (length d.state.rows)
    → Reordered (names d) p q
    → Alike (opened d p) (opened d q))
unfolding new_keys any
needs-active claim =
    let z = claim (start 1 2 both) forth back refl (omega arith) (rw (two-claims keys has-two, three-claims keys has-three) (omega arith)) (reordered 1 2) in
    let w : ◌≡◌ {A = ℕ} 3 2 = sym active-forth ∙ z.active ∙ active-back in
    omega arith

-- a free row for each new pair
pub needs-free-rows : ¬ ((d : NwkDesk) (p q : List ℕ)
    → d.state.nwk.level ≡ 5
    → d.state.nwk.keys.used ≤ 2
    → Mem d.state.nwk.active (numbers d.state.nwk.keys)
    → Reordered (names d) p q
    → Alike (opened d p) (opened d q))
needs-free-rows claim =
    let z = claim (start 2 1 both) forth back refl (omega arith) (here refl) (reordered 2 1) in
    let w : saying (Err TableFull) ≡ saying (Ok (Done 22 0)) = sym full-forth ∙ z.answers 1 ∙ full_back in
    let v : ◌≡◌ {A = ℕ} 42 0 = ap said_number w in
    omega arith

-- each pair's frames in their order
pub needs-order : ¬ ((d : NwkDesk) (p q : List ℕ)
    → d.state.nwk.level ≡ 5
    → d.state.nwk.keys.used ≤ 2
    → Mem d.state.nwk.active (numbers d.state.nwk.keys)
    → d.state.used + length (new_pairs d p) ≤ capacity (length d.state.rows)
    → Distinct p → Distinct q → ((i : ℕ) → Mem i p → Mem i q) → ((i : ℕ) → Mem i q → Mem i p)
    → Alike (opened d p) (opened d q))
unfolding new_keys any
needs-order claim =
    let z = claim (start 2 2 copies) forth back refl (omega arith) (here refl) (rw (two-claims keys has-two) (omega arith)) forth-once back-once none-lost none-added in
    let w : saying (Err CounterRepeated) ≡ saying (Ok (Done 22 0)) = sym copy-forth ∙ z.answers 1 ∙ copy-back in
    let v : ◌≡◌ {A = ℕ} 33 0 = ap said_number w in
    omega arith
