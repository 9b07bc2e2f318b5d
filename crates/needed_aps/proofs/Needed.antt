-- THE SAME FOR APS. Without any one of the hypotheses of `aps-in-any-order` (the free rows, the order) it does not hold, not even at level 5.
-- Assumes nothing.
use Rattle.std.specs.Prelude.{Err, Ok, ◌≡◌, refl, ℕ, ◌+◌, ◌≤◌, length}
use Rattle.std.proofs.Common.{sym, ap, ◌∙◌, arith}
use mathlib.Core.List.{List, Memᴰ as Mem}
use Rattle.answer.specs.declared.Accepted.TheVariants.{Done}
use Rattle.answer.specs.declared.Refusal.TheVariants.{CounterRepeated, TableFull}
use Rattle.cells.specs.Lists.{any, Distinct}
use Rattle.cells.specs.Rows.{new_keys}
use Rattle.cells.specs.Reorder.{Reordered}
use Rattle.order.specs.Aps.{ApsDesk, names, new_senders, opened, Alike}
use Rattle.needed.specs.TwoFrames.{forth, back, saying, said_number, forth-once, back-once, none-lost, none-added}
use Rattle.needed_aps.proofs.OnAirLaws.{one-claims}
use Rattle.needed_aps.specs.Desks.{start, both, copies}
use Rattle.needed_aps.proofs.Desks.{reordered, full-forth, full_back, copy-forth, copy-back}

-- a free row for each new sender
pub aps-needs-free-rows : ¬ ((d : ApsDesk) (p q : List ℕ)
    → d.state.aps.level ≡ 5
    → Reordered (names d) p q
    → Alike (opened d p) (opened d q))
aps-needs-free-rows claim =
    let z = claim (start 15 both) forth back refl (reordered 15) in
    let w : saying (Err TableFull) ≡ saying (Ok (Done 15 0)) = sym full-forth ∙ z.answers 1 ∙ full_back in
    let v : ◌≡◌ {A = ℕ} 42 0 = ap said_number w in
    omega arith

-- each sender's frames in their order
pub aps-needs-order : ¬ ((d : ApsDesk) (p q : List ℕ)
    → d.state.aps.level ≡ 5
    → d.state.pairs.used + length (new_senders d p) ≤ 16
    → Distinct p → Distinct q → ((i : ℕ) → Mem i p → Mem i q) → ((i : ℕ) → Mem i q → Mem i p)
    → Alike (opened d p) (opened d q))
unfolding new_keys any
aps-needs-order claim =
    let z = claim (start 0 copies) forth back refl (rw one-claims (omega arith)) forth-once back-once none-lost none-added in
    let w : saying (Err CounterRepeated) ≡ saying (Ok (Done 15 0)) = sym copy-forth ∙ z.answers 1 ∙ copy-back in
    let v : ◌≡◌ {A = ℕ} 33 0 = ap said_number w in
    omega arith
