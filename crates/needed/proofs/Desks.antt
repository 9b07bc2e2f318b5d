-- Desks with the two frames of OnAir.antt, opened forth and back, and what they end with: computed. Assumes nothing.
use Rattle.std.specs.Prelude.{Err, Ok, ◌≡◌, refl, ℕ, Some}
use Rattle.std.proofs.Common.{sym, ap, ◌∙◌, arith}
use Rattle.std.proofs.lemmas.Option.{same_Some}
use Rattle.answer.specs.declared.Accepted.TheVariants.{Done}
use Rattle.answer.specs.declared.Refusal.TheVariants.{CounterRepeated, TableFull}
use Rattle.cells.specs.Lists.{any}
use Rattle.cells.specs.Rows.{find, settle}
use Rattle.cells.specs.Desk.{open_all}
use Rattle.cells.specs.Reorder.{Reordered}
use Rattle.nib.specs.Active.{turn}
use Rattle.nib.specs.Counters.{pair}
use Rattle.nib.specs.Keys.{key_found}
use Rattle.nib.specs.Pairs.{Pair}
use Rattle.judging.specs.OpenNwk.{nwk_placed, open_nwk}
use Rattle.order.specs.Nwk.{names, opened}
use Rattle.needed.specs.TwoFrames.{forth, back, saying, turned}
use Rattle.needed.specs.OnAir.{sender, Has}
use Rattle.needed.proofs.OnAirLaws.{two-claims, three-claims, two-opens, three-opens, two-again}
use Rattle.needed.specs.Desks.{keys, start, both, copies}

pub has-two : Has keys 2
unfolding key_found find
has-two = refl

pub has-three : Has keys 3
unfolding key_found find
has-three = refl

-- the two frames of different numbers name different pairs
pub reordered : (active places : ℕ) → Reordered (names (start active places both)) forth back
reordered active places = turned (names (start active places both)) apart
  where
    apart : (k : Pair) → names (start active places both) 0 ≡ Some k → names (start active places both) 1 ≡ Some k → ⊥
    apart k e f =
        let x : Some (pair 2 sender) ≡ Some k = rw (two-claims keys has-two) at e in
        let y : Some (pair 3 sender) ≡ Some k = rw (three-claims keys has-three) at f in
        let z : ◌≡◌ {A = ℕ} 2 3 = ap (λ (j : Pair). j.number) (same_Some (pair 2 sender) (pair 3 sender) (x ∙ sym y)) in
        omega arith

-- ---- what the desks end with

-- from active 1: under 2 and then 3 it ends at 3, under 3 and then 2 at 2
pub active-forth : (opened (start 1 2 both) forth).state.nwk.active ≡ 3
unfolding open_all open_nwk nwk_placed find any settle turn
active-forth = rw (two-claims keys has-two, two-opens keys has-two, three-claims keys has-three, three-opens keys has-three)

pub active-back : (opened (start 1 2 both) back).state.nwk.active ≡ 2
unfolding open_all open_nwk nwk_placed find any settle turn
active-back = rw (three-claims keys has-three, three-opens keys has-three, two-claims keys has-two, two-opens keys has-two)

-- with one free row for the two: the frame in buffer 1 is refused if it comes second, and opens if it comes first
pub full-forth : (opened (start 2 1 both) forth).told 1 ≡ saying (Err TableFull)
unfolding open_all open_nwk nwk_placed find any settle
full-forth = rw (two-claims keys has-two, two-opens keys has-two, three-claims keys has-three, three-opens keys has-three)

pub full_back : (opened (start 2 1 both) back).told 1 ≡ saying (Ok (Done 22 0))
unfolding open_all open_nwk nwk_placed find any settle
full_back = rw (three-claims keys has-three, three-opens keys has-three)

-- of a frame and its copy, the one that comes second is refused
pub copy-forth : (opened (start 2 2 copies) forth).told 1 ≡ saying (Err CounterRepeated)
unfolding open_all open_nwk nwk_placed find any settle
copy-forth = rw (two-claims keys has-two, two-opens keys has-two, two-again keys)

pub copy-back : (opened (start 2 2 copies) back).told 1 ≡ saying (Ok (Done 22 0))
unfolding open_all open_nwk nwk_placed find any settle
copy-back = rw (two-claims keys has-two, two-opens keys has-two)
