-- Desks with the two frames of OnAir.antt, opened forth and back, and what they end with: computed. Assumes nothing.
use Rattle.std.specs.Prelude.{Err, Ok, ◌≡◌, ℕ, Some}
use Rattle.std.proofs.Common.{sym, ◌∙◌, arith}
use Rattle.std.proofs.lemmas.Option.{same_Some}
use Rattle.answer.specs.declared.Accepted.TheVariants.{Done}
use Rattle.answer.specs.declared.Refusal.TheVariants.{CounterRepeated, TableFull}
use Rattle.cells.specs.Lists.{any}
use Rattle.cells.specs.Rows.{find, settle}
use Rattle.cells.specs.Desk.{open_all}
use Rattle.cells.specs.Reorder.{Reordered}
use Rattle.aps.specs.OpenAps.{aps_placed, open_aps}
use Rattle.order.specs.Aps.{names, opened}
use Rattle.needed.specs.TwoFrames.{forth, back, saying, turned}
use Rattle.needed_aps.specs.OnAir.{one, other}
use Rattle.needed_aps.proofs.OnAirLaws.{one-claims, other-claims, one-opens, other-opens, one_again}
use Rattle.needed_aps.specs.Desks.{start, both, copies}

-- the two frames name different senders
pub reordered : (used : ℕ) → Reordered (names (start used both)) forth back
reordered used = turned (names (start used both)) apart
  where
    apart : (k : ℕ) → names (start used both) 0 ≡ Some k → names (start used both) 1 ≡ Some k → ⊥
    apart k e f =
        let x : Some one ≡ Some k = rw one-claims at e in
        let y : Some other ≡ Some k = rw other-claims at f in
        let z : one ≡ other = same_Some one other (x ∙ sym y) in
        omega arith

-- ---- what the desks end with

-- with one free row for the two: the frame in buffer 1 is refused if it comes second, and opens if it comes first
pub full-forth : (opened (start 15 both) forth).told 1 ≡ saying (Err TableFull)
unfolding open_all open_aps aps_placed find any settle
full-forth = rw (one-claims, one-opens, other-claims, other-opens)

pub full_back : (opened (start 15 both) back).told 1 ≡ saying (Ok (Done 15 0))
unfolding open_all open_aps aps_placed find any settle
full_back = rw (other-claims, other-opens)

-- of a frame and its copy, the one that comes second is refused
pub copy-forth : (opened (start 0 copies) forth).told 1 ≡ saying (Err CounterRepeated)
unfolding open_all open_aps aps_placed find any settle
copy-forth = rw (one-claims, one-opens, one_again)

pub copy-back : (opened (start 0 copies) back).told 1 ≡ saying (Ok (Done 15 0))
unfolding open_all open_aps aps_placed find any settle
copy-back = rw (one-claims, one-opens)
