-- The steps by which the code comes to `open_aps`.
use Rattle.std.specs.Prelude.{Bool, cond, List, ℕ, ◌+◌, ltb, Option, option_map, Ok, Err}
use Rattle.std.specs.Result.{result_and}
use Rattle.answer.specs.Numbers.{Outcome}
use Rattle.answer.specs.declared.Refusal.TheVariants.{Cut}
use Rattle.cells.specs.Rows.{Reaction, leave, become, find, settle}
use Rattle.aib.specs.declared.pairs.PairRow.{PairRow}
use Rattle.aib.specs.declared.pairs.Pairs.{Pairs}
use Rattle.aib.specs.Pairs.{PairCell, cell_in, pair_rows}
use Rattle.aib.specs.Counters.{in_use}
use Rattle.claims.specs.declared.Claim.{Claim}
use Rattle.protection.specs.Heard.{Heard, freshness}
use Rattle.protection.specs.Protection.{tag_size}
use Rattle.aps.specs.OpenAps.{Opened, aps_judged, aps_committed}

-- the pair of a row that a search found
abbrev pub held_in : Option PairRow → Option PairCell
held_in = option_map cell_in

-- the tests before the tag: the counter held for the device, and the frame's size
unfoldable pub allowed : Claim → Option ℕ → ℕ → Outcome
allowed c held size = result_and (freshness held c.counter) (cond (ltb size (c.payload + tag_size)) (Err Cut) (Ok tt))

-- what a reaction answers where there is room for a new row, and where there is none
abbrev pub replied : Bool → Reaction Heard PairCell → Heard
replied room (leave out) = out
replied room (become c out full) = cond room out full

unfoldable pub committed : Pairs → Claim → List ℕ → Opened
committed pairs c b =
    aps_committed pairs (settle pair_rows 16 (in_use pairs) c.sender (aps_judged c (find pair_rows (in_use pairs) c.sender) b))
