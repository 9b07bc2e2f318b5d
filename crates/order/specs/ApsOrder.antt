-- Opening APS frames is a machine in the sense of `cells`: a frame acts on the row of its own sender alone. So the law of `cells` says
-- what order leaves as it is in a list of APS openings; a state that is not taken answers every frame 7. Assumes nothing.
use Rattle.std.specs.Prelude.{◌≡◌, List, ℕ, ◌≤◌, Err, Ok, Result, Option}
use Rattle.cells.specs.Rows.{Reaction, leave, Settled}
use Rattle.aib.specs.declared.pairs.PairRow.{PairRow}
use Rattle.aib.specs.Counters.{in_use}
use Rattle.aib.specs.Pairs.{PairCell}
use Rattle.answer.specs.declared.Refusal.{Refusal}
use Rattle.claims.specs.declared.Who.{Who}
use Rattle.claims.specs.declared.Who.TheVariants as who
use Rattle.protection.specs.Heard.{Heard}
use Rattle.aps.specs.OpenAps.{Opened, aps_judged}
use Rattle.order.specs.Aps.{Gateway}

-- what a frame does to its sender's row, by what its headers say and what is held
unfoldable pub reaction : List ℕ → Result Who Refusal → Option PairCell → Reaction Heard PairCell
reaction b (Err why) held = leave (record { answer = Err why; frame = b })
reaction b (Ok (who.Told a)) held = leave (record { answer = Ok a; frame = b })
reaction b (Ok (who.Claims c)) held = aps_judged c held b

-- what an opening gives its frame, and the rows in use after it
abbrev pub settled : Opened → Settled Heard PairRow
settled o = record { out = record { answer = o.answer; frame = o.frame }; rows = in_use o.pairs }

-- the level, and a count in use within its capacity
pub record Good (g : Gateway) : Type 0 where
  pub level : g.aps.level ≡ 5
  pub fits : g.pairs.used ≤ 16
