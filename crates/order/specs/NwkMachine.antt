-- Opening NWK frames is a machine in the sense of `cells`: a frame acts on the row of its own pair alone. Assumes nothing.
use Rattle.std.specs.Prelude.{◌≡◌, List, ℕ, ◌≤◌, length, take, Err, Ok, Result, Option}
use Rattle.cells.specs.Rows.{Reaction, leave, Settled}
use Rattle.nib.specs.declared.counters.CounterRow.{CounterRow}
use Rattle.nib.specs.declared.keys.NetworkKeys.{NetworkKeys}
use Rattle.nib.specs.Counters.{Cell, capacity}
use Rattle.answer.specs.declared.Refusal.{Refusal}
use Rattle.claims.specs.declared.Who.{Who}
use Rattle.claims.specs.declared.Who.TheVariants as who
use Rattle.protection.specs.Heard.{Heard}
use Rattle.judging.specs.OpenNwk.{Opened, nwk_judged}
use Rattle.order.specs.Nwk.{Gateway}

-- what a frame does to its pair's row, by what its headers say and what is held
unfoldable pub reaction : NetworkKeys → List ℕ → Result Who Refusal → Option Cell → Reaction Heard Cell
reaction keys b (Err why) held = leave (record { answer = Err why; frame = b })
reaction keys b (Ok (who.Told a)) held = leave (record { answer = Ok a; frame = b })
reaction keys b (Ok (who.Claims c)) held = nwk_judged keys c held b

abbrev pub rows_in_use : Gateway → List CounterRow
rows_in_use g = take g.used g.rows

-- what an opening gives its frame, and the rows in use after it
abbrev pub settled : Opened → Settled Heard CounterRow
settled o = record { out = record { answer = o.answer; frame = o.frame }; rows = take o.used o.rows }

module _ (keys : NetworkKeys) (lent : ℕ) where
  -- what no opening changes, and a count in use within its capacity
  pub record Good (g : Gateway) : Type 0 where
    pub level : g.nwk.level ≡ 5
    pub same_keys : g.nwk.keys ≡ keys
    pub same-lent : length g.rows ≡ lent
    pub fits : g.used ≤ capacity lent
