-- Openings of NWK frames as a machine over counter rows (cells, specs/Machine.antt). Assumes nothing.
use Rattle.std.specs.Prelude.{List, ℕ, ◌≤◌, None}
use Rattle.std.proofs.Common.{ap, ◌∙◌}
use Rattle.cells.specs.Rows.{reply_of}
use Rattle.cells.specs.Machine.{Machine}
use Rattle.nib.specs.declared.counters.CounterRow.{CounterRow}
use Rattle.nib.specs.declared.keys.NetworkKeys.{NetworkKeys}
use Rattle.nib.specs.Counters.{Cell, counter_rows, capacity}
use Rattle.nib.specs.Pairs.{Pair}
use Rattle.claims.specs.Claims.{nwk_who, pair_of}
use Rattle.protection.specs.Heard.{Heard}
use Rattle.order.specs.Nwk.{Gateway, answer, after}
use Rattle.order.specs.NwkMachine.{reaction, rows_in_use, settled, Good}
use Rattle.order.proofs.NwkPlaced.{opening, named-placed, nameless-placed, stays-good as stays}

module _ (keys : NetworkKeys) (lent : ℕ) (two : keys.used ≤ 2) where
  -- THE MACHINE
  unfoldable pub machine : Machine Gateway (List ℕ) Heard CounterRow Pair Cell
  machine = record {
    answer = answer;
    after = after;
    rows = counter_rows;
    rows_of = rows_in_use;
    places = capacity lent;
    names = λ b. pair_of (nwk_who keys b);
    react = λ b. reaction keys b (nwk_who keys b);
    idle = λ b. reply_of (reaction keys b (nwk_who keys b) None);
    Good = Good keys lent;
    stays-good = stays keys lent two;
    named = λ g b k h n. ap settled (opening keys lent two g b h) ∙ named-placed keys lent two g b k h (nwk_who keys b) n;
    nameless = λ g b h n. ap settled (opening keys lent two g b h) ∙ nameless-placed keys lent two g b (nwk_who keys b) n;
  }
