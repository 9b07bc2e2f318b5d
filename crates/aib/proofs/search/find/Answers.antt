-- `aib::search::find` meets its contract: std's `find` over the rows in use gives what the table finds. Assumes nothing.
use Rattle.std.specs.Prelude.{eqb, take}
use Rattle.std.proofs.Common.{◌∙◌, rules}
use borrow.Author.Tests.{tests}
use Rattle.std.proofs.lemmas.Iterator.{YieldsList-from_slice}
use Rattle.std.proofs.lemmas.Iterator.Search.{find_from_yields_List}
use Rattle.aib.proofs.Places.{first_found}
use Rattle.aib.proofs.search.find.Goals as goal

pub returns-clause-row : goal.returns-clause-row
returns-clause-row c =
    let x = c.args in
    c.copied.ensures
    ∙ find_from_yields_List (λ r. eqb r.device x.device) _ _ c.find.result c.find.ensures.ran (YieldsList-from_slice (take x.pairs.now.used x.pairs.now.rows) cc) (λ y b q k. search (rules, tests))
    ∙ first_found x.pairs.now x.device
