-- `nib::keys::key_of` meets its contract: std's `find` over the rows in use gives what the table finds. Assumes nothing.
use Rattle.std.specs.Prelude.{◌≡◌, ◌==◌, take, length}
use Rattle.std.proofs.Common.{◌∙◌, rules}
use borrow.Author.Tests.{tests}
use Rattle.std.proofs.lemmas.Iterator.{YieldsList-from_slice}
use Rattle.std.proofs.lemmas.Iterator.Search.{find_from_yields_List}
use Rattle.nib.specs.KeyLaws.{first_found}
use Rattle.nib.proofs.keys.key_of.Goals as goal

pub returns : goal.returns
returns c =
    let x = c.args in
    let two : length x.keys.rows ≡ 2 = search rules in
    c.copied.ensures
    ∙ find_from_yields_List (λ r. r.number == x.number) _ _ c.find.result c.find.ensures.ran (YieldsList-from_slice (take c.min-used.result x.keys.rows) cc) (λ y b q k. search (rules, tests))
    ∙ rw c.min-used.ensures (first_found x.keys two x.number)
