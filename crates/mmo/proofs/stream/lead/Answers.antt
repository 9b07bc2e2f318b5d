-- `mmo::stream::lead` meets its contract. Assumes nothing.
use mathlib.Core.Path.{◌≡◌}
use native.Mathlib.Omega.{arith}
use lib.ListN.{length, take, length-take}
use borrow.Author.Rules.{rules}
use Rattle.mmo.proofs.AddLaws.{filled_more}
use Rattle.mmo.proofs.stream.lead.Goals as goal

pub returns : goal.returns
returns c =
    let a = c.args in
    let t : length a.tail ≡ 16 = search rules in
    let l : length (take a.n a.tail) ≡ a.n = simp length-take (omega arith) in
    filled_more (take a.n a.tail) a.part.now _ _ a.n l (search rules) c.first_block-x.ensures c.xor_into.ensures
