-- `octets::xor_into` meets its contract. Assumes nothing.
use Rattle.std.proofs.Common.{◌<◌, length, sym, ◌∙◌, add-one, rules}
use Rattle.laws.specs.XorLaws.{xor-turn, xor-done}
use Rattle.octets.proofs.xor_into.Goals as goal

pub loop-j-preserved : goal.loop-j-preserved
loop-j-preserved c =
    let l = c.loop-j in
    let src = c.args.src.now in
    let h : l.j < length l.dst = search rules in
    let k : l.j < length src = search rules in
    rw add-one (xor-turn l.dst src l.j h k ∙ l.invariant)

pub returns : goal.returns
returns c =
    let l = c.loop-j in
    let src = c.args.src.now in
    sym (xor-done l.dst src l.j (search rules)) ∙ l.invariant
