-- `aps::securing::put` meets its contract. Assumes nothing.
use Rattle.std.proofs.Common.{arith, refl, sym}
use Rattle.aps.proofs.LayoutLaws.{thirteen-long, carried, finished}
use Rattle.aps.proofs.securing.put.Goals as goal

pub unwrap-requires : goal.unwrap-requires
unwrap-requires c = rw (c.key_for.ensures, carried c.args.chosen.identifier c.args.chosen.row.key c.requires.0)

pub send-requires : goal.send-requires
send-requires c =
    let q = c.requires in
    rw (c.sent.ensures, thirteen-long c.args.chosen.identifier q.0) (q.1, refl, omega (arith, q.2), omega (arith, q.3))

pub returns : goal.returns
returns c =
    let a = c.args in
    let h = a.chosen in
    finished a.aps h.row h.identifier _ a.plain.now a.out.now _ _ a.header c.requires.0
    (let e = sym c.key_for.ensures in let u = c.unwrap.ensures in let k = carried h.identifier h.row.key c.requires.0 in cc)
    c.sent.ensures c.send.ensures
