-- `securing::writing::finish` meets its contract. Assumes nothing.
use Rattle.std.proofs.Common.{arith, refl}
use Rattle.securing.proofs.SecuringLaws.{fourteen, finished}
use Rattle.securing.proofs.writing.finish.Goals as goal

pub send-requires : goal.send-requires
send-requires c =
    let q = c.requires in
    rw (c.sent-control.ensures, fourteen) (q.0, refl, omega (arith, q.1), omega (arith, q.2))

pub returns : goal.returns
returns c =
    let a = c.args in
    finished a.nwk a.counter _ a.plain.now a.out.now _ _ a.header c.key_under.ensures c.sent-control.ensures c.send.ensures
