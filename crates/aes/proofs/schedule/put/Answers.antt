-- `aes::schedule::put` meets its contract. Assumes nothing.
use Prim.Native.Nat.{◌*◌}
use Rattle.aes.proofs.RoundKeys.{stored-four}
use Rattle.aes.proofs.schedule.put.Goals as goal

pub returns : goal.returns
returns c =
    let a = c.args in
    stored-four a.w.now (4 * a.n) a.k.a a.k.b a.k.c a.k.d c.requires.1
