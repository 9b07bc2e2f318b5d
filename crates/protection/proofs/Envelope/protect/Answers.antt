-- `protection::Envelope::protect` meets its contract. Assumes nothing.
use borrow.Author.Rules.{rules}
use Rattle.std.proofs.Common.{arith, length, set, length-set}
use Rattle.protection.proofs.Answers.{fits, secured}
use Rattle.protection.proofs.Envelope.protect.Goals as goal

pub unwrap-requires : goal.unwrap-requires
unwrap-requires c =
    let q = c.requires in
    rw (c.seal.ensures.value, fits c.args.self.payload c.args.n (length (set c.args.out.now c.args.self.at c.filled-control.result.byte)) q.0 q.1 (rw length-set (omega arith)))

pub returns : goal.returns
returns c =
    let a = c.args in
    let s = a.self in
    secured _ _ c.expand-keys.ensures s.sender s.counter s.at s.payload a.n a.out.now (search rules) c.requires.0 c.requires.1 c.requires.2 _ _ c.filled-control.ensures c.nonce-nonce.ensures _ _ c.seal.ensures.value c.seal.ensures.sealed
