-- `primitives::keyed::key_block` meets its contract: a long key is hashed, a short one filled up. Assumes nothing.
use Rattle.std.proofs.Common.{◌+◌, ◌≤◌, Ok, length, sym, ap, ◌∙◌, arith}
use borrow.Author.Tests.{lt-ltb, le-ltb}
use Rattle.answer.specs.Numbers.{giving}
use Rattle.mmo.specs.declared.stream.Hashing.{Hashing}
use Rattle.mmo.specs.Hash.{hash, zero_block}
use Rattle.mmo.specs.Stream.{limit, hashing, added, finished}
use Rattle.mmo.proofs.HashLaws.{filled-whole, hash-length}
use Rattle.mmo.proofs.StreamLaws.{from-start, is-done}
use Rattle.primitives.specs.KeyedHash.{key_block}
use Rattle.primitives.proofs.keyed.key_block.Goals as goal

pub returns-then-key-gt16 : goal.returns-then-key-gt16
unfolding key_block hash
returns-then-key-gt16 c =
    let K = c.args.key.now in
    let e = ap (λ (s : Hashing). giving (hashing (s.total + length K)) (finished (added s K))) c.hash_start.ensures in
    rw (lt-ltb _ _ c.if-key-gt16.true) (c.ended.ensures ∙ e ∙ from-start zero_block K ∙ ap (giving (hashing (length K))) (sym (filled-whole _ (hash-length K))))

pub returns : goal.returns
unfolding key_block
returns c =
    let K = c.args.key.now in
    let h : length K ≤ limit = omega (arith, c.if-key-gt16.false) in
    rw (is-done (length K) h, le-ltb _ _ c.if-key-gt16.false) (ap Ok c.first_block.ensures)
