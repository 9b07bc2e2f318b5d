-- `primitives::calls::hash_from` meets its contract: a message is one part. Assumes nothing.
use Rattle.std.proofs.Common.{◌+◌, length, ap, ◌∙◌}
use Rattle.answer.specs.Numbers.{giving}
use Rattle.mmo.specs.declared.stream.Hashing.{Hashing}
use Rattle.mmo.specs.Hash.{filled}
use Rattle.mmo.specs.Stream.{hashing, added, finished}
use Rattle.mmo.proofs.StreamLaws.{from-start}
use Rattle.primitives.proofs.calls.hash_from.Goals as goal

pub returns : goal.returns
returns c =
    let m = c.args.message.now in
    let e = ap (λ (s : Hashing). giving (hashing (s.total + length m)) (finished (added s m))) c.hash_start_from-start.ensures in
    c.ended.ensures ∙ e ∙ from-start (filled c.args.initial.now) m
