-- `primitives::messages::ended` meets its contract: a part that is taken leaves a state that finishes. Assumes nothing.
use Rattle.std.proofs.Common.{ℕ, sym, ap, ◌∙◌}
use Rattle.answer.specs.Numbers.{giving}
use Rattle.mmo.specs.declared.stream.Hashing.{Hashing}
use Rattle.mmo.specs.Stream.{hashing, added, finished}
use Rattle.mmo.proofs.StreamLaws.{given, added-total}
use Rattle.primitives.proofs.messages.ended.Goals as goal

pub returns : goal.returns
returns c =
    let s = c.args.state in
    let m = c.args.rest.now in
    let e = (given _ _ _ (sym c.hash_add_with.ensures ∙ c.in_ok-all.was)).1 in
    c.hash_finish_with.ensures ∙ ap (λ (t : Hashing). giving (hashing t.total) (finished t)) (sym e) ∙ ap (λ (n : ℕ). giving (hashing n) (finished (added s m))) (added-total s m)
