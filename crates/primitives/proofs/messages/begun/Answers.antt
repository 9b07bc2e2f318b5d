-- `primitives::messages::begun` meets its contract: a block is within the limit. Assumes nothing.
use Rattle.std.proofs.Common.{◌≡◌, ◌+◌, ◌≤◌, length, refl, subst, sym, ap, ◌∙◌, arith, rules}
use Rattle.std.specs.Result.{IsOk}
use Rattle.answer.specs.declared.Refusal.{Refusal}
use Rattle.std.specs.Prelude.{Result}
use Rattle.mmo.specs.declared.stream.Hashing.{Hashing}
use Rattle.mmo.specs.Hash.{zero_block}
use Rattle.mmo.specs.Stream.{limit, added}
use Rattle.mmo.proofs.StreamLaws.{giving-done, started-total}
use Rattle.primitives.proofs.messages.begun.Goals as goal

pub unwrap-requires : goal.unwrap-requires
unwrap-requires c =
    let s = c.hash_start.result in
    let b = c.args.block in
    let z = ap (λ (s : Hashing). s.total) c.hash_start.ensures ∙ started-total zero_block in
    let n : length b ≡ 16 = search rules in
    let l : s.total + length b ≤ limit = omega arith in
    subst (λ (r : Result Hashing Refusal). IsOk r) (sym (c.hash_add_with.ensures ∙ giving-done (s.total + length b) (added s b) l)) refl
