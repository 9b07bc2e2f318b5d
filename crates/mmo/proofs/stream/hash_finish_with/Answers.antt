-- `mmo::stream::hash_finish_with` meets its contract: what waits is padded and taken. Assumes nothing.
use Rattle.std.proofs.Common.{◌≡◌, Ok, List, ℕ, ◌+◌, ◌%◌, ◌≤◌, length, take, length-take, sym, ap, ◌∙◌, arith, rules}
use Rattle.laws.specs.Blocks.{blocks}
use Rattle.mmo.specs.Hash.{steps}
use Rattle.mmo.specs.Stream.{limit, waiting, finished}
use Rattle.mmo.proofs.StreamLaws.{within-limit, giving-done}
use Rattle.mmo.proofs.stream.hash_finish_with.Goals as goal

pub pad-last-requires : goal.pad-last-requires
pad-last-requires c =
    let s = c.args.state in
    let t : length s.tail ≡ 16 = search rules in
    let l : s.total + 0 ≤ limit = within-limit (s.total + 0) (sym c.takes.ensures ∙ c.in_ok-takes.was) in
    let h : length (take (s.total % 16) s.tail) ≡ s.total % 16 = simp length-take (omega arith) in
    (omega arith, h)

pub returns : goal.returns
unfolding finished waiting
returns c =
    let s = c.args.state in
    let l : s.total + 0 ≤ limit = within-limit (s.total + 0) (sym c.takes.ensures ∙ c.in_ok-takes.was) in
    ap Ok (c.run.ensures ∙ ap (λ (m : List ℕ). steps s.value (blocks m)) c.pad-last.ensures) ∙ sym (giving-done s.total (finished s) (omega arith))
