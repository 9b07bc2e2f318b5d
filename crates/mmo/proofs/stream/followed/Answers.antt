-- `mmo::stream::followed` meets its contract: all of the part waits, or there are blocks. Assumes nothing.
use mathlib.Core.Path.{◌≡◌, sym, ap, ◌∙◌}
use mathlib.Core.List.{List, ◌++◌}
use Prim.Native.Nat.{ℕ, ◌+◌, ◌-◌, ◌%◌, ◌<◌, ◌≤◌}
use native.Mathlib.Omega.{arith}
use lib.ListN.{length, take, drop, length-append, length-take}
use borrow.Author.Rules.{rules}
use Rattle.laws.specs.Blocks.{blocks}
use Rattle.laws.specs.Parts.{part-rest}
use Rattle.mmo.specs.Hash.{step, steps, filled}
use Rattle.mmo.specs.Stream.{waiting, added}
use Rattle.mmo.proofs.AddLaws.{short-value, short-tail, more-value, more-tail}
use Rattle.mmo.proofs.stream.followed.Goals as goal

pub returns-then-part-room : goal.returns-then-part-room
unfolding added waiting
returns-then-part-room c =
    let a = c.args in
    let s = a.state in
    let w = take (s.total % 16) s.tail in
    let m = w ++ a.part.now in
    let t : length s.tail ≡ 16 = search rules in
    let k : length w ≡ s.total % 16 = simp length-take (omega arith) in
    let l : length m < 16 = simp length-append (omega arith) in
    λ i. record { value = sym (short-value s.value m l) i; tail = (c.lead-first.ensures ∙ sym (short-tail m l)) i; total = s.total + length a.part.now }

pub returns : goal.returns
unfolding added waiting
returns c =
    let s = c.args.state in
    let p = c.args.part.now in
    let w = take (s.total % 16) s.tail in
    let room = 16 - s.total % 16 in
    let t : length s.tail ≡ 16 = search rules in
    let k : length w ≡ s.total % 16 = simp length-take (omega arith) in
    let f : length w + room ≡ 16 = omega arith in
    let e : room ≤ length p = search rules in
    let b = c.step-begun.ensures ∙ ap (step s.value) c.lead-first.ensures in
    let v = c.run-value.ensures ∙ ap (λ (h : List ℕ). steps h (blocks (take (length p - (length p - room) % 16 - room) (drop room p)))) b ∙ more-value w p room f e s.value in
    let q = c.first_block-tail.ensures ∙ ap filled (part-rest _ p) ∙ more-tail w p room f e in
    λ i. record { value = v i; tail = q i; total = s.total + length p }
