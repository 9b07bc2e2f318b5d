-- `aes::schedule::expand_with` meets its contract. The invariant: the words stored so far, and the round key beside them, are the
-- key schedule so far. Assumes nothing.
use mathlib.Core.Path.{◌≡◌, refl, ap, ◌∙◌, subst}
use Prim.Native.Nat.{ℕ, ◌+◌, ◌*◌}
use mathlib.Core.List.{List, ◌++◌}
use native.Mathlib.Omega.{arith}
use Rattle.aes.specs.Schedule.{schedule, key_expansion}
use Rattle.words.specs.Words.{block_of}
use Rattle.aes.specs.Words.{word_bytes, key_bytes}
use Rattle.aes.proofs.RoundKeys.{word_bytes-length, key_more}
use Rattle.aes.proofs.schedule.expand_with.Goals as goal

pub loop-n-init : goal.loop-n-init
unfolding schedule word_bytes
loop-n-init c = refl

pub loop-n-preserved : goal.loop-n-preserved
loop-n-preserved c =
    let l = c.loop-n in
    let k₀ = c.state_of-k.result in
    let p = c.put in
    let k = c.next_key-k in
    let e : 4 * (l.n + 1) ≡ 4 * l.n + 4 = omega arith in
    let s = key_more (block_of k₀) (word_bytes l.w (4 * l.n)) l.n _ _ _ _ _ _ _ _ (word_bytes-length l.w (4 * l.n)) l.invariant k.ensures.a k.ensures.b k.ensures.c k.ensures.d in
    rw e (ap (λ (x : List ℕ). x ++ block_of k.result) p.ensures ∙ s)

pub returns : goal.returns
unfolding key_expansion key_bytes
returns c =
    let l = c.loop-n in
    let k₀ = c.state_of-k in
    let e : l.n ≡ 10 = omega arith in
    let s = subst (λ (n : ℕ). word_bytes l.w (4 * n) ++ block_of l.k ≡ schedule (block_of k₀.result) (4 * n)) e l.invariant in
    c.put-2.ensures ∙ s ∙ ap (λ (x : List ℕ). schedule x 40) k₀.ensures
