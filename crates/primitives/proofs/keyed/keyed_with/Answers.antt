-- `primitives::keyed::keyed_with` meets its contract. Assumes nothing.
use Rattle.std.proofs.Common.{◌≡◌, ◌+◌, ◌-◌, ◌≤◌, Ok, Err, List, ℕ, length, refl, subst, sym, ap, ◌∙◌, arith, rules}
use Rattle.std.specs.Prelude.{Result}
use Rattle.std.specs.Result.{IsOk}
use Rattle.answer.specs.declared.Refusal.{Refusal}
use Rattle.std.proofs.lemmas.Result.{err_from_is_err_and}
use Rattle.mmo.specs.Hash.{zero_block}
use Rattle.mmo.specs.Stream.{limit, started, added}
use Rattle.mmo.proofs.StreamLaws.{given, refused, giving-done}
use Rattle.primitives.proofs.KeyedLaws.{begun-total, keyed, keyed-key, keyed-taken}
use Rattle.primitives.proofs.keyed.keyed_with.Goals as goal

pub returns-in_err-k : goal.returns-in_err-k
returns-in_err-k c =
    let a = c.args in
    let r = refused _ _ _ (sym c.key_block.ensures ∙ c.in_err-k.was) in
    let p = err_from_is_err_and c.from_residual.result c.from_residual.ensures.1 in
    rw (p.1, p.2, keyed-key (length a.key.now) (length a.text.now) r.0) (ap Err (sym r.1))

pub unwrap-inner-requires : goal.unwrap-inner-requires
unwrap-inner-requires c =
    let b = c.masked.result in
    let n : length b ≡ 16 = search rules in
    let t = begun-total _ b c.begun-x.ensures in
    let l : c.begun-x.result.total + length c.args.text.now ≤ limit = omega (arith, c.requires) in
    subst (λ (r : Result (List ℕ) Refusal). IsOk r) (sym (c.ended.ensures ∙ giving-done _ _ l)) refl

pub returns : goal.returns
returns c =
    let K = c.args.key.now in
    let text = c.args.text.now in
    let inner = c.unwrap-inner.result in
    let n : length c.masked.result ≡ 16 = search rules in
    let m : length c.masked-2.result ≡ 16 = search rules in
    let o : length inner ≡ 16 = search rules in
    let t = begun-total _ c.masked.result c.begun-x.ensures in
    let u = begun-total _ c.masked-2.result c.begun-y.ensures in
    let k = given _ _ _ (sym c.key_block.ensures ∙ c.in_ok-k.was) in
    let i = given _ _ _ (sym c.ended.ensures ∙ c.unwrap-inner.ensures) in
    let x = c.begun-x.ensures ∙ ap (added (started zero_block)) c.masked.ensures in
    let y = c.begun-y.ensures ∙ ap (added (started zero_block)) c.masked-2.ensures in
    let v = keyed K text _ _ _ _ _ (sym k.1) x (sym i.1) y refl in
    let l : length text ≤ limit - 16 = omega (arith, i.0) in
    let d : c.begun-y.result.total + length inner ≤ limit = omega arith in
    rw (keyed-taken (length K) (length text) l k.0) (c.ended-2.ensures ∙ giving-done _ _ d ∙ ap Ok v)
