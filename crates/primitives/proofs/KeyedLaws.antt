-- The keyed hash as the code makes it: each of its two hashes begins with a masked key. Assumes nothing.
use mathlib.Core.Path.{◌≡◌, refl, ap, ◌∙◌}
use mathlib.Core.Bool.{Bool, true, false, cond}
use borrow.Author.Tests.{lt-ltb, le-ltb}
use lib.Dec.{ltb}
use mathlib.Core.List.{List, ◌++◌}
use Prim.Native.Nat.{ℕ, ◌+◌, ◌-◌, ◌<◌, ◌≤◌}
use native.Mathlib.Omega.{arith}
use lib.ListN.{length}
use Rattle.laws.specs.Octets.{◌⊕◌}
use Rattle.mmo.specs.declared.stream.Hashing.{Hashing}
use Rattle.mmo.specs.Hash.{hash, zero_block}
use Rattle.std.specs.Prelude.{Ok, Err}
use Rattle.answer.specs.declared.Refusal.TheVariants.{Unsupported}
use Rattle.answer.specs.Numbers.{Outcome}
use Rattle.mmo.specs.Stream.{limit, started, added, finished}
use Rattle.mmo.proofs.StreamLaws.{two-parts, added-total, started-total}
use Rattle.primitives.specs.KeyedHash.{ipad, opad, key_block, keyed_hash}
use Rattle.primitives.specs.Limits.{keyed_hashing}

-- after one part, its length
pub begun-total : (x : Hashing) (b : List ℕ) → x ≡ added (started zero_block) b → x.total ≡ length b
begun-total x b e = ap (λ (s : Hashing). s.total) e ∙ added-total (started zero_block) b ∙ ap (λ (n : ℕ). n + length b) (started-total zero_block) ∙ omega arith

pub keyed : (K text k i r : List ℕ) (x y : Hashing) → k ≡ key_block K → x ≡ added (started zero_block) (k ⊕ ipad) → i ≡ finished (added x text)
    → y ≡ added (started zero_block) (k ⊕ opad) → r ≡ finished (added y i) → r ≡ keyed_hash K text
unfolding keyed_hash hash
keyed K text k i r x y ek ex ei ey er =
    let a : i ≡ hash ((k ⊕ ipad) ++ text) = cc (two-parts zero_block (k ⊕ ipad) text) in
    let b : r ≡ hash ((k ⊕ opad) ++ i) = cc (two-parts zero_block (k ⊕ opad) i) in
    b ∙ ap (λ (z : List ℕ). hash ((k ⊕ opad) ++ z)) a ∙ ap (λ (q : List ℕ). hash ((q ⊕ opad) ++ hash ((q ⊕ ipad) ++ text))) ek

-- what is too long, and what is not
pub keyed_text : (k n : ℕ) → limit - 16 < n → keyed_hashing k n ≡ Err Unsupported
unfolding keyed_hashing
keyed_text k n h = rw (lt-ltb (limit - 16) n h)

pub keyed-key : (k n : ℕ) → limit < k → keyed_hashing k n ≡ Err Unsupported
unfolding keyed_hashing
keyed-key k n h = rw (lt-ltb limit k h) (either (ltb (limit - 16) n))
  where
    either : (b : Bool) → ◌≡◌ {A = Outcome} (cond b (Err Unsupported) (Err Unsupported)) (Err Unsupported)
    either true = refl
    either false = refl

pub keyed-taken : (k n : ℕ) → n ≤ limit - 16 → k ≤ limit → keyed_hashing k n ≡ Ok tt
unfolding keyed_hashing
keyed-taken k n h l = rw (le-ltb (limit - 16) n h, le-ltb limit k l)
