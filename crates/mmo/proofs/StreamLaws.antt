-- ANY CUTTING: for every cutting of the data into parts the value is that of the whole. Assumes nothing.
use mathlib.Core.Path.{◌≡◌, refl, sym, ap, ◌∙◌}
use mathlib.Core.Bool.{Bool, true, false, cond}
use mathlib.Core.List.{List, [], ◌∷◌, ◌++◌, append_assoc, append-nil, flatten}
use Prim.Native.Nat.{ℕ, ◌+◌, ◌*◌, ◌/◌, ◌%◌, ◌<◌, ◌≤◌}
use native.Mathlib.Omega.{arith}
use native.Mathlib.Nat.{zero-add}
use borrow.Author.Tests.{le-leb, leb-true, leb-false}
use lib.Dec.{leb}
use lib.ListN.{length, take, drop, length-append, length-drop}
use lib.Seq.{length-take-le, take_at, take-add, drop-drop, take-append-le, drop-append-le}
use Rattle.std.specs.Prelude.{Result, Ok, Err}
use Rattle.std.specs.Result.{result_unwrap_or}
use Rattle.answer.specs.declared.Refusal.{Refusal}
use Rattle.answer.specs.declared.Refusal.TheVariants.{Unsupported}
use Rattle.answer.specs.Numbers.{Outcome, giving}
use Rattle.laws.specs.Blocks.{blocks}
use Rattle.mmo.specs.declared.stream.Hashing.{Hashing}
use Rattle.mmo.specs.Hash.{padding, steps, hash_from, hash, zero_block, filled}
use Rattle.mmo.specs.Stream.{limit, hashing, started, waiting, whole, added, finished, after_adding, adds, taken}
use Rattle.mmo.proofs.HashLaws.{blocks-append, steps-nil, steps-append, steps-parts}
use Rattle.mmo.proofs.AddLaws.{filled-short}

-- the state after the data m
abbrev after : List ℕ → List ℕ → Hashing
after h m = record { value = steps h (blocks (take (whole m) m)); tail = filled (drop (whole m) m); total = length m }

rest-length : (m : List ℕ) → length (drop (whole m) m) ≡ length m % 16
rest-length m = simp length-drop (omega arith)

waits : (h m : List ℕ) → waiting (after h m) ≡ drop (whole m) m
unfolding waiting
waits h m =
    let e = rest-length m in
    let l : length (drop (whole m) m) < 16 = omega arith in
    rw (filled-short (drop (whole m) m) l) (take_at (drop (whole m) m) _ (length m % 16) e)

start-after : (h : List ℕ) → started h ≡ after h []
unfolding started filled
start-after h = λ i. record { value = sym (steps-nil h) i; tail = zero_block; total = 0 }

-- the whole blocks of the data, and then those of what waits and a part more, are those of both
whole-more : (m p : List ℕ) → whole (m ++ p) ≡ whole m + whole (drop (whole m) m ++ p)
whole-more m p = simp (length-append, length-drop) (omega arith)

take_more : (m p : List ℕ) → take (whole (m ++ p)) (m ++ p) ≡ take (whole m) m ++ take (whole (drop (whole m) m ++ p)) (drop (whole m) m ++ p)
take_more m p =
    let l : whole m ≤ length m = omega arith in
    rw (whole-more m p, take-add (whole m) (whole (drop (whole m) m ++ p)) (m ++ p), take-append-le (whole m) m p l, drop-append-le (whole m) m p l)

drop_more : (m p : List ℕ) → drop (whole (m ++ p)) (m ++ p) ≡ drop (whole (drop (whole m) m ++ p)) (drop (whole m) m ++ p)
drop_more m p =
    let l : whole m ≤ length m = omega arith in
    rw (whole-more m p, ← drop-drop (whole (drop (whole m) m ++ p)) (whole m) (m ++ p), drop-append-le (whole m) m p l)

value-more : (h m p : List ℕ)
    → steps (steps h (blocks (take (whole m) m))) (blocks (take (whole (drop (whole m) m ++ p)) (drop (whole m) m ++ p))) ≡ steps h (blocks (take (whole (m ++ p)) (m ++ p)))
value-more h m p =
    let l : length (take (whole m) m) ≡ length m / 16 * 16 = length-take-le (whole m) m (omega arith) in
    rw (take_more m p, ← steps-append, ← blocks-append (length m / 16) (take (whole m) m) _ l)

add-after : (h m p : List ℕ) → added (after h m) p ≡ after h (m ++ p)
unfolding added
add-after h m p =
    rw (waits h m)
    (λ i. record { value = value-more h m p i; tail = ap filled (sym (drop_more m p)) i; total = sym (length-append m p) i })

finish-after : (h m : List ℕ) → finished (after h m) ≡ hash_from h m
unfolding finished hash_from
finish-after h m = rw (waits h m) (steps-parts h m (padding (length m)) (length m / 16) (whole m) refl (omega arith))

abbrev done : Outcome
done = Ok tt

-- within the limit a call does its work
pub is-done : (n : ℕ) → n ≤ limit → hashing n ≡ Ok tt
unfolding hashing
is-done n l = rw (le-leb n limit l)

-- and a call that did its work was within it
pub within-limit : (n : ℕ) → hashing n ≡ Ok tt → n ≤ limit
unfolding hashing
within-limit n e = decide (leb n limit) refl e
  where
    decide : (b : Bool) → leb n limit ≡ b → ◌≡◌ {A = Outcome} (cond b done (Err Unsupported)) done → n ≤ limit
    decide true f e = leb-true n limit f
    decide false f e = let z : ◌≡◌ {A = ℕ} 1 0 = cc in absurd (omega arith)

adding-done : (s : Hashing) (p : List ℕ) → leb (s.total + length p) limit ≡ true → after_adding s p ≡ added s p
unfolding after_adding hashing
adding-done s p e = rw e

adding-refused : (s : Hashing) (p : List ℕ) → leb (s.total + length p) limit ≡ false → after_adding s p ≡ s
unfolding after_adding hashing
adding-refused s p e = rw e

-- after parts of any lengths the state is that after the octets that were taken
comes : (h m : List ℕ) (parts : List (List ℕ)) → adds (after h m) parts ≡ after h (m ++ taken (length m) parts)
unfolding adds taken
comes h m [] = rw append-nil
comes h m (p ∷ ps) = decide (leb (length m + length p) limit) refl (comes h (m ++ p) ps) (comes h m ps)
  where
    decide : (b : Bool) → leb (length m + length p) limit ≡ b
        → adds (after h (m ++ p)) ps ≡ after h ((m ++ p) ++ taken (length (m ++ p)) ps) → adds (after h m) ps ≡ after h (m ++ taken (length m) ps)
        → adds (after_adding (after h m) p) ps ≡ after h (m ++ cond b (p ++ taken (length m + length p) ps) (taken (length m) ps))
    decide true e done refused = rw (adding-done (after h m) p e, add-after h m p) (done ∙ rw (length-append m p, append_assoc))
    decide false e done refused = rw (adding-refused (after h m) p e) refused

-- AS IT COMES: of parts of any lengths, refused ones among them, the value is that of the octets that were taken
pub as-it-comes : (h : List ℕ) (parts : List (List ℕ)) → finished (adds (started h) parts) ≡ hash_from h (taken 0 parts)
as-it-comes h parts = rw (start-after h, comes h [] parts) (finish-after h (taken 0 parts))

-- data within the limit are taken, every part of them
all-taken : (n : ℕ) (parts : List (List ℕ)) → n + length (flatten parts) ≤ limit → taken n parts ≡ flatten parts
unfolding taken flatten
all-taken n [] l = refl
all-taken n (p ∷ ps) l =
    let a = length-append p (flatten ps) in
    let u : n + length p ≤ limit = omega arith in
    let v : n + length p + length (flatten ps) ≤ limit = omega arith in
    rw (le-leb (n + length p) limit u, all-taken (n + length p) ps v)

-- ANY CUTTING, from any initial block
pub any-cutting : (h : List ℕ) (parts : List (List ℕ)) → length (flatten parts) ≤ limit → finished (adds (started h) parts) ≡ hash_from h (flatten parts)
any-cutting h parts l = as-it-comes h parts ∙ ap (hash_from h) (all-taken 0 parts (omega arith))

-- ANY CUTTING, from the zero block
pub any-cutting-zero : (parts : List (List ℕ)) → length (flatten parts) ≤ limit → finished (adds (started zero_block) parts) ≡ hash (flatten parts)
unfolding hash
any-cutting-zero parts l = any-cutting zero_block parts l

-- a state that the calls made is never past the limit: it finishes
within : (n : ℕ) (parts : List (List ℕ)) → n ≤ limit → n + length (taken n parts) ≤ limit
unfolding taken
within n [] l = omega arith
within n (p ∷ ps) l = decide (leb (n + length p) limit) refl (λ u. within (n + length p) ps u) (within n ps l)
  where
    decide : (b : Bool) → leb (n + length p) limit ≡ b
        → (n + length p ≤ limit → n + length p + length (taken (n + length p) ps) ≤ limit) → n + length (taken n ps) ≤ limit
        → n + length (cond b (p ++ taken (n + length p) ps) (taken n ps)) ≤ limit
    decide true e done refused = let u = done (leb-true (n + length p) limit e) in simp length-append (omega arith)
    decide false e done refused = refused

pub finishes : (h : List ℕ) (parts : List (List ℕ)) → hashing (adds (started h) parts).total ≡ Ok tt
finishes h parts =
    let l = within 0 parts (omega arith) in
    rw (start-after h, comes h [] parts) (is-done (length (taken 0 parts)) (omega arith))

-- one part, and two
pub one-part : (h m : List ℕ) → finished (added (started h) m) ≡ hash_from h m
one-part h m = rw (start-after h, add-after h [] m) (finish-after h m)

pub two-parts : (h a b : List ℕ) → finished (added (added (started h) a) b) ≡ hash_from h (a ++ b)
two-parts h a b = rw (start-after h, add-after h [] a, add-after h a b) (finish-after h (a ++ b))

-- totals
pub started-total : (h : List ℕ) → (started h).total ≡ 0
unfolding started
started-total h = refl

pub added-total : (s : Hashing) (p : List ℕ) → (added s p).total ≡ s.total + length p
unfolding added
added-total s p = refl

-- a call within the limit
pub giving-done : {A : Type 0} (n : ℕ) (x : A) → n ≤ limit → giving (hashing n) x ≡ Ok x
giving-done n x l = rw (is-done n l)

-- what a call's answer says of its size
pub given : {A : Type 0} (n : ℕ) (x a : A) → giving (hashing n) x ≡ Ok a → (n ≤ limit) × (x ≡ a)
unfolding hashing
given {A} n x a e = decide (leb n limit) refl e
  where
    decide : (b : Bool) → leb n limit ≡ b → giving (cond b done (Err Unsupported)) x ≡ Ok a → (n ≤ limit) × (x ≡ a)
    decide true f e = (leb-true n limit f, ap (λ (r : Result A Refusal). result_unwrap_or r x) e)
    decide false f e = let z : ◌≡◌ {A = ℕ} 1 0 = cc in absurd (omega arith)

pub refused : {A : Type 0} (n : ℕ) (x : A) (why : Refusal) → giving (hashing n) x ≡ Err why → (limit < n) × (Unsupported ≡ why)
unfolding hashing
refused {A} n x why e = decide (leb n limit) refl e
  where
    decide : (b : Bool) → leb n limit ≡ b → giving (cond b done (Err Unsupported)) x ≡ Err why → (limit < n) × (Unsupported ≡ why)
    decide true f e = let z : ◌≡◌ {A = ℕ} 1 0 = cc in absurd (omega arith)
    decide false f e = (leb-false n limit f, ap (λ (r : Result A Refusal). elim r [ Ok y ↦ Unsupported | Err w ↦ w ]) e)

-- the hash of one part from a start
pub from-start : (h m : List ℕ) → giving (hashing ((started h).total + length m)) (finished (added (started h) m)) ≡ giving (hashing (length m)) (hash_from h m)
from-start h m =
    let v = finished (added (started h) m) in
    ap (λ (n : ℕ). giving (hashing (n + length m)) v) (started-total h) ∙ ap (λ (n : ℕ). giving (hashing n) v) (zero-add (length m))
    ∙ ap (giving (hashing (length m))) (one-part h m)
