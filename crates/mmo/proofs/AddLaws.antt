-- A part more, as the code takes it: the first block of what waits and of the part, then the whole blocks of the part, then what is left. Assumes nothing.
use mathlib.Core.Path.{◌≡◌, refl, sym, ap, ◌∙◌}
use mathlib.Core.Bool.{Bool, true, false}
use mathlib.Core.List.{List, [], ◌++◌, append_assoc, append-nil}
use Prim.Native.Nat.{ℕ, ◌+◌, ◌-◌, ◌%◌, ◌<◌, ◌≤◌}
use native.Mathlib.Omega.{arith}
use borrow.Author.Tests.{leb-true, leb-false, le-leb, lt-leb}
use lib.Dec.{leb}
use lib.ListN.{length, take, drop, replicate, length-append, length-replicate, drop_of_length-le}
use lib.Seq.{length-take-le, take_at, drop_at, take_all, take-add, drop-drop, take-append-add, drop-append-add}
use Rattle.laws.specs.Octets.{◌⊕◌}
use Rattle.laws.specs.Blocks.{blocks}
use Rattle.mmo.specs.Hash.{step, steps, filled}
use Rattle.mmo.specs.Stream.{limit, whole}
use Rattle.mmo.proofs.HashLaws.{zeros-xor, steps-nil, steps-turn}

-- a sum held against a limit without adding
pub leb-rest : (t n : ℕ) → t ≤ limit → leb n (limit - t) ≡ leb (t + n) limit
leb-rest t n l = decide (leb n (limit - t)) refl
  where
    decide : (b : Bool) → leb n (limit - t) ≡ b → b ≡ leb (t + n) limit
    decide true e = let u = leb-true n (limit - t) e in sym (le-leb (t + n) limit (omega arith))
    decide false e = let u = leb-false n (limit - t) e in sym (lt-leb (t + n) limit (omega arith))

pub filled-short : (x : List ℕ) → length x < 16 → filled x ≡ x ++ replicate (16 - length x) 0
unfolding filled
filled-short x h = rw (take_all 16 x (omega arith))

-- w, filled up to x, with what follows w XORed into the part of x after w, which comes back as q
pub filled_more : (w y x q : List ℕ) (n : ℕ) → length w ≡ n → n < 16 → x ≡ filled w → q ≡ take (16 - n) (drop n x) ⊕ y
    → take n x ++ (q ++ drop (16 - n) (drop n x)) ≡ filled (w ++ y)
unfolding filled
filled_more w y x q n e l ex eq =
    let k = 16 - n in
    let r = replicate {A = ℕ} k 0 in
    let lr : length r ≡ k = length-replicate k 0 in
    let f : x ≡ w ++ r = ex ∙ filled-short w (omega arith) ∙ ap (λ (j : ℕ). w ++ replicate (16 - j) 0) e in
    let d : drop n x ≡ r = ap (drop n) f ∙ drop_at w r n e in
    let t : take k (drop n x) ≡ r = ap (take k) d ∙ take_all k r (omega arith) in
    let z : drop k (drop n x) ≡ [] = ap (drop k) d ∙ drop_of_length-le r {i = k} (omega arith) in
    let g : q ≡ take k y ++ replicate (k - length (take k y)) 0 = eq ∙ ap (λ (v : List ℕ). v ⊕ y) t ∙ zeros-xor k y in
    let s : 16 ≡ length w + k = omega arith in
    let m : take 16 (w ++ y) ≡ w ++ take k y = ap (λ (j : ℕ). take j (w ++ y)) s ∙ take-append-add w y k in
    let h : 16 - length (w ++ take k y) ≡ k - length (take k y) = simp length-append (omega arith) in
    rw (z, append-nil, g, f, take_at w r n e, m, h) (sym (append_assoc w (take k y) _))

-- fewer octets than a block: all of them wait
pub short-value : (h m : List ℕ) → length m < 16 → steps h (blocks (take (whole m) m)) ≡ h
short-value h m l =
    let e : whole m ≡ 0 = omega arith in
    rw e (steps-nil h)

pub short-tail : (m : List ℕ) → length m < 16 → filled (drop (whole m) m) ≡ filled m
short-tail m l =
    let e : whole m ≡ 0 = omega arith in
    rw e

module _ (w part : List ℕ) (room : ℕ) (full : length w + room ≡ 16) (enough : room ≤ length part) where
  -- the end of the part's last whole block
  abbrev pub ending : ℕ
  ending = length part - (length part - room) % 16

  whole_is : whole (w ++ part) ≡ 16 + (ending - room)
  whole_is = simp length-append (omega arith)

  after_first : drop 16 (w ++ part) ≡ drop room part
  after_first = ap (λ (j : ℕ). drop j (w ++ part)) (sym full) ∙ drop-append-add w part room

  pub more-value : (h : List ℕ) → steps (step h (filled (w ++ part))) (blocks (take (ending - room) (drop room part))) ≡ steps h (blocks (take (whole (w ++ part)) (w ++ part)))
  unfolding filled
  more-value h =
      let m = w ++ part in
      let a = take 16 m in
      let b = take (ending - room) (drop room part) in
      let e : length a ≡ 16 = length-take-le 16 m (simp length-append (omega arith)) in
      let t : take (whole m) m ≡ a ++ b = rw (whole_is, take-add 16 (ending - room) m, after_first) in
      let p : 0 < length (a ++ b) = simp length-append (omega arith) in
      let f : filled m ≡ a = rw (e, append-nil) in
      let g : filled (a ++ b) ≡ a = rw (take_at a b 16 e, e, append-nil) in
      rw (t, steps-turn h (a ++ b) p, drop_at a b 16 e, g, f)

  pub more-tail : filled (drop ending part) ≡ filled (drop (whole (w ++ part)) (w ++ part))
  more-tail =
      let e : room + (ending - room) ≡ ending = omega arith in
      let t : drop (16 + (ending - room)) (w ++ part) ≡ drop ending part = sym (drop-drop (ending - room) 16 (w ++ part)) ∙ rw (after_first, drop-drop (ending - room) room part, e) in
      rw (whole_is, t)
