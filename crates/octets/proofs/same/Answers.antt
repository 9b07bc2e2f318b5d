-- `octets::same` meets its contract. Assumes nothing.
use mathlib.Core.Bool.{and-true}
use Rattle.std.proofs.Common.{◌≡◌, ◌&&◌, eqb, bit_or, bit_xor, ℕ, List, ◌∷◌, length, sym, ap, ◌∙◌, arith, rules, ⊎_elim}
use Rattle.laws.specs.Octets.{same}
use Rattle.laws.specs.XorLaws.{same_turn, same-nil, same_length}
use Rattle.octets.proofs.same.Goals as goal

-- one octet more of each
turn : (x y s t : List ℕ) (d a b : ℕ) → x ≡ a ∷ s → y ≡ b ∷ t → (eqb (bit_or d (bit_xor a b)) 0 && same s t) ≡ (eqb d 0 && same x y)
turn x y s t d a b e f = rw (e, f) (same_turn (a ∷ s) (b ∷ t) d 0 (omega arith) (omega arith))

left : (x y s t : List ℕ) (a b : ℕ) → x ≡ a ∷ s → y ≡ b ∷ t → length x ≡ length y → length s ≡ length t
left x y s t a b e f h = omega (arith, ap length e, ap length f)

pub returns-then-a-b : goal.returns-then-a-b
returns-then-a-b c = let a = c.args in sym (same_length a.a.now a.b.now (search rules))

pub loop-x-preserved : goal.loop-x-preserved
loop-x-preserved c =
    let s = c.in-Some.ensures.steps in
    let l = c.loop-x in
    (left _ _ _ _ _ _ s.0 s.1 l.invariant.0, turn _ _ _ _ l.d _ _ s.0 s.1 ∙ l.invariant.1)

pub returns : goal.returns
returns c =
    let l = c.loop-x in
    let h = l.invariant.0 in
    let z = ⊎_elim (λ w. w.1.0) (λ w. h ∙ w.1.0) c.in-None.ensures.steps in
    sym (and-true (eqb l.d 0)) ∙ rw (same-nil _ _ h z) at l.invariant.1
