-- How a finished frame comes to lie in the output, on plain lists: x is the buffer after the header was copied, y after the auxiliary header
-- was written, w after the payload was copied, v after sealing. Assumes nothing.
use mathlib.Core.Path.{◌≡◌, sym, ap, ◌∙◌}
use mathlib.Core.List.{List, [], ◌++◌, append_assoc, append-nil}
use Prim.Native.Nat.{ℕ, ◌+◌, ◌-◌, ◌≤◌}
use native.Mathlib.Omega.{arith}
use lib.ListN.{length, take, drop, length-append, length-drop}
use lib.Seq.{take_all, take-length, drop-length, length-take-le, take_at, drop_at, drop-append-add, drop-drop}
use Rattle.auxiliary_header.specs.Written.{written}
use Rattle.auxiliary_header.specs.WrittenLaws as writing
use Rattle.protection.specs.Protection.{secured_octets}

module _ (plain out aux : List ℕ) (at k p : ℕ) (is-place : p ≡ at + k) (whole : at ≤ length plain) (room : length plain + k + 4 ≤ length out) (long : length aux ≡ k) where
  abbrev front : List ℕ
  front = take at plain

  abbrev text : List ℕ
  text = drop at plain

  front_length : length front ≡ at
  front_length = length-take-le at plain whole

  text-length : length text ≡ length plain - at
  text-length = length-drop at plain

  headers-length : length (front ++ aux) ≡ p
  headers-length = length-append front aux ∙ omega (arith, front_length, long, is-place)

  pub copied-length : (x : List ℕ) → x ≡ front ++ drop (length front) out → length x ≡ length out
  copied-length x first = ap length first ∙ simp (length-append, length-drop) (omega (arith, front_length))

  -- the header copied, the auxiliary header written after it, and the payload copied after that
  pub laid : (x y z : List ℕ) → x ≡ front ++ drop (length front) out → y ≡ written x at aux
      → z ≡ take (length plain - at) text ++ drop (length (take (length plain - at) text)) (take (length y - p) (drop p y))
      → take p y ++ (z ++ drop (length y - p) (drop p y)) ≡ (front ++ aux) ++ (text ++ drop (length plain + k) out)
  laid x y z first second third =
      let past = drop p out in
      let x-is : x ≡ front ++ drop at out = first ∙ rw front_length in
      let x-long : length x ≡ length out = ap length x-is ∙ simp (length-append, length-drop) (omega (arith, front_length)) in
      let x-front : take at x ≡ front = rw x-is (take_at front (drop at out) at front_length) in
      let seam : length front + k ≡ at + length aux = omega (arith, front_length, long) in
      let x-past : drop (at + length aux) x ≡ past =
      ap (drop (at + length aux)) x-is ∙ ap (λ (n : ℕ). drop n (front ++ drop at out)) (sym seam) ∙ drop-append-add front (drop at out) k ∙ drop-drop k at out ∙ ap (λ (n : ℕ). drop n out) (sym is-place) in
      let y-is : y ≡ (front ++ aux) ++ past = second ∙ writing.put x at aux (omega (arith, x-long, long)) ∙ rw (x-front, x-past, append_assoc) in
      let y-front : take p y ≡ front ++ aux = rw y-is (take_at (front ++ aux) past p headers-length) in
      let y-past : drop p y ≡ past = rw y-is (drop_at (front ++ aux) past p headers-length) in
      let y-long : length y - p ≡ length past = omega (arith, ap length y-is, length-append (front ++ aux) past, headers-length) in
      let part : take (length y - p) (drop p y) ≡ past = rw (y-long, y-past) (take-length past) in
      let rest : drop (length y - p) (drop p y) ≡ [] = rw (y-long, y-past) (drop-length past) in
      let all : take (length plain - at) text ≡ text = take_all (length plain - at) text (omega (arith, text-length)) in
      let end : p + length text ≡ length plain + k = omega (arith, text-length, is-place) in
      let last : drop (length text) past ≡ drop (length plain + k) out = drop-drop (length text) p out ∙ ap (λ (n : ℕ). drop n out) end in
      let z-is : z ≡ text ++ drop (length plain + k) out = third ∙ rw (all, part, last) in
      rw (y-front, rest, z-is, append-nil)

  -- the payload sealed where it lies
  pub sent : (key : List ℕ) (sender counter : ℕ) (w v : List ℕ) → w ≡ (front ++ aux) ++ (text ++ drop (length plain + k) out)
      → v ≡ secured_octets key sender counter at (take p w) (take (length plain - at) (drop p w)) ++ drop (p + (length plain - at) + 4) w
      → v ≡ secured_octets key sender counter at (front ++ aux) text ++ drop (length plain + k + 4) out
  sent key sender counter w v laid_out sealed =
      let past = drop (length plain + k) out in
      let w-front : take p w ≡ front ++ aux = rw laid_out (take_at (front ++ aux) (text ++ past) p headers-length) in
      let w-past : drop p w ≡ text ++ past = rw laid_out (drop_at (front ++ aux) (text ++ past) p headers-length) in
      let payload : take (length plain - at) (text ++ past) ≡ text = take_at text past (length plain - at) text-length in
      let place : p + (length plain - at) + 4 ≡ length (front ++ aux) + (length text + 4) = omega (arith, headers-length, text-length, is-place) in
      let w-end : drop (p + (length plain - at) + 4) w ≡ drop (length plain + k + 4) out =
      rw (place, laid_out) (drop-append-add (front ++ aux) (text ++ past) (length text + 4) ∙ drop-append-add text past 4 ∙ drop-drop 4 (length plain + k) out) in
      sealed ∙ rw (w-front, w-past, payload, w-end)
