-- What the cipher's answer says of a frame whose level was filled in, on plain lists. Assumes nothing.
use Rattle.std.specs.Prelude.{Ok, Err, is_err}
use mathlib.Core.Path.{◌≡◌, refl, sym, ap, ◌∙◌}
use mathlib.Core.Bool.{Bool, true, false, cond}
use mathlib.Core.List.{List, ◌++◌, append_assoc}
use Prim.Native.Nat.{ℕ, ◌+◌, ◌-◌, ◌≤◌, ◌<◌}
use native.Mathlib.Omega.{arith}
use lib.ListN.{length, take, drop, get_or, set, length-set}
use lib.Seq.{set-set, set-get_or, set-append_left, take-set-lt, drop-set-lt, length-take-le, get_or-take, take_at}
use borrow.Author.Tests.{le-ltb}
use Rattle.answer.specs.Numbers.{Outcome}
use Rattle.answer.specs.Numbers.{when_done}
use Rattle.aes.specs.Schedule.{key_expansion}
use Rattle.aes.specs.Words.{key_bytes, cipher_words}
use Rattle.ccm.specs.Ccm.{sealed}
use Rattle.ccm.specs.Frame.{tag_taken, fitting, unsealing, sealed_frame, opened_frame}
use Rattle.control.specs.Control.{filled}
use Rattle.auxiliary_header.specs.Nonce.{nonce_of}
use Rattle.protection.specs.Heard.{vouching}
use Rattle.protection.specs.Protection.{vouches, opened_octets, secured_octets, under}

pub fits : (at k room : ℕ) → at ≤ 1024 → k ≤ 1024 → at + k + 4 ≤ room → fitting 4 at k room ≡ Ok tt
unfolding fitting tag_taken
fits at k room a b c = rw (le-ltb 1024 at a, le-ltb 1024 k b, le-ltb room (at + k + 4) c)

-- what was copied to the front of a longer buffer reads as it was
pub copied : (f z y : List ℕ) → y ≡ f ++ drop (length f) z → take (length f) y ≡ f
copied f z y e =
    ap (take (length f)) e ∙ take_at f (drop (length f) z) (length f) refl

module _ (w key : List ℕ) (same : key_bytes w ≡ key_expansion key) (sender counter at payload : ℕ) (b : List ℕ) (room : payload + 4 ≤ length b)
    (size : length b ≤ 1024) (n : List ℕ) (v : ℕ) (is-filled : v ≡ filled (get_or b at 0) 5) (is-nonce : n ≡ nonce_of sender counter v) (r : Outcome) (x : List ℕ)
    (answered : r ≡ unsealing (cipher_words w) 4 n payload (length b - 4 - payload) (set b at v))
    (left : x ≡ when_done r (opened_frame (cipher_words w) n payload (length b - 4 - payload) (set b at v)) (set b at v)) where
  pub answer-is : r ≡ vouching (vouches key sender counter at payload b)
  unfolding unsealing vouches
  answer-is =
      let f : fitting 4 payload (length b - 4 - payload) (length (set b at v)) ≡ Ok tt = fits payload (length b - 4 - payload) (length (set b at v)) (omega arith) (omega arith) (rw length-set (omega arith)) in
      answered ∙ rw (f, same, is-nonce, is-filled)

  -- where the tag is right
  pub opens : is_err r ≡ false → x ≡ when_done r (opened_octets key sender counter at payload b) b
  unfolding opened_octets
  opens = by r refl
    where
      by : (q : Outcome) → r ≡ q → is_err q ≡ false → x ≡ when_done q (opened_octets key sender counter at payload b) b
      by (Ok tt) d e = left ∙ rw (d, same, is-nonce, is-filled)
      by (Err why) d e = let z : ◌≡◌ {A = ℕ} 0 1 = cc in absurd (omega arith)

  -- where it is wrong, and the control byte is put back
  pub keeps : is_err r ≡ true → set x at (get_or b at 0) ≡ when_done r (opened_octets key sender counter at payload b) b
  keeps = by r refl
    where
      by : (q : Outcome) → r ≡ q → is_err q ≡ true → set x at (get_or b at 0) ≡ when_done q (opened_octets key sender counter at payload b) b
      by (Ok tt) d e = let z : ◌≡◌ {A = ℕ} 0 1 = cc in absurd (omega arith)
      by (Err why) d e = let kept : x ≡ set b at v = left ∙ rw d in rw (kept, set-set b at v (get_or b at 0), set-get_or b at 0)

-- a frame sealed after headers whose control byte was filled in, and cleared again
module _ (w key : List ℕ) (same : key_bytes w ≡ key_expansion key) (sender counter at payload k : ℕ) (b : List ℕ) (inside : at < payload) (head : payload ≤ 1024)
    (text : k ≤ 1024) (room : payload + k + 4 ≤ length b) (n : List ℕ) (v : ℕ) (is-filled : v ≡ filled (get_or b at 0) 5) (is-nonce : n ≡ nonce_of sender counter v)
    (r : Outcome) (x : List ℕ) (answered : r ≡ fitting 4 payload k (length (set b at v)))
    (left : x ≡ when_done r (sealed_frame (cipher_words w) 4 n payload k (set b at v)) (set b at v)) where
  sealed-is : x ≡ sealed_frame (under key) 4 n payload k (set b at v)
  sealed-is =
      let f : r ≡ Ok tt = answered ∙ fits payload k (length (set b at v)) head text (rw length-set (omega arith)) in
      left ∙ rw (f, same)

  pub secured : set x at (get_or b at 0) ≡ secured_octets key sender counter at (take payload b) (take k (drop payload b)) ++ drop (payload + k + 4) b
  unfolding sealed_frame secured_octets
  secured =
      let H = take payload b in
      let g = get_or b at 0 in
      let A = set H at v in
      let T = take k (drop payload b) in
      let S = sealed (under key) 4 n A T in
      let D = drop (payload + k + 4) b in
      let same_byte : get_or H at 0 ≡ g = get_or-take payload b at 0 inside in
      let front : take payload (set b at v) ≡ A = take-set-lt payload b at v inside in
      let rest : drop payload (set b at v) ≡ drop payload b = drop-set-lt payload b at v inside in
      let past : drop (payload + k + 4) (set b at v) ≡ D = drop-set-lt (payload + k + 4) b at v (omega arith) in
      let long : at < length A = rw (length-set, length-take-le payload b (omega arith)) inside in
      let whole : x ≡ A ++ (S ++ D) = sealed-is ∙ rw (front, rest, past) in
      let mine : set x at g ≡ set A at g ++ (S ++ D) = rw (whole, set-append_left A (S ++ D) at g long) in
      mine ∙ sym (rw (same_byte, ← is-filled, ← is-nonce, set-append_left A S at g long, append_assoc))
