-- The round trip of the protection itself: a frame that was secured is vouched for under the same key, and opens to the same text.
-- Assumes nothing.
use mathlib.Core.Path.{◌≡◌, refl, ◌∙◌}
use mathlib.Core.Bool.{true}
use mathlib.Core.List.{List, [], ◌++◌, append_assoc, append-nil}
use Prim.Native.Nat.{ℕ, ◌+◌, ◌<◌}
use native.Mathlib.Omega.{arith}
use lib.ListN.{length, take, drop, get_or, length-append, length-set, drop_of_length-le, get_or-append}
use lib.Seq.{set-set, set-get_or, set-append_left, take_at, drop_at, take-add}
use Rattle.aes.specs.Schedule.{key_expansion}
use Rattle.aes.proofs.Lists.{cipher-length}
use Rattle.ccm.specs.Ccm.{counted, tag, sealed_from, sealed}
use Rattle.ccm.specs.Frame.{sealed_frame}
use Rattle.ccm.proofs.Laws.{length-counted}
use Rattle.ccm.proofs.RoundTrip.{tag-length, sealed-frame-vouched, sealed-frame-opens}
use Rattle.protection.specs.Protection.{tag_size, under, filled_at, nonce_at, payload_size, vouches, opened_octets, secured_octets}

module _ (key : List ℕ) (sender counter at : ℕ) (hs text : List ℕ) (inside : at < length hs) where
  abbrev frame : List ℕ
  frame = secured_octets key sender counter at hs text

  -- the headers as the protection takes them, the nonce, what is sealed under them, and its tag
  abbrev headers : List ℕ
  headers = filled_at at hs

  abbrev nonce : List ℕ
  nonce = nonce_at sender counter at hs

  abbrev pub sealing : List ℕ
  sealing = sealed (under key) tag_size nonce headers text

  abbrev mark : List ℕ
  mark = tag (under key) tag_size nonce headers text

  headers-length : length headers ≡ length hs
  headers-length = length-set hs at _

  mark-length : length mark ≡ tag_size
  mark-length = tag-length (under key) (cipher-length (key_expansion key)) tag_size nonce headers text (omega arith)

  sealing-length : length sealing ≡ length text + tag_size
  unfolding sealed sealed_from tag
  sealing-length = length-append (counted (under key) nonce 1 text) mark ∙ rw (length-counted (under key) nonce 1 text, mark-length)

  -- on the air: the headers as they were, and then what is sealed
  pub on-air : frame ≡ hs ++ sealing
  unfolding secured_octets
  on-air =
      let i : at < length headers = rw headers-length inside in
      rw (set-append_left headers sealing at (get_or hs at 0) i, set-set hs at _ (get_or hs at 0), set-get_or hs at 0)

  pub frame-length : length frame ≡ length hs + (length text + tag_size)
  frame-length = rw (on-air, length-append, sealing-length)

  same-control : get_or frame at 0 ≡ get_or hs at 0
  same-control = rw on-air (get_or-append hs sealing 0 at inside)

  refilled : filled_at at frame ≡ headers ++ sealing
  refilled = rw (same-control, on-air) (set-append_left hs sealing at _ inside)

  size_back : payload_size (length hs) frame ≡ length text
  size_back = rw frame-length (omega arith)

  -- the frame before it was sealed, with the tag in its place
  abbrev pub laid : List ℕ
  laid = headers ++ (text ++ mark)

  laid-length : length laid ≡ length hs + length text + tag_size
  laid-length = rw (length-append, length-append, headers-length, mark-length) (omega arith)

  front : take (length hs) laid ≡ headers
  front = take_at headers (text ++ mark) (length hs) headers-length

  rest : drop (length hs) laid ≡ text ++ mark
  rest = drop_at headers (text ++ mark) (length hs) headers-length

  pub text-back : take (length text) (drop (length hs) laid) ≡ text
  text-back = rw rest (take_at text mark (length text) refl)

  nothing-past : drop (length hs + length text + tag_size) laid ≡ []
  nothing-past = drop_of_length-le laid {i = length hs + length text + tag_size} (omega (arith, laid-length))

  is-sealed : sealed_frame (under key) tag_size nonce (length hs) (length text) laid ≡ headers ++ sealing
  unfolding sealed_frame
  is-sealed = rw (front, text-back, nothing-past, append-nil)

  pub vouched-for : vouches key sender counter at (length hs) frame ≡ true
  unfolding vouches
  vouched-for =
      rw (size_back, refilled, same-control, ← is-sealed)
      (sealed-frame-vouched (under key) (cipher-length (key_expansion key)) tag_size nonce (length hs) (length text) laid (omega arith) (omega (arith, laid-length)))

  pub opens : opened_octets key sender counter at (length hs) frame ≡ laid
  unfolding opened_octets
  opens =
      rw (size_back, refilled, same-control, ← is-sealed)
      (sealed-frame-opens (under key) (cipher-length (key_expansion key)) tag_size nonce (length hs) (length text) laid (omega arith) (omega (arith, laid-length))
      ∙ rw (take-add (length hs) (length text) laid, front, text-back, nothing-past, append-nil, append_assoc))
