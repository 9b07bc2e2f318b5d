-- The round trip of NWK: what `secure_nwk` makes, a gateway with the same key under the same number opens to the same payload.
-- Assumes nothing.
use Rattle.std.specs.Prelude.{None, Ok, Option, Some}
use mathlib.Core.Path.{◌≡◌, refl, sym, ap, ◌∙◌}
use mathlib.Core.Bool.{true, false}
use mathlib.Core.List.{List, ◌++◌, append_assoc}
use Prim.Native.Nat.{ℕ, ◌+◌, ◌-◌, ◌^◌, ◌≤◌, ◌<◌}
use native.Mathlib.Omega.{arith}
use lib.Dec.{eqb, ltb}
use lib.ListN.{length, take, drop, length-append, length-drop}
use lib.Seq.{length-take-le, take_at}
use borrow.Author.Tests.{le-ltb, ne_eqb, not-true}
use Rattle.laws.specs.Numbers.{bit}
use Rattle.answer.specs.declared.Accepted.TheVariants.{Done}
use Rattle.answer.specs.declared.Refusal.TheVariants.{TableFull}
use Rattle.cells.specs.Rows.{become, find, put, room, settle}
use Rattle.control.specs.Control.{sent, has_sender, has_number, identifier_of}
use Rattle.control.specs.declared.KeyIdentifier.TheVariants.{Network}
use Rattle.auxiliary_header.specs.declared.auxiliary.KeyUsed.TheVariants as used
use Rattle.auxiliary_header.specs.Auxiliary.{auxiliary_octets, auxiliary_at}
use Rattle.auxiliary_header.proofs.AuxiliaryLaws.{read_back}
use Rattle.frame_header.specs.Nwk.{nwk_control, nwk_kind, nwk_length, nwk_of}
use Rattle.frame_header.specs.NwkLaws.{nwk-whole, same-control, same_length}
use Rattle.nib.specs.declared.counters.CounterRow.{CounterRow}
use Rattle.nib.specs.declared.outgoing.Outgoing.{Outgoing}
use Rattle.nib.specs.Counters.{Cell, counting, counter_in, counter_rows, capacity, pair}
use Rattle.nib.specs.Keys.{key_found, key_under}
use Rattle.claims.specs.declared.Claim.{Claim}
use Rattle.claims.specs.declared.Who.TheVariants as who
use Rattle.claims.specs.Claims.{spent, nwk_who}
use Rattle.protection.specs.Heard.{refused, equals, below}
use Rattle.protection.specs.Protection.{tag_size, payload_size, vouches, opened_octets}
use Rattle.nib.specs.declared.state.Nwk.{Nwk}
use Rattle.judging.specs.OpenNwk.{Opened, nwk_committed, nwk_judged, nwk_placed, nwk_unfit, open_nwk}
use Rattle.securing.specs.SecureNwk.{Secured, nwk_added, nwk_headers, nwk_on_air, secure_nwk}
use Rattle.protection.proofs.RoundTrip as protection
use Rattle.securing.proofs.ReadyLaws.{Checked, is-checked}
use Rattle.securing.proofs.SecuringLaws.{auxiliary-size}

-- ---- the gateway that hears it: the same key under the same number; a held counter of that pair, if there is one, is lower; and room

pub record Hears (s : Nwk) (o : Outgoing) (g : Nwk) (rows : List CounterRow) (in_use : ℕ) : Type 0 where
  pub fit : nwk_unfit g rows in_use ≡ false
  pub same_key : key_found g.keys s.active ≡ key_found s.keys s.active
  pub lower : (held : ℕ) → counter_in (find counter_rows (take in_use rows) (pair s.active s.own)) ≡ Some held → held < o.next
  pub has_room : room counter_rows (capacity (length rows)) (take in_use rows) (pair s.active s.own) ≡ true

module _ (s : Nwk) (o : Outgoing) (plain out : List ℕ) (start len : ℕ) (done : (secure_nwk s o plain out).answer ≡ Ok (Done start len))
    (address : s.own < 2 ^ 64) (counter : o.next < 2 ^ 32) where
  abbrev checked : Checked s o plain out
  checked = is-checked s o plain out start len done

  abbrev header : ℕ
  header = nwk_length plain

  abbrev payload : List ℕ
  payload = drop header plain

  abbrev key : List ℕ
  key = key_under s.keys s.active

  abbrev headers : List ℕ
  headers = nwk_headers s o.next plain header

  abbrev octets : List ℕ
  octets = auxiliary_octets (sent Network) o.next s.own s.active

  abbrev frame : List ℕ
  frame = nwk_on_air s o.next plain header

  front_length : length (take header plain) ≡ header
  front_length = length-take-le header plain checked.whole

  headers-length : length headers ≡ header + 14
  headers-length = rw (length-append, front_length, auxiliary-size)

  pub inside : header < length headers
  inside = rw headers-length (omega arith)

  frame-length : length frame ≡ length plain + nwk_added
  unfolding nwk_on_air
  frame-length =
      let w : header ≤ length plain = checked.whole in
      protection.frame-length key s.own o.next header headers payload inside ∙ rw (headers-length, length-drop) (omega arith)

  -- the finished frame stands at the front of the output buffer, and is as long as the answer says
  len_is : len ≡ length plain + nwk_added
  len_is = let e = ap (λ (x : Secured). x.answer) checked.leaves in cc

  pub sent-frame : take len (secure_nwk s o plain out).out ≡ frame
  sent-frame = rw checked.leaves (take_at frame (drop (length plain + nwk_added) out) len (frame-length ∙ sym len_is))

  -- it starts with the plain frame's header, and then the auxiliary header
  abbrev sealing : List ℕ
  sealing = protection.sealing key s.own o.next header headers payload inside

  parts : frame ≡ take header plain ++ (octets ++ sealing)
  unfolding nwk_on_air
  parts = protection.on-air key s.own o.next header headers payload inside ∙ append_assoc (take header plain) octets sealing

  front : take header frame ≡ take header plain
  front = rw parts (take_at (take header plain) (octets ++ sealing) header front_length)

  header_read : nwk_of frame ≡ Ok (record { len = header; kind = nwk_kind (nwk_control plain); secured = true })
  header_read =
      let l : nwk_length frame ≡ header = same_length plain frame front in
      let w : header ≤ length plain = checked.whole in
      nwk-whole frame (rw (l, frame-length) (omega arith)) ∙ rw (l, same-control plain frame front, checked.bit-set)

  auxiliary-read : auxiliary_at frame header
      ≡ Ok (record { control = record { byte = sent Network }; counter = o.next; sender = Some s.own; key = used.Network s.active; next = header + 14 })
  unfolding has_sender has_number identifier_of bit
  auxiliary-read = rw parts (read_back (take header plain) sealing header (sent Network) o.next s.own s.active front_length counter address)

  abbrev claim : Claim
  claim = record { key = used.Network s.active; sender = s.own; counter = o.next; control = record { byte = sent Network }; at = header; payload = header + 14 }

  module _ (g : Nwk) (rows : List CounterRow) (in_use : ℕ) (hears : Hears s o g rows in_use) where
    frame-claims : nwk_who g.keys frame ≡ Ok (who.Claims claim)
    unfolding nwk_who
    frame-claims =
        let n : length plain ≤ 1006 = checked.small in
        let many : ltb 1024 (length frame) ≡ false = le-ltb 1024 (length frame) (rw frame-length (omega arith)) in
        let few : ltb (length frame) 4 ≡ false = le-ltb (length frame) 4 (rw frame-length (omega arith)) in
        rw (many, few, header_read, auxiliary-read, not-true (eqb o.next spent) checked.usable, hears.same_key, checked.found)

    -- the judgement: the counter is above a held one, the tag is there, and it is right
    abbrev held : Option Cell
    held = find counter_rows (take in_use rows) (pair s.active s.own)

    -- the headers with level 5, the payload, and the tag
    unfoldable pub opened : List ℕ
    opened = protection.laid key s.own o.next header headers payload inside

    not-held : (h : Option ℕ) → counter_in held ≡ h → (equals h o.next ≡ false) × (below h o.next ≡ false)
    not-held None e = (refl, refl)
    not-held (Some m) e =
        let l : m < o.next = hears.lower m e in
        (ne_eqb o.next m (λ q. omega arith), le-ltb o.next m (omega arith))

    size : payload_size (header + 14) frame ≡ length plain - header
    size = rw frame-length (omega arith)

    frame-judged : nwk_judged g.keys claim held frame
        ≡ become (counting o.next) (record { answer = Ok (Done (header + 14) (length plain - header)); frame = opened }) (refused TableFull frame)
    unfolding nwk_judged nwk_on_air opened
    frame-judged =
        let n = not-held (counter_in held) refl in
        let w : header ≤ length plain = checked.whole in
        let whole : ltb (length frame) (header + 14 + tag_size) ≡ false = le-ltb (length frame) (header + 14 + tag_size) (rw frame-length (omega arith)) in
        let right : vouches key s.own o.next header (header + 14) frame ≡ true =
        rw (← headers-length) (protection.vouched-for key s.own o.next header headers payload inside) in
        let opens : opened_octets key s.own o.next header (header + 14) frame ≡ opened =
        rw (← headers-length) (protection.opens key s.own o.next header headers payload inside) in
        rw (hears.same_key, n.0, n.1, whole, right, size, opens)

    -- all that the opening leaves: the pair's row holds the counter
    pub heard-frame : open_nwk g rows in_use frame
        ≡ nwk_committed g rows (pair s.active s.own)
        (record { out = record { answer = Ok (Done (header + 14) (length plain - header)); frame = opened }; rows = put counter_rows (take in_use rows) (pair s.active s.own) (counting o.next) })
    unfolding open_nwk nwk_placed settle
    heard-frame = rw (hears.fit, frame-claims, frame-judged, hears.has_room)

    -- THE ROUND TRIP: the frame that was left in the output buffer opens, and its payload is what was secured
    abbrev result : Opened
    result = open_nwk g rows in_use (take len (secure_nwk s o plain out).out)

    pub round_trip : (result.answer ≡ Ok (Done (header + 14) (length payload))) × (take (length payload) (drop (header + 14) result.frame) ≡ payload)
    unfolding opened
    round_trip =
        let e : result ≡ open_nwk g rows in_use frame = rw sent-frame in
        let back : take (length payload) (drop (header + 14) opened) ≡ payload =
        rw (← headers-length) (protection.text-back key s.own o.next header headers payload inside) in
        (rw (e, heard-frame, length-drop), rw (e, heard-frame, back))
