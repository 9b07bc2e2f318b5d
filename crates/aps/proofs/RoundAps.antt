-- The round trip of APS: what `secure_aps` makes, a gateway that holds the same link key for the sender opens to the same payload, whichever
-- key identifier it was sent by. Assumes nothing.
use Rattle.std.specs.Prelude.{None, Ok, Option, Some}
use mathlib.Core.Path.{◌≡◌, refl, sym, ap, ◌∙◌}
use mathlib.Core.Bool.{Bool, true, false}
use mathlib.Core.List.{List, ◌++◌, append_assoc}
use Prim.Native.Nat.{ℕ, ◌+◌, ◌-◌, ◌^◌, ◌≤◌, ◌<◌}
use native.Mathlib.Omega.{arith}
use lib.Dec.{ltb}
use lib.ListN.{length, take, drop, get_or, length-append, length-drop, get_or-append}
use lib.Seq.{length-take-le, take_at, get_or-take}
use borrow.Author.Tests.{le-ltb, ne_eqb}
use Rattle.answer.specs.declared.Accepted.TheVariants.{Done}
use Rattle.answer.specs.declared.Refusal.TheVariants.{TableFull}
use Rattle.cells.specs.Rows.{become, find, put, room, settle}
use Rattle.aib.specs.declared.pairs.PairRow.{PairRow}
use Rattle.aib.specs.declared.pairs.Pairs.{Pairs}
use Rattle.cells.specs.First.{first}
use Rattle.aib.specs.Pairs.{PairCell, pair_rows, may_use}
use Rattle.aib.specs.Counters.{in_use, heard}
use Rattle.control.specs.Control.{sent, has_number}
use Rattle.control.specs.ControlLaws.{sent-identifier, sent-sender}
use Rattle.control.specs.declared.KeyIdentifier.{KeyIdentifier}
use Rattle.control.specs.declared.KeyIdentifier.TheVariants.{Link, Network, Transport, Load}
use Rattle.auxiliary_header.specs.Auxiliary.{key_used, auxiliary_octets, auxiliary_at}
use Rattle.auxiliary_header.proofs.AuxiliaryLaws.{read_back}
use Rattle.frame_header.specs.Aps.{is_command, aps_length, aps_of}
use Rattle.frame_header.specs.ApsLaws.{aps-whole}
use Rattle.claims.specs.declared.Claim.{Claim}
use Rattle.claims.specs.declared.Who.TheVariants as who
use Rattle.claims.specs.Claims.{is_network, spent, aps_who}
use Rattle.protection.specs.Keys.{key_for}
use Rattle.protection.specs.Heard.{refused, equals, below}
use Rattle.protection.specs.Protection.{tag_size, payload_size, vouches, opened_octets}
use Rattle.aps.specs.declared.state.Aps.{Aps}
use Rattle.aps.specs.OpenAps.{Opened, link_key, incoming, aps_committed, aps_judged, aps_placed, aps_unfit, open_aps}
use Rattle.aps.specs.SecureAps.{Secured, aps_on_air, secure_aps}
use Rattle.protection.proofs.RoundTrip as protection
use Rattle.aps.proofs.LayoutLaws.{thirteen}
use Rattle.aps.proofs.SendingLaws.{header-some, Taken, Goes, Sent, went-out}

-- a key identifier without a number is not the network key's
not-network : (identifier : KeyIdentifier) → has_number (sent identifier) ≡ false → is_network (key_used identifier 0) ≡ false
unfolding has_number
not-network Link n = refl
not-network Network n = let z : ◌≡◌ {A = ℕ} 0 1 = cc in absurd (omega arith)
not-network Transport n = refl
not-network Load n = refl

not-barred : (identifier : KeyIdentifier) (link : List ℕ) → has_number (sent identifier) ≡ false → (key_for identifier link).refused ≡ false
unfolding has_number key_for
not-barred Link link n = refl
not-barred Network link n = let z : ◌≡◌ {A = ℕ} 0 1 = cc in absurd (omega arith)
not-barred Transport link n = refl
not-barred Load link n = refl

-- ---- the gateway that hears it: the same link key for the sender (the trust centre's, where the sender has no row); a counter held for it, if
-- there is one, is lower; and room

pub record Hears (sender counter : ℕ) (link : List ℕ) (g : Aps) (pairs : Pairs) : Type 0 where
  pub fit : aps_unfit g pairs ≡ false
  pub same_key : link_key (find pair_rows (in_use pairs) sender) ≡ link
  pub lower : (p : PairCell) → find pair_rows (in_use pairs) sender ≡ Some p → p.incoming < counter
  pub has_room : room pair_rows 16 (in_use pairs) sender ≡ true

module _ (s : Aps) (pairs : Pairs) (d : ℕ) (extended : Bool) (plain out : List ℕ) (start len : ℕ)
    (done : (secure_aps s pairs d extended plain out).answer ≡ Ok (Done start len)) where
  abbrev found : Option PairRow
  found = first (may_use d) (in_use pairs)

  abbrev gone : Sent s pairs d extended plain out found refl
  gone = went-out s pairs d extended plain out found refl start len done

  -- the row that was used, and the key identifier
  abbrev pub row : PairRow
  row = gone.chosen.row

  abbrev pub identifier : KeyIdentifier
  identifier = gone.chosen.identifier

  abbrev taken : Taken s pairs.used plain
  taken = gone.is-ready.taken

  abbrev goes : Goes found plain (length out) gone.chosen
  goes = gone.is-ready.goes-out

  abbrev pub header : ℕ
  header = aps_length (get_or plain 0 0)

  abbrev pub payload : List ℕ
  payload = drop header plain

  abbrev key : List ℕ
  key = (key_for identifier row.key).key

  abbrev octets : List ℕ
  octets = auxiliary_octets (sent identifier) row.outgoing s.own 0

  abbrev headers : List ℕ
  headers = take header plain ++ octets

  abbrev frame : List ℕ
  frame = aps_on_air s row identifier plain header

  whole : header ≤ length plain
  whole = taken.header

  small : length plain ≤ 1006
  small = taken.small

  front_length : length (take header plain) ≡ header
  front_length = length-take-le header plain whole

  headers-length : length headers ≡ header + 13
  headers-length = rw (length-append, front_length, thirteen identifier row.outgoing s.own goes.number)

  pub inside : header < length headers
  inside = rw headers-length (omega arith)

  frame-length : length frame ≡ length plain + 17
  unfolding aps_on_air
  frame-length =
      let w = whole in
      protection.frame-length key s.own row.outgoing header headers payload inside ∙ rw (headers-length, length-drop) (omega arith)

  -- the finished frame stands at the front of the output buffer, and is as long as the answer says
  len_is : len ≡ length plain + 17
  len_is = let e = ap (λ (x : Secured). x.answer) gone.is-ready.done in cc

  pub sent-frame : take len (secure_aps s pairs d extended plain out).out ≡ frame
  sent-frame = rw (← gone.is-ready.done) (take_at frame (drop (length plain + 17) out) len (frame-length ∙ sym len_is))

  -- it starts with the plain frame's header, and then the auxiliary header
  abbrev sealing : List ℕ
  sealing = protection.sealing key s.own row.outgoing header headers payload inside

  parts : frame ≡ take header plain ++ (octets ++ sealing)
  unfolding aps_on_air
  parts = protection.on-air key s.own row.outgoing header headers payload inside ∙ append_assoc (take header plain) octets sealing

  first-octet : get_or frame 0 0 ≡ get_or plain 0 0
  first-octet =
      let h : 0 < header = header-some (get_or plain 0 0) in
      rw parts (get_or-append (take header plain) (octets ++ sealing) 0 0 (rw front_length h) ∙ get_or-take header plain 0 0 h)

  header_read : aps_of frame ≡ Ok (record { len = header; command = is_command (get_or plain 0 0); secured = true })
  header_read =
      let w = whole in
      aps-whole frame (λ e. omega (arith, frame-length)) (rw first-octet taken.kind) (rw (first-octet, frame-length) (omega arith)) ∙ rw (first-octet, taken.secured)

  module _ (address : s.own < 2 ^ 64) (counter : row.outgoing < 2 ^ 32) where
    auxiliary-read : auxiliary_at frame header
        ≡ Ok (record { control = record { byte = sent identifier }; counter = row.outgoing; sender = Some s.own; key = key_used identifier 0; next = header + 13 })
    auxiliary-read =
        rw parts
        (read_back (take header plain) sealing header (sent identifier) row.outgoing s.own 0 front_length counter address
        ∙ rw (sent-sender identifier, goes.number, sent-identifier identifier))

    abbrev claim : Claim
    claim = record { key = key_used identifier 0; sender = s.own; counter = row.outgoing; control = record { byte = sent identifier }; at = header; payload = header + 13 }

    frame-claims : aps_who frame ≡ Ok (who.Claims claim)
    unfolding aps_who
    frame-claims =
        let n = small in
        let many : ltb 1024 (length frame) ≡ false = le-ltb 1024 (length frame) (rw frame-length (omega arith)) in
        let few : ltb (length frame) 4 ≡ false = le-ltb (length frame) 4 (rw frame-length (omega arith)) in
        rw (many, few, header_read, auxiliary-read, ne_eqb row.outgoing spent goes.fresh, not-network identifier goes.number)

    module _ (g : Aps) (theirs : Pairs) (hears : Hears s.own row.outgoing row.key g theirs) where
      -- the judgement: the counter is above a held one, the tag is there, and it is right
      abbrev held : Option PairCell
      held = find pair_rows (in_use theirs) s.own

      -- the headers with level 5, the payload, and the tag
      unfoldable pub opened : List ℕ
      opened = protection.laid key s.own row.outgoing header headers payload inside

      not-held : (h : Option PairCell) → held ≡ h → (equals (incoming h) row.outgoing ≡ false) × (below (incoming h) row.outgoing ≡ false)
      not-held None e = (refl, refl)
      not-held (Some p) e =
          let l : p.incoming < row.outgoing = hears.lower p e in
          (ne_eqb row.outgoing p.incoming (λ q. omega arith), le-ltb row.outgoing p.incoming (omega arith))

      size : payload_size (header + 13) frame ≡ length plain - header
      size = rw frame-length (omega arith)

      frame-judged : aps_judged claim held frame
          ≡ become (heard held row.outgoing) (record { answer = Ok (Done (header + 13) (length plain - header)); frame = opened }) (refused TableFull frame)
      unfolding aps_judged aps_on_air opened
      frame-judged =
          let n = not-held held refl in
          let w = whole in
          let enough : ltb (length frame) (header + 13 + tag_size) ≡ false = le-ltb (length frame) (header + 13 + tag_size) (rw frame-length (omega arith)) in
          let right : vouches key s.own row.outgoing header (header + 13) frame ≡ true =
          rw (← headers-length) (protection.vouched-for key s.own row.outgoing header headers payload inside) in
          let opens : opened_octets key s.own row.outgoing header (header + 13) frame ≡ opened =
          rw (← headers-length) (protection.opens key s.own row.outgoing header headers payload inside) in
          rw (sent-identifier identifier, hears.same_key, n.0, n.1, enough, not-barred identifier row.key goes.number, right, size, opens)

      -- all that the opening leaves: the sender's row holds the counter
      pub heard-frame : open_aps g theirs frame
          ≡ aps_committed theirs
          (record { out = record { answer = Ok (Done (header + 13) (length plain - header)); frame = opened }; rows = put pair_rows (in_use theirs) s.own (heard held row.outgoing) })
      unfolding open_aps aps_placed settle
      heard-frame = rw (hears.fit, frame-claims, frame-judged, hears.has_room)

      -- THE ROUND TRIP: the frame that was left in the output buffer opens, and its payload is what was secured
      abbrev pub result : Opened
      result = open_aps g theirs (take len (secure_aps s pairs d extended plain out).out)

      pub round_trip : (result.answer ≡ Ok (Done (header + 13) (length payload))) × (take (length payload) (drop (header + 13) result.frame) ≡ payload)
      unfolding opened
      round_trip =
          let e : result ≡ open_aps g theirs frame = rw sent-frame in
          let back : take (length payload) (drop (header + 13) opened) ≡ payload =
          rw (← headers-length) (protection.text-back key s.own row.outgoing header headers payload inside) in
          (rw (e, heard-frame, length-drop), rw (e, heard-frame, back))
