-- Securing APS (document 01, 'Order of checks'), from a plain frame to an output buffer.
use Rattle.std.specs.Prelude.{Err, Ok}
use Rattle.std.specs.Prelude.{Bool, cond, not, ◌||◌, ◌&&◌, List, ◌++◌, ℕ, ◌+◌, eqb, ltb, length, take, drop, get_or}
use Rattle.std.specs.Prelude.{Option, None, Some}
use Rattle.answer.specs.Numbers.{Answer}
use Rattle.answer.specs.declared.Accepted.TheVariants.{Done}
use Rattle.answer.specs.declared.Refusal.{Refusal}
use Rattle.answer.specs.declared.Refusal.TheVariants.{Unsupported, Cut, NoPair, CounterSpent, SenderAbsent, NoRoom}
use Rattle.aib.specs.declared.pairs.PairRow.{PairRow}
use Rattle.aib.specs.declared.pairs.Pairs.{Pairs}
use Rattle.cells.specs.First.{first, at_first}
use Rattle.aib.specs.Pairs.{may_use}
use Rattle.aib.specs.Counters.{in_use, holding, raised}
use Rattle.control.specs.Control.{sent}
use Rattle.control.specs.declared.KeyIdentifier.{KeyIdentifier}
use Rattle.control.specs.declared.KeyIdentifier.TheVariants.{Link, Transport, Load}
use Rattle.auxiliary_header.specs.Auxiliary.{auxiliary_octets}
use Rattle.frame_header.specs.Aps.{aps_taken, aps_length, is_command, is_secured}
use Rattle.aps.specs.declared.state.Aps.{Aps}
use Rattle.claims.specs.Claims.{spent}
use Rattle.protection.specs.Keys.{key_for}
use Rattle.protection.specs.Protection.{level, secured_octets}

-- what a call leaves: answer, the output buffer, and the pairs
pub record Secured : Type 0 where
  pub answer : Answer
  pub out : List ℕ
  pub pairs : Pairs

-- a refusal changes nothing
abbrev pub not_secured : Refusal → List ℕ → Pairs → Secured
not_secured why out pairs = record { answer = Err why; out = out; pairs = pairs }

-- ---- which key: the link key itself, except Transport-Key type 1 (key-transport), and types 3 and 4 (key-load)

-- a Transport-Key command: its first payload byte is 0x05
abbrev pub is_transport_key : List ℕ → ℕ → Bool
is_transport_key plain header = is_command (get_or plain 0 0) && eqb (get_or plain header 0) 0x05

-- the key type's key, if the type is taken
abbrev pub carried : ℕ → Option KeyIdentifier
carried kind = cond (eqb kind 1) (Some Transport) (cond (eqb kind 3) (Some Load) (cond (eqb kind 4) (Some Load) None))

-- 0 stands for a second byte that is missing: no key type is 0 among those taken
abbrev pub identifier_for : List ℕ → ℕ → Option KeyIdentifier
identifier_for plain header = cond (is_transport_key plain header) (carried (get_or plain (header + 1) 0)) (Some Link)

-- ---- the finished frame: control, counter and sender are 13 bytes, and a tag of 4

abbrev pub aps_added : ℕ
aps_added = 13 + 4

unfoldable pub aps_on_air : Aps → PairRow → KeyIdentifier → List ℕ → ℕ → List ℕ
aps_on_air s row identifier plain header =
    secured_octets (key_for identifier row.key).key s.own row.outgoing header
    (take header plain ++ auxiliary_octets (sent identifier) row.outgoing s.own 0)
    (drop header plain)

-- done: output bytes past the finished frame stay unchanged, and the row that was used has its outgoing counter raised by 1
abbrev pub aps_done : Aps → Pairs → ℕ → PairRow → KeyIdentifier → List ℕ → List ℕ → ℕ → Secured
aps_done s pairs device row identifier plain out header = record {
  answer = Ok (Done 0 (length plain + aps_added));
  out = aps_on_air s row identifier plain header ++ drop (length plain + aps_added) out;
  pairs = holding (at_first (may_use device) raised (in_use pairs)) pairs;
}

-- No row for the destination with attribute 0, 1 or 2: 41. Its outgoing counter 2^32-1: 30. Data without the extended nonce asked for: 31. Too
-- little room: 8.
abbrev pub aps_sent : Aps → Pairs → ℕ → Bool → KeyIdentifier → List ℕ → List ℕ → ℕ → Option PairRow → Secured
aps_sent s pairs device extended identifier plain out header None = not_secured NoPair out pairs
aps_sent s pairs device extended identifier plain out header (Some row) =
    cond (eqb row.outgoing spent) (not_secured CounterSpent out pairs)
    (cond (not (is_command (get_or plain 0 0)) && not extended) (not_secured SenderAbsent out pairs)
    (cond (ltb (length out) (length plain + aps_added)) (not_secured NoRoom out pairs)
    (aps_done s pairs device row identifier plain out header)))

-- A Transport-Key command whose second byte is missing or not 1, 3 or 4: 7.
abbrev pub aps_keyed : Aps → Pairs → ℕ → Bool → List ℕ → List ℕ → ℕ → Option KeyIdentifier → Secured
aps_keyed s pairs device extended plain out header None = not_secured Unsupported out pairs
aps_keyed s pairs device extended plain out header (Some identifier) =
    aps_sent s pairs device extended identifier plain out header (first (may_use device) (in_use pairs))

-- SECURING APS, to a device. State or over 1,006: 7. Empty: 2. Kind not taken or security bit clear: 7. Header cut, or a command without a first
-- payload byte: 2.
unfoldable pub secure_aps : Aps → Pairs → ℕ → Bool → List ℕ → List ℕ → Secured
secure_aps s pairs device extended plain out =
    let control : ℕ = get_or plain 0 0 in
    let header : ℕ = aps_length control in
    cond (not (eqb s.level level) || (ltb 16 pairs.used || ltb 1006 (length plain))) (not_secured Unsupported out pairs)
    (cond (eqb (length plain) 0) (not_secured Cut out pairs)
    (cond (not (aps_taken control) || not (is_secured control)) (not_secured Unsupported out pairs)
    (cond (ltb (length plain) header || (is_command control && ltb (length plain) (header + 1))) (not_secured Cut out pairs)
    (aps_keyed s pairs device extended plain out header (identifier_for plain header)))))
