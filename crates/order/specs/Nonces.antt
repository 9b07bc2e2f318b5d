-- Under which nonce a frame is sealed. Assumes nothing.
use Rattle.std.specs.Prelude.{◌≡◌, Bool, List, ◌++◌, ℕ, ◌+◌, length, take, drop, get_or, Some}
use Rattle.cells.specs.First.{first}
use Rattle.control.specs.Control.{sent}
use Rattle.control.specs.declared.KeyIdentifier.{KeyIdentifier}
use Rattle.auxiliary_header.specs.Auxiliary.{auxiliary_octets}
use Rattle.auxiliary_header.specs.Nonce.{nonce_of}
use Rattle.frame_header.specs.Aps.{aps_length}
use Rattle.frame_header.specs.Nwk.{nwk_length}
use Rattle.aib.specs.Counters.{in_use}
use Rattle.aib.specs.Pairs.{may_use}
use Rattle.nib.specs.declared.outgoing.Outgoing.{Outgoing}
use Rattle.aib.specs.declared.pairs.PairRow.{PairRow}
use Rattle.protection.specs.Protection.{nonce_at}
use Rattle.nib.specs.declared.state.Nwk.{Nwk}
use Rattle.securing.specs.SecureNwk.{nwk_added, nwk_headers, nwk_on_air}
use Rattle.aps.specs.SecureAps.{identifier_for, aps_added, aps_on_air}
use Rattle.order.specs.ApsSteps as aps
use Rattle.order.specs.Aps.{Gateway}

module _ (s : Nwk) (o : Outgoing) (plain out : List ℕ) where
  -- what was put out is the frame of `nwk_on_air`, and that is sealed under own address, counter and 0x2D
  abbrev pub NwkSealed : List ℕ → Type 0
  NwkSealed put = (put ≡ nwk_on_air s o.next plain (nwk_length plain) ++ drop (length plain + nwk_added) out)
      × (nonce_at s.own o.next (nwk_length plain) (nwk_headers s o.next plain (nwk_length plain)) ≡ nonce_of s.own o.next 0x2D)

module _ (g : Gateway) (device : ℕ) (extended : Bool) (plain out : List ℕ) where
  abbrev header : ℕ
  header = aps_length (get_or plain 0 0)

  -- what was put out is the frame of `aps_on_air` for the row that securing to the device uses, by the key that the frame asks for, and that is sealed under
  -- own address, that row's counter and the control byte for that key
  abbrev pub ApsSealed : List ℕ → Type 0
  ApsSealed put = (row : PairRow) × (identifier : KeyIdentifier) × (first (may_use device) (in_use g.pairs) ≡ Some row) × (identifier_for plain header ≡ Some identifier)
      × (put ≡ aps_on_air g.aps row identifier plain header ++ drop (length plain + aps_added) out)
      × (nonce_at g.aps.own row.outgoing header (take header plain ++ auxiliary_octets (sent identifier) row.outgoing g.aps.own 0)
      ≡ nonce_of g.aps.own row.outgoing (aps.control_of (identifier_for plain header)))
