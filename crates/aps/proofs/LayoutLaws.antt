-- What securing writes, on plain lists. Assumes nothing.
use mathlib.Core.Path.{◌≡◌, refl, ap, ◌∙◌}
use mathlib.Core.Bool.{false}
use mathlib.Core.List.{List, ◌++◌}
use Prim.Native.Nat.{ℕ, ◌+◌}
use native.Mathlib.Omega.{arith}
use lib.ListN.{length, take, drop}
use Rattle.std.specs.Prelude.{Some}
use Rattle.aib.specs.declared.pairs.PairRow.{PairRow}
use Rattle.control.specs.Control.{has_number, sent}
use Rattle.control.specs.ControlLaws.{sent-sender}
use Rattle.control.specs.declared.KeyIdentifier.{KeyIdentifier}
use Rattle.control.specs.declared.KeyIdentifier.TheVariants.{Link, Network, Transport, Load}
use Rattle.auxiliary_header.specs.Auxiliary.{auxiliary_length, auxiliary_octets}
use Rattle.auxiliary_header.proofs.AuxiliaryLaws.{octets-length}
use Rattle.protection.specs.Keys.{key_for, key_chosen}
use Rattle.protection.specs.Protection.{secured_octets}
use Rattle.aps.specs.declared.state.Aps.{Aps}
use Rattle.aps.specs.SecureAps.{aps_on_air}

-- the auxiliary header that APS sends has 13 octets
pub thirteen-long : (identifier : KeyIdentifier) → has_number (sent identifier) ≡ false → auxiliary_length (sent identifier) ≡ 13
thirteen-long identifier n = rw (sent-sender identifier, n)

pub thirteen : (identifier : KeyIdentifier) (counter own : ℕ) → has_number (sent identifier) ≡ false → length (auxiliary_octets (sent identifier) counter own 0) ≡ 13
thirteen identifier counter own n = octets-length (sent identifier) counter own 0 ∙ thirteen-long identifier n

-- a key that a frame is sent under is one that is chosen
pub carried : (identifier : KeyIdentifier) (link : List ℕ) → has_number (sent identifier) ≡ false → key_chosen (key_for identifier link) ≡ Some (key_for identifier link).key
unfolding has_number key_for
carried Link link n = refl
carried Network link n = let z : ◌≡◌ {A = ℕ} 0 1 = cc in absurd (omega arith)
carried Transport link n = refl
carried Load link n = refl

-- by what the calls say of key and control byte
pub finished : (s : Aps) (row : PairRow) (identifier : KeyIdentifier) (key plain out y : List ℕ) (control header : ℕ) → has_number (sent identifier) ≡ false
    → key ≡ (key_for identifier row.key).key → control ≡ sent identifier
    → y ≡ secured_octets key s.own row.outgoing header (take header plain ++ auxiliary_octets control row.outgoing s.own 0) (drop header plain) ++ drop (length plain + auxiliary_length control + 4) out
    → y ≡ aps_on_air s row identifier plain header ++ drop (length plain + 17) out
unfolding aps_on_air
finished s row identifier key plain out y control header n is_key is-control is-sent =
    let end : length plain + 13 + 4 ≡ length plain + 17 = omega arith in
    is-sent ∙ rw (is_key, is-control, thirteen-long identifier n, end)
