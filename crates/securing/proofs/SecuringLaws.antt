-- What securing writes, on plain lists. Assumes nothing.
use mathlib.Core.Path.{◌≡◌, refl, ap, ◌∙◌}
use mathlib.Core.List.{List, ◌++◌}
use Prim.Native.Nat.{ℕ, ◌+◌}
use native.Mathlib.Omega.{arith}
use lib.ListN.{length, take, drop}
use Rattle.laws.specs.Numbers.{bit}
use Rattle.control.specs.Control.{sent, has_sender, has_number}
use Rattle.control.specs.declared.KeyIdentifier.TheVariants.{Network}
use Rattle.auxiliary_header.specs.Auxiliary.{auxiliary_length, auxiliary_octets}
use Rattle.auxiliary_header.proofs.AuxiliaryLaws.{octets-length}
use Rattle.nib.specs.declared.state.Nwk.{Nwk}
use Rattle.nib.specs.Keys.{key_under}
use Rattle.protection.specs.Protection.{secured_octets}
use Rattle.securing.specs.SecureNwk.{nwk_added, nwk_on_air}

-- the auxiliary header that NWK sends has 14 octets
pub fourteen : auxiliary_length (sent Network) ≡ 14
unfolding has_sender has_number bit
fourteen = refl

pub auxiliary-size : (counter own number : ℕ) → length (auxiliary_octets (sent Network) counter own number) ≡ 14
auxiliary-size counter own number = octets-length (sent Network) counter own number ∙ fourteen

-- under the active key, by what the calls say of key and control byte
pub finished : (s : Nwk) (counter : ℕ) (key plain out y : List ℕ) (control header : ℕ) → key ≡ key_under s.keys s.active → control ≡ sent Network
    → y ≡ secured_octets key s.own counter header (take header plain ++ auxiliary_octets control counter s.own s.active) (drop header plain) ++ drop (length plain + auxiliary_length control + 4) out
    → y ≡ nwk_on_air s counter plain header ++ drop (length plain + nwk_added) out
unfolding nwk_on_air
finished s counter key plain out y control header is_key is-control is-sent =
    let end : length plain + 14 + 4 ≡ length plain + nwk_added = omega arith in
    is-sent ∙ rw (is_key, is-control, fourteen, end)
