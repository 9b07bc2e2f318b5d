-- Which key protects a frame (document 01, Protection; ZB 4.4.1.1, 4.4.1.2 and 4.5.3).
use Rattle.std.specs.Prelude.{Bool, true, false, cond, List, [], ◌∷◌, ℕ, replicate, Option, Some, None}
use Rattle.control.specs.declared.KeyIdentifier.{KeyIdentifier}
use Rattle.control.specs.declared.KeyIdentifier.TheVariants.{Link, Network, Transport, Load}
use Rattle.primitives.specs.KeyedHash.{keyed_hash}

-- a key, or a refusal, which has a key of zeros
pub record Choice : Type 0 where
  pub refused : Bool
  pub key : List ℕ

abbrev pub picks : List ℕ → Choice
picks key = record { refused = false; key = key }

-- 0: the link key itself; 1 is NWK's, and refused; 2, key-transport: the link key's keyed hash of the octet 0x00; 3, key-load: of 0x02
unfoldable pub key_for : KeyIdentifier → List ℕ → Choice
key_for Link link = picks link
key_for Network link = record { refused = true; key = replicate 16 0 }
key_for Transport link = picks (keyed_hash link (0x00 ∷ []))
key_for Load link = picks (keyed_hash link (0x02 ∷ []))

-- the key, if there is one
abbrev pub key_chosen : Choice → Option (List ℕ)
key_chosen c = cond c.refused None (Some c.key)
