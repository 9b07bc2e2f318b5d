-- NWK frames as they go on the air, without payload: what they claim, and that their tags are right, computed by AES and CCM as they
-- are defined. Assumes nothing.
use Rattle.std.specs.Prelude.{◌≡◌, List, [], ◌∷◌, ℕ, Some, Ok}
use Rattle.auxiliary_header.specs.declared.auxiliary.KeyUsed.TheVariants as used
use Rattle.answer.specs.declared.Accepted.TheVariants.{Done}
use Rattle.answer.specs.declared.Refusal.TheVariants.{TableFull}
use Rattle.cells.specs.Rows.{Reaction, become}
use Rattle.nib.specs.declared.keys.NetworkKeys.{NetworkKeys}
use Rattle.nib.specs.Counters.{Cell, counting}
use Rattle.nib.specs.Keys.{key_found}
use Rattle.claims.specs.declared.Claim.{Claim}
use Rattle.protection.specs.Heard.{Heard, refused}
use Rattle.protection.specs.Protection.{opened_octets}

-- the key is 00 01 .. 0F, under any number
abbrev pub key : List ℕ
key = 0 ∷ 1 ∷ 2 ∷ 3 ∷ 4 ∷ 5 ∷ 6 ∷ 7 ∷ 8 ∷ 9 ∷ 10 ∷ 11 ∷ 12 ∷ 13 ∷ 14 ∷ 15 ∷ []

abbrev pub sender : ℕ
sender = 0x0011223344556677

-- a frame under a key number, with counter 5 and this tag
abbrev pub frame_under : ℕ → List ℕ → List ℕ
frame_under number tag =
    0x08 ∷ 0x02 ∷ 0x00 ∷ 0x00 ∷ 0x34 ∷ 0x12 ∷ 0x1E ∷ 0x01
    ∷ 0x28 ∷ 0x05 ∷ 0x00 ∷ 0x00 ∷ 0x00 ∷ 0x77 ∷ 0x66 ∷ 0x55 ∷ 0x44 ∷ 0x33 ∷ 0x22 ∷ 0x11 ∷ 0x00 ∷ number
    ∷ tag

abbrev pub under_zero : List ℕ
under_zero = frame_under 0 (0x4F ∷ 0x7E ∷ 0x26 ∷ 0x59 ∷ [])

abbrev pub under_two : List ℕ
under_two = frame_under 2 (0x7B ∷ 0x8E ∷ 0xB0 ∷ 0x66 ∷ [])

abbrev pub under_three : List ℕ
under_three = frame_under 3 (0xB9 ∷ 0x74 ∷ 0x2B ∷ 0x09 ∷ [])

abbrev pub under_nine : List ℕ
under_nine = frame_under 9 (0x71 ∷ 0xC7 ∷ 0x9B ∷ 0xFE ∷ [])

-- ---- what the frames claim, and how they are judged where no counter is held

abbrev pub claim_under : ℕ → Claim
claim_under n = record { key = used.Network n; sender = sender; counter = 5; control = record { byte = 0x28 }; at = 8; payload = 22 }

-- the frame opens, unless there is no row for it
abbrev pub opens_fresh : List ℕ → Reaction Heard Cell
opens_fresh b = become (counting 5) (record { answer = Ok (Done 22 0); frame = opened_octets key sender 5 8 22 b }) (refused TableFull b)

-- the keys have the row that the frame names
abbrev pub Has : NetworkKeys → ℕ → Type 0
Has keys n = key_found keys n ≡ Some (record { number = n; key = key })
