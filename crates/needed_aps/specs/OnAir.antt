-- Two APS frames as they go on the air, commands without payload under the trust centre link key: what they claim, and that their tags are right,
-- computed by AES and CCM as they are defined. Assumes nothing.
use Rattle.std.specs.Prelude.{Ok, List, [], ◌∷◌, ℕ}
use Rattle.auxiliary_header.specs.declared.auxiliary.KeyUsed.TheVariants as used
use Rattle.answer.specs.declared.Accepted.TheVariants.{Done}
use Rattle.answer.specs.declared.Refusal.TheVariants.{TableFull}
use Rattle.cells.specs.Rows.{Reaction, become}
use Rattle.aib.specs.Pairs.{PairCell, new_pair, trust_center_link_key}
use Rattle.claims.specs.declared.Claim.{Claim}
use Rattle.protection.specs.Heard.{Heard, refused}
use Rattle.protection.specs.Protection.{opened_octets}

-- a frame with counter 5, from the sender with this low octet, with this tag
abbrev pub frame_from : ℕ → List ℕ → List ℕ
frame_from sender tag =
    0x21 ∷ 0x00
    ∷ 0x20 ∷ 0x05 ∷ 0x00 ∷ 0x00 ∷ 0x00 ∷ sender ∷ 0x66 ∷ 0x55 ∷ 0x44 ∷ 0x33 ∷ 0x22 ∷ 0x11 ∷ 0x00
    ∷ tag

abbrev pub one : ℕ
one = 0x0011223344556677

abbrev pub other : ℕ
other = 0x0011223344556688

abbrev pub from_one : List ℕ
from_one = frame_from 0x77 (0x45 ∷ 0x2A ∷ 0x00 ∷ 0xC0 ∷ [])

abbrev pub from_other : List ℕ
from_other = frame_from 0x88 (0xCF ∷ 0xF4 ∷ 0xA6 ∷ 0xA5 ∷ [])

-- ---- what the two frames claim, and how they are judged where their sender is not known

abbrev pub claim_from : ℕ → Claim
claim_from sender = record { key = used.Link; sender = sender; counter = 5; control = record { byte = 0x20 }; at = 2; payload = 15 }

-- the frame opens, unless there is no row for it
abbrev pub opens_new : ℕ → List ℕ → Reaction Heard PairCell
opens_new sender b = become (new_pair 5) (record { answer = Ok (Done 15 0); frame = opened_octets trust_center_link_key sender 5 2 15 b }) (refused TableFull b)
