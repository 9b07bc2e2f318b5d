-- Protection (document 01): the nonce is sender, counter, and the control byte with the level filled in; the associated data are all
-- octets before the payload, with that same control byte. The payload is enciphered, and the tag follows.
use Rattle.std.specs.Prelude.{Bool, List, ◌++◌, ℕ, ◌-◌, length, get_or, set}
use Rattle.aes.specs.Cipher.{cipher}
use Rattle.aes.specs.Schedule.{key_expansion}
use Rattle.ccm.specs.Ccm.{sealed}
use Rattle.ccm.specs.Frame.{opened_frame, vouched_frame}
use Rattle.control.specs.Control.{filled}
use Rattle.auxiliary_header.specs.Nonce.{nonce_of}

-- level 5, and the length of its tag
abbrev pub level : ℕ
level = 5

abbrev pub tag_size : ℕ
tag_size = 4

-- AES under a key
abbrev pub under : List ℕ → List ℕ → List ℕ
under key = cipher (key_expansion key)

-- the frame b with the level filled in at the control byte's place, and its nonce
abbrev pub filled_at : ℕ → List ℕ → List ℕ
filled_at at b = set b at (filled (get_or b at 0) level)

abbrev pub nonce_at : ℕ → ℕ → ℕ → List ℕ → List ℕ
nonce_at sender counter at b = nonce_of sender counter (filled (get_or b at 0) level)

-- the octets between the headers and the tag
abbrev pub payload_size : ℕ → List ℕ → ℕ
payload_size payload b = length b - tag_size - payload

module _ (key : List ℕ) (sender counter at payload : ℕ) (b : List ℕ) where
  -- whether the tag at the end of the frame is right
  unfoldable pub vouches : Bool
  vouches = vouched_frame (under key) tag_size (nonce_at sender counter at b) payload (payload_size payload b) (filled_at at b)

  -- the frame opened: payload plain, level bits of the control byte 5, nothing else changed
  unfoldable pub opened_octets : List ℕ
  opened_octets = opened_frame (under key) (nonce_at sender counter at b) payload (payload_size payload b) (filled_at at b)

-- A frame secured: the headers, with the control byte at `at` as it goes on the air, the text enciphered, and the tag. The level is filled
-- in for the protection, and only then cleared on the air.
module _ (key : List ℕ) (sender counter at : ℕ) (headers text : List ℕ) where
  unfoldable pub secured_octets : List ℕ
  secured_octets =
      set (filled_at at headers ++ sealed (under key) tag_size (nonce_at sender counter at headers) (filled_at at headers) text) at (get_or headers at 0)
