-- The NWK header (document 01, Layouts; ZB 3.3.1): frame control 2, destination 2, source 2, radius 1, sequence 1; then if flagged
-- destination IEEE 8, source IEEE 8, multicast control 1, relay count 1, relay index 1, two octets a relay.
use Rattle.std.specs.Prelude.{cond, Result, Ok, Err, List, ℕ, ◌+◌, ◌*◌, ◌%◌, eqb, leb, length, get_or}
use Rattle.laws.specs.Numbers.{field, bit}
use Rattle.answer.specs.declared.Refusal.{Refusal}
use Rattle.answer.specs.declared.Refusal.TheVariants.{Cut}
use Rattle.frame_header.specs.declared.network.NwkKind.{NwkKind}
use Rattle.frame_header.specs.declared.network.NwkKind.TheVariants.{Data, Command, Reserved, InterPan}
use Rattle.frame_header.specs.declared.network.NwkHeader.{NwkHeader}

-- 3.3.1.1: the frame control, low octet first: type bits 0 and 1, multicast 8, security 9, source route 10, destination IEEE 11,
-- source IEEE 12
abbrev pub nwk_control : List ℕ → ℕ
nwk_control s = field s 0 2

-- 3.3.1.1.1: the frame types and their numbers
abbrev pub nwk_kind_number : NwkKind → ℕ
nwk_kind_number Data = 0
nwk_kind_number Command = 1
nwk_kind_number Reserved = 2
nwk_kind_number InterPan = 3

abbrev pub nwk_kind_numbered : ℕ → NwkKind
nwk_kind_numbered n = cond (eqb n 0) Data (cond (eqb n 1) Command (cond (eqb n 2) Reserved InterPan))

unfoldable pub nwk_kind : ℕ → NwkKind
nwk_kind control = nwk_kind_numbered (control % 4)

-- what stands in front of the source route
unfoldable pub nwk_fixed : ℕ → ℕ
nwk_fixed control = 2 + 2 + 2 + 1 + 1 + cond (bit 11 control) 8 0 + cond (bit 12 control) 8 0 + cond (bit 8 control) 1 0

-- 3.3.1.9: the source route, which starts with the relay count
abbrev pub relays_length : List ℕ → ℕ → ℕ → ℕ
relays_length s at control = cond (bit 10 control) (1 + 1 + 2 * get_or s at 0) 0

unfoldable pub nwk_length : List ℕ → ℕ
nwk_length s = let control : ℕ = nwk_control s in nwk_fixed control + relays_length s (nwk_fixed control) control

-- the header, or cut where its length does not lie within the string
unfoldable pub nwk_of : List ℕ → Result NwkHeader Refusal
nwk_of s =
    cond (leb (nwk_length s) (length s))
    (Ok (record { len = nwk_length s; kind = nwk_kind (nwk_control s); secured = bit 9 (nwk_control s) }))
    (Err Cut)
