-- The control byte (document 01, Layouts; ZB 4.5.1.1): bits 0 to 2 level, 3 and 4 key identifier, 5 to 7 sender.
use Rattle.std.specs.Prelude.{Bool, cond, ◌||◌, ℕ, ◌+◌, ◌*◌, ◌/◌, ◌%◌, eqb}
use Rattle.laws.specs.Numbers.{bit}
use Rattle.control.specs.declared.KeyIdentifier.{KeyIdentifier}
use Rattle.control.specs.declared.KeyIdentifier.TheVariants.{Link, Network, Transport, Load}

-- 4.5.1.1.1: bits 0 to 2
abbrev pub level : ℕ → ℕ
level control = control % 8

-- setting the level changes bits 0 to 2 and no other
abbrev pub filled : ℕ → ℕ → ℕ
filled control wanted = control / 8 * 8 + wanted % 8

-- 4.5.1.1.2: bits 3 and 4
abbrev pub identifier : ℕ → ℕ
identifier control = control / 8 % 4

-- 0 link key, 1 network key, 2 key-transport key, 3 key-load key
abbrev pub identified : ℕ → KeyIdentifier
identified n = cond (eqb n 0) Link (cond (eqb n 1) Network (cond (eqb n 2) Transport Load))

unfoldable pub identifier_of : ℕ → KeyIdentifier
identifier_of control = identified (identifier control)

-- 4.5.1.1.3: on reading, a sender is present if any of bits 5 to 7 is set (there: bit 5 alone)
unfoldable pub has_sender : ℕ → Bool
has_sender control = bit 5 control || (bit 6 control || bit 7 control)

-- 4.5.1.4: a key number is present if the key identifier is 1
unfoldable pub has_number : ℕ → Bool
has_number control = eqb (identifier control) 1

-- what is sent with a sender: identifier and bit 5, level bits clear
abbrev pub sent : KeyIdentifier → ℕ
sent Link = 0x20
sent Network = 0x28
sent Transport = 0x30
sent Load = 0x38
