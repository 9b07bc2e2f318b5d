-- Laws of the control byte. Assumes nothing.
use Rattle.std.specs.Prelude.{◌≡◌, refl, Bool, true, false, not, cond, ℕ, ◌+◌, ◌/◌, ◌%◌, ◌^◌, T, eqb}
use Rattle.std.proofs.Common.{sym, ap, arith, shr-shr}
use Rattle.laws.specs.Numbers.{bit}
use Rattle.laws.specs.Rule.{each_below}
use Rattle.control.specs.Control.{level, filled, identifier, identified, identifier_of, has_sender, has_number, sent}
use Rattle.control.specs.declared.KeyIdentifier.{KeyIdentifier}
use Rattle.control.specs.declared.KeyIdentifier.TheVariants.{Link, Network, Transport, Load}

-- ---- a test of two truth values

abbrev pub agree : Bool → Bool → Bool
agree a b = cond a b (not b)

pub agreed : (a b : Bool) → T (agree a b) → a ≡ b
agreed true true t = refl
agreed true false t = absurd t
agreed false true t = absurd t
agreed false false t = refl

-- ---- setting the level changes bits 0 to 2 and no other

pub filled-level : (control l : ℕ) → level (filled control l) ≡ l % 8
filled-level control l = omega arith

filled-upper : (control l : ℕ) → filled control l / 8 ≡ control / 8
filled-upper control l = omega arith

upper-bit : (x i : ℕ) → x / 2 ^ (3 + i) ≡ x / 8 / 2 ^ i
upper-bit x i = sym (shr-shr x 3 i)

pub filled-bit : (control l i : ℕ) → bit (3 + i) (filled control l) ≡ bit (3 + i) control
unfolding bit
filled-bit control l i = rw (upper-bit (filled control l) i, upper-bit control i, filled-upper control l)

pub filled-identifier : (control l : ℕ) → identifier_of (filled control l) ≡ identifier_of control
unfolding identifier_of
filled-identifier control l = ap (λ (n : ℕ). identified (n % 4)) (filled-upper control l)

pub filled-number : (control l : ℕ) → has_number (filled control l) ≡ has_number control
unfolding has_number
filled-number control l = ap (λ (n : ℕ). eqb (n % 4) 1) (filled-upper control l)

pub filled-sender : (control l : ℕ) → has_sender (filled control l) ≡ has_sender control
unfolding has_sender
filled-sender control l = rw (filled-bit control l 2, filled-bit control l 3, filled-bit control l 4)

-- ---- identifier 1 is the network key's, and it alone has a number

abbrev pub is_network : KeyIdentifier → Bool
is_network Link = false
is_network Network = true
is_network Transport = false
is_network Load = false

pub number-of-network : (control : ℕ) → has_number control ≡ is_network (identifier_of control)
unfolding has_number identifier_of
number-of-network control =
    agreed (eqb (identifier control) 1) (is_network (identified (identifier control)))
    (each_below (λ n. agree (eqb n 1) (is_network (identified n))) 4 tt (identifier control) (omega arith))

-- ---- what is sent says what it is sent with

pub sent-identifier : (key : KeyIdentifier) → identifier_of (sent key) ≡ key
unfolding identifier_of
sent-identifier Link = refl
sent-identifier Network = refl
sent-identifier Transport = refl
sent-identifier Load = refl

pub sent-sender : (key : KeyIdentifier) → has_sender (sent key) ≡ true
unfolding has_sender bit
sent-sender Link = refl
sent-sender Network = refl
sent-sender Transport = refl
sent-sender Load = refl

pub sent-level : (key : KeyIdentifier) → level (sent key) ≡ 0
sent-level Link = refl
sent-level Network = refl
sent-level Transport = refl
sent-level Load = refl
