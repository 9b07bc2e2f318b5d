-- Masks of a byte, as the definitions of specs/Control.antt have them. Assumes nothing.
use mathlib.Core.Path.{◌≡◌, ap, ap₂, ◌∙◌}
use mathlib.Core.Bool.{not}
use Prim.Native.Nat.{ℕ, ◌+◌, ◌*◌, ◌/◌, ◌%◌, ◌<◌}
use native.Mathlib.Omega.{arith}
use lib.Bits.{bit_and, bit_or, and_mask, and_high, or_shifted}
use lib.Dec.{eqb}
use Rattle.laws.specs.Numbers.{bit}
use Rattle.laws.specs.Rule.{each_below}
use Rattle.control.specs.Control.{filled, identifier, has_sender, has_number}
use Rattle.control.specs.ControlLaws.{agree, agreed}

pub masked_fill : (control level : ℕ) → control < 256 → bit_or (bit_and control 248) (bit_and level 7) ≡ filled control level
masked_fill control level h =
    ap₂ bit_or (and_high control 5 3) (and_mask level 3)
    ∙ or_shifted (control / 8 % 32) 3 (level % 8) (omega arith)
    ∙ whole
  where
    whole : control / 8 % 32 * 8 + level % 8 ≡ control / 8 * 8 + level % 8
    whole = omega arith

pub upper_bits : (control : ℕ) → control < 256 → not (eqb (control / 32) 0) ≡ has_sender control
unfolding has_sender bit
upper_bits control h =
    agreed (not (eqb (control / 32) 0)) (has_sender control)
    (each_below (λ k. agree (not (eqb (k / 32) 0)) (has_sender k)) 256 tt control h)

pub masked_identifier : (control : ℕ) → bit_and (control / 8) 3 ≡ identifier control
masked_identifier control = and_mask (control / 8) 2

pub masked_number : (control : ℕ) → eqb (bit_and (control / 8) 3) 1 ≡ has_number control
unfolding has_number
masked_number control = ap (λ (n : ℕ). eqb n 1) (and_mask (control / 8) 2)
