-- FIPS 197 (2001), sections 4, 5.1.1 and 5.2: arithmetic on bytes, the rule of the substitution table, the round constants.
-- A byte is a number below 256; its bit i is the coefficient of x^i.
use Rattle.std.specs.Prelude.{ℕ, zero, suc, ◌+◌, ◌*◌, ◌/◌, ◌%◌, ◌^◌, Bool, true, false, ltb}
use Rattle.std.specs.Int.Bits.{bit_xor}

-- 4.1: addition is XOR
abbrev pub xor : ℕ → ℕ → ℕ
xor = bit_xor

abbrev pub pick : Bool → ℕ → ℕ → ℕ
pick true a b = a
pick false a b = b

-- 4.2.1: a times x, reduced by m(x) = x^8 + x^4 + x^3 + x + 1, the number 0x11b
unfoldable pub xtime : ℕ → ℕ
xtime a = pick (ltb (a * 2) 256) (a * 2) (xor (a * 2) 0x11b)

-- 4.2: the product of a and the n low bits of b, lowest bit first
unfoldable pub times : ℕ → ℕ → ℕ → ℕ
unfolding xtime
times zero a b = 0
times (suc n) a b = xor (b % 2 * a) (times n (xtime a) (b / 2))

-- 4.2: the product
unfoldable pub mul : ℕ → ℕ → ℕ
unfolding times
mul a b = times 8 a b

-- a to the power 2^n - 1
unfoldable pub power : ℕ → ℕ → ℕ
unfolding mul
power zero a = 1
power (suc n) a = let p = power n a in mul a (mul p p)

-- 4.2: the multiplicative inverse, with 0 for 0: a to the power 254. That its product with a is 1 is `inverse-is` (proofs/Tables.antt)
unfoldable pub inverse : ℕ → ℕ
unfolding power mul
inverse a = let p = power 7 a in mul p p

-- 5.1.1: bit i of the affine step is b_i + b_(i+4) + b_(i+5) + b_(i+6) + b_(i+7) + c_i, the places mod 8, c the byte 0x63
abbrev pub bit_of : ℕ → ℕ → ℕ
bit_of b i = b / 2 ^ (i % 8) % 2

abbrev pub affine_bit : ℕ → ℕ → ℕ
affine_bit b i = (bit_of b i + bit_of b (i + 4) + bit_of b (i + 5) + bit_of b (i + 6) + bit_of b (i + 7) + bit_of 0x63 i) % 2

abbrev pub affine_bits : ℕ → ℕ → ℕ
affine_bits zero b = 0
affine_bits (suc n) b = affine_bits n b + affine_bit b n * 2 ^ n

-- 5.1.1: the substitution table's rule
unfoldable pub sbox : ℕ → ℕ
unfolding inverse
sbox a = affine_bits 8 (inverse a)

-- 5.2: Rcon[n + 1] is x^n with three zero bytes
unfoldable pub round_constant : ℕ → ℕ
unfolding xtime
round_constant zero = 1
round_constant (suc n) = xtime (round_constant n)
