-- Words of four bytes: what XOR does to the bytes, and four bytes of a list in a row. Assumes nothing.
use mathlib.Core.Path.{◌≡◌, sym, ap, ap₂, ◌∙◌}
use mathlib.Core.List.{List, [], ◌∷◌}
use Prim.Native.Nat.{ℕ, ◌+◌, ◌*◌, ◌/◌, ◌%◌, ◌^◌, ◌<◌}
use native.Mathlib.Omega.{arith}
use lib.Bits.{bit_xor, xor_block, xor_lt}
use lib.Pow.{shr-shr}
use native.Mathlib.Nat.{div-add-mod'}
use native.Mathlib.Numerals.{add-one, add-two, add-three}
use lib.ListN.{get_or}
use Rattle.laws.specs.Octets.{◌⊕◌}
use Rattle.laws.specs.Parts.{listed}
use Rattle.words.specs.Words.{byte_of, bytes, word_of}

-- w is the word of the bytes a, b, c and d, a lowest
pub record Word (w a b c d : ℕ) : Type 0 where
  pub is : w ≡ word_of a b c d
  pub a_small : a < 256
  pub b-small : b < 256
  pub c-small : c < 256
  pub d_small : d < 256

pub word-xor : {v w a b c d e f g h : ℕ} → Word v a b c d → Word w e f g h → Word (bit_xor v w) (bit_xor a e) (bit_xor b f) (bit_xor c g) (bit_xor d h)
word-xor {v} {w} {a} {b} {c} {d} {e} {f} {g} {h} p q =
    record {
      is =
          ap₂ bit_xor p.is q.is
          ∙ xor_block 8 ((d * 256 + c) * 256 + b) ((h * 256 + g) * 256 + f) a e p.a_small q.a_small
          ∙ ap (λ (x : ℕ). x * 256 + bit_xor a e) (xor_block 8 (d * 256 + c) (h * 256 + g) b f p.b-small q.b-small)
          ∙ ap (λ (x : ℕ). (x * 256 + bit_xor b f) * 256 + bit_xor a e) (xor_block 8 d h c g p.c-small q.c-small);
      a_small = xor_lt 8 a e p.a_small q.a_small;
      b-small = xor_lt 8 b f p.b-small q.b-small;
      c-small = xor_lt 8 c g p.c-small q.c-small;
      d_small = xor_lt 8 d h p.d_small q.d_small;
    }

pub word_bytes : {w a b c d : ℕ} → Word w a b c d → bytes w ≡ a ∷ b ∷ c ∷ d ∷ []
word_bytes {w} {a} {b} {c} {d} p = λ i. e₀ i ∷ e₁ i ∷ e₂ i ∷ e₃ i ∷ []
  where
    e₀ : w % 256 ≡ a
    e₀ = omega arith

    e₁ : w / 256 % 256 ≡ b
    e₁ = omega arith

    e₂ : w / 65536 % 256 ≡ c
    e₂ = omega arith

    e₃ : w / 16777216 % 256 ≡ d
    e₃ = omega arith

small : (x : ℕ) → x % 256 < 256
small x = omega arith

pub bytes_word : (w : ℕ) → w < 2 ^ 32 → Word w (byte_of w 0) (byte_of w 1) (byte_of w 2) (byte_of w 3)
bytes_word w h =
    let e : w / 256 / 256 ≡ w / 65536 = shr-shr w 8 8 in
    let f : w / 65536 / 256 ≡ w / 16777216 = shr-shr w 16 8 in
    let a : w / 16777216 % 256 ≡ w / 16777216 = omega arith in
    let b : w / 16777216 * 256 + w / 65536 % 256 ≡ w / 65536 = ap (λ (x : ℕ). x * 256 + w / 65536 % 256) (sym f) ∙ div-add-mod' (w / 65536) 256 in
    let c : w / 65536 * 256 + w / 256 % 256 ≡ w / 256 = ap (λ (x : ℕ). x * 256 + w / 256 % 256) (sym e) ∙ div-add-mod' (w / 256) 256 in
    let d : w / 256 * 256 + w % 256 ≡ w = omega arith in
    let is : w ≡ word_of (w % 256) (w / 256 % 256) (w / 65536 % 256) (w / 16777216 % 256) =
    sym (ap (λ (x : ℕ). ((x * 256 + w / 65536 % 256) * 256 + w / 256 % 256) * 256 + w % 256) a
    ∙ ap (λ (x : ℕ). (x * 256 + w / 256 % 256) * 256 + w % 256) b ∙ ap (λ (x : ℕ). x * 256 + w % 256) c ∙ d) in
    record { is = is; a_small = small _; b-small = small _; c-small = small _; d_small = small _ }

pub xor_bytes : (v w : ℕ) → v < 2 ^ 32 → w < 2 ^ 32 → bytes (bit_xor v w) ≡ bytes v ⊕ bytes w
unfolding ◌⊕◌
xor_bytes v w g h = word_bytes (word-xor (bytes_word v g) (bytes_word w h))

-- four bytes of a list, at the places that the code writes
pub listed-four : (s : List ℕ) (i : ℕ) → get_or s i 0 ∷ get_or s (i + 1) 0 ∷ get_or s (i + 2) 0 ∷ get_or s (i + 3) 0 ∷ [] ≡ listed 4 i s
listed-four s i = rw (add-one i, add-two i, add-three i)
