-- Laws of the NWK header: its size, and that it reads the same whatever follows it. Assumes nothing.
use Rattle.std.specs.Prelude.{◌≡◌, refl, Bool, Ok, Err, List, [], ◌∷◌, ℕ, ◌+◌, ◌*◌, ◌%◌, ◌≤◌, ◌<◌, length, take}
use Rattle.std.proofs.Common.{sym, ◌∙◌, not-suc-le-zero, le_of_suc-le-suc, arith, le-leb, get_or-take}
use Rattle.std.proofs.Math.Path.{ap}
use Rattle.std.proofs.Math.Bool.{true, false, cond}
use Rattle.std.proofs.lemmas.Bool.{lt-leb}
use Rattle.std.proofs.Math.ListN.{get_or}
use Rattle.std.proofs.Math.Seq.{take-take}
use Rattle.laws.specs.Numbers.{value, field, bit}
use Rattle.laws.specs.Rule.{same-below}
use Rattle.frame_header.specs.Nwk.{nwk_control, nwk_kind_number, nwk_kind_numbered, nwk_kind, nwk_fixed, relays_length, nwk_length, nwk_of}
use Rattle.answer.specs.declared.Refusal.TheVariants.{Cut}

-- ---- the frame control, octet by octet

pub control-octets : (s : List ℕ) → 2 ≤ length s → get_or s 0 0 + 256 * get_or s 1 0 ≡ nwk_control s
unfolding field value
control-octets [] h = absurd (not-suc-le-zero h)
control-octets (a ∷ []) h = absurd (not-suc-le-zero (le_of_suc-le-suc h))
control-octets (a ∷ b ∷ s) h = omega arith

pub kind-number : (control : ℕ) → nwk_kind_number (nwk_kind control) ≡ control % 4
unfolding nwk_kind
kind-number control = same-below (λ n. nwk_kind_number (nwk_kind_numbered n)) (λ n. n) 4 tt (control % 4) (omega arith)

-- ---- sizes

pub flagged-at-most : (flagged : Bool) (n : ℕ) → cond flagged n 0 ≤ n
flagged-at-most true n = omega arith
flagged-at-most false n = omega arith

pub fixed-least : (control : ℕ) → 8 ≤ nwk_fixed control
unfolding nwk_fixed
fixed-least control = omega arith

pub fixed-most : (control : ℕ) → nwk_fixed control ≤ 25
unfolding nwk_fixed
fixed-most control = omega (arith, flagged-at-most (bit 11 control) 8, flagged-at-most (bit 12 control) 8, flagged-at-most (bit 8 control) 1)

pub relays-most : (s : List ℕ) (at control : ℕ) → get_or s at 0 < 256 → relays_length s at control ≤ 512
relays-most s at control h = omega (arith, flagged-at-most (bit 10 control) (1 + 1 + 2 * get_or s at 0))

-- ---- cut, or whole

module _ (s : List ℕ) where
  pub nwk-cut : length s < nwk_length s → nwk_of s ≡ Err Cut
  unfolding nwk_of
  nwk-cut h = rw (lt-leb (nwk_length s) (length s) h)

  pub nwk-whole : nwk_length s ≤ length s
      → nwk_of s ≡ Ok (record { len = nwk_length s; kind = nwk_kind (nwk_control s); secured = bit 9 (nwk_control s) })
  unfolding nwk_of
  nwk-whole h = rw (le-leb (nwk_length s) (length s) h)

  pub length-least : 8 ≤ nwk_length s
  unfolding nwk_length
  length-least = omega (arith, fixed-least (nwk_control s))

-- ---- a string that starts with the same header has the same header

module _ (s t : List ℕ) (front : take (nwk_length s) t ≡ take (nwk_length s) s) where
  pub same-control : nwk_control t ≡ nwk_control s
  unfolding field
  same-control =
      let two : 2 ≤ nwk_length s = omega (arith, length-least s) in
      ap value (sym (take-take 2 (nwk_length s) t two) ∙ ap (take 2) front ∙ take-take 2 (nwk_length s) s two)

  same-octet : (i : ℕ) → i < nwk_length s → get_or t i 0 ≡ get_or s i 0
  same-octet i h = sym (get_or-take (nwk_length s) t i 0 h) ∙ ap (λ (l : List ℕ). get_or l i 0) front ∙ get_or-take (nwk_length s) s i 0 h

  same-relays : (flagged : Bool) → bit 10 (nwk_control s) ≡ flagged
      → relays_length t (nwk_fixed (nwk_control s)) (nwk_control s) ≡ relays_length s (nwk_fixed (nwk_control s)) (nwk_control s)
  unfolding nwk_length
  same-relays false e = rw e
  same-relays true e =
      let p = nwk_fixed (nwk_control s) in
      let long : nwk_length s ≡ p + (1 + 1 + 2 * get_or s p 0) = rw e in
      ap (λ (n : ℕ). cond (bit 10 (nwk_control s)) (1 + 1 + 2 * n) 0) (same-octet p (omega arith))

  pub same_length : nwk_length t ≡ nwk_length s
  unfolding nwk_length
  same_length =
      ap (λ (c : ℕ). nwk_fixed c + relays_length t (nwk_fixed c) c) same-control
      ∙ ap (λ (n : ℕ). nwk_fixed (nwk_control s) + n) (same-relays (bit 10 (nwk_control s)) refl)
