-- Laws of the APS header: its cases one by one, and its size. Assumes nothing.
use Rattle.std.specs.Prelude.{◌≡◌, true, false, Ok, Err, List, ℕ, ◌≤◌, ◌<◌, length, get_or}
use borrow.Author.Tests.{eq-eqb, ne_eqb, le-leb, lt-leb}
use Rattle.frame_header.specs.Aps.{is_command, is_secured, aps_taken, aps_length, aps_of}
use Rattle.answer.specs.declared.Refusal.TheVariants.{Unsupported, Cut}

module _ (s : List ℕ) where
  pub aps-empty : length s ≡ 0 → aps_of s ≡ Err Cut
  unfolding aps_of
  aps-empty h = rw (eq-eqb (length s) 0 h)

  pub aps-not-taken : (length s ≡ 0 → ⊥) → aps_taken (get_or s 0 0) ≡ false → aps_of s ≡ Err Unsupported
  unfolding aps_of
  aps-not-taken h t = rw (ne_eqb (length s) 0 h, t)

  pub aps-cut : (length s ≡ 0 → ⊥) → aps_taken (get_or s 0 0) ≡ true → length s < aps_length (get_or s 0 0) → aps_of s ≡ Err Cut
  unfolding aps_of
  aps-cut h t l = rw (ne_eqb (length s) 0 h, t, lt-leb (aps_length (get_or s 0 0)) (length s) l)

  pub aps-whole : (length s ≡ 0 → ⊥) → aps_taken (get_or s 0 0) ≡ true → aps_length (get_or s 0 0) ≤ length s
      → aps_of s ≡ Ok (record { len = aps_length (get_or s 0 0); command = is_command (get_or s 0 0); secured = is_secured (get_or s 0 0) })
  unfolding aps_of
  aps-whole h t l = rw (ne_eqb (length s) 0 h, t, le-leb (aps_length (get_or s 0 0)) (length s) l)
