-- The network key that is found, by the place that a search yields. Assumes nothing.
use Rattle.std.specs.Prelude.{◌≡◌, ℕ, ◌<◌, ◌≤◌, min, length, take, slice_index_or, ◌==◌, None, Some}
use Rattle.std.proofs.Common.{arith, take_all, refl, sym}
use Rattle.std.specs.List as list
use Rattle.std.proofs.Math.Decide.{dec_le}
use borrow.Author.Tests.{lt-ltb, le-ltb, eqb-true}
use Rattle.cells.specs.Rows.{is_row, place_of}
use Rattle.cells.specs.FirstLaws.{passes-used}
use Rattle.cells.proofs.Search.{lent-le, lent-cell, find_row}
use Rattle.nib.specs.declared.keys.NetworkKey.{NetworkKey}
use Rattle.nib.specs.declared.keys.NetworkKeys.{NetworkKeys}
use Rattle.nib.specs.Keys.{key_rows, key_found}

module _ (keys : NetworkKeys) (two : length keys.rows ≡ 2) where
  -- a count above two takes in the two rows that there are
  pub in_use : take keys.used keys.rows ≡ take (min keys.used 2) keys.rows
  in_use = at (dec_le keys.used 2)
    where
      at : Dec (keys.used ≤ 2) → take keys.used keys.rows ≡ take (min keys.used 2) keys.rows
      at (yes h) = let e : min keys.used 2 ≡ keys.used = omega arith in rw e
      at (no h) = let e : min keys.used 2 ≡ 2 = omega arith in rw (e, take_all keys.used keys.rows (omega arith), take_all 2 keys.rows (omega arith))

  -- what std's `find` gives of those two
  pub first_found : (n : ℕ) → list.find (λ r. r.number == n) (take (min keys.used 2) keys.rows) ≡ key_found keys n
  unfolding key_found
  first_found n = rw in_use (sym (find_row key_rows (λ r. refl) (take (min keys.used 2) keys.rows) n))

module _ (keys : NetworkKeys) (n : ℕ) (d : NetworkKey) (two : length keys.rows ≡ 2) where
  abbrev used : ℕ
  used = min keys.used 2

  abbrev pub place : ℕ
  place = place_of key_rows (take used keys.rows) n

  fits : used ≤ length keys.rows
  fits = omega arith

  pub place-le : place ≤ used
  place-le = lent-le key_rows keys.rows used n d fits

  pub not_found : place ≡ used → None ≡ key_found keys n
  unfolding key_found
  not_found e = rw (in_use keys two, lent-cell key_rows keys.rows used n d fits, le-ltb place used (omega arith))

  pub found : place < used → Some (slice_index_or keys.rows place d) ≡ key_found keys n
  unfolding key_found
  found h =
      let e : (slice_index_or keys.rows place d).number ≡ n = eqb-true _ _ (passes-used (is_row key_rows n) keys.rows used d fits h) in
      rw (in_use keys two, lent-cell key_rows keys.rows used n d fits, lt-ltb place used h)
      (λ i. Some (record { number = e i; key = (slice_index_or keys.rows place d).key }))
