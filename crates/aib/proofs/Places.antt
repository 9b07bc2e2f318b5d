-- What is found, and what advance and record leave, by what std's searches give of the rows in use. Assumes nothing.
use Rattle.std.specs.Prelude.{◌≡◌, ℕ, [], ◌+◌, ◌<◌, ◌≤◌, length, set, get_or, position, None, Some, Ok}
use Rattle.std.specs.List as list
use Rattle.std.proofs.Common.{refl, sym, ap, ◌∙◌, arith, length-take-le}
use Rattle.answer.specs.declared.Refusal.TheVariants.{NoPair, CounterSpent, TableFull}
use Rattle.cells.specs.Rows.{is_row}
use Rattle.cells.proofs.Search.{some_first, none_first, first_is_find, find_row}
use Rattle.aib.specs.declared.pairs.PairRow.{PairRow}
use Rattle.aib.specs.declared.pairs.Pairs.{Pairs}
use Rattle.aib.specs.Pairs.{pair_rows, new_row, may_use, pair_found, usable_found}
use Rattle.aib.specs.Counters.{in_use, raised, Advanced, Recorded, not_advanced, advanced, not_recorded, recorded}
use Rattle.aib.specs.PairLaws.{updated, sends-at, advanced-none, advanced-spent, advanced-done, heard-at, recorded-full, recorded-new, recorded-old}

module _ (pairs : Pairs) (d : ℕ) where
  pub first_found : list.find (is_row pair_rows d) (in_use pairs) ≡ pair_found pairs d
  unfolding pair_found
  first_found = sym (find_row pair_rows (λ r. refl) (in_use pairs) d)

  pub first_usable : list.find (may_use d) (in_use pairs) ≡ usable_found pairs d
  unfolding usable_found
  first_usable = sym (first_is_find (may_use d) (in_use pairs))

-- what a read past the rows would find
abbrev pub past : PairRow
past = record { device = 0; attribute = 0; key = []; kind = 0; outgoing = 0; incoming = 0 }

module _ (pairs : Pairs) (d : ℕ) (sixteen : length pairs.rows ≡ 16) (few : pairs.used ≤ 16) where
  counted : length (in_use pairs) ≡ pairs.used
  counted = length-take-le pairs.used pairs.rows (omega arith)

  pub sends_none : position (may_use d) (in_use pairs) ≡ None → not_advanced NoPair pairs ≡ advanced pairs d
  sends_none e = advanced-none pairs d past sixteen few (none_first (may_use d) (in_use pairs) e ∙ counted)

  module _ (i : ℕ) (e : position (may_use d) (in_use pairs) ≡ Some i) where
    its : (sends-at pairs d past sixteen few ≡ i) × (i < length (in_use pairs))
    its = some_first (may_use d) (in_use pairs) i e

    below : sends-at pairs d past sixteen few < pairs.used
    below = omega (arith, its.0, its.1, counted)

    pub sends_spent : (get_or pairs.rows i past).outgoing ≡ 4294967295 → not_advanced CounterSpent pairs ≡ advanced pairs d
    sends_spent s = advanced-spent pairs d past sixteen few below (ap (λ (j : ℕ). (get_or pairs.rows j past).outgoing) its.0 ∙ s)

    pub sends_raised : ((get_or pairs.rows i past).outgoing ≡ 4294967295 → ⊥)
        → ◌≡◌ {A = Advanced} (record { outcome = Ok tt; counter = (get_or pairs.rows i past).outgoing; pairs = record { rows = set pairs.rows i (raised (get_or pairs.rows i past)); used = pairs.used } }) (advanced pairs d)
    sends_raised n =
        ap (λ (j : ℕ). record { outcome = Ok tt; counter = (get_or pairs.rows j past).outgoing; pairs = record { rows = set pairs.rows j (raised (get_or pairs.rows j past)); used = pairs.used } }) (sym its.0)
        ∙ advanced-done pairs d past sixteen few below (λ q. n (sym (ap (λ (j : ℕ). (get_or pairs.rows j past).outgoing) its.0) ∙ q))

  module _ (c : ℕ) where
    pub heard_known : (i : ℕ) → position (is_row pair_rows d) (in_use pairs) ≡ Some i
        → ◌≡◌ {A = Recorded} (record { outcome = Ok tt; pairs = record { rows = set pairs.rows i (updated (get_or pairs.rows i past) c); used = pairs.used } }) (recorded pairs d c)
    heard_known i e =
        let p = some_first (is_row pair_rows d) (in_use pairs) i e in
        ap (λ (j : ℕ). record { outcome = Ok tt; pairs = record { rows = set pairs.rows j (updated (get_or pairs.rows j past) c); used = pairs.used } }) (sym p.0)
        ∙ recorded-old pairs d past sixteen few c (omega (arith, p.0, p.1, counted))

    module _ (e : position (is_row pair_rows d) (in_use pairs) ≡ None) where
      last : heard-at pairs d past sixteen few ≡ pairs.used
      last = none_first (is_row pair_rows d) (in_use pairs) e ∙ counted

      pub heard_new : pairs.used < 16
          → ◌≡◌ {A = Recorded} (record { outcome = Ok tt; pairs = record { rows = set pairs.rows pairs.used (new_row d c); used = pairs.used + 1 } }) (recorded pairs d c)
      heard_new h =
          ap (λ (j : ℕ). record { outcome = Ok tt; pairs = record { rows = set pairs.rows j (new_row d c); used = pairs.used + 1 } }) (sym last)
          ∙ recorded-new pairs d past sixteen few c last (λ q. omega (arith, last, q, h))

      pub heard_full : 16 ≤ pairs.used → not_recorded TableFull pairs ≡ recorded pairs d c
      heard_full h = recorded-full pairs d past sixteen few c (omega (arith, last))
