-- An opening of an NWK frame, for the machine of NwkRun.antt: what it does to the row of the pair that the frame names. Assumes nothing.
use Rattle.std.specs.Prelude.{◌≡◌, false, not, List, ℕ, ◌≤◌, length, eqb, ltb, Err, Ok, Result, None, Some}
use Rattle.std.proofs.Math.Path.{refl}
use Rattle.std.proofs.Common.{arith, length-append, length-drop}
use Rattle.std.proofs.lemmas.Option.{same_Some}
use Rattle.std.proofs.Math.ListN.{length-take}
use borrow.Author.Tests.{eq-eqb, eqb-true, le-ltb, ltb-false}
use Rattle.cells.specs.ListLaws.{neither, nor, not-not}
use Rattle.cells.specs.Rows.{find, settle, reply_of}
use Rattle.cells.proofs.RowLaws.{settle-fits}
use Rattle.nib.specs.declared.keys.NetworkKeys.{NetworkKeys}
use Rattle.nib.specs.Counters.{counter_rows, capacity}
use Rattle.nib.proofs.CounterLaws.{over-used}
use Rattle.nib.specs.Pairs.{Pair}
use Rattle.answer.specs.declared.Refusal.{Refusal}
use Rattle.claims.specs.declared.Who.{Who}
use Rattle.claims.specs.declared.Who.TheVariants as who
use Rattle.claims.specs.Claims.{nwk_who, pair_of}
use Rattle.judging.specs.OpenNwk.{nwk_judged, nwk_placed, nwk_unfit, open_nwk}
use Rattle.order.specs.Nwk.{Gateway, claimed_pair, after}
use Rattle.order.specs.NwkMachine.{reaction, rows_in_use, settled, Good}

-- a state that is taken is good
pub taken-good : (g : Gateway) → nwk_unfit g.nwk g.rows g.used ≡ false → (Good g.nwk.keys (length g.rows) g) × (g.nwk.keys.used ≤ 2)
taken-good g e =
    let rest = neither (not (eqb g.nwk.level 5)) _ e in (
      record {
        level = eqb-true g.nwk.level 5 (not-not _ (nor (not (eqb g.nwk.level 5)) _ e));
        same_keys = refl;
        same-lent = refl;
        fits = ltb-false (capacity (length g.rows)) g.used (neither (ltb 2 g.nwk.keys.used) _ rest);
      },
      ltb-false 2 g.nwk.keys.used (nor (ltb 2 g.nwk.keys.used) _ rest),
    )

module _ (keys : NetworkKeys) (lent : ℕ) (two : keys.used ≤ 2) where
  -- the state is taken
  pub opening : (g : Gateway) (b : List ℕ) → Good keys lent g → open_nwk g.nwk g.rows g.used b ≡ nwk_placed g.nwk g.rows g.used b (nwk_who keys b)
  unfolding open_nwk
  opening g b h =
      rw (eq-eqb g.nwk.level 5 h.level, h.same_keys, le-ltb 2 keys.used two, h.same-lent, le-ltb (capacity lent) g.used h.fits)

  -- a frame that names k reacts to k's row, and the rows in use become what `settle` says
  pub named-placed : (g : Gateway) (b : List ℕ) (k : Pair) → Good keys lent g → (w : Result Who Refusal) → pair_of w ≡ Some k
      → settled (nwk_placed g.nwk g.rows g.used b w)
      ≡ settle counter_rows (capacity lent) (rows_in_use g) k (reaction keys b w (find counter_rows (rows_in_use g) k))
  unfolding nwk_placed reaction
  named-placed g b k h (Err why) e = cc
  named-placed g b k h (Ok (who.Told a)) e = cc
  named-placed g b k h (Ok (who.Claims c)) e =
      let t = settle counter_rows (capacity lent) (rows_in_use g) (claimed_pair c) (nwk_judged keys c (find counter_rows (rows_in_use g) (claimed_pair c)) b) in
      rw (← same_Some (claimed_pair c) k e, h.same_keys, h.same-lent) (λ i. record { out = t.out; rows = over-used t.rows g.rows i })

  -- a frame that names none changes nothing
  pub nameless-placed : (g : Gateway) (b : List ℕ) (w : Result Who Refusal) → pair_of w ≡ None
      → settled (nwk_placed g.nwk g.rows g.used b w) ≡ record { out = reply_of (reaction keys b w None); rows = rows_in_use g }
  unfolding nwk_placed reaction reply_of
  nameless-placed g b (Err why) e = refl
  nameless-placed g b (Ok (who.Told a)) e = refl
  nameless-placed g b (Ok (who.Claims c)) e = cc

  -- as many rows are lent after an opening, and not too many are in use
  stays-placed : (g : Gateway) (b : List ℕ) → Good keys lent g → (w : Result Who Refusal)
      → (length (nwk_placed g.nwk g.rows g.used b w).rows ≡ lent) × ((nwk_placed g.nwk g.rows g.used b w).used ≤ capacity lent)
  unfolding nwk_placed
  stays-placed g b h (Err why) = (h.same-lent, h.fits)
  stays-placed g b h (Ok (who.Told a)) = (h.same-lent, h.fits)
  stays-placed g b h (Ok (who.Claims c)) =
      let r = nwk_judged g.nwk.keys c (find counter_rows (rows_in_use g) (claimed_pair c)) b in
      let few = settle-fits counter_rows (capacity lent) (rows_in_use g) (claimed_pair c) r (simp length-take (omega (arith, h.fits))) in
      rw h.same-lent (simp (length-append, length-drop) (omega (arith, h.same-lent)), few)

  pub stays-good : (g : Gateway) (b : List ℕ) → Good keys lent g → Good keys lent (after g b)
  stays-good g b h =
      let s = stays-placed g b h (nwk_who keys b) in
      record { level = h.level; same_keys = h.same_keys; same-lent = rw (opening g b h) s.0; fits = rw (opening g b h) s.1 }
