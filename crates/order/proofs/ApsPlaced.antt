-- An opening of an APS frame: what it does to the row of the sender that the frame names. Assumes nothing.
use Rattle.std.specs.Prelude.{◌≡◌, false, not, List, ℕ, ◌≤◌, length, drop, eqb, Err, Ok, Result, None, Some}
use Rattle.std.proofs.Math.Path.{refl}
use Rattle.std.proofs.Common.{arith}
use Rattle.std.proofs.lemmas.Option.{same_Some}
use Rattle.std.proofs.Math.ListN.{length-take}
use Rattle.std.proofs.Math.Seq.{take-append_seam}
use borrow.Author.Tests.{eq-eqb, eqb-true, le-ltb, ltb-false}
use Rattle.cells.specs.ListLaws.{nor, neither, not-not}
use Rattle.cells.specs.Rows.{find, settle, reply_of}
use Rattle.cells.proofs.RowLaws.{settle-fits}
use Rattle.aib.specs.Counters.{in_use}
use Rattle.aib.specs.Pairs.{pair_rows}
use Rattle.answer.specs.declared.Refusal.{Refusal}
use Rattle.claims.specs.declared.Who.{Who}
use Rattle.claims.specs.declared.Who.TheVariants as who
use Rattle.claims.specs.Claims.{aps_who, sender_of}
use Rattle.aps.specs.OpenAps.{aps_judged, aps_placed, aps_unfit, open_aps}
use Rattle.order.specs.Aps.{Gateway, after}
use Rattle.order.specs.ApsOrder.{reaction, settled, Good}

-- a state that is taken is good
pub taken-good : (g : Gateway) → aps_unfit g.aps g.pairs ≡ false → Good g
taken-good g e = record {
  level = eqb-true g.aps.level 5 (not-not _ (nor (not (eqb g.aps.level 5)) _ e));
  fits = ltb-false 16 g.pairs.used (neither (not (eqb g.aps.level 5)) _ e);
}

module _ (g : Gateway) (b : List ℕ) (h : Good g) where
  -- the state is taken
  pub opening : open_aps g.aps g.pairs b ≡ aps_placed g.pairs b (aps_who b)
  unfolding open_aps
  opening = rw (eq-eqb g.aps.level 5 h.level, le-ltb 16 g.pairs.used h.fits)

  -- a frame that names k reacts to k's row, and the rows in use become what `settle` says
  pub named-placed : (k : ℕ) (w : Result Who Refusal) → sender_of w ≡ Some k
      → settled (aps_placed g.pairs b w) ≡ settle pair_rows 16 (in_use g.pairs) k (reaction b w (find pair_rows (in_use g.pairs) k))
  unfolding aps_placed reaction
  named-placed k (Err why) e = cc
  named-placed k (Ok (who.Told a)) e = cc
  named-placed k (Ok (who.Claims c)) e =
      let t = settle pair_rows 16 (in_use g.pairs) c.sender (aps_judged c (find pair_rows (in_use g.pairs) c.sender) b) in
      rw (← same_Some c.sender k e) (λ i. record { out = t.out; rows = take-append_seam t.rows (drop (length t.rows) g.pairs.rows) i })

  -- a frame that names none changes nothing
  pub nameless-placed : (w : Result Who Refusal) → sender_of w ≡ None → settled (aps_placed g.pairs b w) ≡ record { out = reply_of (reaction b w None); rows = in_use g.pairs }
  unfolding aps_placed reaction reply_of
  nameless-placed (Err why) e = refl
  nameless-placed (Ok (who.Told a)) e = refl
  nameless-placed (Ok (who.Claims c)) e = cc

  -- not too many rows are in use after an opening
  stays-placed : (w : Result Who Refusal) → (aps_placed g.pairs b w).pairs.used ≤ 16
  unfolding aps_placed
  stays-placed (Err why) = h.fits
  stays-placed (Ok (who.Told a)) = h.fits
  stays-placed (Ok (who.Claims c)) =
      settle-fits pair_rows 16 (in_use g.pairs) c.sender (aps_judged c (find pair_rows (in_use g.pairs) c.sender) b) (simp length-take (omega (arith, h.fits)))

  pub stays-good : Good (after g b)
  stays-good = record { level = h.level; fits = rw opening (stays-placed (aps_who b)) }
