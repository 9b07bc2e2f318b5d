-- What the calls of APS do to the rows: an opening leaves every outgoing counter, and a securing every incoming one. Assumes nothing.
use Rattle.std.specs.Prelude.{◌≡◌, Bool, not, ◌&&◌, eqb, leb, ltb, drop, Err, Ok, Result, Option, Some}
use Rattle.std.proofs.Math.Path.{refl}
use Rattle.std.proofs.Common.{ap, eqb-true}
use Rattle.std.proofs.Math.Bool.{true, false, cond}
use mathlib.Core.List.{List, [], ◌∷◌}
use Prim.Native.Nat.{ℕ, suc, ◌+◌}
use Rattle.std.proofs.Math.ListN.{length}
use Rattle.std.proofs.Math.Seq.{take-append_seam}
use Rattle.cells.specs.First.{first, at_first}
use Rattle.cells.specs.ListLaws.{either}
use Rattle.cells.specs.Rows.{Reaction, find, put, room, settle}
use Rattle.aib.specs.declared.pairs.PairRow.{PairRow}
use Rattle.aib.specs.Counters.{in_use, raised, heard}
use Rattle.aib.specs.Pairs.{PairCell, cell_in, row_of, pair_rows, verified, may_use}
use Rattle.answer.specs.declared.Refusal.{Refusal}
use Rattle.claims.specs.declared.Claim.{Claim}
use Rattle.claims.specs.declared.Who.{Who}
use Rattle.claims.specs.declared.Who.TheVariants as who
use Rattle.claims.specs.Claims.{aps_who}
use Rattle.protection.specs.Heard.{Heard, equals, below}
use Rattle.protection.specs.Keys.{key_for}
use Rattle.protection.specs.Protection.{tag_size, vouches}
use Rattle.aps.specs.OpenAps.{Opened, incoming, aps_judged, aps_placed, aps_unfit, open_aps}
use Rattle.order.specs.Aps.{Gateway, after}
use Rattle.order.specs.ApsSteps.{outgoing_in}

-- ---- an opening

-- the rows stay, or a device's row, a new one perhaps, has another incoming counter
pub data Heard-rows (rs : List PairRow) : List PairRow → Type 0 where
  same : Heard-rows rs rs
  hears : (device counter : ℕ) → Heard-rows rs (put pair_rows rs device (heard (find pair_rows rs device) counter))

module _ (rs : List PairRow) (c : Claim) (b : List ℕ) where
  abbrev settles : Reaction Heard PairCell → Type 0
  settles r = Heard-rows rs (settle pair_rows 16 rs c.sender r).rows

  judged-rows : settles (aps_judged c (find pair_rows rs c.sender) b)
  unfolding aps_judged settle
  judged-rows =
      let held : Option PairCell = find pair_rows rs c.sender in
      either settles (equals (incoming held) c.counter) same
      (either settles (below (incoming held) c.counter) same
      (either settles (ltb (length b) (c.payload + tag_size)) same
      (either settles (key_for _ _).refused same
      (either settles (not (vouches _ _ _ _ _ b)) same
      (either (Heard-rows rs) (room pair_rows 16 rs c.sender) (hears c.sender c.counter) same)))))

pub opened_rows : (g : Gateway) (b : List ℕ) → Heard-rows (in_use g.pairs) (in_use (after g b).pairs)
unfolding open_aps aps_placed
opened_rows g b = either (λ (o : Opened). Heard-rows (in_use g.pairs) (in_use o.pairs)) (aps_unfit g.aps g.pairs) same (placed (aps_who b))
  where
    placed : (w : Result Who Refusal) → Heard-rows (in_use g.pairs) (in_use (aps_placed g.pairs b w).pairs)
    placed (Err why) = same
    placed (Ok (who.Told a)) = same
    placed (Ok (who.Claims c)) =
        let t = settle pair_rows 16 (in_use g.pairs) c.sender (aps_judged c (find pair_rows (in_use g.pairs) c.sender) b) in
        rw (take-append_seam t.rows (drop (length t.rows) g.pairs.rows)) (judged-rows (in_use g.pairs) c b)

hears-outgoing : (to device counter : ℕ) (rs : List PairRow)
    → outgoing_in (first (may_use to) (put pair_rows rs device (heard (find pair_rows rs device) counter))) ≡ outgoing_in (first (may_use to) rs)
unfolding first put find
hears-outgoing to device counter [] = either (λ (o : Option PairRow). outgoing_in o ≡ 0) (eqb device to && leb verified verified) refl refl
hears-outgoing to device counter (r ∷ rs) = at (eqb r.device device) refl (hears-outgoing to device counter rs)
  where
    later : List PairRow
    later = put pair_rows rs device (heard (find pair_rows rs device) counter)

    at : (t : Bool) → eqb r.device device ≡ t → outgoing_in (first (may_use to) later) ≡ outgoing_in (first (may_use to) rs)
        → outgoing_in (first (may_use to) (cond t (row_of device (heard (cond t (Some (cell_in r)) (find pair_rows rs device)) counter) ∷ rs) (r ∷ put pair_rows rs device (heard (cond t (Some (cell_in r)) (find pair_rows rs device)) counter))))
        ≡ outgoing_in (cond (may_use to r) (Some r) (first (may_use to) rs))
    at true e ih =
        rw (← eqb-true r.device device e) (by (may_use to r))
      where
        by : (u : Bool) → outgoing_in (cond u (Some (row_of r.device (heard (Some (cell_in r)) counter))) (first (may_use to) rs)) ≡ outgoing_in (cond u (Some r) (first (may_use to) rs))
        by true = refl
        by false = refl
    at false e ih = by (may_use to r)
      where
        by : (u : Bool) → outgoing_in (cond u (Some r) (first (may_use to) later)) ≡ outgoing_in (cond u (Some r) (first (may_use to) rs))
        by true = refl
        by false = ih

pub opening-outgoing : (to : ℕ) {rs rs' : List PairRow} → Heard-rows rs rs' → outgoing_in (first (may_use to) rs') ≡ outgoing_in (first (may_use to) rs)
opening-outgoing to same = refl
opening-outgoing to {rs} (hears device counter) = hears-outgoing to device counter rs

-- ---- a securing

both : (x y : Bool) → (x && y) ≡ true → x ≡ true
both true y e = refl
both false y e = cc

module _ (device : ℕ) where
  -- no other device's outgoing counter changes,
  pub raising-other : (to : ℕ) → eqb device to ≡ false → (rs : List PairRow) → first (may_use to) (at_first (may_use device) raised rs) ≡ first (may_use to) rs
  unfolding first at_first
  raising-other to other [] = refl
  raising-other to other (r ∷ rs) = at (may_use device r) refl (raising-other to other rs)
    where
      not-to : may_use device r ≡ true → may_use to r ≡ false
      not-to e = rw (eqb-true r.device device (both _ _ e), other)

      at : (t : Bool) → may_use device r ≡ t → first (may_use to) (at_first (may_use device) raised rs) ≡ first (may_use to) rs
          → first (may_use to) (cond t (raised r ∷ rs) (r ∷ at_first (may_use device) raised rs)) ≡ cond (may_use to r) (Some r) (first (may_use to) rs)
      at true e ih = rw (not-to e)
      at false e ih = rw ih

  -- that of the row that was used rises by 1,
  pub raising-own : (rs : List PairRow) (row : PairRow) → first (may_use device) rs ≡ Some row → first (may_use device) (at_first (may_use device) raised rs) ≡ Some (raised row)
  unfolding first at_first
  raising-own [] row e = cc
  raising-own (r ∷ rs) row e = at (may_use device r) refl (λ f. raising-own rs row f) e
    where
      at : (t : Bool) → may_use device r ≡ t → (first (may_use device) rs ≡ Some row → first (may_use device) (at_first (may_use device) raised rs) ≡ Some (raised row))
          → cond t (Some r) (first (may_use device) rs) ≡ Some row → first (may_use device) (cond t (raised r ∷ rs) (r ∷ at_first (may_use device) raised rs)) ≡ Some (raised row)
      at true t ih f = rw t cc
      at false t ih f = rw t (ih f)

  -- and every device keeps its incoming counter
  pub raising-incoming : (k : ℕ) (rs : List PairRow) → incoming (find pair_rows (at_first (may_use device) raised rs) k) ≡ incoming (find pair_rows rs k)
  unfolding find at_first
  raising-incoming k [] = refl
  raising-incoming k (r ∷ rs) = at (may_use device r) (raising-incoming k rs)
    where
      at : (t : Bool) → incoming (find pair_rows (at_first (may_use device) raised rs) k) ≡ incoming (find pair_rows rs k)
          → incoming (find pair_rows (cond t (raised r ∷ rs) (r ∷ at_first (may_use device) raised rs)) k) ≡ incoming (cond (eqb r.device k) (Some (cell_in r)) (find pair_rows rs k))
      at true ih = by (eqb r.device k)
        where
          by : (u : Bool) → incoming (cond u (Some (cell_in (raised r))) (find pair_rows rs k)) ≡ incoming (cond u (Some (cell_in r)) (find pair_rows rs k))
          by true = refl
          by false = refl
      at false ih = by (eqb r.device k)
        where
          by : (u : Bool) → incoming (cond u (Some (cell_in r)) (find pair_rows (at_first (may_use device) raised rs) k)) ≡ incoming (cond u (Some (cell_in r)) (find pair_rows rs k))
          by true = refl
          by false = ih

  -- as many rows are in use
  pub raising-length : (rs : List PairRow) → length (at_first (may_use device) raised rs) ≡ length rs
  unfolding at_first
  raising-length [] = refl
  raising-length (r ∷ rs) = either (λ (l : List PairRow). length l ≡ suc (length rs)) (may_use device r) refl (ap suc (raising-length rs))
