-- Opening and securing NWK change nothing unless the answer is done. Assumes nothing.
use Rattle.std.specs.Prelude.{Err, Ok, Result, ◌≡◌, Bool, cond, not, List, ℕ, ◌+◌, ◌≤◌, eqb, ltb, length, take, Option}
use Rattle.std.proofs.Math.Path.{refl, ap}
use Rattle.std.proofs.Common.{◌∙◌, arith}
use Rattle.std.proofs.Math.Bool.{true, false}
use Rattle.std.proofs.Math.Seq.{length-take-le}
use borrow.Author.Tests.{ltb-false}
use Rattle.answer.specs.Numbers.{Answer}
use Rattle.answer.specs.declared.Accepted.TheVariants.{Done, Plain}
use Rattle.answer.specs.declared.Refusal.TheVariants.{Unsupported}
use Rattle.cells.specs.ListLaws.{either, neither}
use Rattle.cells.specs.Rows.{Settled, find, settle}
use Rattle.nib.specs.declared.outgoing.Outgoing.{Outgoing}
use Rattle.nib.specs.declared.counters.CounterRow.{CounterRow}
use Rattle.nib.specs.declared.keys.NetworkKeys.{NetworkKeys}
use Rattle.nib.specs.Counters.{Cell, counter_in, counter_rows, capacity, pair}
use Rattle.nib.specs.Pairs.{Pair}
use Rattle.answer.specs.declared.Refusal.{Refusal}
use Rattle.claims.specs.declared.Claim.{Claim}
use Rattle.claims.specs.declared.Who.{Who}
use Rattle.claims.specs.declared.Who.TheVariants as who
use Rattle.claims.specs.Claims.{number_of, nwk_who}
use Rattle.protection.specs.Heard.{Heard, refused, equals, below}
use Rattle.protection.specs.Protection.{tag_size, vouches}
use Rattle.nib.specs.declared.state.Nwk.{Nwk}
use Rattle.judging.specs.OpenNwk.{nwk_judged, Opened, unchanged, active_after, nwk_committed, nwk_placed, nwk_unfit, open_nwk}
use Rattle.securing.specs.SecureNwk.{Secured, secure_nwk}
use Rattle.order.specs.NwkSent.{Sent, not-sent, sent, securing}
use Rattle.order.specs.Kept.{NotDone, Tame, stops, opens, settle-kept, over-same}

-- ---- opening NWK

nwk-tame : (keys : NetworkKeys) (c : Claim) (held : Option Cell) (b : List ℕ) → Tame b (nwk_judged keys c held b)
unfolding nwk_judged
nwk-tame keys c held b =
    either (Tame b) (equals (counter_in held) c.counter) (stops _)
    (either (Tame b) (below (counter_in held) c.counter) (stops _)
    (either (Tame b) (ltb (length b) (c.payload + tag_size)) (stops _)
    (either (Tame b) (not (vouches _ _ _ _ _ b)) (stops _) (opens _ _ _ _ _))))

active-kept : (active n : ℕ) (a : Answer) → NotDone a → active_after active n a ≡ active
active-kept active n (Ok (Done start len)) h = absurd (h start len refl)
active-kept active n (Ok (Plain start len)) h = refl
active-kept active n (Err why) h = refl

module _ (s : Nwk) (rows : List CounterRow) (used : ℕ) (b : List ℕ) where
  abbrev NwkKept : Opened → Type 0
  NwkKept o = NotDone o.answer → o ≡ unchanged s rows used (record { answer = o.answer; frame = b })

  nwk-placed : used ≤ capacity (length rows) → (w : Result Who Refusal) → NwkKept (nwk_placed s rows used b w)
  unfolding nwk_placed
  nwk-placed fits (Err why) n = refl
  nwk-placed fits (Ok (who.Told a)) n = refl
  nwk-placed fits (Ok (who.Claims c)) n =
      ap (nwk_committed s rows k) (settle-kept counter_rows (capacity (length rows)) (take used rows) k b (nwk-tame s.keys c held b) n)
      ∙ (λ i. record {
        answer = t.out.answer;
        frame = b;
        rows = over-same rows used (omega arith) i;
        used = length-take-le used rows (omega arith) i;
        active = active-kept s.active k.number t.out.answer n i;
      })
    where
      k : Pair
      k = pair (number_of c.key) c.sender

      held : Option Cell
      held = find counter_rows (take used rows) k

      t : Settled Heard CounterRow
      t = settle counter_rows (capacity (length rows)) (take used rows) k (nwk_judged s.keys c held b)

  pub nwk-opening : NwkKept (open_nwk s rows used b)
  unfolding open_nwk
  nwk-opening = at (nwk_unfit s rows used) refl
    where
      at : (t : Bool) → nwk_unfit s rows used ≡ t → NwkKept (cond t (unchanged s rows used (refused Unsupported b)) (nwk_placed s rows used b (nwk_who s.keys b)))
      at true e = λ n. refl
      at false e = nwk-placed (omega (arith, ltb-false (capacity (length rows)) used (neither (ltb 2 s.keys.used) _ (neither (not (eqb s.level 5)) _ e)))) (nwk_who s.keys b)

-- ---- securing NWK

module _ (s : Nwk) (o : Outgoing) (plain out : List ℕ) where
  abbrev NwkUnsent : Secured → Type 0
  NwkUnsent x = NotDone x.answer → x ≡ record { answer = x.answer; out = out; outgoing = o }

  pub nwk-securing : NwkUnsent (secure_nwk s o plain out)
  nwk-securing = at (securing s o plain out)
    where
      at : {x : Secured} → Sent s o plain out x → NwkUnsent x
      at (not-sent why) n = refl
      at (sent whole usable) n = absurd (n 0 _ refl)
