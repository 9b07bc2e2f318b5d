-- Opening and securing APS change nothing unless the answer is done. Assumes nothing.
use Rattle.std.specs.Prelude.{◌≡◌, Bool, cond, not, List, ℕ, ◌+◌, ◌≤◌, eqb, ltb, length, Err, Ok, Result, Option}
use Rattle.std.proofs.Math.Path.{refl, ap}
use Rattle.std.proofs.Common.{◌∙◌, arith, ltb-false}
use Rattle.std.proofs.Math.Bool.{true, false}
use Rattle.std.proofs.Math.Seq.{length-take-le}
use Rattle.answer.specs.declared.Refusal.TheVariants.{Unsupported}
use Rattle.cells.specs.ListLaws.{either, neither}
use Rattle.cells.specs.Rows.{find}
use Rattle.aib.specs.declared.pairs.Pairs.{Pairs}
use Rattle.aib.specs.Counters.{in_use}
use Rattle.aib.specs.Pairs.{PairCell, pair_rows}
use Rattle.answer.specs.declared.Refusal.{Refusal}
use Rattle.claims.specs.declared.Claim.{Claim}
use Rattle.claims.specs.declared.Who.{Who}
use Rattle.claims.specs.declared.Who.TheVariants as who
use Rattle.claims.specs.Claims.{aps_who}
use Rattle.protection.specs.Heard.{refused, equals, below}
use Rattle.protection.specs.Keys.{key_for}
use Rattle.protection.specs.Protection.{tag_size, vouches}
use Rattle.aps.specs.declared.state.Aps.{Aps}
use Rattle.aps.specs.OpenAps.{incoming, aps_judged, Opened, unchanged, aps_committed, aps_placed, aps_unfit, open_aps}
use Rattle.aps.specs.SecureAps.{Secured, secure_aps}
use Rattle.order.specs.ApsSent.{Sent, not-sent, sent, securing}
use Rattle.order.specs.Kept.{NotDone, Tame, stops, opens, settle-kept, over-same}

-- ---- opening APS

aps-tame : (c : Claim) (held : Option PairCell) (b : List ℕ) → Tame b (aps_judged c held b)
unfolding aps_judged
aps-tame c held b =
    either (Tame b) (equals (incoming held) c.counter) (stops _)
    (either (Tame b) (below (incoming held) c.counter) (stops _)
    (either (Tame b) (ltb (length b) (c.payload + tag_size)) (stops _)
    (either (Tame b) (key_for _ _).refused (stops _)
    (either (Tame b) (not (vouches _ _ _ _ _ b)) (stops _) (opens _ _ _ _ _)))))

module _ (s : Aps) (pairs : Pairs) (sixteen : length pairs.rows ≡ 16) (b : List ℕ) where
  abbrev ApsKept : Opened → Type 0
  ApsKept o = NotDone o.answer → o ≡ unchanged pairs (record { answer = o.answer; frame = b })

  aps-placed : pairs.used ≤ 16 → (w : Result Who Refusal) → ApsKept (aps_placed pairs b w)
  unfolding aps_placed
  aps-placed fits (Err why) n = refl
  aps-placed fits (Ok (who.Told a)) n = refl
  aps-placed fits (Ok (who.Claims c)) n =
      ap (aps_committed pairs) (settle-kept pair_rows 16 (in_use pairs) c.sender b (aps-tame c (find pair_rows (in_use pairs) c.sender) b) n)
      ∙ (λ i. record {
        answer = (aps_placed pairs b (Ok (who.Claims c))).answer;
        frame = b;
        pairs = record { rows = over-same pairs.rows pairs.used (omega arith) i; used = length-take-le pairs.used pairs.rows (omega arith) i };
      })

  pub aps-opening : ApsKept (open_aps s pairs b)
  unfolding open_aps
  aps-opening = at (aps_unfit s pairs) refl
    where
      at : (t : Bool) → aps_unfit s pairs ≡ t → ApsKept (cond t (unchanged pairs (refused Unsupported b)) (aps_placed pairs b (aps_who b)))
      at true e = λ n. refl
      at false e = aps-placed (ltb-false 16 pairs.used (neither (not (eqb s.level 5)) _ e)) (aps_who b)

-- ---- securing APS

module _ (s : Aps) (pairs : Pairs) (device : ℕ) (extended : Bool) (plain out : List ℕ) where
  abbrev ApsUnsent : Secured → Type 0
  ApsUnsent x = NotDone x.answer → x ≡ record { answer = x.answer; out = out; pairs = pairs }

  pub aps-securing : ApsUnsent (secure_aps s pairs device extended plain out)
  aps-securing = at (securing s pairs device extended plain out)
    where
      at : {x : Secured} → Sent s pairs device extended plain out x → ApsUnsent x
      at (not-sent why) n = refl
      at (sent row identifier found chosen whole usable) n = absurd (n 0 _ refl)
