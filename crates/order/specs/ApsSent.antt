-- What a securing of APS comes to: a refusal, or a finished frame. Assumes nothing.
use Rattle.std.specs.Prelude.{Ok, ◌≡◌, refl, Bool, false, ◌||◌, ◌&&◌, List, ℕ, ◌+◌, ◌≤◌, eqb, get_or, Option, None, Some}
use Rattle.std.proofs.Math.Bool.{not}
use Rattle.std.proofs.Math.Dec.{ltb}
use Rattle.std.proofs.Math.ListN.{length}
use Rattle.std.proofs.Common.{ltb-false}
use Rattle.answer.specs.declared.Refusal.{Refusal}
use Rattle.cells.specs.First.{first, at_first}
use Rattle.cells.specs.ListLaws.{either, nor, which}
use Rattle.aib.specs.declared.pairs.PairRow.{PairRow}
use Rattle.aib.specs.declared.pairs.Pairs.{Pairs}
use Rattle.aib.specs.Counters.{Advanced, in_use, holding, raised, not_advanced, advanced_by, advanced}
use Rattle.aib.specs.Pairs.{may_use}
use Rattle.control.specs.declared.KeyIdentifier.{KeyIdentifier}
use Rattle.frame_header.specs.Aps.{aps_taken, aps_length, is_command, is_secured}
use Rattle.claims.specs.Claims.{spent}
use Rattle.aps.specs.declared.state.Aps.{Aps}
use Rattle.aps.specs.SecureAps.{Secured, not_secured, identifier_for, aps_added, aps_done, aps_sent, aps_keyed, secure_aps}

module _ (s : Aps) (pairs : Pairs) (device : ℕ) (extended : Bool) (plain out : List ℕ) where
  abbrev pub header : ℕ
  header = aps_length (get_or plain 0 0)

  pub data Sent : Secured → Type 0 where
    not-sent : (why : Refusal) → Sent (not_secured why out pairs)
    sent : (row : PairRow) (identifier : KeyIdentifier) → first (may_use device) (in_use pairs) ≡ Some row → identifier_for plain header ≡ Some identifier → header ≤ length plain
        → eqb row.outgoing spent ≡ false → Sent (aps_done s pairs device row identifier plain out header)

  pub securing : Sent (secure_aps s pairs device extended plain out)
  unfolding secure_aps
  securing =
      either Sent (not (eqb s.level 5) || (ltb 16 pairs.used || ltb 1006 (length plain))) (not-sent _)
      (either Sent (eqb (length plain) 0) (not-sent _)
      (either Sent (not (aps_taken (get_or plain 0 0)) || not (is_secured (get_or plain 0 0))) (not-sent _)
      (which Sent (ltb (length plain) header || (is_command (get_or plain 0 0) && ltb (length plain) (header + 1))) (λ cut. not-sent _)
      (λ t. keyed (ltb-false (length plain) header (nor (ltb (length plain) header) _ t)) (identifier_for plain header) refl))))
    where
      by_row : header ≤ length plain → (k : KeyIdentifier) → identifier_for plain header ≡ Some k → (r : Option PairRow) → first (may_use device) (in_use pairs) ≡ r
          → Sent (aps_sent s pairs device extended k plain out header r)
      by_row whole k chosen None e = not-sent _
      by_row whole k chosen (Some row) e =
          which Sent (eqb row.outgoing spent) (λ t. not-sent _) (λ usable.
          either Sent (not (is_command (get_or plain 0 0)) && not extended) (not-sent _)
          (either Sent (ltb (length out) (length plain + aps_added)) (not-sent _) (sent row k e chosen whole usable)))

      keyed : header ≤ length plain → (k : Option KeyIdentifier) → identifier_for plain header ≡ k → Sent (aps_keyed s pairs device extended plain out header k)
      keyed whole None e = not-sent _
      keyed whole (Some k) e = by_row whole k e (first (may_use device) (in_use pairs)) refl

-- The same for an advance.
module _ (pairs : Pairs) (device : ℕ) where
  pub data Advances : Advanced → Type 0 where
    not-advanced : (why : Refusal) → Advances (not_advanced why pairs)
    advances : (row : PairRow) → first (may_use device) (in_use pairs) ≡ Some row → eqb row.outgoing spent ≡ false
        → Advances (record { outcome = Ok tt; counter = row.outgoing; pairs = holding (at_first (may_use device) raised (in_use pairs)) pairs })

  pub advancing : Advances (advanced pairs device)
  unfolding advanced
  advancing = either Advances (ltb 16 pairs.used) (not-advanced _) (by_row (first (may_use device) (in_use pairs)) refl)
    where
      by_row : (r : Option PairRow) → first (may_use device) (in_use pairs) ≡ r → Advances (advanced_by pairs device r)
      by_row None e = not-advanced _
      by_row (Some row) e = which Advances (eqb row.outgoing spent) (λ t. not-advanced _) (λ usable. advances row e usable)
