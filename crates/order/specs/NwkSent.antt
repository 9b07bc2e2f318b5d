-- What a securing of NWK comes to: a refusal, or a finished frame. Assumes nothing.
use Rattle.std.specs.Prelude.{◌≡◌, ◌||◌, List, ℕ, ◌+◌, ◌≤◌, eqb, length, is_some, Ok}
use Rattle.std.proofs.Math.Bool.{true, not}
use Rattle.std.proofs.Math.Dec.{leb, ltb}
use Rattle.std.proofs.Common.{leb-true}
use Rattle.answer.specs.declared.Refusal.{Refusal}
use Rattle.laws.specs.Numbers.{bit}
use Rattle.cells.specs.ListLaws.{either, not-not, which}
use Rattle.frame_header.specs.Nwk.{nwk_control, nwk_kind, nwk_kind_number, nwk_length, nwk_of}
use Rattle.nib.specs.declared.outgoing.Outgoing.{Outgoing}
use Rattle.nib.specs.Keys.{key_found}
use Rattle.nib.specs.Sending.{may_use}
use Rattle.nib.specs.declared.state.Nwk.{Nwk}
use Rattle.securing.specs.SecureNwk.{Secured, not_secured, nwk_added, nwk_done, nwk_framed, secure_nwk}

module _ (s : Nwk) (o : Outgoing) (plain out : List ℕ) where
  pub data Sent : Secured → Type 0 where
    not-sent : (why : Refusal) → Sent (not_secured why out o)
    sent : nwk_length plain ≤ length plain → may_use o ≡ true → Sent (nwk_done s o plain out (nwk_length plain))

  pub securing : Sent (secure_nwk s o plain out)
  unfolding secure_nwk nwk_of
  securing =
      either Sent (not (eqb s.level 5) || (ltb 2 s.keys.used || ltb 1006 (length plain))) (not-sent _)
      (which (λ r. Sent (nwk_framed s o plain out r)) (leb (nwk_length plain) (length plain)) framed (λ cut. not-sent _))
    where
      framed : leb (nwk_length plain) (length plain) ≡ true
          → Sent (nwk_framed s o plain out (Ok (record { len = nwk_length plain; kind = nwk_kind (nwk_control plain); secured = bit 9 (nwk_control plain) })))
      framed whole =
          either Sent (leb 2 (nwk_kind_number (nwk_kind (nwk_control plain))) || not (bit 9 (nwk_control plain))) (not-sent _)
          (either Sent (not (is_some (key_found s.keys s.active))) (not-sent _)
          (which Sent (not (may_use o)) (λ t. not-sent _) (λ usable.
          either Sent (ltb (length out) (length plain + nwk_added)) (not-sent _) (sent (leb-true _ _ whole) (not-not _ usable)))))
