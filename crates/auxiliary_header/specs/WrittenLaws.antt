-- Octets written with room and without. Assumes nothing.
use Rattle.std.specs.Prelude.{◌≡◌, Ok, Err, List, ◌++◌, ℕ, ◌+◌, ◌≤◌, ◌<◌, take, drop}
use Rattle.std.proofs.Common.{sym, ◌∙◌, append_assoc, le-leb}
use Rattle.std.proofs.lemmas.Bool.{lt-leb}
use Rattle.std.proofs.Math.ListN.{length}
use Rattle.std.proofs.lemmas.List.Edits.{sets, sets-eq}
use Rattle.answer.specs.declared.Refusal.TheVariants.{NoRoom}
use Rattle.auxiliary_header.specs.Written.{written, outcome_of}

module _ (out : List ℕ) (at : ℕ) (octets : List ℕ) where
  pub refused : length out < at + length octets → outcome_of out at octets ≡ Err NoRoom
  unfolding outcome_of
  refused h = rw (lt-leb (at + length octets) (length out) h)

  pub unchanged : length out < at + length octets → written out at octets ≡ out
  unfolding written
  unchanged h = rw (lt-leb (at + length octets) (length out) h)

  pub done : at + length octets ≤ length out → outcome_of out at octets ≡ Ok tt
  unfolding outcome_of
  done h = rw (le-leb (at + length octets) (length out) h)

  pub put : at + length octets ≤ length out → written out at octets ≡ take at out ++ (octets ++ drop (at + length octets) out)
  unfolding written
  put h = rw (le-leb (at + length octets) (length out) h)

  pub stored : at + length octets ≤ length out → sets out at octets ≡ written out at octets
  stored h = sets-eq octets out at h ∙ append_assoc (take at out) octets (drop (at + length octets) out) ∙ sym (put h)
