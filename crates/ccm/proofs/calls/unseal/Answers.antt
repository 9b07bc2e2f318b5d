-- `ccm::calls::unseal` meets its contract: where the checks pass, they give what opening the frame asks. Assumes nothing.
use Rattle.std.proofs.Common.{sym, ◌∙◌}
use Rattle.std.proofs.lemmas.Result.{err_from_is_err_and}
use Rattle.ccm.specs.Frame.{unsealing}
use Rattle.ccm.proofs.Fitting.{fits}
use Rattle.ccm.proofs.calls.unseal.Goals as goal

pub returns-in_err-fits-clause-value : goal.returns-in_err-fits-clause-value
unfolding unsealing
returns-in_err-fits-clause-value c =
    let p = err_from_is_err_and c.from_residual.result c.from_residual.ensures.1 in
    rw (p.1, p.2, ← c.fits.ensures, c.in_err-fits.was)

pub invariant_of-cipher : goal.invariant_of-cipher
invariant_of-cipher c = record { tag_taken = (fits _ _ _ _ (sym c.fits.ensures ∙ c.in_ok-fits.was)).tag }

pub open_frame-requires-clause-n_bound : goal.open_frame-requires-clause-n_bound
open_frame-requires-clause-n_bound c = (fits _ _ _ _ (sym c.fits.ensures ∙ c.in_ok-fits.was)).payload

pub open_frame-requires-clause-room : goal.open_frame-requires-clause-room
open_frame-requires-clause-room c = (fits _ _ _ _ (sym c.fits.ensures ∙ c.in_ok-fits.was)).whole

pub returns-then-open_frame-clause-value : goal.returns-then-open_frame-clause-value
unfolding unsealing
returns-then-open_frame-clause-value c = rw (← c.fits.ensures, c.in_ok-fits.was, ← c.open_frame.ensures.value, c.if-open_frame.true)

pub returns-else-open_frame-clause-value : goal.returns-else-open_frame-clause-value
unfolding unsealing
returns-else-open_frame-clause-value c = rw (← c.fits.ensures, c.in_ok-fits.was, ← c.open_frame.ensures.value, c.if-open_frame.false)
