-- `ccm::calls::seal` meets its contract: where the checks pass, they give what sealing the frame asks. Assumes nothing.
use Rattle.std.proofs.Common.{sym, ◌∙◌}
use Rattle.ccm.proofs.Fitting.{fits}
use Rattle.ccm.proofs.calls.seal.Goals as goal

pub invariant_of-cipher : goal.invariant_of-cipher
invariant_of-cipher c = record { tag_taken = (fits _ _ _ _ (sym c.fits.ensures ∙ c.in_ok-fits.was)).tag }

pub seal_frame-requires : goal.seal_frame-requires
seal_frame-requires c = (fits _ _ _ _ (sym c.fits.ensures ∙ c.in_ok-fits.was)).whole
