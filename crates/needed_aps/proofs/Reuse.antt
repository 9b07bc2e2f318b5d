-- WHAT DOES NOT HOLD: no nonce twice under one KEY of APS. Two devices that were heard for the first time both have the trust centre link key, and
-- both start at outgoing 0 (document 01, 'Opening APS'). So the first frame that is secured to the one and the first to the other go out under one
-- key and one nonce: here the same plain frame gives the same octets. What holds is said of each pair row (crate `order`, proofs/Nonces.antt).
-- Assumes nothing.
use Rattle.std.specs.Prelude.{Ok, ◌≡◌, refl, true, List, [], ◌∷◌, ℕ, replicate}
use Rattle.answer.specs.declared.Accepted.TheVariants.{Done}
use Rattle.laws.specs.Numbers.{bit}
use Rattle.cells.specs.First.{first, at_first}
use Rattle.frame_header.specs.Aps.{aps_taken, aps_length}
use Rattle.aib.specs.Pairs.{new_row}
use Rattle.aps.specs.SecureAps.{aps_on_air, secure_aps}
use Rattle.order.specs.Aps.{Gateway}
use Rattle.order.specs.ApsSteps.{securing, secured, after_step, nonce_used}

-- the rows as two openings leave them, of the devices 1 and 2 with counters that are 9 both
abbrev gateway : Gateway
gateway = record { aps = record { level = 5; own = 7 }; pairs = record { rows = new_row 1 9 ∷ new_row 2 9 ∷ replicate 14 (new_row 0 0); used = 2 } }

-- a command, and an output buffer
abbrev plain : List ℕ
plain = 0x21 ∷ 0x00 ∷ 0x20 ∷ []

abbrev out : List ℕ
out = replicate 20 0

-- the gateway after the frame to device 1
abbrev later : Gateway
later = after_step gateway (securing 1 true plain out)

-- both are done, under the same nonce, and the same octets go out
pub same-nonce-twice : ((secured gateway 1 true plain out).answer ≡ Ok (Done 0 20)) × ((secured later 2 true plain out).answer ≡ Ok (Done 0 20))
    × (nonce_used 1 gateway (securing 1 true plain out) ≡ nonce_used 2 later (securing 2 true plain out))
    × ((secured gateway 1 true plain out).out ≡ (secured later 2 true plain out).out)
unfolding secure_aps first at_first aps_taken aps_length bit aps_on_air
same-nonce-twice = (refl, refl, refl, refl)
