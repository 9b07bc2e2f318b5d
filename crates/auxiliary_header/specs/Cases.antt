-- Document 01's cases P1 to P3. Assumes nothing.
use Rattle.std.specs.Prelude.{◌≡◌, refl, [], ◌∷◌}
use Rattle.laws.specs.Numbers.{low}
use Rattle.control.specs.Control.{filled, sent}
use Rattle.auxiliary_header.specs.Nonce.{nonce_of}
use Rattle.control.specs.declared.KeyIdentifier.TheVariants.{Link, Network, Transport, Load}

-- NWK control sent, filled
pub p1 : (sent Network ≡ 0x28) × (filled (sent Network) 5 ≡ 0x2D)
p1 = (refl, refl)

-- APS data, transport, load sent
pub p2 : (sent Link ≡ 0x20) × (sent Transport ≡ 0x30) × (sent Load ≡ 0x38)
p2 = (refl, refl, refl)

-- the nonce of sender 0x0011223344556677, counter 5, 0x2D
pub p3 : nonce_of 0x0011223344556677 5 0x2D ≡ 0x77 ∷ 0x66 ∷ 0x55 ∷ 0x44 ∷ 0x33 ∷ 0x22 ∷ 0x11 ∷ 0x00 ∷ 0x05 ∷ 0x00 ∷ 0x00 ∷ 0x00 ∷ 0x2D ∷ []
unfolding nonce_of low
p3 = refl
