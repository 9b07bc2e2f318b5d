-- NWK frames as they go on the air, without payload: what they claim, and that their tags are right, computed by AES and CCM as they
-- are defined. Assumes nothing.
use Rattle.std.specs.Prelude.{◌≡◌, refl, true, [], ◌∷◌, ℕ, Ok, None, Some}
use Rattle.laws.specs.Octets.{same, ◌⊕◌}
use Rattle.laws.specs.Blocks.{blocks, cut}
use Rattle.laws.specs.Numbers.{low, field, value, bit}
use Rattle.tables.specs.Field.{sbox, mul, round_constant}
use Rattle.aes.specs.Cipher.{cipher}
use Rattle.aes.specs.Schedule.{key_expansion}
use Rattle.ccm.specs.Ccm.{vouched, vouched_from, tag_from, chain, counted, head, head_blocks, stream}
use Rattle.ccm.specs.Frame.{vouched_frame}
use Rattle.auxiliary_header.specs.Nonce.{nonce_of}
use Rattle.auxiliary_header.specs.Auxiliary.{auxiliary_at}
use Rattle.control.specs.Control.{has_sender, has_number, identifier_of}
use Rattle.frame_header.specs.Nwk.{nwk_of, nwk_length, nwk_fixed}
use Rattle.answer.specs.declared.Refusal.TheVariants.{CounterRepeated}
use Rattle.cells.specs.Rows.{leave}
use Rattle.nib.specs.declared.keys.NetworkKeys.{NetworkKeys}
use Rattle.nib.specs.Counters.{counting}
use Rattle.claims.specs.declared.Who.TheVariants as who
use Rattle.claims.specs.Claims.{nwk_who}
use Rattle.protection.specs.Heard.{refused}
use Rattle.protection.specs.Protection.{vouches}
use Rattle.judging.specs.OpenNwk.{nwk_judged}
use Rattle.needed.specs.OnAir.{key, sender, frame_under, under_zero, under_two, under_three, under_nine, claim_under, opens_fresh, Has}

pub zero-vouches : vouches key sender 5 8 22 under_zero ≡ true
unfolding vouches vouched_frame vouched vouched_from same tag_from ◌⊕◌ chain blocks cut counted head head_blocks stream cipher key_expansion sbox round_constant mul nonce_of low
zero-vouches = refl

pub two-vouches : vouches key sender 5 8 22 under_two ≡ true
unfolding vouches vouched_frame vouched vouched_from same tag_from ◌⊕◌ chain blocks cut counted head head_blocks stream cipher key_expansion sbox round_constant mul nonce_of low
two-vouches = refl

pub three-vouches : vouches key sender 5 8 22 under_three ≡ true
unfolding vouches vouched_frame vouched vouched_from same tag_from ◌⊕◌ chain blocks cut counted head head_blocks stream cipher key_expansion sbox round_constant mul nonce_of low
three-vouches = refl

pub nine-vouches : vouches key sender 5 8 22 under_nine ≡ true
unfolding vouches vouched_frame vouched vouched_from same tag_from ◌⊕◌ chain blocks cut counted head head_blocks stream cipher key_expansion sbox round_constant mul nonce_of low
nine-vouches = refl

pub claims-under : (n a b c d : ℕ) (keys : NetworkKeys) → Has keys n → nwk_who keys (frame_under n (a ∷ b ∷ c ∷ d ∷ [])) ≡ Ok (who.Claims (claim_under n))
unfolding nwk_who nwk_of nwk_length nwk_fixed auxiliary_at has_sender has_number identifier_of field value bit
claims-under n a b c d keys h = rw h

pub opens-under : (n a b c d : ℕ) (keys : NetworkKeys) → Has keys n → (let frame = frame_under n (a ∷ b ∷ c ∷ d ∷ []) in
    vouches key sender 5 8 22 frame ≡ true → nwk_judged keys (claim_under n) None frame ≡ opens_fresh frame)
unfolding nwk_judged
opens-under n a b c d keys h v = rw (h, v)

pub two-claims : (keys : NetworkKeys) → Has keys 2 → nwk_who keys under_two ≡ Ok (who.Claims (claim_under 2))
two-claims = claims-under 2 _ _ _ _

pub three-claims : (keys : NetworkKeys) → Has keys 3 → nwk_who keys under_three ≡ Ok (who.Claims (claim_under 3))
three-claims = claims-under 3 _ _ _ _

pub two-opens : (keys : NetworkKeys) → Has keys 2 → nwk_judged keys (claim_under 2) None under_two ≡ opens_fresh under_two
two-opens keys h = opens-under 2 _ _ _ _ keys h two-vouches

pub three-opens : (keys : NetworkKeys) → Has keys 3 → nwk_judged keys (claim_under 3) None under_three ≡ opens_fresh under_three
three-opens keys h = opens-under 3 _ _ _ _ keys h three-vouches

-- a second copy is refused
pub two-again : (keys : NetworkKeys) → nwk_judged keys (claim_under 2) (Some (counting 5)) under_two ≡ leave (refused CounterRepeated under_two)
unfolding nwk_judged
two-again keys = refl
