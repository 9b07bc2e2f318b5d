-- Two APS frames as they go on the air, commands without payload under the trust centre link key: what they claim, and that their tags are right,
-- computed by AES and CCM as they are defined. Assumes nothing.
use Rattle.std.specs.Prelude.{◌≡◌, refl, true, Ok, None, Some}
use Rattle.laws.specs.Octets.{same, ◌⊕◌}
use Rattle.laws.specs.Blocks.{blocks, cut}
use Rattle.laws.specs.Numbers.{low, field, value, bit}
use Rattle.tables.specs.Field.{sbox, mul, round_constant}
use Rattle.aes.specs.Cipher.{cipher}
use Rattle.aes.specs.Schedule.{key_expansion}
use Rattle.ccm.specs.Ccm.{vouched, vouched_from, tag_from, chain, counted, head, head_blocks, stream}
use Rattle.ccm.specs.Frame.{vouched_frame}
use Rattle.auxiliary_header.specs.Nonce.{nonce_of}
use Rattle.auxiliary_header.specs.Auxiliary.{auxiliary_at}
use Rattle.control.specs.Control.{has_sender, has_number, identifier_of}
use Rattle.frame_header.specs.Aps.{aps_of, aps_taken, aps_length}
use Rattle.answer.specs.declared.Refusal.TheVariants.{CounterRepeated}
use Rattle.cells.specs.Rows.{leave}
use Rattle.aib.specs.Pairs.{new_pair, trust_center_link_key}
use Rattle.claims.specs.declared.Who.TheVariants as who
use Rattle.claims.specs.Claims.{aps_who}
use Rattle.protection.specs.Heard.{refused}
use Rattle.protection.specs.Keys.{key_for}
use Rattle.protection.specs.Protection.{vouches}
use Rattle.aps.specs.OpenAps.{aps_judged}
use Rattle.needed_aps.specs.OnAir.{one, other, from_one, from_other, claim_from, opens_new}

pub one-vouches : vouches trust_center_link_key one 5 2 15 from_one ≡ true
unfolding vouches vouched_frame vouched vouched_from same tag_from ◌⊕◌ chain blocks cut counted head head_blocks stream cipher key_expansion sbox round_constant mul nonce_of low
one-vouches = refl

pub other-vouches : vouches trust_center_link_key other 5 2 15 from_other ≡ true
unfolding vouches vouched_frame vouched vouched_from same tag_from ◌⊕◌ chain blocks cut counted head head_blocks stream cipher key_expansion sbox round_constant mul nonce_of low
other-vouches = refl

pub one-claims : aps_who from_one ≡ Ok (who.Claims (claim_from one))
unfolding aps_who aps_of aps_taken aps_length auxiliary_at has_sender has_number identifier_of field value bit
one-claims = refl

pub other-claims : aps_who from_other ≡ Ok (who.Claims (claim_from other))
unfolding aps_who aps_of aps_taken aps_length auxiliary_at has_sender has_number identifier_of field value bit
other-claims = refl

pub one-opens : aps_judged (claim_from one) None from_one ≡ opens_new one from_one
unfolding aps_judged key_for identifier_of
one-opens = rw one-vouches

pub other-opens : aps_judged (claim_from other) None from_other ≡ opens_new other from_other
unfolding aps_judged key_for identifier_of
other-opens = rw other-vouches

-- a second copy is refused
pub one_again : aps_judged (claim_from one) (Some (new_pair 5)) from_one ≡ leave (refused CounterRepeated from_one)
unfolding aps_judged
one_again = refl
