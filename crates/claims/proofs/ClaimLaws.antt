-- A frame that claims to be somebody's is of a size that is taken, and its auxiliary header lies within it. Assumes nothing.
use mathlib.Core.Path.{◌≡◌}
use mathlib.Core.List.{List}
use Prim.Native.Nat.{ℕ, ◌≤◌, ◌<◌}
use native.Mathlib.Omega.{arith}
use lib.ListN.{length}
use Rattle.std.specs.Prelude.{Ok}
use Rattle.std.proofs.lemmas.Grind.{common_steps}
use Rattle.nib.specs.declared.keys.NetworkKeys.{NetworkKeys}
use Rattle.claims.specs.declared.Claim.{Claim}
use Rattle.claims.specs.declared.Who.TheVariants.{Claims}
use Rattle.claims.specs.Claims.{nwk_who, aps_who}
use Rattle.claims.proofs.Within.{auxiliary_within}

-- what a claim says of the frame b
pub record Sized (c : Claim) (b : List ℕ) : Type 0 where
  pub inside : c.at < c.payload
  pub whole : c.payload ≤ length b
  pub taken : length b ≤ 1024

module _ (c : Claim) (b : List ℕ) where
  pub nwk-claim : (keys : NetworkKeys) → nwk_who keys b ≡ Ok (Claims c) → Sized c b
  unfolding nwk_who
  nwk-claim keys e = record {
    inside = grind (arith, common_steps, auxiliary_within);
    whole = grind (arith, common_steps, auxiliary_within);
    taken = grind (arith, common_steps);
  }

  pub aps-claim : aps_who b ≡ Ok (Claims c) → Sized c b
  unfolding aps_who
  aps-claim e = record {
    inside = grind (arith, common_steps, auxiliary_within);
    whole = grind (arith, common_steps, auxiliary_within);
    taken = grind (arith, common_steps);
  }
