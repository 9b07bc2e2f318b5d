-- The rule of a table leaves one table of its length. Assumes nothing.
use Rattle.std.specs.Prelude.{◌≡◌, List, ℕ, ◌/◌, ◌%◌, ◌<◌, length, get_or}
use Rattle.std.proofs.Common.{sym, ap, ◌∙◌, arith}
use Rattle.std.proofs.Math.Nat.{div-add-mod}
use Rattle.aes.proofs.Lists.{list_same, list-get_or}
use Rattle.tables.specs.Rounds.{IsSubstitution, IsRound}

-- two lists of n elements that agree at each place are the same
same_entries : (t u : List ℕ) (n : ℕ) → length t ≡ n → length u ≡ n → ((j : ℕ) → j < n → get_or t j 0 ≡ get_or u j 0) → t ≡ u
same_entries t u n h l e = sym (list-get_or t n h) ∙ list_same (λ j. get_or t j 0) (λ j. get_or u j 0) n e ∙ list-get_or u n l

pub same_substitution : (t u : List ℕ) → length t ≡ 256 → length u ≡ 256 → IsSubstitution t → IsSubstitution u → t ≡ u
same_substitution t u h l r s = same_entries t u 256 h l (λ j b. r j b ∙ sym (s j b))

pub same_round : (t u : List ℕ) → length t ≡ 2048 → length u ≡ 2048 → IsRound t → IsRound u → t ≡ u
same_round t u h l r s = same_entries t u 2048 h l each
  where
    each : (j : ℕ) → j < 2048 → get_or t j 0 ≡ get_or u j 0
    each j b =
        let k : j / 8 < 256 = omega arith in
        let i : j % 8 < 8 = omega arith in
        let at = div-add-mod j 8 in
        ap (λ (n : ℕ). get_or t n 0) (sym at) ∙ r (j / 8) (j % 8) k i ∙ sym (s (j / 8) (j % 8) k i) ∙ ap (λ (n : ℕ). get_or u n 0) at
