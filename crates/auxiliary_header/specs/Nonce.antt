-- The nonce (document 01, Protection; ZB 4.5.2.2, figure 4-20): sender (8), counter (4), control byte with the level filled in.
use Rattle.std.specs.Prelude.{List, [], ◌∷◌, ◌++◌, ℕ}
use Rattle.laws.specs.Numbers.{low}

unfoldable pub nonce_of : ℕ → ℕ → ℕ → List ℕ
nonce_of sender counter control = low 8 sender ++ (low 4 counter ++ (control ∷ []))
