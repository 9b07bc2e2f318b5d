-- A nonce tells its sender, counter and control byte. Assumes nothing.
use Rattle.std.specs.Prelude.{◌≡◌, refl, [], ◌∷◌, ◌++◌, ℕ, ◌^◌, ◌<◌, get_or}
use Rattle.laws.specs.Numbers.{low, field}
use Rattle.laws.specs.NumberLaws.{low-length, field-low}
use Rattle.auxiliary_header.specs.Nonce.{nonce_of}

-- the fields are read back
pub sender-in : (sender counter control : ℕ) → sender < 2 ^ 64 → field (nonce_of sender counter control) 0 8 ≡ sender
unfolding nonce_of
sender-in sender counter control h = field-low [] (low 4 counter ++ (control ∷ [])) 0 8 sender refl h

pub counter-in : (sender counter control : ℕ) → counter < 2 ^ 32 → field (nonce_of sender counter control) 8 4 ≡ counter
unfolding nonce_of
counter-in sender counter control h = field-low (low 8 sender) (control ∷ []) 8 4 counter (low-length 8 sender) h

pub control-in : (sender counter control : ℕ) → get_or (nonce_of sender counter control) 12 0 ≡ control
unfolding nonce_of low
control-in sender counter control = refl
