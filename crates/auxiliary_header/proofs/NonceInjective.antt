-- Two nonces of different fields are different. Assumes nothing.
use Rattle.std.specs.Prelude.{◌≡◌, List, ℕ, ◌^◌, ◌<◌, get_or}
use Rattle.std.proofs.Common.{sym, ap, ◌∙◌}
use Rattle.laws.specs.Numbers.{field}
use Rattle.auxiliary_header.specs.Nonce.{nonce_of}
use Rattle.auxiliary_header.specs.NonceLaws.{sender-in, counter-in, control-in}

-- one nonce, one sender, counter and control byte
pub nonce-injective : (sender sender' counter counter' control control' : ℕ) → sender < 2 ^ 64 → sender' < 2 ^ 64 → counter < 2 ^ 32 → counter' < 2 ^ 32
    → nonce_of sender counter control ≡ nonce_of sender' counter' control' → (sender ≡ sender') × (counter ≡ counter') × (control ≡ control')
nonce-injective sender sender' counter counter' control control' s s' c c' e = (
  sym (sender-in sender counter control s) ∙ ap (λ (n : List ℕ). field n 0 8) e ∙ sender-in sender' counter' control' s',
  sym (counter-in sender counter control c) ∙ ap (λ (n : List ℕ). field n 8 4) e ∙ counter-in sender' counter' control' c',
  sym (control-in sender counter control) ∙ ap (λ (n : List ℕ). get_or n 12 0) e ∙ control-in sender' counter' control',
)
