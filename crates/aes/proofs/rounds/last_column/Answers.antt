-- `aes::rounds::last_column` meets its contract. Assumes nothing.
use mathlib.Core.Path.{ap, ◌∙◌}
use Prim.Native.Nat.{ℕ}
use mathlib.Core.List.{List, [], ◌∷◌}
use Rattle.laws.specs.Octets.{◌⊕◌}
use lib.ListN.{get_or}
use Rattle.tables.specs.Field.{sbox}
use Rattle.words.specs.Words.{bytes}
use Rattle.aes.specs.Schedule.{xor_word}
use Rattle.aes.proofs.rounds.last_column.Goals as goal

abbrev sub : ℕ → List ℕ → ℕ
sub j b = sbox (get_or b j 0)

pub returns : goal.returns
unfolding ◌⊕◌
returns c =
    let p = c.substituted.ensures ∙ ap (sub 0) c.to_le_bytes.ensures in
    let q = c.substituted-2.ensures ∙ ap (sub 1) c.to_le_bytes-2.ensures in
    let r = c.substituted-3.ensures ∙ ap (sub 2) c.to_le_bytes-3.ensures in
    let s = c.substituted-4.ensures ∙ ap (sub 3) c.to_le_bytes-4.ensures in
    let e = c.joined.ensures ∙ (λ i. p i ∷ q i ∷ r i ∷ s i ∷ []) in
    c.xored.ensures ∙ ap (λ (x : List ℕ). xor_word x (bytes c.args.key)) e
