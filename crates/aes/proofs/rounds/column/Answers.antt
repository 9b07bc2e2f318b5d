-- `aes::rounds::column` meets its contract: the four columns added are the rows of MixColumns, by computation. Assumes nothing.
use mathlib.Core.Path.{ap, ap₂, ◌∙◌}
use mathlib.Core.List.{List}
use Prim.Native.Nat.{ℕ}
use Rattle.laws.specs.Octets.{◌⊕◌}
use lib.ListN.{get_or}
use Rattle.laws.specs.Parts.{listed}
use Rattle.tables.specs.Field.{sbox}
use Rattle.tables.specs.Rounds.{products, twice}
use Rattle.words.specs.Words.{bytes}
use Rattle.aes.specs.Schedule.{xor_word}
use Rattle.aes.proofs.rounds.column.Goals as goal

-- two words added
abbrev sum : List ℕ → List ℕ → List ℕ
sum x y = xor_word x y

-- four bytes of the entry for byte j, from the i-th on
abbrev made : ℕ → ℕ → List ℕ → List ℕ
made j i b = listed 4 i (twice (products (sbox (get_or b j 0))))

pub returns : goal.returns
unfolding ◌⊕◌
returns c =
    let p = c.entry-p.ensures ∙ ap (made 0 0) c.to_le_bytes.ensures in
    let q = c.entry-q.ensures ∙ ap (made 1 3) c.to_le_bytes-2.ensures in
    let r = c.entry-r.ensures ∙ ap (made 2 2) c.to_le_bytes-3.ensures in
    let s = c.entry-s.ensures ∙ ap (made 3 1) c.to_le_bytes-4.ensures in
    let e1 = c.xored.ensures ∙ ap₂ sum p q in
    let e2 = c.xored-2.ensures ∙ ap₂ sum e1 r in
    let e3 = c.xored-3.ensures ∙ ap₂ sum e2 s in
    c.xored-4.ensures ∙ ap (λ (x : List ℕ). sum x (bytes c.args.key)) e3
