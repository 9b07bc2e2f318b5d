-- `mmo::padding::pad` meets its contract: a long message's length in four octets. Assumes nothing.
use Rattle.std.proofs.Common.{◌≡◌, ℕ, List, [], ◌∷◌, ◌++◌, ◌+◌, ◌-◌, ◌*◌, ◌/◌, ◌%◌, length, replicate, get_or, ap, ◌∙◌, arith}
use Rattle.mmo.proofs.PaddingLaws.{long_made}
use Rattle.mmo.proofs.padding.pad.Goals as goal

pub returns : goal.returns
returns c =
    let s = c.args.s.now in
    let total = c.args.total in
    let k = 8 * total in
    let z = (length s + 6 + 16) / 16 * 16 - (length s + 1 + 6) in
    let high : k / 16777216 ≡ k / 65536 / 256 = omega arith in
    let octets = ap (λ (b : List ℕ). get_or b 0 0 ∷ get_or b 1 0 ∷ get_or b 2 0 ∷ get_or b 3 0 ∷ 0 ∷ 0 ∷ []) c.to_be_bytes.ensures in
    let lowered = ap (λ (h : ℕ). h % 256 ∷ k / 65536 % 256 ∷ k / 256 % 256 ∷ k % 256 ∷ 0 ∷ 0 ∷ []) high in
    c.closed-2.ensures
    ∙ ap (λ (r : List ℕ). s ++ (0x80 ∷ (replicate z 0 ++ r))) (octets ∙ lowered)
    ∙ ap (λ (r : List ℕ). s ++ r) (long_made total z c.if-total-lt8192.false (omega (arith, c.requires.1)))
