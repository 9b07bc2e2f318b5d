-- `input::read_full` meets its contract. Assumes nothing.
use Rattle.std.proofs.Common.{◌≡◌, ℕ, ◌+◌, ◌-◌, ◌≤◌, List, ◌++◌, length, take, sym, ap, ◌∙◌, subst, rules, length-take-le}
use Rattle.std.proofs.lemmas.List.{take-append-le}
use Rattle.std.proofs.Math.Seq.{take-append-add}
use Rattle.std.proofs.KnownBytes.{Consumes-trans}
use Rattle.std.specs.Io.KnownBytes.{Consumes}
use borrow.Rule.Slice.PartMut.{put_mid, post_of}
use Rattle.input.proofs.read_full.Goals as goal

-- n bytes more, read past the first a
read-past : (a k n : ℕ) (xs ys : List ℕ) → a ≤ length xs → n ≤ length ys → take (a + n) (put_mid a k xs ys) ≡ take a xs ++ take n ys
read-past a k n xs ys h g =
    ap (λ m. take (m + n) (put_mid a k xs ys)) (sym (length-take-le a xs h))
    ∙ take-append-add (take a xs) (ys ++ post_of a k xs) n
    ∙ ap (λ l. take a xs ++ l) (take-append-le n ys (post_of a k xs) g)

pub loop-preserved : goal.loop-preserved
loop-preserved g c =
    let l = c.loop in
    let r = c.in_ok-more in
    let e = r.ensures in (
      search rules,
      search rules,
      subst (Consumes _ _) (sym (read-past l.count (length l.space - l.count) r.more l.space c.read.new.buf l.invariant.0 e.bound.0)) (Consumes-trans _ _ _ _ _ l.invariant.2 e.bytes.0),
    )
