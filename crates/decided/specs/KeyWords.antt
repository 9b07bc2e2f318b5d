-- Words are told by their bytes: an array of 44 numbers of 32 bits with given bytes is one, and so are a word and a state of four. Assumes nothing.
use Rattle.std.specs.Prelude.{◌≡◌, List, ℕ, ◌^◌, ◌<◌, length, get_or}
use Rattle.std.proofs.Common.{sym, ap, ◌∙◌}
use Rattle.words.specs.declared.State.{State}
use Rattle.words.specs.Words.{bytes, word_of, block_of}
use Rattle.words.proofs.WordLaws.{bytes_word}
use Rattle.aes.specs.Schedule.{word_at}
use Rattle.aes.specs.Words.{key_bytes}
use Rattle.aes.proofs.Lists.{list_same, list-get_or}
use Rattle.aes.proofs.RoundKeys.{key-at}

-- what the type `[u32; 44]` says of a list of numbers
pub record Words (w : List ℕ) : Type 0 where
  pub many : length w ≡ 44
  pub small : (j : ℕ) → j < 44 → get_or w j 0 < 2 ^ 32

pub same_word : (v w : ℕ) → v < 2 ^ 32 → w < 2 ^ 32 → bytes v ≡ bytes w → v ≡ w
same_word v w h l e =
    (bytes_word v h).is
    ∙ ap (λ (b : List ℕ). word_of (get_or b 0 0) (get_or b 1 0) (get_or b 2 0) (get_or b 3 0)) e
    ∙ sym (bytes_word w l).is

pub same-words : (v w : List ℕ) → Words v → Words w → key_bytes v ≡ key_bytes w → v ≡ w
same-words v w h l e =
    sym (list-get_or v 44 h.many)
    ∙ list_same (λ j. get_or v j 0) (λ j. get_or w j 0) 44
    (λ j b. same_word _ _ (h.small j b) (l.small j b) (sym (key-at v j b) ∙ ap (λ (k : List ℕ). word_at k j) e ∙ key-at w j b))
    ∙ list-get_or w 44 l.many

-- what the type `State` says of its four words
pub record Small (s : State) : Type 0 where
  pub small-a : s.a < 2 ^ 32
  pub small_b : s.b < 2 ^ 32
  pub small-c : s.c < 2 ^ 32
  pub small-d : s.d < 2 ^ 32

pub same-state : (s t : State) → Small s → Small t → block_of s ≡ block_of t → s ≡ t
same-state s t h l e = λ i. record {
  a = same_word _ _ h.small-a l.small-a (ap (λ (x : List ℕ). word_at x 0) e) i;
  b = same_word _ _ h.small_b l.small_b (ap (λ (x : List ℕ). word_at x 1) e) i;
  c = same_word _ _ h.small-c l.small-c (ap (λ (x : List ℕ). word_at x 2) e) i;
  d = same_word _ _ h.small-d l.small-d (ap (λ (x : List ℕ). word_at x 3) e) i;
}
