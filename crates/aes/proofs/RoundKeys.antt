-- Round keys held as words: the bytes of each, and a turn of the key schedule's loop. Assumes nothing.
use mathlib.Core.Path.{◌≡◌, refl, sym, ap, ap₂, ◌∙◌}
use mathlib.Core.Bool.{Bool}
use mathlib.Core.List.{List, ◌++◌, append_assoc}
use Prim.Native.Nat.{ℕ, zero, suc, ◌+◌, ◌-◌, ◌*◌, ◌/◌, ◌%◌, ◌≤◌, ◌<◌}
use native.Mathlib.Nat.{le-suc, le_trans, eq-or-lt_of_le, le_of_suc-le-suc, not-suc-le-zero}
use native.Mathlib.Omega.{arith}
use native.Mathlib.Numerals.{add-one, add-two, add-three, add-four}
use mathlib.Core.Logic.{⊎_elim}
use lib.Dec.{eqb}
use lib.ListN.{length, set, get_or, length-append, length-set, get_or-append}
use lib.Seq.{get_or-append-add, get_or-set_same, get_or-set_other}
use borrow.Author.Tests.{eq-eqb, ne_eqb}
use Rattle.aes.specs.Schedule.{word_at, xor_word, rot_word, sub_word, rcon, pick_word, next_word, schedule}
use Rattle.words.specs.Words.{bytes, four}
use Rattle.aes.specs.Words.{word_bytes, key_bytes}
use Rattle.aes.proofs.Lists.{list_same}

pub word_bytes-length : (w : List ℕ) (n : ℕ) → length (word_bytes w n) ≡ 4 * n
unfolding word_bytes
word_bytes-length w zero = refl
word_bytes-length w (suc n) = omega (arith, length-append (word_bytes w n) (bytes (get_or w n 0)), word_bytes-length w n)

byte_at : (w : List ℕ) (n j r : ℕ) → j < n → r < 4 → get_or (word_bytes w n) (4 * j + r) 0 ≡ get_or (bytes (get_or w j 0)) r 0
unfolding word_bytes
byte_at w zero j r h l = absurd (not-suc-le-zero h)
byte_at w (suc n) j r h l =
    let m : length (word_bytes w n) ≡ 4 * n = word_bytes-length w n in
    ⊎_elim
    (λ e.
    let k : 4 * j + r ≡ length (word_bytes w n) + r = omega arith in
    ap (λ (x : ℕ). get_or (word_bytes w (suc n)) x 0) k ∙ get_or-append-add (word_bytes w n) (bytes (get_or w n 0)) r 0 ∙ ap (λ (x : ℕ). get_or (bytes (get_or w x 0)) r 0) (sym e))
    (λ b. get_or-append (word_bytes w n) (bytes (get_or w n 0)) 0 (4 * j + r) (omega arith) ∙ byte_at w n j r b l)
    (eq-or-lt_of_le (le_of_suc-le-suc h))

word-at : (w : List ℕ) (n j : ℕ) → j < n → word_at (word_bytes w n) j ≡ bytes (get_or w j 0)
word-at w n j h = list_same (λ r. get_or (word_bytes w n) (4 * j + r) 0) (λ r. get_or (bytes (get_or w j 0)) r 0) 4 (λ r l. byte_at w n j r h l)

pub key-at : (w : List ℕ) (j : ℕ) → j < 44 → word_at (key_bytes w) j ≡ bytes (get_or w j 0)
unfolding key_bytes
key-at w j h = word-at w 44 j h

stored : (w : List ℕ) (n m v : ℕ) → n ≤ m → word_bytes (set w m v) n ≡ word_bytes w n
unfolding word_bytes
stored w zero m v h = refl
stored w (suc n) m v h = ap₂ (λ (x : List ℕ) (y : ℕ). x ++ bytes y) (stored w n m v (le_trans (le-suc n) h)) (get_or-set_other w m n v 0 (omega arith))

-- a store of the next word
stored_next : (w : List ℕ) (n v : ℕ) → n < length w → word_bytes (set w n v) (suc n) ≡ word_bytes w n ++ bytes v
unfolding word_bytes
stored_next w n v h = ap₂ (λ (x : List ℕ) (y : ℕ). x ++ bytes y) (stored w n n v (omega arith)) (get_or-set_same w n v 0 h)

append-four : (x a b c d : List ℕ) → (((x ++ a) ++ b) ++ c) ++ d ≡ x ++ (((a ++ b) ++ c) ++ d)
append-four x a b c d =
    append_assoc ((x ++ a) ++ b) c d ∙ append_assoc (x ++ a) b (c ++ d) ∙ append_assoc x a (b ++ (c ++ d))
    ∙ ap (λ (y : List ℕ). x ++ y) (sym (append_assoc (a ++ b) c d ∙ append_assoc a b (c ++ d)))

-- four words stored, one after the other
pub stored-four : (w : List ℕ) (n a b c d : ℕ) → n + 4 ≤ length w
    → word_bytes (set (set (set (set w n a) (n + 1) b) (n + 2) c) (n + 3) d) (n + 4) ≡ word_bytes w n ++ four a b c d
stored-four w n a b c d h =
    let w1 = set w n a in
    let w2 = set w1 (suc n) b in
    let w3 = set w2 (suc (suc n)) c in
    let l1 : length w1 ≡ length w = length-set w n a in
    let l2 : length w2 ≡ length w1 = length-set w1 (suc n) b in
    let l3 : length w3 ≡ length w2 = length-set w2 (suc (suc n)) c in
    let e1 = stored_next w n a (omega arith) in
    let e2 = stored_next w1 (suc n) b (omega arith) ∙ ap (λ (x : List ℕ). x ++ bytes b) e1 in
    let e3 = stored_next w2 (suc (suc n)) c (omega arith) ∙ ap (λ (x : List ℕ). x ++ bytes c) e2 in
    let e4 = stored_next w3 (suc (suc (suc n))) d (omega arith) ∙ ap (λ (x : List ℕ). x ++ bytes d) e3 in
    rw (add-one, add-two, add-three, add-four) (e4 ∙ append-four (word_bytes w n) (bytes a) (bytes b) (bytes c) (bytes d))

-- word j of the words x that stand after m others
word-past : (v x : List ℕ) (m j : ℕ) → length v ≡ 4 * m → word_at (v ++ x) (m + j) ≡ word_at x j
word-past v x m j h =
    list_same (λ r. get_or (v ++ x) (4 * (m + j) + r) 0) (λ r. get_or x (4 * j + r) 0) 4
    (λ r l. let k : 4 * (m + j) + r ≡ length v + (4 * j + r) = omega arith in ap (λ (i : ℕ). get_or (v ++ x) i 0) k ∙ get_or-append-add v x (4 * j + r) 0)

-- the word i that is made of the words x and y, turned where b says so
abbrev made : List ℕ → List ℕ → ℕ → Bool → List ℕ
made x y i b = xor_word x (pick_word b (xor_word (sub_word (rot_word y)) (rcon (i / 4))) y)

-- the next word after x, of which v are the words before it, in number m; the word that is turned is that of a multiple of four
next_past : (v x : List ℕ) (m j : ℕ) → length v ≡ 4 * m → 4 ≤ j
    → next_word (v ++ x) (m + j) ≡ made (word_at x (j - 4)) (word_at x (j - 1)) (m + j) (eqb ((m + j) % 4) 0)
unfolding next_word
next_past v x m j l h =
    let p : m + j - 4 ≡ m + (j - 4) = omega arith in
    let q : m + j - 1 ≡ m + (j - 1) = omega arith in
    ap₂ (λ (a b : List ℕ). made a b (m + j) (eqb ((m + j) % 4) 0))
    (ap (word_at (v ++ x)) p ∙ word-past v x m (j - 4) l) (ap (word_at (v ++ x)) q ∙ word-past v x m (j - 1) l)

next-turned : (v x : List ℕ) (n : ℕ) → length v ≡ 4 * (4 * n)
    → next_word (v ++ x) (4 * n + 4) ≡ xor_word (word_at x 0) (xor_word (sub_word (rot_word (word_at x 3))) (rcon (n + 1)))
next-turned v x n l =
    let e : (4 * n + 4) % 4 ≡ 0 = omega arith in
    let q : (4 * n + 4) / 4 ≡ n + 1 = omega arith in
    next_past v x (4 * n) 4 l (omega arith) ∙ ap (made (word_at x 0) (word_at x 3) (4 * n + 4)) (eq-eqb _ _ e)
    ∙ ap (λ (i : ℕ). xor_word (word_at x 0) (xor_word (sub_word (rot_word (word_at x 3))) (rcon i))) q

next-plain : (v x : List ℕ) (m j : ℕ) → length v ≡ 4 * m → 4 ≤ j → ((m + j) % 4 ≡ 0 → ⊥) → next_word (v ++ x) (m + j) ≡ xor_word (word_at x (j - 4)) (word_at x (j - 1))
next-plain v x m j l h e = next_past v x m j l h ∙ ap (made (word_at x (j - 4)) (word_at x (j - 1)) (m + j)) (ne_eqb _ _ e)

-- a word more, after the words v ++ x
more : (key v x y : List ℕ) (m i : ℕ) → schedule key m ≡ v ++ x → m + 4 ≡ i → next_word (v ++ x) i ≡ y → schedule key (suc m) ≡ v ++ (x ++ y)
unfolding schedule
more key v x y m i e k q = ap₂ (λ (w : List ℕ) (j : ℕ). w ++ next_word w j) e k ∙ ap (λ (z : List ℕ). (v ++ x) ++ z) q ∙ append_assoc v x y

-- a turn of the key schedule: after the words v, in number 4 n, and round key n, its words a, b, c and d, comes round key n + 1
pub key_more : (key v : List ℕ) (n a b c d e f g h : ℕ) → length v ≡ 4 * (4 * n) → v ++ four a b c d ≡ schedule key (4 * n)
    → bytes e ≡ xor_word (bytes a) (xor_word (sub_word (rot_word (bytes d))) (rcon (n + 1))) → bytes f ≡ xor_word (bytes b) (bytes e)
    → bytes g ≡ xor_word (bytes c) (bytes f) → bytes h ≡ xor_word (bytes d) (bytes g)
    → (v ++ four a b c d) ++ four e f g h ≡ schedule key (4 * n + 4)
key_more key v n a b c d e f g h l s p q r t =
    let x0 = four a b c d in
    let x1 = x0 ++ bytes e in
    let x2 = x1 ++ bytes f in
    let x3 = x2 ++ bytes g in
    let m = 4 * n in
    let e1 = more key v x0 (bytes e) m (m + 4) (sym s) refl (next-turned v x0 n l ∙ sym p) in
    let e2 = more key v x1 (bytes f) (suc m) (m + 5) e1 (omega arith) (next-plain v x1 m 5 l (omega arith) (omega arith) ∙ sym q) in
    let e3 = more key v x2 (bytes g) (suc (suc m)) (m + 6) e2 (omega arith) (next-plain v x2 m 6 l (omega arith) (omega arith) ∙ sym r) in
    let e4 = more key v x3 (bytes h) (suc (suc (suc m))) (m + 7) e3 (omega arith) (next-plain v x3 m 7 l (omega arith) (omega arith) ∙ sym t) in
    rw add-four (append_assoc v x0 (four e f g h) ∙ sym e4)
