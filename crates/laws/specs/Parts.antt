-- Parts of lists: how a lent part reads, and the whole after it has come back; a list written out. Assumes nothing.
use Rattle.std.specs.Prelude.{◌≡◌, refl, Bool, true, false, cond, List, [], ◌∷◌, ◌++◌, ℕ, zero, suc, ◌+◌, ◌-◌, ◌≤◌, min, length, take, drop, get_or}
use Rattle.std.proofs.Common.{sym, ap, ◌∙◌, append_assoc, append-nil, arith, length-drop, take-append-drop, drop_of_length-le, take_all, take_at, drop_at, drop-drop, drop-cons}
use Rattle.std.proofs.Math.Nat.{zero-min, min-zero, suc-min-suc}
use Rattle.std.proofs.Math.Seq.{take-length}

-- n elements of x from the i-th on, written out; and that they are that part
abbrev pub listed : ℕ → ℕ → List ℕ → List ℕ
listed zero i x = []
listed (suc n) i x = get_or x i 0 ∷ listed n (suc i) x

pub listed-eq : (n i : ℕ) (x : List ℕ) → length x ≡ i + n → listed n i x ≡ drop i x
listed-eq zero i x h = sym (drop_of_length-le x {i = i} (omega arith))
listed-eq (suc n) i x h =
    ap (λ (r : List ℕ). get_or x i 0 ∷ r) (listed-eq n (suc i) x (omega arith)) ∙ sym (drop-cons x i 0 (omega arith))

-- how a part `&s[k..]` reads
pub part-rest : (k : ℕ) (s : List ℕ) → take (length s - k) (drop k s) ≡ drop k s
part-rest k s = take_all (length s - k) (drop k s) (simp length-drop (omega arith))

-- a part `&mut s[k..]` that has come back as y
pub put_rest : (k : ℕ) (s y : List ℕ) → take k s ++ (y ++ drop (length s - k) (drop k s)) ≡ take k s ++ y
put_rest k s y =
    let h : length (drop k s) ≤ length s - k = simp length-drop (omega arith) in
    rw (drop_of_length-le (drop k s) h, append-nil)

-- a rest that is x or stays, said of the whole
pub put-cond : (r : Bool) (k : ℕ) (s x : List ℕ) → take k s ++ cond r x (drop k s) ≡ cond r (take k s ++ x) s
put-cond true k s x = refl
put-cond false k s x = take-append-drop k s

-- a front that has come back as x, and then a copy of t to where the front ends
pub put_two : (n m : ℕ) (x t s : List ℕ) → length x ≡ n → length t ≡ m
    → (let w = x ++ drop n s in let r = length w - n in
    take n w ++ ((take (length t) t ++ drop (length t) (take r (drop n w))) ++ drop r (drop n w))) ≡ (x ++ t) ++ drop (n + m) s
put_two n m x t s lx lt =
    let w = x ++ drop n s in
    let a : take n w ≡ x = take_at x (drop n s) n lx in
    let b : drop n w ≡ drop n s = drop_at x (drop n s) n lx in
    rw (put_rest n w _, part-rest n w, a, b, take-length, lt, drop-drop m n s, append_assoc)

-- what is left after the first k, or after all where there are fewer
pub drop-least : (k : ℕ) (a : List ℕ) → drop (min k (length a)) a ≡ drop k a
drop-least zero a = rw zero-min
drop-least (suc k) [] = rw min-zero
drop-least (suc k) (b ∷ a) = rw suc-min-suc (drop-least k a)
