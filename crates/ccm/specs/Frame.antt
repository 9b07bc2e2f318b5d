-- A frame in one buffer s: `at` octets before the payload, which are the additional authenticated data, then k octets of payload, and
-- then M octets of tag. What the public calls answer, and what they leave.
use Rattle.std.specs.Prelude.{ℕ, ◌+◌, ◌%◌, Bool, cond, not, ◌&&◌, List, ◌++◌, Ok, Err, eqb, leb, ltb, length, take, drop}
use Rattle.std.specs.Result.{result_and}
use Rattle.answer.specs.declared.Refusal.TheVariants.{Unsupported, NoRoom, WrongTag}
use Rattle.answer.specs.Numbers.{Outcome}
use Rattle.ccm.specs.Ccm.{counted, sealed, vouched}

-- RFC 3610, 2: M is 4, 6, 8, 10, 12, 14 or 16
unfoldable pub tag_taken : ℕ → Bool
tag_taken M = leb 4 M && (leb M 16 && eqb (M % 2) 0)

-- document 01: another tag length, or associated data or payload over 1,024 octets: 7; too little room: 8
unfoldable pub fitting : ℕ → ℕ → ℕ → ℕ → Outcome
unfolding tag_taken
fitting M at k room =
    cond (not (tag_taken M)) (Err Unsupported)
    (cond (ltb 1024 at) (Err Unsupported)
    (cond (ltb 1024 k) (Err Unsupported)
    (cond (ltb room (at + k + M)) (Err NoRoom) (Ok tt))))

module _ (E : List ℕ → List ℕ) where
  -- the frame with its payload sealed
  unfoldable pub sealed_frame : ℕ → List ℕ → ℕ → ℕ → List ℕ → List ℕ
  sealed_frame M n at k s = take at s ++ (sealed E M n (take at s) (take k (drop at s)) ++ drop (at + k + M) s)

  -- the frame with its payload opened
  unfoldable pub opened_frame : List ℕ → ℕ → ℕ → List ℕ → List ℕ
  opened_frame n at k s = take at s ++ (counted E n 1 (take k (drop at s)) ++ drop (at + k) s)

  -- whether its tag is right
  unfoldable pub vouched_frame : ℕ → List ℕ → ℕ → ℕ → List ℕ → Bool
  vouched_frame M n at k s = vouched E M n (take at s) (take k (drop at s)) (take M (drop (at + k) s))

  -- opening: as for sealing, and then a wrong tag: 5
  unfoldable pub unsealing : ℕ → List ℕ → ℕ → ℕ → List ℕ → Outcome
  unfolding fitting vouched_frame
  unsealing M n at k s = result_and (fitting M at k (length s)) (cond (vouched_frame M n at k s) (Ok tt) (Err WrongTag))
