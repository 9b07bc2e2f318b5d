-- When a frame has opened, and how an old one is refused. Assumes nothing.
use Rattle.std.specs.Prelude.{Err, Ok, Result, ◌≡◌, Bool, true, false, List, ℕ, ◌≤◌, ◌<◌, Option, None, Some}
use Rattle.std.proofs.Common.{ap, arith, ltb-false}
use Rattle.std.proofs.Math.Decide.{dec_le}
use Rattle.answer.specs.Numbers.{Answer}
use Rattle.answer.specs.declared.Accepted.TheVariants.{Done, Plain}
use Rattle.answer.specs.declared.Refusal.{Refusal}
use Rattle.claims.specs.declared.Who.{Who}
use Rattle.claims.specs.declared.Who.TheVariants as who
use Rattle.protection.specs.Heard.{Heard, refused, below}

abbrev pub is_done : Answer → Bool
is_done (Ok (Done start len)) = true
is_done (Ok (Plain start len)) = false
is_done (Err why) = false

-- the frame opened
abbrev pub opens : Heard → Bool
opens h = is_done h.answer

-- A counter is held that `counter` is not above, and a frame b with that counter is answered by it: the one refusal if it is equal, the other if it is
-- below; and b stays as it is.
pub record Stale (now : Option ℕ) (counter : ℕ) (repeated behind : Refusal) (b : List ℕ) (h : Heard) : Type 0 where
  pub held : ℕ
  pub holds : now ≡ Some held
  pub not-above : counter ≤ held
  pub equal : counter ≡ held → h ≡ refused repeated b
  pub lower : counter < held → h ≡ refused behind b

-- so b does not open
pub stale-shut : {now : Option ℕ} {counter : ℕ} {repeated behind : Refusal} {b : List ℕ} {h : Heard} → Stale now counter repeated behind b h → opens h ≡ false
stale-shut {counter = counter} {h = h} s = at (dec_le s.held counter)
  where
    at : Dec (s.held ≤ counter) → opens h ≡ false
    at (yes l) = ap opens (s.equal (omega (arith, s.not-above)))
    at (no l) = ap opens (s.lower (omega arith))

-- ---- for the proofs

-- the counter that a frame claims
abbrev pub counter_of : Result Who Refusal → ℕ
counter_of (Err why) = 0
counter_of (Ok (who.Told a)) = 0
counter_of (Ok (who.Claims c)) = c.counter

-- what is held is not above a counter that is not below it
pub not-above : (held : Option ℕ) (n : ℕ) → below held n ≡ false → (h : ℕ) → held ≡ Some h → h ≤ n
not-above None n f h q = cc
not-above (Some m) n f h q = let same : m ≡ h = cc in omega (arith, ltb-false n m f)
