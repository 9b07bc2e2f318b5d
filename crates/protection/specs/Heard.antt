-- What an opening gives a frame, and the tests of the counter that is held for it.
use Rattle.std.specs.Prelude.{Bool, false, cond, not, List, ℕ, eqb, ltb, Option, None, Some, Ok, Err}
use Rattle.answer.specs.Numbers.{Answer, Outcome}
use Rattle.answer.specs.declared.Accepted.TheVariants.{Done}
use Rattle.answer.specs.declared.Refusal.{Refusal}
use Rattle.answer.specs.declared.Refusal.TheVariants.{CounterRepeated, CounterBehind, WrongTag, TableFull}
use Rattle.protection.specs.Protection.{payload_size, vouches, opened_octets}

-- what a frame gets: the answer, and its octets afterwards
pub record Heard : Type 0 where
  pub answer : Answer
  pub frame : List ℕ

abbrev pub refused : Refusal → List ℕ → Heard
refused why b = record { answer = Err why; frame = b }

-- the tests of a held counter, if one is held
abbrev pub equals : Option ℕ → ℕ → Bool
equals None c = false
equals (Some held) c = eqb c held

abbrev pub below : Option ℕ → ℕ → Bool
below None c = false
below (Some held) c = ltb c held

-- a counter equal to the held one: 33; below it: 34
abbrev pub freshness : Option ℕ → ℕ → Outcome
freshness held c = cond (equals held c) (Err CounterRepeated) (cond (below held c) (Err CounterBehind) (Ok tt))

-- what the tag decides: 5 where it is wrong
abbrev pub vouching : Bool → Outcome
vouching right = cond right (Ok tt) (Err WrongTag)

-- the tag, and only then the room for a new row: wrong tag 5, no free row 42
unfoldable pub tried : List ℕ → ℕ → ℕ → ℕ → ℕ → Bool → List ℕ → Heard
tried key sender counter at payload room b =
    cond (not (vouches key sender counter at payload b)) (refused WrongTag b)
    (cond room
    (record { answer = Ok (Done payload (payload_size payload b)); frame = opened_octets key sender counter at payload b })
    (refused TableFull b))
