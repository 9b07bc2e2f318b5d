-- The answer numbers: document 01's, with the finer ones of request W-201 (document 02).
use Rattle.std.specs.Prelude.{ℕ, ⊤, Result, Ok, Err}
use Rattle.answer.specs.declared.Refusal.{Refusal}
use Rattle.answer.specs.declared.Refusal.TheVariants.{Cut, CounterSpent, SenderAbsent, KeyNotAllowed, CounterRepeated, CounterBehind, NoNetworkKey, NoPair, TableFull, DeviceAbsent, WrongTag, CounterExhausted, Unsupported, NoRoom}
use Rattle.answer.specs.declared.Accepted.{Accepted}
use Rattle.answer.specs.declared.Accepted.TheVariants.{Done, Plain}
use Rattle.answer.specs.declared.Told.{Told}

-- what a call that only does its work answers
abbrev pub Outcome : Type 0
Outcome = Result ⊤ Refusal

-- what opening and securing answer
abbrev pub Answer : Type 0
Answer = Result Accepted Refusal

-- the number of each refusal
abbrev pub number : Refusal → ℕ
number Cut = 2
number CounterSpent = 30
number SenderAbsent = 31
number KeyNotAllowed = 32
number CounterRepeated = 33
number CounterBehind = 34
number NoNetworkKey = 40
number NoPair = 41
number TableFull = 42
number DeviceAbsent = 43
number WrongTag = 5
number CounterExhausted = 6
number Unsupported = 7
number NoRoom = 8

abbrev pub outcome_number : Outcome → ℕ
outcome_number (Ok _) = 0
outcome_number (Err r) = number r

-- number, start and length: 0 done, 1 plain; a refusal gives start and length 0
abbrev pub told : Answer → Told
told (Ok (Done start len)) = record { number = 0; start = start; len = len }
told (Ok (Plain start len)) = record { number = 1; start = start; len = len }
told (Err r) = record { number = number r; start = 0; len = 0 }

-- what a call hands back: this, where it was done
abbrev pub giving : {A : Type 0} → Outcome → A → Result A Refusal
giving (Ok _) x = Ok x
giving (Err r) x = Err r

-- what a call leaves: the one where it was done, the other where it was refused
abbrev pub when_done : {A : Type 0} → Outcome → A → A → A
when_done (Ok _) done kept = done
when_done (Err r) done kept = kept
