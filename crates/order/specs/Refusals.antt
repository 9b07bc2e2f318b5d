-- What is told of a refusal. Assumes nothing.
use Rattle.std.specs.Prelude.{◌≡◌}
use Rattle.answer.specs.Numbers.{Answer, number, told}
use Rattle.answer.specs.declared.Refusal.{Refusal}

-- what is told of a refusal: its number, and start and length 0
abbrev pub TellsNothing : Answer → Refusal → Type 0
TellsNothing a why = told a ≡ record { number = number why; start = 0; len = 0 }
