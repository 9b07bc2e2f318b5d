-- What an opening leaves in a frame's buffer, and what is told of the frame.
use Rattle.std.specs.Prelude.{Err, Ok, List, ℕ, Option, None, Some}
use Rattle.answer.specs.Numbers.{Answer, Outcome, told}
use Rattle.answer.specs.declared.Accepted.TheVariants as answer
use Rattle.answer.specs.declared.Told.{Told}
use Rattle.protection.specs.Heard.{Heard}

abbrev pub leaves : List ℕ → Heard → List ℕ
leaves b h = h.frame

-- the answer; and document 01's number, start and length for it
abbrev pub Said : Type 0
Said = Answer × Told

abbrev pub says : Heard → Said
says h = (h.answer, told h.answer)

-- x, where a call was done
abbrev pub if_done : {A : Type 0} → Answer → A → Option A
if_done (Ok (answer.Done start len)) x = Some x
if_done (Ok (answer.Plain start len)) x = None
if_done (Err why) x = None

abbrev pub if_taken : {A : Type 0} → Outcome → A → Option A
if_taken (Ok tt) x = Some x
if_taken (Err why) x = None
