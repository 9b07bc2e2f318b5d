-- The steps by which the code comes to `secure_aps`: all checks first, as one judgement.
use Rattle.std.specs.Prelude.{Bool, cond, not, ◌||◌, ◌&&◌, List, ℕ, ◌+◌, eqb, ltb, length, get_or, Option, Some, None, Result, Ok, Err, ok_or}
use Rattle.std.specs.Result.{result_and}
use Rattle.answer.specs.Numbers.{Outcome}
use Rattle.answer.specs.declared.Refusal.{Refusal}
use Rattle.answer.specs.declared.Refusal.TheVariants.{Unsupported, Cut, NoPair, CounterSpent, SenderAbsent, NoRoom}
use Rattle.aib.specs.declared.pairs.PairRow.{PairRow}
use Rattle.control.specs.declared.KeyIdentifier.{KeyIdentifier}
use Rattle.control.specs.declared.KeyIdentifier.TheVariants.{Link}
use Rattle.frame_header.specs.Aps.{aps_taken, aps_length, is_command, is_secured}
use Rattle.claims.specs.Claims.{spent}
use Rattle.protection.specs.Protection.{level}
use Rattle.aps.specs.declared.state.Aps.{Aps}
use Rattle.aps.specs.declared.sending.Chosen.{Chosen}
use Rattle.aps.specs.SecureAps.{carried, identifier_for, aps_added}

-- a key type that is not taken is a refusal
abbrev pub choice : Option KeyIdentifier → Result KeyIdentifier Refusal
choice o = ok_or o Unsupported

abbrev pub carried_by : ℕ → ℕ → Option KeyIdentifier
carried_by command kind = cond (eqb command 0x05) (carried kind) (Some Link)

-- the header, and of a command its first payload byte
abbrev pub shortest : ℕ → ℕ
shortest control = cond (is_command control) (aps_length control + 1) (aps_length control)

unfoldable pub kind_taken : ℕ → ℕ → Outcome
kind_taken control size =
    cond (not (aps_taken control) || not (is_secured control)) (Err Unsupported)
    (cond (ltb size (shortest control)) (Err Cut) (Ok tt))

unfoldable pub plain_taken : Aps → ℕ → List ℕ → Outcome
plain_taken s used plain =
    cond ((not (eqb s.level level) || ltb 16 used) || ltb 1006 (length plain)) (Err Unsupported)
    (cond (eqb (length plain) 0) (Err Cut) (kind_taken (get_or plain 0 0) (length plain)))

-- the row that a search found, where by it the frame goes out
abbrev pub sendable : Option PairRow → Bool → Bool → ℕ → ℕ → Result PairRow Refusal
sendable None command extended size room = Err NoPair
sendable (Some row) command extended size room =
    cond (eqb row.outgoing spent) (Err CounterSpent)
    (cond (not command && not extended) (Err SenderAbsent)
    (cond (ltb room (size + aps_added)) (Err NoRoom) (Ok row)))

-- both, or the first refusal
abbrev pub chosen_by : Result KeyIdentifier Refusal → Result PairRow Refusal → Result Chosen Refusal
chosen_by (Err why) row = Err why
chosen_by (Ok identifier) (Err why) = Err why
chosen_by (Ok identifier) (Ok row) = Ok (record { row = row; identifier = identifier })

unfoldable pub judgement : Aps → ℕ → Option PairRow → Bool → List ℕ → ℕ → Result Chosen Refusal
judgement s used row extended plain room =
    let control : ℕ = get_or plain 0 0 in
    result_and (plain_taken s used plain)
    (chosen_by (choice (identifier_for plain (aps_length control))) (sendable row (is_command control) extended (length plain) room))
