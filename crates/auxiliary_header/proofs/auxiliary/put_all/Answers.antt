-- `auxiliary_header::auxiliary::put_all` meets its contract. Assumes nothing.
use mathlib.Core.Path.{◌≡◌, ap, ◌∙◌}
use mathlib.Core.List.{List, ◌++◌, append_assoc}
use Prim.Native.Nat.{ℕ, ◌+◌}
use native.Mathlib.Numerals.{add-one}
use native.Mathlib.Omega.{arith}
use lib.ListN.{length, set, length-append}
use lib.Seq.{sets}
use Rattle.laws.specs.Numbers.{low}
use Rattle.laws.specs.NumberLaws.{low-length}
use Rattle.auxiliary_header.specs.Auxiliary.{sender_length, sender_octets, number_octets, auxiliary_octets}
use Rattle.auxiliary_header.proofs.AuxiliaryLaws.{sender-octets}
use Rattle.auxiliary_header.proofs.Turns.{octets_4, stored_next}
use Rattle.auxiliary_header.proofs.auxiliary.put_all.Goals as goal

-- the control byte, and then three strings one after the other
stored : (s first second third : List ℕ) (at control counter sender number place : ℕ)
    → first ≡ sets (set s at control) (at + 1) (low 4 counter)
    → second ≡ sets first (at + 5) (sender_octets control sender)
    → place ≡ sender_length control
    → third ≡ sets second (at + 5 + place) (number_octets control number)
    → third ≡ sets s at (auxiliary_octets control counter sender number)
unfolding auxiliary_octets
stored s first second third at control counter sender number place e₁ e₂ l e₃ =
    let h = set s at control in
    let f = low 4 counter in
    let g = sender_octets control sender in
    let n = number_octets control number in
    let four : length f ≡ 4 = low-length 4 counter in
    let eight : length g ≡ sender_length control = sender-octets control sender in
    let next : at + 5 ≡ at + 1 + length f = omega arith in
    let last : at + 5 + place ≡ at + 1 + length (f ++ g) = simp length-append (omega arith) in
    let two : second ≡ sets h (at + 1) (f ++ g) = stored_next h f g first second (at + 1) (at + 5) next e₁ e₂ in
    let three : third ≡ sets h (at + 1) ((f ++ g) ++ n) = stored_next h (f ++ g) n second third (at + 1) (at + 5 + place) last two e₃ in
    rw (append_assoc f g n, add-one at) at three

pub returns : goal.returns
returns c =
    let a = c.args in
    let sender = c.put_sender in
    let put = c.put in
    stored a.out.now put.new.s sender.new.out c.put_number.new.out a.at a.control.byte a.counter a.sender a.number _
    (put.ensures ∙ ap (sets (set a.out.now a.at a.control.byte) (a.at + 1)) (c.to_le_bytes.ensures ∙ octets_4 a.counter)) sender.ensures c.sender_length.ensures c.put_number.ensures
