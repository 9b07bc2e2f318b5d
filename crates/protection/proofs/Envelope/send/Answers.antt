-- `protection::Envelope::send` meets its contract. Assumes nothing.
use Rattle.std.proofs.Common.{◌≡◌, ℕ, List, ◌+◌, ◌≤◌, length, arith}
use Rattle.std.specs.Prelude.{is_ok, true}
use Rattle.answer.specs.Numbers.{Outcome}
use Rattle.auxiliary_header.specs.Written.{outcome_of}
use Rattle.auxiliary_header.specs.WrittenLaws.{done}
use Rattle.auxiliary_header.proofs.AuxiliaryLaws.{octets-length}
use Rattle.protection.proofs.SendLaws.{laid, sent}
use Rattle.protection.proofs.Envelope.send.Goals as goal

-- octets that have room are written, whichever they are
has_room : (outcome : Outcome) (out octets : List ℕ) (at k : ℕ) → outcome ≡ outcome_of out at octets → length octets ≡ k → at + k ≤ length out → is_ok outcome ≡ true
has_room outcome out octets at k e long room = rw (e, done out at octets (omega (arith, long, room)))

pub unwrap-requires : goal.unwrap-requires
unwrap-requires c =
    let q = c.requires in
    has_room _ _ _ _ _ c.write.ensures.value (octets-length _ _ _ _) (omega (arith, c.copy.auto.dst, q.0, q.3))

pub returns : goal.returns
returns c =
    let s = c.args.self in
    let q = c.requires in
    let k = octets-length c.args.control.byte s.counter s.sender c.args.number in
    sent c.args.plain.now c.args.out.now _ s.at _ s.payload q.1 q.0 q.3 k s.key s.sender s.counter _ _
    (laid c.args.plain.now c.args.out.now _ s.at _ s.payload q.1 q.0 q.3 k _ _ _ c.copy.ensures c.write.ensures.out_after c.copy-2.ensures)
    c.protect.ensures
