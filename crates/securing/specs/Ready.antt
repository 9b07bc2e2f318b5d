-- What securing asks before a counter is taken, as the code has it; and where all is well, the answer and the length of the header. That `secure_nwk` is
-- this, and then the frame, is shown in proofs/.
use Rattle.std.specs.Prelude.{cond, not, ◌||◌, List, ℕ, ◌+◌, eqb, leb, ltb, length, is_some, Result, Ok, Err}
use Rattle.answer.specs.declared.Accepted.TheVariants.{Done}
use Rattle.answer.specs.declared.Refusal.{Refusal}
use Rattle.answer.specs.declared.Refusal.TheVariants.{Unsupported, NoNetworkKey, CounterExhausted, NoRoom}
use Rattle.frame_header.specs.declared.network.NwkHeader.{NwkHeader}
use Rattle.frame_header.specs.Nwk.{nwk_kind_number, nwk_of}
use Rattle.nib.specs.Keys.{key_found}
use Rattle.nib.specs.Sending.{may_use}
use Rattle.protection.specs.Protection.{level}
use Rattle.nib.specs.declared.state.Nwk.{Nwk}
use Rattle.securing.specs.declared.ready.Ready.{Ready}
use Rattle.securing.specs.SecureNwk.{nwk_added}

-- by what is read of the header of a plain frame of so many octets
abbrev pub ready_framed : Nwk → ℕ → ℕ → ℕ → Result NwkHeader Refusal → Result Ready Refusal
ready_framed s next size room (Err why) = Err why
ready_framed s next size room (Ok h) =
    cond (leb 2 (nwk_kind_number h.kind) || not h.secured) (Err Unsupported)
    (cond (not (is_some (key_found s.keys s.active))) (Err NoNetworkKey)
    (cond (not (may_use (record { next = next }))) (Err CounterExhausted)
    (cond (ltb room (size + nwk_added)) (Err NoRoom)
    (Ok (record { answer = Done 0 (size + nwk_added); header = h.len })))))

unfoldable pub ready_for : Nwk → ℕ → List ℕ → ℕ → Result Ready Refusal
ready_for s next plain room =
    cond (not (eqb s.level level) || (ltb 2 s.keys.used || ltb 1006 (length plain))) (Err Unsupported)
    (ready_framed s next (length plain) room (nwk_of plain))
