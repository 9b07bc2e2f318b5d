-- Securing NWK (document 01, 'Order of checks'), from a plain frame to an output buffer.
use Rattle.std.specs.Prelude.{cond, not, ◌||◌, List, ◌++◌, ℕ, ◌+◌, eqb, leb, ltb, length, take, drop, is_some, Result, Ok, Err}
use Rattle.answer.specs.Numbers.{Answer}
use Rattle.answer.specs.declared.Accepted.TheVariants.{Done}
use Rattle.answer.specs.declared.Refusal.{Refusal}
use Rattle.answer.specs.declared.Refusal.TheVariants.{Unsupported, NoNetworkKey, CounterExhausted, NoRoom}
use Rattle.control.specs.Control.{sent}
use Rattle.control.specs.declared.KeyIdentifier.TheVariants.{Network}
use Rattle.auxiliary_header.specs.Auxiliary.{auxiliary_octets}
use Rattle.frame_header.specs.declared.network.NwkHeader.{NwkHeader}
use Rattle.frame_header.specs.Nwk.{nwk_kind_number, nwk_of}
use Rattle.nib.specs.declared.outgoing.Outgoing.{Outgoing}
use Rattle.nib.specs.Keys.{key_found, key_under}
use Rattle.nib.specs.Sending.{may_use}
use Rattle.nib.specs.declared.state.Nwk.{Nwk}
use Rattle.protection.specs.Protection.{level, secured_octets}

-- what a call leaves: answer, the output buffer, and the outgoing counter
pub record Secured : Type 0 where
  pub answer : Answer
  pub out : List ℕ
  pub outgoing : Outgoing

-- a refusal changes nothing
abbrev pub not_secured : Refusal → List ℕ → Outgoing → Secured
not_secured why out o = record { answer = Err why; out = out; outgoing = o }

-- NWK sends identifier 1 with sender and key number: 14 bytes, and a tag of 4
abbrev pub nwk_added : ℕ
nwk_added = 14 + 4

-- the headers of the finished frame, from the plain one whose header has so many bytes
abbrev pub nwk_headers : Nwk → ℕ → List ℕ → ℕ → List ℕ
nwk_headers s counter plain header = take header plain ++ auxiliary_octets (sent Network) counter s.own s.active

-- the finished frame
unfoldable pub nwk_on_air : Nwk → ℕ → List ℕ → ℕ → List ℕ
nwk_on_air s counter plain header =
    secured_octets (key_under s.keys s.active) s.own counter header (nwk_headers s counter plain header) (drop header plain)

-- done: output bytes past the finished frame stay unchanged, and the outgoing counter rises by 1
abbrev pub nwk_done : Nwk → Outgoing → List ℕ → List ℕ → ℕ → Secured
nwk_done s o plain out header = record {
  answer = Ok (Done 0 (length plain + nwk_added));
  out = nwk_on_air s o.next plain header ++ drop (length plain + nwk_added) out;
  outgoing = record { next = o.next + 1 };
}

-- Header cut: 2. Frame type 2 or 3, or security bit clear: 7. No key row of the active number: 40. Outgoing counter 2^32-1: 6. Too little room: 8.
abbrev pub nwk_framed : Nwk → Outgoing → List ℕ → List ℕ → Result NwkHeader Refusal → Secured
nwk_framed s o plain out (Err why) = not_secured why out o
nwk_framed s o plain out (Ok h) =
    cond (leb 2 (nwk_kind_number h.kind) || not h.secured) (not_secured Unsupported out o)
    (cond (not (is_some (key_found s.keys s.active))) (not_secured NoNetworkKey out o)
    (cond (not (may_use o)) (not_secured CounterExhausted out o)
    (cond (ltb (length out) (length plain + nwk_added)) (not_secured NoRoom out o)
    (nwk_done s o plain out h.len))))

-- SECURING NWK. State or over 1,006 bytes: 7.
unfoldable pub secure_nwk : Nwk → Outgoing → List ℕ → List ℕ → Secured
secure_nwk s o plain out =
    cond (not (eqb s.level level) || (ltb 2 s.keys.used || ltb 1006 (length plain))) (not_secured Unsupported out o)
    (nwk_framed s o plain out (nwk_of plain))
