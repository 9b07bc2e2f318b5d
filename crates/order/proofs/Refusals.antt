-- REFUSALS CHANGE NOTHING. Where the answer is a refusal, all that a call was lent is as it was, and start and length are 0.
-- On opening the same holds where the frame is plain, but for start and length. Assumes nothing.
use Rattle.std.specs.Prelude.{Err, Ok, ◌≡◌, Bool, List, ℕ, length}
use Rattle.std.proofs.Common.{ap}
use Rattle.answer.specs.Numbers.{Answer, told}
use Rattle.answer.specs.declared.Accepted.TheVariants.{Plain}
use Rattle.answer.specs.declared.Refusal.{Refusal}
use Rattle.nib.specs.declared.counters.CounterRow.{CounterRow}
use Rattle.nib.specs.declared.outgoing.Outgoing.{Outgoing}
use Rattle.aib.specs.declared.pairs.Pairs.{Pairs}
use Rattle.nib.specs.declared.state.Nwk.{Nwk}
use Rattle.judging.specs.OpenNwk.{open_nwk}
use Rattle.securing.specs.SecureNwk.{secure_nwk}
use Rattle.aps.specs.declared.state.Aps.{Aps}
use Rattle.aps.specs.OpenAps.{open_aps}
use Rattle.aps.specs.SecureAps.{secure_aps}
use Rattle.order.specs.Kept.{NotDone, refused-not-done}
use Rattle.order.proofs.NwkKept.{nwk-opening, nwk-securing}
use Rattle.order.proofs.ApsKept.{aps-opening, aps-securing}
use Rattle.order.specs.Refusals.{TellsNothing}

-- a plain frame is not done
plain-not-done : {a : Answer} {start len : ℕ} → a ≡ Ok (Plain start len) → NotDone a
plain-not-done e start len f = cc

-- ---- NWK

-- the frame's octets, the rows, the count in use and the active number
pub nwk-opening-refused : (s : Nwk) (rows : List CounterRow) (used : ℕ) (b : List ℕ) (why : Refusal) → (open_nwk s rows used b).answer ≡ Err why
    → (open_nwk s rows used b ≡ record { answer = Err why; frame = b; rows = rows; used = used; active = s.active })
    × TellsNothing (open_nwk s rows used b).answer why
unfolding open_nwk
nwk-opening-refused s rows used b why e = (rw e at (nwk-opening s rows used b (refused-not-done e)), ap told e)

pub nwk-opening-plain : (s : Nwk) (rows : List CounterRow) (used : ℕ) (b : List ℕ) (start len : ℕ) → (open_nwk s rows used b).answer ≡ Ok (Plain start len)
    → open_nwk s rows used b ≡ record { answer = Ok (Plain start len); frame = b; rows = rows; used = used; active = s.active }
unfolding open_nwk
nwk-opening-plain s rows used b start len e = rw e at (nwk-opening s rows used b (plain-not-done e))

-- the output buffer and the outgoing counter
pub nwk-securing-refused : (s : Nwk) (o : Outgoing) (plain out : List ℕ) (why : Refusal) → (secure_nwk s o plain out).answer ≡ Err why
    → (secure_nwk s o plain out ≡ record { answer = Err why; out = out; outgoing = o }) × TellsNothing (secure_nwk s o plain out).answer why
unfolding secure_nwk
nwk-securing-refused s o plain out why e = (rw e at (nwk-securing s o plain out (refused-not-done e)), ap told e)

-- ---- APS

-- the frame's octets, and the pairs: all 16 rows and the count in use
pub aps-opening-refused : (s : Aps) (pairs : Pairs) → length pairs.rows ≡ 16 → (b : List ℕ) (why : Refusal) → (open_aps s pairs b).answer ≡ Err why
    → (open_aps s pairs b ≡ record { answer = Err why; frame = b; pairs = pairs }) × TellsNothing (open_aps s pairs b).answer why
unfolding open_aps
aps-opening-refused s pairs sixteen b why e = (rw e at (aps-opening s pairs sixteen b (refused-not-done e)), ap told e)

pub aps-opening-plain : (s : Aps) (pairs : Pairs) → length pairs.rows ≡ 16 → (b : List ℕ) (start len : ℕ) → (open_aps s pairs b).answer ≡ Ok (Plain start len)
    → open_aps s pairs b ≡ record { answer = Ok (Plain start len); frame = b; pairs = pairs }
unfolding open_aps
aps-opening-plain s pairs sixteen b start len e = rw e at (aps-opening s pairs sixteen b (plain-not-done e))

-- the output buffer, and the pairs with the outgoing counter in each
pub aps-securing-refused : (s : Aps) (pairs : Pairs) (device : ℕ) (extended : Bool) (plain out : List ℕ) (why : Refusal)
    → (secure_aps s pairs device extended plain out).answer ≡ Err why
    → (secure_aps s pairs device extended plain out ≡ record { answer = Err why; out = out; pairs = pairs })
    × TellsNothing (secure_aps s pairs device extended plain out).answer why
unfolding secure_aps
aps-securing-refused s pairs device extended plain out why e = (rw e at (aps-securing s pairs device extended plain out (refused-not-done e)), ap told e)
