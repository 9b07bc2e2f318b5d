-- ONE OUTCOME (document 01, 'What the promises have to decide'). For each public function: two results, with two contents of all memory
-- lent, that its promise allows are equal. The promises are not written again here: `f-reads.Post` is what the prover itself has read from
-- the `ensures` of f. Of nine functions, which were proved by hand once, the claim is also written down, and `f-says` shows that it is their
-- `ensures`. Of `Display` for reader's `Fault` and `BadField` it is shown that the text is one. Three kinds are left out: `Debug`, which promises no
-- text, equality and copies that are derived, and the crate `input`, which reads from outside.
use Rattle.std.specs.Prelude.{◌≡◌}
use seplogic.Ra.Ura.{Ura}
use base.Logic.{SProp}
use prog.Memory.{Memory}
use prog.Routine.{Routine}
use types.Logic.{Logic}
use contract.Lifetimes.{Lfts}
use contract.Monad.{Fun}
use contract.Notation.{connectives}
use denote.Triple.Entry.{Args, Res}
use denote.Triple.Clauses.{Ended, Lasts, AtExit, at_exit, Clauses}
use Rattle.answer.specs.Numbers.{told}
use Rattle.nib.specs.Counters.{pair, left, held_for, settled, forgotten}
use Rattle.nib.specs.Sending.{took, taken}
use Rattle.nwk.specs.Leaves.{opened, secured}
use Rattle.judging.specs.OpenNwk.{open_nwk}
use Rattle.securing.specs.SecureNwk.{secure_nwk}
use Rattle.pouchkettle.specs.Told.{told_nwk, told_rows}
use Rattle.counter_record.specs.contracts.take as counter-record-take'
use Rattle.counter_rows.specs.contracts.held as counter-rows-held'
use Rattle.counter_rows.specs.contracts.settle as counter-rows-settle'
use Rattle.counter_rows.specs.contracts.forget as counter-rows-forget'
use Rattle.nwk.specs.contracts.open_nwk as nwk-open-nwk'
use Rattle.nwk.specs.contracts.secure_nwk as nwk-secure-nwk'
use Rattle.pouchkettle.specs.contracts.pouchkettle_open_nwk as pouchkettle-open-nwk'
use Rattle.pouchkettle.specs.contracts.pouchkettle_secure_nwk as pouchkettle-secure-nwk'
use Rattle.pouchkettle.specs.contracts.pouchkettle_forget as pouchkettle-forget'

-- a claim about arguments, result, and what is lent at the end
abbrev pub Promise : Ended → Type 1
Promise T = (κs : Lfts T.signature.lifetimes) → Args T.signature κs → Res T.signature κs → AtExit T κs → Type 0

-- at arguments a: results z and z', last contents ws and ws' of what was lent
unfoldable pub Decides : (T : Ended) → Promise T → Type 0
Decides T promise =
    (κs : Lfts T.signature.lifetimes) (a : Args T.signature κs) (z z' : Res T.signature κs) (ws ws' : Lasts T κs a) →
    promise κs a z (at_exit T κs a ws) → promise κs a z' (at_exit T κs a ws') → (z ≡ z') × (ws ≡ ws')

-- the claim is what a contract ensures
unfoldable pub Says : (T : Ended) → Promise T
    → ((M : Type 1) (𝓤 : Ura M) (𝓛 : Logic 𝓤) → (Memory → SProp 𝓤) → (Routine → Fun 𝓤) → Clauses 𝓤 T) → Type 2
Says T promise clauses =
    (M : Type 1) (𝓤 : Ura M) (𝓛 : Logic 𝓤) (mem : Memory → SProp 𝓤) (run : Routine → Fun 𝓤) →
    (κs : Lfts T.signature.lifetimes) (a : Args T.signature κs) (g : (clauses M 𝓤 𝓛 mem run κs a).ghost) (z : Res T.signature κs) (e : AtExit T κs) →
    (clauses M 𝓤 𝓛 mem run κs a).ensures g z e ≡ (connectives 𝓤).⌜◌⌝ (promise κs a z e)

-- ---- counter_record

abbrev pub counter-record-take-promise : Promise counter-record-take'.ended
counter-record-take-promise κs a z e = took z e.0.now ≡ taken a.0.now

-- ---- counter_rows

abbrev pub counter-rows-held-promise : Promise counter-rows-held'.ended
counter-rows-held-promise κs a z e = z ≡ held_for a.0.now a.1.0 (pair a.1.1.0 a.1.1.1.0)

abbrev pub counter-rows-settle-promise : Promise counter-rows-settle'.ended
counter-rows-settle-promise κs a z e = left z a.1.0 e.0.now ≡ settled a.0.now a.1.0 a.1.1.0

abbrev pub counter-rows-forget-promise : Promise counter-rows-forget'.ended
counter-rows-forget-promise κs a z e = left z a.1.0 e.0.now ≡ forgotten a.0.now a.1.0 a.1.1.0

-- ---- nwk

abbrev pub nwk-open-nwk-promise : Promise nwk-open-nwk'.ended
nwk-open-nwk-promise κs a z e = opened z e.1.0.now e.1.1.1.0.now ≡ open_nwk a.0 a.1.0.now a.1.1.0 a.1.1.1.0.now

abbrev pub nwk-secure-nwk-promise : Promise nwk-secure-nwk'.ended
nwk-secure-nwk-promise κs a z e = secured z e.1.1.1.0.now e.1.0.now ≡ secure_nwk a.0 a.1.0.now a.1.1.0.now a.1.1.1.0.now

-- ---- pouchkettle

abbrev pub pouchkettle-open-nwk-promise : Promise pouchkettle-open-nwk'.ended
pouchkettle-open-nwk-promise κs a z e =
    let o = open_nwk a.0 a.1.0.now a.1.1.0 a.1.1.1.0.now in
    (z ≡ told_nwk o) × (e.1.0.now ≡ o.rows) × (e.1.1.1.0.now ≡ o.frame)

abbrev pub pouchkettle-secure-nwk-promise : Promise pouchkettle-secure-nwk'.ended
pouchkettle-secure-nwk-promise κs a z e =
    let s = secure_nwk a.0 a.1.0.now a.1.1.0.now a.1.1.1.0.now in
    (z ≡ told s.answer) × (e.1.0.now ≡ s.outgoing) × (e.1.1.1.0.now ≡ s.out)

abbrev pub pouchkettle-forget-promise : Promise pouchkettle-forget'.ended
pouchkettle-forget-promise κs a z e =
    let f = forgotten a.0.now a.1.0 a.1.1.0 in
    (z ≡ told_rows f) × (e.0.now ≡ f.rows)
