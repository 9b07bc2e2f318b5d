-- What a frame's headers settle, and what it claims where they do not (document 01, 'Order of checks', opening, up to the keys).
use Rattle.std.specs.Prelude.{Bool, true, false, cond, not, Option, None, Some, is_some, Result, Ok, Err, List, ℕ, ◌-◌, eqb, ltb, length}
use Rattle.answer.specs.Numbers.{Outcome}
use Rattle.answer.specs.declared.Accepted.TheVariants.{Plain}
use Rattle.answer.specs.declared.Refusal.{Refusal}
use Rattle.answer.specs.declared.Refusal.TheVariants.{Unsupported, Cut, CounterSpent, SenderAbsent, KeyNotAllowed, NoNetworkKey, DeviceAbsent}
use Rattle.auxiliary_header.specs.declared.auxiliary.Auxiliary.{Auxiliary}
use Rattle.auxiliary_header.specs.declared.auxiliary.KeyUsed.{KeyUsed}
use Rattle.auxiliary_header.specs.declared.auxiliary.KeyUsed.TheVariants as used
use Rattle.auxiliary_header.specs.Auxiliary.{auxiliary_at}
use Rattle.frame_header.specs.declared.network.NwkHeader.{NwkHeader}
use Rattle.frame_header.specs.declared.application.ApsHeader.{ApsHeader}
use Rattle.frame_header.specs.Nwk.{nwk_of}
use Rattle.frame_header.specs.Aps.{aps_of}
use Rattle.nib.specs.declared.keys.NetworkKeys.{NetworkKeys}
use Rattle.nib.specs.Keys.{key_found}
use Rattle.nib.specs.Pairs.{Pair}
use Rattle.nib.specs.Counters.{pair}
use Rattle.claims.specs.declared.Who.{Who}
use Rattle.claims.specs.declared.Who.TheVariants.{Told, Claims}

-- the last counter, which is never used
abbrev pub spent : ℕ
spent = 4294967295

abbrev pub refuse : Refusal → Result Who Refusal
refuse why = Err why

-- Over 1,024 bytes: 7. Under 4 bytes: 2.
abbrev pub sized : List ℕ → Outcome
sized b = cond (ltb 1024 (length b)) (Err Unsupported) (cond (ltb (length b) 4) (Err Cut) (Ok tt))

-- Auxiliary header cut: 2. Counter 2^32-1: 30.
abbrev pub unspent : Result Auxiliary Refusal → Result Auxiliary Refusal
unspent (Err why) = Err why
unspent (Ok a) = cond (eqb a.counter spent) (Err CounterSpent) (Ok a)

-- the key number that a frame names
abbrev pub is_network : KeyUsed → Bool
is_network used.Link = false
is_network (used.Network n) = true
is_network used.Transport = false
is_network used.Load = false

abbrev pub number_of : KeyUsed → ℕ
number_of used.Link = 0
number_of (used.Network n) = n
number_of used.Transport = 0
number_of used.Load = 0

abbrev pub claimed : Auxiliary → ℕ → ℕ → Who
claimed a sender at = Claims (record { key = a.key; sender = sender; counter = a.counter; control = a.control; at = at; payload = a.next })

-- ---- NWK

-- No sender: 31. No key number: 32. No key row of that number: 40.
abbrev pub nwk_named : NetworkKeys → Auxiliary → ℕ → Option ℕ → Result Who Refusal
nwk_named keys a at None = refuse SenderAbsent
nwk_named keys a at (Some sender) =
    cond (not (is_network a.key)) (refuse KeyNotAllowed)
    (cond (not (is_some (key_found keys (number_of a.key)))) (refuse NoNetworkKey)
    (Ok (claimed a sender at)))

-- Auxiliary header cut: 2. Counter 2^32-1: 30.
abbrev pub nwk_auxiliary : NetworkKeys → ℕ → Result Auxiliary Refusal → Result Who Refusal
nwk_auxiliary keys at (Err why) = Err why
nwk_auxiliary keys at (Ok a) = cond (eqb a.counter spent) (refuse CounterSpent) (nwk_named keys a at a.sender)

-- Header cut: 2. Security bit clear: 1.
abbrev pub nwk_header : NetworkKeys → List ℕ → Result NwkHeader Refusal → Result Who Refusal
nwk_header keys b (Err why) = Err why
nwk_header keys b (Ok h) = cond (not h.secured) (Ok (Told (Plain h.len (length b - h.len)))) (nwk_auxiliary keys h.len (auxiliary_at b h.len))

-- Over 1,024 bytes: 7. Under 4 bytes: 2.
unfoldable pub nwk_who : NetworkKeys → List ℕ → Result Who Refusal
nwk_who keys b = cond (ltb 1024 (length b)) (refuse Unsupported) (cond (ltb (length b) 4) (refuse Cut) (nwk_header keys b (nwk_of b)))

-- ---- APS

-- No sender: 43. Key identifier 1: 32.
abbrev pub aps_named : Auxiliary → ℕ → Option ℕ → Result Who Refusal
aps_named a at None = refuse DeviceAbsent
aps_named a at (Some sender) = cond (is_network a.key) (refuse KeyNotAllowed) (Ok (claimed a sender at))

-- Auxiliary header cut: 2. Counter 2^32-1: 30.
abbrev pub aps_auxiliary : ℕ → Result Auxiliary Refusal → Result Who Refusal
aps_auxiliary at (Err why) = Err why
aps_auxiliary at (Ok a) = cond (eqb a.counter spent) (refuse CounterSpent) (aps_named a at a.sender)

-- Kind not taken: 7. Header cut: 2. Security bit clear: 1.
abbrev pub aps_header : List ℕ → Result ApsHeader Refusal → Result Who Refusal
aps_header b (Err why) = Err why
aps_header b (Ok h) = cond (not h.secured) (Ok (Told (Plain h.len (length b - h.len)))) (aps_auxiliary h.len (auxiliary_at b h.len))

-- Over 1,024 bytes: 7. Under 4 bytes: 2.
unfoldable pub aps_who : List ℕ → Result Who Refusal
aps_who b = cond (ltb 1024 (length b)) (refuse Unsupported) (cond (ltb (length b) 4) (refuse Cut) (aps_header b (aps_of b)))

-- ---- the pair that a frame names, if it names one

abbrev pub pair_of : Result Who Refusal → Option Pair
pair_of (Err why) = None
pair_of (Ok (Told a)) = None
pair_of (Ok (Claims c)) = Some (pair (number_of c.key) c.sender)

abbrev pub sender_of : Result Who Refusal → Option ℕ
sender_of (Err why) = None
sender_of (Ok (Told a)) = None
sender_of (Ok (Claims c)) = Some c.sender
