-- The judgement of securing decides what securing leaves, on plain values. Assumes nothing.
use Rattle.std.specs.Prelude.{Result, Ok, Err, Option, Some, None}
use Rattle.std.specs.Result.{result_and}
use mathlib.Core.Path.{◌≡◌, refl, sym, ap, ◌∙◌}
use mathlib.Core.Bool.{Bool, true, false, cond, not, ◌||◌, ◌&&◌}
use mathlib.Core.List.{List}
use Prim.Native.Nat.{ℕ, ◌+◌, ◌≤◌, ◌<◌}
use native.Mathlib.Omega.{arith}
use lib.Dec.{eqb, ltb}
use lib.ListN.{length, get_or}
use borrow.Author.Tests.{not-false, lt-ltb, le-ltb, ltb-true, ltb-false, ne_eqb, eqb-false}
use Rattle.answer.specs.declared.Accepted.TheVariants as answer
use Rattle.answer.specs.Numbers.{Outcome}
use Rattle.answer.specs.declared.Refusal.{Refusal}
use Rattle.answer.specs.declared.Refusal.TheVariants.{Unsupported, Cut, NoPair, CounterSpent, SenderAbsent, NoRoom}
use Rattle.aib.specs.declared.pairs.PairRow.{PairRow}
use Rattle.aib.specs.declared.pairs.Pairs.{Pairs}
use Rattle.cells.specs.First.{first, at_first}
use Rattle.aib.specs.Pairs.{may_use, usable_found}
use Rattle.aib.specs.Counters.{in_use, holding, raised, advanced}
use Rattle.control.specs.Control.{has_number, sent}
use Rattle.control.specs.declared.KeyIdentifier.{KeyIdentifier}
use Rattle.control.specs.declared.KeyIdentifier.TheVariants.{Link, Transport, Load}
use Rattle.frame_header.specs.Aps.{aps_taken, aps_length, aps_delivery, is_command, is_secured}
use Rattle.claims.specs.Claims.{spent}
use Rattle.aps.specs.declared.state.Aps.{Aps}
use Rattle.aps.specs.declared.sending.Chosen.{Chosen}
use Rattle.aps.specs.SecureAps.{Secured, not_secured, is_transport_key, identifier_for, aps_done, aps_sent, aps_keyed, secure_aps}
use Rattle.aps.specs.Sending.{choice, shortest, kind_taken, plain_taken, sendable, chosen_by, judgement}

-- ---- sizes

pub header_small : (control : ℕ) → aps_length control ≤ 9
unfolding aps_length
header_small control = at (is_command control) (eqb (aps_delivery control) 3)
  where
    at : (t u : Bool) → cond t 2 (1 + cond u 2 1 + 2 + 2 + 1 + 1) ≤ 9
    at true u = omega arith
    at false true = omega arith
    at false false = omega arith

pub header-some : (control : ℕ) → 0 < aps_length control
unfolding aps_length
header-some control = at (is_command control) (eqb (aps_delivery control) 3)
  where
    at : (t u : Bool) → 0 < cond t 2 (1 + cond u 2 1 + 2 + 2 + 1 + 1)
    at true u = omega arith
    at false true = omega arith
    at false false = omega arith

header-shortest : (control : ℕ) → aps_length control ≤ shortest control
header-shortest control = at (is_command control)
  where
    at : (t : Bool) → aps_length control ≤ cond t (aps_length control + 1) (aps_length control)
    at true = omega arith
    at false = omega arith

-- a frame that is secured carries no key number
numberless : (plain : List ℕ) (header : ℕ) (identifier : KeyIdentifier) → choice (identifier_for plain header) ≡ Ok identifier → has_number (sent identifier) ≡ false
unfolding has_number
numberless plain header identifier = go (is_transport_key plain header) (eqb kind 1) (eqb kind 3) (eqb kind 4)
  where
    kind : ℕ
    kind = get_or plain (header + 1) 0

    is : {k : KeyIdentifier} → has_number (sent k) ≡ false → ◌≡◌ {A = Result KeyIdentifier Refusal} (Ok k) (Ok identifier) → has_number (sent identifier) ≡ false
    is {k} h e = let z : k ≡ identifier = cc in rw z at h

    go : (t u v w : Bool) → choice (cond t (cond u (Some Transport) (cond v (Some Load) (cond w (Some Load) None))) (Some Link)) ≡ Ok identifier → has_number (sent identifier) ≡ false
    go false u v w e = is refl e
    go true true v w e = is refl e
    go true false true w e = is refl e
    go true false false true e = is refl e
    go true false false false e = let z : ◌≡◌ {A = ℕ} 0 1 = cc in absurd (omega arith)

-- ---- a check that was passed

passed : {A : Type 0} (t : Bool) (why : Refusal) (rest : Result A Refusal) (x : A) → cond t (Err why) rest ≡ Ok x → (t ≡ false) × (rest ≡ Ok x)
passed true why rest x e = let z : ◌≡◌ {A = ℕ} 0 1 = cc in absurd (omega arith)
passed false why rest x e = (refl, e)

both : (o : Outcome) (next : Result Chosen Refusal) (c : Chosen) → result_and o next ≡ Ok c → (o ≡ Ok tt) × (next ≡ Ok c)
both (Ok tt) next c e = (refl, e)
both (Err why) next c e = let z : ◌≡◌ {A = ℕ} 0 1 = cc in absurd (omega arith)

chose : (k : Result KeyIdentifier Refusal) (r : Result PairRow Refusal) (c : Chosen) → chosen_by k r ≡ Ok c → (k ≡ Ok c.identifier) × (r ≡ Ok c.row)
chose (Err why) r c e = let z : ◌≡◌ {A = ℕ} 0 1 = cc in absurd (omega arith)
chose (Ok k) (Err why) c e = let z : ◌≡◌ {A = ℕ} 0 1 = cc in absurd (omega arith)
chose (Ok k) (Ok row) c e = let z : record { row = row; identifier = k } ≡ c = cc in (ap (λ (x : Chosen). Ok x.identifier) z, ap (λ (x : Chosen). Ok x.row) z)

pub record Taken (s : Aps) (used : ℕ) (plain : List ℕ) : Type 0 where
  pub few : used ≤ 16
  pub some-octets : 0 < length plain
  pub small : length plain ≤ 1006
  pub kind : aps_taken (get_or plain 0 0) ≡ true
  pub secured : is_secured (get_or plain 0 0) ≡ true
  pub header : aps_length (get_or plain 0 0) ≤ length plain

neither : (t u : Bool) → (t || u) ≡ false → (t ≡ false) × (u ≡ false)
neither true u e = let z : ◌≡◌ {A = ℕ} 0 1 = cc in absurd (omega arith)
neither false u e = (refl, e)

pub plain-is-taken : (s : Aps) (used : ℕ) (plain : List ℕ) → plain_taken s used plain ≡ Ok tt → Taken s used plain
unfolding plain_taken kind_taken
plain-is-taken s used plain e =
    let p = passed ((not (eqb s.level 5) || ltb 16 used) || ltb 1006 (length plain)) _ _ tt e in
    let q = neither (not (eqb s.level 5) || ltb 16 used) (ltb 1006 (length plain)) p.0 in
    let r = passed (eqb (length plain) 0) _ _ tt p.1 in
    let t = passed (not (aps_taken (get_or plain 0 0)) || not (is_secured (get_or plain 0 0))) _ _ tt r.1 in
    let u = neither (not (aps_taken (get_or plain 0 0))) (not (is_secured (get_or plain 0 0))) t.0 in
    let v = passed (ltb (length plain) (shortest (get_or plain 0 0))) _ _ tt t.1 in
    record {
      few = ltb-false 16 used (neither (not (eqb s.level 5)) (ltb 16 used) q.0).1;
      some-octets = omega (arith, eqb-false (length plain) 0 r.0);
      small = ltb-false 1006 (length plain) q.1;
      kind = not-false _ u.0;
      secured = not-false _ u.1;
      header = omega (arith, header-shortest (get_or plain 0 0), ltb-false (length plain) (shortest (get_or plain 0 0)) v.0);
    }

-- what the row that goes out says
pub record Goes (row : Option PairRow) (plain : List ℕ) (room : ℕ) (c : Chosen) : Type 0 where
  pub found : row ≡ Some c.row
  pub fresh : c.row.outgoing ≡ spent → ⊥
  pub space : length plain + 17 ≤ room
  pub number : has_number (sent c.identifier) ≡ false

goes : (row : Option PairRow) (extended : Bool) (plain : List ℕ) (room : ℕ) (c : Chosen)
    → chosen_by (choice (identifier_for plain (aps_length (get_or plain 0 0)))) (sendable row (is_command (get_or plain 0 0)) extended (length plain) room) ≡ Ok c
    → Goes row plain room c
goes None extended plain room c e =
    let k = chose (choice (identifier_for plain (aps_length (get_or plain 0 0)))) (Err NoPair) c e in
    let z : ◌≡◌ {A = ℕ} 0 1 = cc in absurd (omega arith)
goes (Some row) extended plain room c e =
    let k = chose (choice (identifier_for plain (aps_length (get_or plain 0 0)))) (sendable (Some row) (is_command (get_or plain 0 0)) extended (length plain) room) c e in
    let p = passed (eqb row.outgoing spent) _ _ c.row k.1 in
    let q = passed (not (is_command (get_or plain 0 0)) && not extended) _ _ c.row p.1 in
    let r = passed (ltb room (length plain + 17)) _ _ c.row q.1 in
    let z : row ≡ c.row = cc in
    record {
      found = ap Some z;
      fresh = λ q. eqb-false row.outgoing spent p.0 (ap (λ (x : PairRow). x.outgoing) z ∙ q);
      space = ltb-false room (length plain + 17) r.0;
      number = numberless plain (aps_length (get_or plain 0 0)) c.identifier k.0;
    }

-- ---- the whole

module _ (s : Aps) (pairs : Pairs) (d : ℕ) (extended : Bool) (plain out : List ℕ) where
  abbrev control : ℕ
  control = get_or plain 0 0

  abbrev head : ℕ
  head = aps_length control

  -- what a choice leaves
  abbrev pub left : Result Chosen Refusal → Secured
  left (Err why) = not_secured why out pairs
  left (Ok c) = aps_done s pairs d c.row c.identifier plain out head

  abbrev after : Outcome → Secured → Secured
  after (Ok tt) rest = rest
  after (Err why) rest = not_secured why out pairs

  left-after : (o : Outcome) (next : Result Chosen Refusal) → left (result_and o next) ≡ after o (left next)
  left-after (Ok tt) next = refl
  left-after (Err why) next = refl

  -- the row, its counter, the sender and the room
  by_row : (row : Option PairRow) (identifier : KeyIdentifier)
      → aps_sent s pairs d extended identifier plain out head row ≡ left (chosen_by (Ok identifier) (sendable row (is_command control) extended (length plain) (length out)))
  by_row None identifier = refl
  by_row (Some r) identifier = at (eqb r.outgoing spent) (not (is_command control) && not extended) (ltb (length out) (length plain + 17))
    where
      at : (t u v : Bool) → cond t (not_secured CounterSpent out pairs) (cond u (not_secured SenderAbsent out pairs) (cond v (not_secured NoRoom out pairs) (aps_done s pairs d r identifier plain out head)))
          ≡ left (chosen_by (Ok identifier) (cond t (Err CounterSpent) (cond u (Err SenderAbsent) (cond v (Err NoRoom) (Ok r)))))
      at true u v = refl
      at false true v = refl
      at false false true = refl
      at false false false = refl

  by_key : (o : Option KeyIdentifier)
      → aps_keyed s pairs d extended plain out head o ≡ left (chosen_by (choice o) (sendable (first (may_use d) (in_use pairs)) (is_command control) extended (length plain) (length out)))
  by_key None = refl
  by_key (Some identifier) = by_row (first (may_use d) (in_use pairs)) identifier

  -- a header that is cut, and a command without a first payload byte
  short : (ltb (length plain) head || (is_command control && ltb (length plain) (head + 1))) ≡ ltb (length plain) (shortest control)
  short = at (is_command control) (ltb (length plain) head) refl
    where
      at : (t u : Bool) → ltb (length plain) head ≡ u → (u || (t && ltb (length plain) (head + 1))) ≡ ltb (length plain) (cond t (head + 1) head)
      at false true e = sym e
      at false false e = sym e
      at true true e = sym (lt-ltb (length plain) (head + 1) (omega (arith, ltb-true (length plain) head e)))
      at true false e = refl

  by_kind : (rest : Secured)
      → cond (not (aps_taken control) || not (is_secured control)) (not_secured Unsupported out pairs) (cond (ltb (length plain) (shortest control)) (not_secured Cut out pairs) rest)
      ≡ after (kind_taken control (length plain)) rest
  unfolding kind_taken
  by_kind rest = at (not (aps_taken control) || not (is_secured control)) (ltb (length plain) (shortest control))
    where
      at : (t v : Bool) → cond t (not_secured Unsupported out pairs) (cond v (not_secured Cut out pairs) rest)
          ≡ after (cond t (Err Unsupported) (cond v (Err Cut) (Ok tt))) rest
      at true v = refl
      at false true = refl
      at false false = refl

  by-plain : (rest : Secured)
      → cond (not (eqb s.level 5) || (ltb 16 pairs.used || ltb 1006 (length plain))) (not_secured Unsupported out pairs)
      (cond (eqb (length plain) 0) (not_secured Cut out pairs) (after (kind_taken control (length plain)) rest))
      ≡ after (plain_taken s pairs.used plain) rest
  unfolding plain_taken
  by-plain rest = at (not (eqb s.level 5)) (ltb 16 pairs.used) (ltb 1006 (length plain)) (eqb (length plain) 0)
    where
      at : (t u v w : Bool) → cond (t || (u || v)) (not_secured Unsupported out pairs) (cond w (not_secured Cut out pairs) (after (kind_taken control (length plain)) rest))
          ≡ after (cond ((t || u) || v) (Err Unsupported) (cond w (Err Cut) (kind_taken control (length plain)))) rest
      at true u v w = refl
      at false true v w = refl
      at false false true w = refl
      at false false false true = refl
      at false false false false = refl

  pub secures : secure_aps s pairs d extended plain out ≡ left (judgement s pairs.used (first (may_use d) (in_use pairs)) extended plain (length out))
  unfolding secure_aps judgement
  secures =
      rw (short, by_key (identifier_for plain head), by_kind, by-plain)
      (sym (left-after (plain_taken s pairs.used plain) (chosen_by (choice (identifier_for plain head)) (sendable (first (may_use d) (in_use pairs)) (is_command control) extended (length plain) (length out)))))

-- ---- the rows

pub usable-is : (pairs : Pairs) (d : ℕ) → usable_found pairs d ≡ first (may_use d) (in_use pairs)
unfolding usable_found
usable-is pairs d = refl

advances : (pairs : Pairs) (d : ℕ) (r : PairRow) → pairs.used ≤ 16 → first (may_use d) (in_use pairs) ≡ Some r → (r.outgoing ≡ spent → ⊥)
    → advanced pairs d ≡ record { outcome = Ok tt; counter = r.outgoing; pairs = holding (at_first (may_use d) raised (in_use pairs)) pairs }
unfolding advanced
advances pairs d r few e n = rw (le-ltb 16 pairs.used few, e, ne_eqb r.outgoing spent n)

-- ---- for the row that the search found

module _ (s : Aps) (pairs : Pairs) (d : ℕ) (extended : Bool) (plain out : List ℕ) (found : Option PairRow) (found-is : found ≡ first (may_use d) (in_use pairs)) where
  abbrev judged : Result Chosen Refusal
  judged = judgement s pairs.used found extended plain (length out)

  decides : left s pairs d extended plain out judged ≡ secure_aps s pairs d extended plain out
  decides = rw found-is (sym (secures s pairs d extended plain out))

  pub refuses : (why : Refusal) → judged ≡ Err why → not_secured why out pairs ≡ secure_aps s pairs d extended plain out
  refuses why e = rw e at decides

  pub record Ready (c : Chosen) : Type 0 where
    pub taken : Taken s pairs.used plain
    pub goes-out : Goes found plain (length out) c
    pub done : aps_done s pairs d c.row c.identifier plain out (aps_length (get_or plain 0 0)) ≡ secure_aps s pairs d extended plain out
    pub moved : advanced pairs d ≡ record { outcome = Ok tt; counter = c.row.outgoing; pairs = holding (at_first (may_use d) raised (in_use pairs)) pairs }

  pub ready : (c : Chosen) → judged ≡ Ok c → Ready c
  unfolding judgement
  ready c e =
      let k = both (plain_taken s pairs.used plain) _ c e in
      let t = plain-is-taken s pairs.used plain k.0 in
      let g = goes found extended plain (length out) c k.1 in
      record {
        taken = t;
        goes-out = g;
        done = rw e at decides;
        moved = advances pairs d c.row t.few (sym found-is ∙ g.found) g.fresh;
      }

  -- where a frame went out, by some key
  pub record Sent : Type 0 where
    pub chosen : Chosen
    pub is-ready : Ready chosen

  pub went-out : (start len : ℕ) → (secure_aps s pairs d extended plain out).answer ≡ Ok (answer.Done start len) → Sent
  went-out start len e = at judged refl (ap (λ (x : Secured). x.answer) decides ∙ e)
    where
      at : (j : Result Chosen Refusal) → judged ≡ j → (left s pairs d extended plain out j).answer ≡ Ok (answer.Done start len) → Sent
      at (Err why) h e' = let z : ◌≡◌ {A = ℕ} 0 1 = cc in absurd (omega arith)
      at (Ok c) h e' = record { chosen = c; is-ready = ready c h }
