-- Securing in its two halves: what a securing that is done has checked, and that the checks and what follows them make up `secure_nwk`.
-- Assumes nothing.
use mathlib.Core.Path.{◌≡◌, refl, sym, ap, ◌∙◌}
use mathlib.Core.Bool.{Bool, true, false, cond, not, ◌||◌}
use mathlib.Core.List.{List, ◌++◌}
use Prim.Native.Nat.{ℕ, ◌+◌, ◌≤◌}
use native.Mathlib.Omega.{arith}
use lib.Dec.{eqb, leb, ltb}
use lib.ListN.{length, drop}
use borrow.Author.Tests.{ltb-false, leb-true, not-false}
use Rattle.std.specs.Prelude.{Result, Ok, Err, is_some}
use Rattle.laws.specs.Numbers.{bit}
use Rattle.answer.specs.Numbers.{Outcome}
use Rattle.answer.specs.declared.Accepted.TheVariants.{Done}
use Rattle.answer.specs.declared.Refusal.{Refusal}
use Rattle.answer.specs.declared.Refusal.TheVariants.{Unsupported, Cut, NoNetworkKey, CounterExhausted, NoRoom}
use Rattle.frame_header.specs.declared.network.NwkHeader.{NwkHeader}
use Rattle.frame_header.specs.Nwk.{nwk_control, nwk_kind, nwk_kind_number, nwk_length, nwk_of}
use Rattle.nib.specs.declared.outgoing.Outgoing.{Outgoing}
use Rattle.nib.specs.Keys.{key_found}
use Rattle.nib.specs.Sending.{AfterTaking, may_use, taken, took}
use Rattle.protection.specs.Protection.{level}
use Rattle.nib.specs.declared.state.Nwk.{Nwk}
use Rattle.securing.specs.declared.ready.Ready.{Ready}
use Rattle.securing.specs.Ready.{ready_framed, ready_for}
use Rattle.securing.specs.SecureNwk.{Secured, not_secured, nwk_added, nwk_on_air, nwk_done, nwk_framed, secure_nwk}

-- ---- what a securing that is done has checked

pub record Checked (s : Nwk) (o : Outgoing) (plain out : List ℕ) : Type 0 where
  pub small : length plain ≤ 1006
  pub whole : nwk_length plain ≤ length plain
  pub bit-set : bit 9 (nwk_control plain) ≡ true
  pub found : is_some (key_found s.keys s.active) ≡ true
  pub usable : may_use o ≡ true
  pub fits : length plain + nwk_added ≤ length out
  pub leaves : secure_nwk s o plain out ≡ nwk_done s o plain out (nwk_length plain)

nor-the-other : (a : Bool) {b : Bool} → (a || b) ≡ false → b ≡ false
nor-the-other false e = e
nor-the-other true e = let z : ◌≡◌ {A = ℕ} 0 1 = cc in absurd (omega arith)

module _ (s : Nwk) (o : Outgoing) (plain out : List ℕ) (start len : ℕ) where
  -- a check that was passed
  passed : (t : Bool) (why : Refusal) (rest : Secured) → (cond t (not_secured why out o) rest).answer ≡ Ok (Done start len)
      → (t ≡ false) × (rest.answer ≡ Ok (Done start len)) × (cond t (not_secured why out o) rest ≡ rest)
  passed true why rest e = let z : ◌≡◌ {A = ℕ} 0 1 = cc in absurd (omega arith)
  passed false why rest e = (refl, e, refl)

  abbrev header_read : Bool → Result NwkHeader Refusal
  header_read b = cond b (Ok (record { len = nwk_length plain; kind = nwk_kind (nwk_control plain); secured = bit 9 (nwk_control plain) })) (Err Cut)

  header-checked : (b : Bool) → leb (nwk_length plain) (length plain) ≡ b → length plain ≤ 1006
      → secure_nwk s o plain out ≡ nwk_framed s o plain out (header_read b) → (nwk_framed s o plain out (header_read b)).answer ≡ Ok (Done start len)
      → Checked s o plain out
  header-checked false t small so e = let z : ◌≡◌ {A = ℕ} 0 1 = cc in absurd (omega arith)
  header-checked true t small so e =
      let kind = passed (leb 2 (nwk_kind_number (nwk_kind (nwk_control plain))) || not (bit 9 (nwk_control plain))) Unsupported _ e in
      let key = passed (not (is_some (key_found s.keys s.active))) NoNetworkKey _ kind.1 in
      let may = passed (not (may_use o)) CounterExhausted _ key.1 in
      let fits = passed (ltb (length out) (length plain + nwk_added)) NoRoom _ may.1 in
      record {
        small = small;
        whole = leb-true (nwk_length plain) (length plain) t;
        bit-set = not-false _ (nor-the-other (leb 2 (nwk_kind_number (nwk_kind (nwk_control plain)))) kind.0);
        found = not-false _ key.0;
        usable = not-false _ may.0;
        fits = ltb-false (length out) (length plain + nwk_added) fits.0;
        leaves = so ∙ kind.2 ∙ key.2 ∙ may.2 ∙ fits.2;
      }

  pub is-checked : (secure_nwk s o plain out).answer ≡ Ok (Done start len) → Checked s o plain out
  unfolding secure_nwk nwk_of
  is-checked e =
      let state = passed (not (eqb s.level level) || (ltb 2 s.keys.used || ltb 1006 (length plain))) Unsupported _ e in
      header-checked (leb (nwk_length plain) (length plain)) refl (ltb-false 1006 (length plain) (nor-the-other (ltb 2 s.keys.used) (nor-the-other (not (eqb s.level level)) state.0))) state.2 state.1

-- ---- the checks, and what follows them

never_ok : {X : Type 0} {why : Refusal} {ready : Ready} → ◌≡◌ {A = Result Ready Refusal} (Err why) (Ok ready) → X
never_ok e = let z : ◌≡◌ {A = ℕ} 0 1 = cc in absurd (omega arith)

module _ (s : Nwk) (o : Outgoing) (plain out : List ℕ) where
  abbrev asked : Result Ready Refusal
  asked = ready_for s o.next plain (length out)

  -- where every check was passed: the whole finished frame is answered, and the header's length is the plain frame's
  abbrev passes : Ready
  passes = record { answer = Done 0 (length plain + nwk_added); header = nwk_length plain }

  ready-is : (a b c d e : Bool) (ready : Ready) → cond a (Err Unsupported) (cond b (Err Unsupported) (cond c (Err NoNetworkKey) (cond d (Err CounterExhausted) (cond e (Err NoRoom) (Ok passes))))) ≡ Ok ready
      → ready ≡ passes
  ready-is true b c d e ready t = never_ok t
  ready-is false true c d e ready t = never_ok t
  ready-is false false true d e ready t = never_ok t
  ready-is false false false true e ready t = never_ok t
  ready-is false false false false true ready t = never_ok t
  ready-is false false false false false ready t = cc

  abbrev read : Bool → Result NwkHeader Refusal
  read w = cond w (Ok (record { len = nwk_length plain; kind = nwk_kind (nwk_control plain); secured = bit 9 (nwk_control plain) })) (Err Cut)

  ready-read : (ready : Ready) → asked ≡ Ok ready → ready ≡ passes
  unfolding ready_for nwk_of
  ready-read ready t = at (leb (nwk_length plain) (length plain)) (not (eqb s.level level) || (ltb 2 s.keys.used || ltb 1006 (length plain))) t
    where
      at : (w a : Bool) → cond a (Err Unsupported) (ready_framed s o.next (length plain) (length out) (read w)) ≡ Ok ready → ready ≡ passes
      at true a h =
          ready-is a (leb 2 (nwk_kind_number (nwk_kind (nwk_control plain))) || not (bit 9 (nwk_control plain))) (not (is_some (key_found s.keys s.active))) (not (may_use o)) (ltb (length out) (length plain + nwk_added)) ready h
      at false true h = never_ok h
      at false false h = never_ok h

  -- what is left, by what was asked
  abbrev by : Result Ready Refusal → Secured
  by (Err why) = not_secured why out o
  by (Ok ready) = nwk_done s o plain out ready.header

  by_cond : (t : Bool) (why : Refusal) (rest : Result Ready Refusal) → by (cond t (Err why) rest) ≡ cond t (not_secured why out o) (by rest)
  by_cond true why rest = refl
  by_cond false why rest = refl

  by-framed : (h : Result NwkHeader Refusal) → by (ready_framed s o.next (length plain) (length out) h) ≡ nwk_framed s o plain out h
  by-framed (Err why) = refl
  by-framed (Ok h) = rw (by_cond, by_cond, by_cond, by_cond)

  by-asked : by asked ≡ secure_nwk s o plain out
  unfolding ready_for secure_nwk
  by-asked = rw (by_cond, by-framed)

  -- THE SECURING, where a check refuses
  pub refuses : (why : Refusal) → asked ≡ Err why → not_secured why out o ≡ secure_nwk s o plain out
  refuses why e = rw e at by-asked

  -- and where every check was passed
  module _ (ready : Ready) (is-asked : asked ≡ Ok ready) where
    abbrev header : ℕ
    header = ready.header

    done : nwk_done s o plain out header ≡ secure_nwk s o plain out
    done = rw is-asked at by-asked

    checked : Checked s o plain out
    checked = is-checked s o plain out 0 (length plain + nwk_added) (sym (ap (λ (x : Secured). x.answer) done))

    pub goes : (header ≤ length plain) × (length plain ≤ 1006) × (length plain + nwk_added ≤ length out)
    goes = (rw (ready-read ready is-asked) checked.whole, checked.small, checked.fits)

    pub takes : taken o ≡ record { outcome = Ok tt; counter = o.next; outgoing = record { next = o.next + 1 } }
    unfolding taken
    takes = rw checked.usable

    -- the counter is taken, and the frame written under it
    pub sent : (r : Result ℕ Refusal) (o' : Outgoing) → took r o' ≡ taken o → (counter : ℕ) → r ≡ Ok counter
        → (y : List ℕ) → y ≡ nwk_on_air s counter plain header ++ drop (length plain + nwk_added) out
        → record { answer = Ok (Done 0 (length plain + nwk_added)); out = y; outgoing = o' } ≡ secure_nwk s o plain out
    sent r o' k counter e y f =
        let w : record { outcome = Ok tt; counter = counter; outgoing = o' } ≡ record { outcome = Ok tt; counter = o.next; outgoing = record { next = o.next + 1 } } = (ap (λ (x : Result ℕ Refusal). took x o') (sym e) ∙ k) ∙ takes in
        (λ i. record { answer = Ok (Done 0 (length plain + nwk_added)); out = (f ∙ ap (λ (x : AfterTaking). nwk_on_air s x.counter plain header ++ drop (length plain + nwk_added) out) w) i; outgoing = (w i).outgoing })
        ∙ done

    -- the same, of the answer that was ready before
    pub secured-sent : (r : Result ℕ Refusal) (o' : Outgoing) → took r o' ≡ taken o → (counter : ℕ) → r ≡ Ok counter
        → (y : List ℕ) → y ≡ nwk_on_air s counter plain header ++ drop (length plain + nwk_added) out
        → record { answer = Ok ready.answer; out = y; outgoing = o' } ≡ secure_nwk s o plain out
    secured-sent r o' k counter e y f =
        ap (λ (x : Ready). record { answer = Ok x.answer; out = y; outgoing = o' }) (ready-read ready is-asked) ∙ sent r o' k counter e y f

    -- no counter that may be used is refused
    pub taken-is : (r : Result ℕ Refusal) (o' : Outgoing) (why : Refusal) → took r o' ≡ taken o → r ≡ Err why → ⊥
    taken-is r o' why k e =
        let w : ◌≡◌ {A = AfterTaking} (record { outcome = Err why; counter = 0; outgoing = o' }) (record { outcome = Ok tt; counter = o.next; outgoing = record { next = o.next + 1 } }) = (ap (λ (x : Result ℕ Refusal). took x o') (sym e) ∙ k) ∙ takes in
        let v : ◌≡◌ {A = Outcome} (Err why) (Ok tt) = ap (λ (x : AfterTaking). x.outcome) w in
        let z : ◌≡◌ {A = ℕ} 0 1 = cc in absurd (omega arith)
