-- The active number at the end of a list. A frame opens only under the number of one of the keys. So with at most two keys, the active
-- number a one of theirs, it ends as the next number if a frame opened under that, and else as it was: once it has moved, a, the next
-- and the one after that would be three numbers. Which frames open does not depend on the order. Assumes nothing.
use Rattle.std.specs.Prelude.{Err, Ok, is_some, option_map, Result, ◌≡◌, ◌⊎◌, Bool, not, ◌||◌, length, take, eqb, ltb, Option, None, Some}
use Rattle.std.proofs.Math.Path.{refl}
use Rattle.std.proofs.Common.{sym, ap, ◌∙◌, inl, inr, arith, length-take, eqb-true}
use Rattle.std.proofs.Math.Bool.{true, false, cond}
use mathlib.Core.List.Memᴰ
use mathlib.Core.List.Memᴰ.{head as here}
use mathlib.Core.List.Memᴰ.{tail as there}
use mathlib.Core.List.{List, [], ◌∷◌, map, Memᴰ as Mem}
use Prim.Native.Nat.{ℕ, ◌≤◌}
use Rattle.std.proofs.lemmas.List.{length-map}
use Rattle.answer.specs.Numbers.{Answer}
use Rattle.answer.specs.declared.Accepted.TheVariants.{Done, Plain}
use Rattle.answer.specs.declared.Refusal.TheVariants.{NoNetworkKey}
use Rattle.cells.specs.Lists.{any}
use Rattle.cells.specs.ListLaws.{either}
use Rattle.cells.specs.Machine.{run, final}
use Rattle.cells.specs.Rows.{find}
use Rattle.auxiliary_header.specs.declared.auxiliary.Auxiliary.{Auxiliary}
use Rattle.auxiliary_header.specs.Auxiliary.{auxiliary_at}
use Rattle.frame_header.specs.declared.network.NwkHeader.{NwkHeader}
use Rattle.frame_header.specs.Nwk.{nwk_of}
use Rattle.nib.specs.declared.keys.NetworkKey.{NetworkKey}
use Rattle.nib.specs.declared.keys.NetworkKeys.{NetworkKeys}
use Rattle.nib.specs.Active.{next, turn}
use Rattle.nib.specs.Keys.{key_row, key_rows, key_found}
use Rattle.nib.specs.Pairs.{Pair}
use Rattle.answer.specs.declared.Refusal.{Refusal}
use Rattle.claims.specs.declared.Who.{Who}
use Rattle.claims.specs.declared.Who.TheVariants as who
use Rattle.claims.specs.Claims.{spent, refuse, is_network, number_of, claimed, nwk_named, nwk_auxiliary, nwk_header, nwk_who, pair_of}
use Rattle.protection.specs.Heard.{Heard}
use Rattle.judging.specs.OpenNwk.{Opened, nwk_placed, active_after}
use Rattle.order.specs.Nwk.{Gateway, numbers, claimed_pair, answer, after}
use Rattle.order.specs.NwkMachine.{Good}
use Rattle.order.proofs.NwkPlaced.{opening, stays-good}
use Rattle.order.specs.NwkActive.{opens_under}
use Rattle.order.proofs.ThreeNumbers.{two-of-three}

-- so with a number and the next, the one after that is not a member
no_third : (l : List ℕ) → length l ≤ 2 → (a : ℕ) → Mem a l → Mem (next a) l → ¬ Mem (next (next a)) l
no_third l two a p q r = at (two-of-three l two a (next a) (next (next a)) p q r)
  where
    at : (a ≡ next a) ⊎ ((next a ≡ next (next a)) ⊎ (a ≡ next (next a))) → ⊥
    at (inl e) = omega arith
    at (inr (inl e)) = omega arith
    at (inr (inr e)) = omega arith

-- ---- a frame that names a pair names a key

-- a number that is found is one of the keys'
found_number : (rs : List NetworkKey) (n : ℕ) (key : List ℕ) → find key_rows rs n ≡ Some key → Mem n (map (λ (r : NetworkKey). r.number) rs)
unfolding find
found_number [] n key e = cc
found_number (r ∷ rs) n key e = at (eqb r.number n) refl e (found_number rs n key)
  where
    at : (t : Bool) → eqb r.number n ≡ t → cond t (Some r.key) (find key_rows rs n) ≡ Some key
        → (find key_rows rs n ≡ Some key → Mem n (map (λ (x : NetworkKey). x.number) rs)) → Mem n (r.number ∷ map (λ (x : NetworkKey). x.number) rs)
    at true q f ih = here (sym (eqb-true r.number n q))
    at false q f ih = there (ih f)

key-number : (keys : NetworkKeys) (n : ℕ) → is_some (key_found keys n) ≡ true → Mem n (numbers keys)
unfolding key_found
key-number keys n e = at (find key_rows (take keys.used keys.rows) n) refl e
  where
    at : (o : Option (List ℕ)) → find key_rows (take keys.used keys.rows) n ≡ o → is_some (option_map (key_row n) o) ≡ true → Mem n (numbers keys)
    at None q f = cc
    at (Some key) q f = found_number (take keys.used keys.rows) n key q

module _ (keys : NetworkKeys) (b : List ℕ) (k : Pair) where
  abbrev Named : Result Who Refusal → Type 0
  Named w = pair_of w ≡ Some k → Mem k.number (numbers keys)

  none_named : None ≡ Some k → Mem k.number (numbers keys)
  none_named e = cc

  pub named-key : Named (nwk_who keys b)
  unfolding nwk_who
  named-key = either Named (ltb 1024 (length b)) none_named (either Named (ltb (length b) 4) none_named (by-header (nwk_of b)))
    where
      by-sender : (a : Auxiliary) (at : ℕ) (s : Option ℕ) → Named (nwk_named keys a at s)
      by-sender a at None = none_named
      by-sender a at (Some s) = either Named (not (is_network a.key)) none_named (by_key (is_some (key_found keys (number_of a.key))) refl)
        where
          by_key : (t : Bool) → is_some (key_found keys (number_of a.key)) ≡ t → Named (cond (not t) (refuse NoNetworkKey) (Ok (claimed a s at)))
          by_key false q = none_named
          by_key true q = λ e. Memᴰ.cast (cc) (key-number keys (number_of a.key) q)

      by-auxiliary : (at : ℕ) (r : Result Auxiliary Refusal) → Named (nwk_auxiliary keys at r)
      by-auxiliary at (Err why) = none_named
      by-auxiliary at (Ok a) = either Named (eqb a.counter spent) none_named (by-sender a at a.sender)

      by-header : (r : Result NwkHeader Refusal) → Named (nwk_header keys b r)
      by-header (Err why) = none_named
      by-header (Ok h) = either Named (not h.secured) none_named (by-auxiliary h.len (auxiliary_at b h.len))

-- ---- one frame

pub opens-named : (n : ℕ) (o : Option Pair) (a : Answer) → opens_under n o a ≡ true → (k : Pair) × (o ≡ Some k) × (k.number ≡ n)
opens-named n None a e = cc
opens-named n (Some k) (Ok (Done start len)) e = (k, refl, eqb-true k.number n e)
opens-named n (Some k) (Ok (Plain start len)) e = cc
opens-named n (Some k) (Err why) e = cc

turned-once : (a : ℕ) (k : Pair) (x : Answer) → active_after a k.number x ≡ cond (opens_under (next a) (Some k) x) (next a) a
unfolding turn
turned-once a k (Ok (Done start len)) = at (eqb k.number (next a)) refl
  where
    at : (t : Bool) → eqb k.number (next a) ≡ t → cond t k.number a ≡ cond t (next a) a
    at true e = eqb-true k.number (next a) e
    at false e = refl
turned-once a k (Ok (Plain start len)) = refl
turned-once a k (Err why) = refl

module _ (keys : NetworkKeys) (lent : ℕ) (two : keys.used ≤ 2) where
  -- the active number after a frame: the next, if the frame opened under that
  active-step : (g : Gateway) (b : List ℕ) → Good keys lent g
      → (after g b).nwk.active ≡ cond (opens_under (next g.nwk.active) (pair_of (nwk_who keys b)) (answer g b).answer) (next g.nwk.active) g.nwk.active
  unfolding nwk_placed
  active-step g b h = rw (opening keys lent two g b h) (at (nwk_who keys b))
    where
      placed : Result Who Refusal → Opened
      placed w = nwk_placed g.nwk g.rows g.used b w

      at : (w : Result Who Refusal) → (placed w).active ≡ cond (opens_under (next g.nwk.active) (pair_of w) (placed w).answer) (next g.nwk.active) g.nwk.active
      at (Err why) = refl
      at (Ok (who.Told a)) = refl
      at (Ok (who.Claims c)) = turned-once g.nwk.active (claimed_pair c) (placed (Ok (who.Claims c))).answer

  -- ---- a list of frames

  module _ (b : ℕ → List ℕ) where
    abbrev pub opens : ℕ → ℕ × Heard → Bool
    opens n e = opens_under n (pair_of (nwk_who keys (b e.0))) e.1.answer

    abbrev answer_at : Gateway → ℕ → Heard
    answer_at g i = answer g (b i)

    abbrev after_at : Gateway → ℕ → Gateway
    after_at g i = after g (b i)

    opens-key : (n : ℕ) (e : ℕ × Heard) → opens n e ≡ true → Mem n (numbers keys)
    opens-key n e t =
        let x = opens-named n (pair_of (nwk_who keys (b e.0))) e.1.answer t in
        Memᴰ.cast (sym x.2) (named-key keys (b e.0) x.0 x.1)

    -- no key has the next number: the active number stays
    stays : (g : Gateway) (p : List ℕ) → Good keys lent g → ¬ Mem (next g.nwk.active) (numbers keys) → (final after_at g p).nwk.active ≡ g.nwk.active
    unfolding final
    stays g [] h n = refl
    stays g (i ∷ p) h n = stays (after_at g i) p (stays-good keys lent two g (b i) h) (rw same n) ∙ same
      where
        at : (t : Bool) → opens (next g.nwk.active) (i, answer_at g i) ≡ t → cond t (next g.nwk.active) g.nwk.active ≡ g.nwk.active
        at true e = absurd (n (opens-key (next g.nwk.active) (i, answer_at g i) e))
        at false e = refl

        same : (after_at g i).nwk.active ≡ g.nwk.active
        same = active-step g (b i) h ∙ at (opens (next g.nwk.active) (i, answer_at g i)) refl

    pub turned : (g : Gateway) (p : List ℕ) → Good keys lent g → Mem g.nwk.active (numbers keys)
        → (final after_at g p).nwk.active ≡ cond (any (opens (next g.nwk.active)) (run answer_at after_at g p)) (next g.nwk.active) g.nwk.active
    unfolding final run any
    turned g [] h m = refl
    turned g (i ∷ p) h m = at (opens (next a) (i, answer_at g i)) refl (active-step g (b i) h) (turned (after_at g i) p good)
      where
        a : ℕ
        a = g.nwk.active

        good : Good keys lent (after_at g i)
        good = stays-good keys lent two g (b i) h

        few : length (numbers keys) ≤ 2
        few = simp (length-map, length-take) (omega arith)

        end : ℕ → ℕ
        end c = cond (any (opens (next c)) (run answer_at after_at (after_at g i) p)) (next c) c

        at : (t : Bool) → opens (next a) (i, answer_at g i) ≡ t → (after_at g i).nwk.active ≡ cond t (next a) a
            → (Mem (after_at g i).nwk.active (numbers keys) → (final after_at (after_at g i) p).nwk.active ≡ end (after_at g i).nwk.active)
            → (final after_at (after_at g i) p).nwk.active ≡ cond (t || any (opens (next a)) (run answer_at after_at (after_at g i) p)) (next a) a
        at true e s ih = stays (after_at g i) p good (rw s (no_third (numbers keys) few a m (opens-key (next a) (i, answer_at g i) e))) ∙ s
        at false e s ih = ih (rw s m) ∙ ap end s
