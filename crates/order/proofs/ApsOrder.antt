-- Opening APS frames is a machine in the sense of `cells`: a frame acts on the row of its own sender alone. So the law of `cells` says
-- what order leaves as it is in a list of APS openings; a state that is not taken answers every frame 7. Assumes nothing.
use Rattle.std.specs.Prelude.{◌≡◌, Bool, true, false, List, ℕ, ◌+◌, ◌≤◌, length, None}
use Rattle.std.proofs.Math.Path.{refl}
use Rattle.std.proofs.Common.{ap, ◌∙◌, arith}
use Rattle.std.proofs.Math.ListN.{length-take}
use Rattle.cells.specs.Rows.{reply_of}
use Rattle.cells.specs.Machine.{Machine}
use Rattle.cells.specs.Reorder.{Reordered}
use Rattle.cells.proofs.Order.{any_order}
use Rattle.cells.proofs.Still.{still_alike}
use Rattle.aib.specs.declared.pairs.PairRow.{PairRow}
use Rattle.aib.specs.Counters.{in_use}
use Rattle.aib.specs.Pairs.{PairCell, pair_rows}
use Rattle.claims.specs.Claims.{aps_who, sender_of}
use Rattle.protection.specs.Heard.{Heard}
use Rattle.aps.specs.OpenAps.{aps_unfit, open_aps}
use Rattle.order.specs.Frames.{leaves, says}
use Rattle.order.specs.Aps.{Gateway, answer, after, ApsDesk, opened, names, new_senders, Alike}
use Rattle.order.specs.ApsOrder.{reaction, settled, Good}
use Rattle.order.proofs.ApsPlaced.{taken-good, opening, named-placed, nameless-placed, stays-good}

-- THE MACHINE
unfoldable pub machine : Machine Gateway (List ℕ) Heard PairRow ℕ PairCell
machine = record {
  answer = answer;
  after = after;
  rows = pair_rows;
  rows_of = λ g. in_use g.pairs;
  places = 16;
  names = λ b. sender_of (aps_who b);
  react = λ b. reaction b (aps_who b);
  idle = λ b. reply_of (reaction b (aps_who b) None);
  Good = Good;
  stays-good = stays-good;
  named = λ g b k h n. ap settled (opening g b h) ∙ named-placed g b h k (aps_who b) n;
  nameless = λ g b h n. ap settled (opening g b h) ∙ nameless-placed g b h (aps_who b) n;
}

taken-alike : (d : ApsDesk) (p q : List ℕ) → Good d.state → d.state.pairs.used + length (new_senders d p) ≤ 16 → Reordered (names d) p q
    → Alike (opened d p) (opened d q)
unfolding machine
taken-alike d p q good free re =
    let rows-free : length (in_use d.state.pairs) + length (new_senders d p) ≤ 16 = simp length-take (omega arith) in
    let same = any_order machine leaves says d p q good rows-free re in
    record { octets = same.buffers; answers = same.answers; pairs = same.cells }

-- a state that is not taken stays as it is
untaken-alike : (d : ApsDesk) (p q : List ℕ) → aps_unfit d.state.aps d.state.pairs ≡ true → Reordered (names d) p q → Alike (opened d p) (opened d q)
unfolding open_aps
untaken-alike d p q unfit re =
    let same = still_alike answer after leaves says pair_rows (λ (g : Gateway). in_use g.pairs) d (λ b. rw unfit) p q re in
    record { octets = same.buffers; answers = same.answers; pairs = same.cells }

pub aps-alike : (d : ApsDesk) (p q : List ℕ) → d.state.pairs.used + length (new_senders d p) ≤ 16 → Reordered (names d) p q → Alike (opened d p) (opened d q)
aps-alike d p q free re = at (aps_unfit d.state.aps d.state.pairs) refl
  where
    at : (t : Bool) → aps_unfit d.state.aps d.state.pairs ≡ t → Alike (opened d p) (opened d q)
    at true e = untaken-alike d p q e re
    at false e = taken-alike d p q (taken-good d.state e) free re
