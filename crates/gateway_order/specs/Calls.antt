-- A gateway that calls `nwk::open_nwk` for one frame after another, each in a buffer of its own. What a call returns and leaves is whatever its promise
-- allows. `nwk-open-nwk-promise` is the `ensures` of the code: `nwk-open-nwk-says`, beside it in the crate `decided`, shows that.
use Rattle.std.specs.Prelude.{◌≡◌, List, [], ◌∷◌, ℕ, Some}
use contract.Lifetimes.{Lfts}
use denote.Triple.Entry.{Args, Res}
use denote.Triple.Clauses.{Lasts, at_exit}
use Rattle.answer.specs.Numbers.{told}
use Rattle.cells.specs.Desk.{write}
use Rattle.decided.specs.Decides.{nwk-open-nwk-promise}
use Rattle.nwk.specs.contracts.open_nwk.{ended}
use Rattle.order.specs.Nwk.{Gateway, NwkDesk}

-- One call with what the gateway g holds, for a frame b: arguments, result, and the last contents of what was lent (the rows and the frame). The
-- arguments are the gateway's and the frame's, and the promise allows the rest.
pub record Call (g : Gateway) (b : List ℕ) : Type 0 where
  pub lifetimes : Lfts ended.signature.lifetimes
  pub arguments : Args ended.signature lifetimes
  pub result : Res ended.signature lifetimes
  pub last : Lasts ended lifetimes arguments
  pub nwk : arguments.0 ≡ g.nwk
  pub rows : arguments.1.0.now ≡ g.rows
  pub used : arguments.1.1.0 ≡ g.used
  pub frame : arguments.1.1.1.0.now ≡ b
  pub promised : nwk-open-nwk-promise lifetimes arguments result (at_exit ended lifetimes arguments last)

-- what the gateway holds after it: `active` and `used` of the result, and the rows as they are then
abbrev pub handed_on : (g : Gateway) (b : List ℕ) → Call g b → Gateway
handed_on g b c = record {
  nwk = record { level = g.nwk.level; own = g.nwk.own; active = c.result.active; keys = g.nwk.keys };
  rows = c.last.1.0;
  used = c.result.used;
}

-- the desk after it: what the gateway holds, the frame in buffer i as it is then, and what was told of it
abbrev pub called : (d : NwkDesk) (i : ℕ) → Call d.state (d.buffer i) → NwkDesk
called d i c = record {
  state = handed_on d.state (d.buffer i) c;
  buffer = write d.buffer i c.last.1.1.1.0;
  told = write d.told i (Some (c.result.answer, told c.result.answer));
}

-- calls for the frames in the listed buffers, in the list's order, lead from one desk to another
pub data Calls : NwkDesk → List ℕ → NwkDesk → Type 0 where
  none : {d : NwkDesk} → Calls d [] d
  then : {d e : NwkDesk} (i : ℕ) (p : List ℕ) (c : Call d.state (d.buffer i)) → Calls (called d i c) p e → Calls d (i ∷ p) e
