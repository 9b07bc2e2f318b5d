-- The same for `aps::open_aps`: a gateway that calls it for one frame after another. `Reads.Post` is what the prover itself has read from the `ensures`
-- of the code.
use Rattle.std.specs.Prelude.{◌≡◌, List, [], ◌∷◌, ℕ, Some}
use contract.Lifetimes.{Lfts}
use denote.Triple.Entry.{Args, Res}
use denote.Triple.Clauses.{Lasts, at_exit}
use Rattle.answer.specs.Numbers.{told}
use Rattle.cells.specs.Desk.{write}
use Rattle.aps.specs.contracts.open_aps as open-aps
use Rattle.aps.proofs.open_aps.Reads as open-aps-reads
use Rattle.order.specs.Aps.{Gateway, ApsDesk}

-- One call with what the gateway g holds, for a frame b: arguments, result, and the last contents of what was lent (the pairs and the frame).
pub record Call (g : Gateway) (b : List ℕ) : Type 0 where
  pub lifetimes : Lfts (open-aps.ended).signature.lifetimes
  pub arguments : Args (open-aps.ended).signature lifetimes
  pub result : Res (open-aps.ended).signature lifetimes
  pub last : Lasts open-aps.ended lifetimes arguments
  pub aps : arguments.0 ≡ g.aps
  pub pairs : arguments.1.0.now ≡ g.pairs
  pub frame : arguments.1.1.0.now ≡ b
  pub promised : open-aps-reads.Post lifetimes arguments result (at_exit open-aps.ended lifetimes arguments last)

-- the desk after it: the pairs and the frame in buffer i as they are then, and what was told of it
abbrev pub called : (d : ApsDesk) (i : ℕ) → Call d.state (d.buffer i) → ApsDesk
called d i c = record {
  state = record { aps = d.state.aps; pairs = c.last.1.0 };
  buffer = write d.buffer i c.last.1.1.0;
  told = write d.told i (Some (c.result, told c.result));
}

-- calls for the frames in the listed buffers, in the list's order, lead from one desk to another
pub data Calls : ApsDesk → List ℕ → ApsDesk → Type 0 where
  none : {d : ApsDesk} → Calls d [] d
  then : {d e : ApsDesk} (i : ℕ) (p : List ℕ) (c : Call d.state (d.buffer i)) → Calls (called d i c) p e → Calls d (i ∷ p) e
