-- What holds at the loop of `input::read_full`: what was read lies at the front of the space, a byte at least for each turn. Assumes nothing.
use Rattle.std.proofs.Common.{◌≤◌, length, take}
use Rattle.std.specs.Io.KnownBytes.{Consumes}
use Rattle.input.proofs.read_full.Given as goal

abbrev pub invariant-loop : goal.invariant-loop
invariant-loop g l = (l.count ≤ length l.space) × (l.counter ≤ l.count) × Consumes (g.R.Read.remaining l.fn.source) (g.R.Read.remaining l.source) (take l.count l.space)
