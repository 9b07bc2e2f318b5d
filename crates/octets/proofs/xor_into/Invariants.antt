-- `octets::xor_into` meets its contract. The invariant: what is done, followed by what is left XOR what is left of `src`, is the whole XOR.
-- Assumes nothing.
use Rattle.std.proofs.Common.{◌≡◌, ◌++◌, take, drop}
use Rattle.laws.specs.Octets.{◌⊕◌}
use Rattle.octets.proofs.xor_into.Given as goal

abbrev pub invariant-loop-j : goal.invariant-loop-j
invariant-loop-j l = take l.j l.dst ++ (drop l.j l.dst ⊕ drop l.j l.src) ≡ l.initial.dst ⊕ l.src
