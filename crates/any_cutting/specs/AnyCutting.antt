-- THE HASH OF DATA THAT COME IN PARTS (request W-207), as it is to be read. `adds` adds one part after another as `hash_add` does, a part past the
-- limit refused and the state then as it was; `finished` is the value that `hash_finish` hands back. Assumes nothing.
use Rattle.std.specs.Prelude.{◌≡◌, ℕ, ◌≤◌, Ok, length}
use mathlib.Core.List.{List, flatten}
use Rattle.mmo.specs.Hash.{hash_from, hash, zero_block}
use Rattle.mmo.specs.Stream.{limit, hashing, started, finished, adds, taken}
use Rattle.mmo.proofs.StreamLaws as laws

-- for every cutting of data within the limit, from any initial block, the value is that of the whole
pub any-cutting : (h : List ℕ) (parts : List (List ℕ)) → length (flatten parts) ≤ limit → finished (adds (started h) parts) ≡ hash_from h (flatten parts)
any-cutting = laws.any-cutting

-- the same from the zero block
pub any-cutting-zero : (parts : List (List ℕ)) → length (flatten parts) ≤ limit → finished (adds (started zero_block) parts) ≡ hash (flatten parts)
any-cutting-zero = laws.any-cutting-zero

-- for parts of any lengths, refused ones among them, the value is that of the octets that were taken
pub as-it-comes : (h : List ℕ) (parts : List (List ℕ)) → finished (adds (started h) parts) ≡ hash_from h (taken 0 parts)
as-it-comes = laws.as-it-comes

-- and a state that the calls made always finishes
pub finishes : (h : List ℕ) (parts : List (List ℕ)) → hashing (adds (started h) parts).total ≡ Ok tt
finishes = laws.finishes
