-- Document 01 with request W-207: how much the keyed hash takes. What is more is refused with 7, and there is no value then.
use Rattle.std.specs.Prelude.{ℕ, ◌-◌, cond, Ok, Err, ltb}
use Rattle.answer.specs.declared.Refusal.TheVariants.{Unsupported}
use Rattle.answer.specs.Numbers.{Outcome}
use Rattle.mmo.specs.Stream.{limit}

-- a key of k octets and data of n. A key over 536,870,911 octets is more than the hash takes, and so are data over 536,870,895, since a block of 16 comes before them
unfoldable pub keyed_hashing : ℕ → ℕ → Outcome
keyed_hashing k n = cond (ltb (limit - 16) n) (Err Unsupported) (cond (ltb limit k) (Err Unsupported) (Ok tt))
