-- The outgoing counter (document 01, 'Reset' and 'Called alone'; ZB 4.3.1.1, 4.3.4).
use Rattle.std.specs.Prelude.{ℕ, ◌+◌, Bool, cond, not, ◌==◌, nat_lt, Result, Ok, Err}
use Rattle.answer.specs.declared.Refusal.{Refusal}
use Rattle.answer.specs.declared.Refusal.TheVariants.{CounterExhausted}
use Rattle.answer.specs.Numbers.{Outcome}
use Rattle.nib.specs.declared.outgoing.Outgoing.{Outgoing}

-- this counter is sent next
abbrev pub sending : ℕ → Outgoing
sending n = record { next = n }

-- 2^32-1 is not used
abbrev pub may_use : Outgoing → Bool
may_use o = not (o.next == 4294967295)

-- what a call leaves: its outcome, the counter that it hands back, and the record that was lent
pub record AfterTaking : Type 0 where
  pub outcome : Outcome
  pub counter : ℕ
  pub outgoing : Outgoing

-- the answer r, and the record as it is then
abbrev pub took : Result ℕ Refusal → Outgoing → AfterTaking
took (Ok n) o = record { outcome = Ok tt; counter = n; outgoing = o }
took (Err why) o = record { outcome = Err why; counter = 0; outgoing = o }

-- the counter is handed back and the next one is left; or 0 is handed back and nothing changes
unfoldable pub taken : Outgoing → AfterTaking
taken o =
    cond (may_use o) (record { outcome = Ok tt; counter = o.next; outgoing = sending (o.next + 1) })
    (record { outcome = Err CounterExhausted; counter = 0; outgoing = o })

-- above 0x80000000 it becomes 0, otherwise it stays
unfoldable pub restarted : Outgoing → Outgoing
restarted o = cond (nat_lt 2147483648 o.next) (sending 0) o
