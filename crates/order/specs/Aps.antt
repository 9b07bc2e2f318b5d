-- A list of APS frames that a gateway opens one after another, and what 'the same outcome' means for two such lists.
use Rattle.std.specs.Prelude.{◌≡◌, List, ℕ, Option}
use Rattle.cells.specs.Rows.{find, new_keys}
use Rattle.cells.specs.Desk.{Desk, open_all}
use Rattle.aib.specs.declared.pairs.Pairs.{Pairs}
use Rattle.aib.specs.Counters.{in_use}
use Rattle.aib.specs.Pairs.{PairCell, pair_rows}
use Rattle.claims.specs.Claims.{aps_who, sender_of}
use Rattle.protection.specs.Heard.{Heard}
use Rattle.aps.specs.declared.state.Aps.{Aps}
use Rattle.aps.specs.OpenAps.{open_aps}
use Rattle.order.specs.Frames.{leaves, Said, says}

-- ---- what goes from call to call

-- level and own address, and the pairs
pub record Gateway : Type 0 where
  pub aps : Aps
  pub pairs : Pairs

-- all that the row of a device holds, if it has one: attribute, link key, link key type, both counters
abbrev pub held_pair : Gateway → ℕ → Option PairCell
held_pair g device = find pair_rows (in_use g.pairs) device

-- ---- one opening, by `open_aps`: what the frame gets, and what the next call finds

abbrev pub answer : Gateway → List ℕ → Heard
answer g b = let o = open_aps g.aps g.pairs b in record { answer = o.answer; frame = o.frame }

abbrev pub after : Gateway → List ℕ → Gateway
after g b = record { aps = g.aps; pairs = (open_aps g.aps g.pairs b).pairs }

-- ---- a list of openings

-- a gateway, and numbered buffers with a frame in each; of each that was opened, the answer, with its number, start and length
abbrev pub ApsDesk : Type 0
ApsDesk = Desk Gateway (List ℕ) Said

-- the frames in the listed buffers are opened, in the list's order, each in its place
abbrev pub opened : ApsDesk → List ℕ → ApsDesk
opened d p = open_all answer after leaves says d p

-- The sender that the frame in buffer i names. It names none if its headers settle the answer.
abbrev pub names : ApsDesk → ℕ → Option ℕ
names d i = sender_of (aps_who (d.buffer i))

-- the senders that the listed frames name and that have no row, each once
abbrev pub new_senders : ApsDesk → List ℕ → List ℕ
new_senders d p = new_keys pair_rows (names d) (in_use d.state.pairs) p

-- Two desks are alike. (The order of the rows may differ.)
pub record Alike (d e : ApsDesk) : Type 0 where
  pub octets : (i : ℕ) → d.buffer i ≡ e.buffer i
  pub answers : (i : ℕ) → d.told i ≡ e.told i
  pub pairs : (device : ℕ) → held_pair d.state device ≡ held_pair e.state device
