-- A list of NWK frames that a gateway opens one after another, and what 'the same outcome' means for two such lists.
use Rattle.std.specs.Prelude.{◌≡◌, List, map, ℕ, take, Option}
use Rattle.cells.specs.Rows.{find, new_keys}
use Rattle.cells.specs.Desk.{Desk, open_all}
use Rattle.nib.specs.declared.counters.CounterRow.{CounterRow}
use Rattle.nib.specs.declared.keys.NetworkKey.{NetworkKey}
use Rattle.nib.specs.declared.keys.NetworkKeys.{NetworkKeys}
use Rattle.nib.specs.Counters.{Cell, counter_in, counter_rows, pair}
use Rattle.nib.specs.Pairs.{Pair}
use Rattle.claims.specs.declared.Claim.{Claim}
use Rattle.claims.specs.Claims.{number_of, nwk_who, pair_of}
use Rattle.protection.specs.Heard.{Heard}
use Rattle.nib.specs.declared.state.Nwk.{Nwk}
use Rattle.judging.specs.OpenNwk.{open_nwk}
use Rattle.order.specs.Frames.{leaves, Said, says}

-- ---- what goes from call to call

-- level, own address, active number and keys; the counter rows that are lent, and how many are in use
pub record Gateway : Type 0 where
  pub nwk : Nwk
  pub rows : List CounterRow
  pub used : ℕ

-- the numbers of the network keys
abbrev pub numbers : NetworkKeys → List ℕ
numbers keys = map (λ (r : NetworkKey). r.number) (take keys.used keys.rows)

-- the pair of key number and sender that a frame claims
abbrev pub claimed_pair : Claim → Pair
claimed_pair c = pair (number_of c.key) c.sender

-- what is held for a pair, if anything is; and the counter
abbrev pub held_cell : Gateway → Pair → Option Cell
held_cell g k = find counter_rows (take g.used g.rows) k

abbrev pub held_counter : Gateway → Pair → Option ℕ
held_counter g k = counter_in (held_cell g k)

-- ---- one opening, by `open_nwk`: what the frame gets, and what the next call finds

abbrev pub answer : Gateway → List ℕ → Heard
answer g b = let o = open_nwk g.nwk g.rows g.used b in record { answer = o.answer; frame = o.frame }

abbrev pub after : Gateway → List ℕ → Gateway
after g b =
    let o = open_nwk g.nwk g.rows g.used b in
    record {
      nwk = record { level = g.nwk.level; own = g.nwk.own; active = o.active; keys = g.nwk.keys };
      rows = o.rows;
      used = o.used;
    }

-- ---- a list of openings

-- a gateway, and numbered buffers with a frame in each; of each that was opened, the answer, with its number, start and length
abbrev pub NwkDesk : Type 0
NwkDesk = Desk Gateway (List ℕ) Said

-- the frames in the listed buffers are opened, in the list's order, each in its place
abbrev pub opened : NwkDesk → List ℕ → NwkDesk
opened d p = open_all answer after leaves says d p

-- The pair of key number and sender that the frame in buffer i names. It names none if its headers settle the answer.
abbrev pub names : NwkDesk → ℕ → Option Pair
names d i = pair_of (nwk_who d.state.nwk.keys (d.buffer i))

-- the pairs that the listed frames name and that have no row, each once
abbrev pub new_pairs : NwkDesk → List ℕ → List Pair
new_pairs d p = new_keys counter_rows (names d) (take d.state.used d.state.rows) p

-- Two desks are alike. (The order of the rows may differ.)
pub record Alike (d e : NwkDesk) : Type 0 where
  pub octets : (i : ℕ) → d.buffer i ≡ e.buffer i
  pub answers : (i : ℕ) → d.told i ≡ e.told i
  pub counters : (k : Pair) → held_cell d.state k ≡ held_cell e.state k
  pub active : d.state.nwk.active ≡ e.state.nwk.active
