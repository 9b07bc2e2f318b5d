-- The active key number (document 01, opening NWK): a frame that opens under the number (active + 1) mod 256 makes it active.
use Rattle.std.specs.Prelude.{ℕ, ◌+◌, ◌%◌, cond, ◌==◌}

-- the number after n, of eight bits
abbrev pub next : ℕ → ℕ
next n = (n + 1) % 256

-- the active number after a frame that opened under n
unfoldable pub turn : ℕ → ℕ → ℕ
turn active n = cond (n == next active) n active
