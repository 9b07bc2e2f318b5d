-- What a frame may do to a cell that is counted, and never falls. RisingLaws.antt of proofs/ shows what follows.
use Rattle.std.specs.Prelude.{◌≡◌, Bool, ℕ, ◌≤◌}
use Rattle.std.proofs.Math.Bool.{false}
use Rattle.std.specs.Prelude.{Option, Some}
use Rattle.cells.specs.Rows.{Reaction, leave, become}

module _ {O C : Type 0} (counted : C → ℕ) (taken : O → Bool) where
  -- What a frame of number n may do where a cell holds `held`: nothing, and it is not taken; or it makes a cell counted n, and n is not below what was
  -- held, and it is not taken where there is no room.
  pub data Rising (n : ℕ) (held : Option C) : Reaction O C → Type 0 where
    stops : (out : O) → taken out ≡ false → Rising n held (leave out)
    rises : (c : C) (out full : O) → counted c ≡ n → ((d : C) → held ≡ Some d → counted d ≤ n) → taken full ≡ false → Rising n held (become c out full)

  -- a cell counted h or more
  pub record AtLeast (h : ℕ) (now : Option C) : Type 0 where
    pub cell : C
    pub is : now ≡ Some cell
    pub up : h ≤ counted cell
