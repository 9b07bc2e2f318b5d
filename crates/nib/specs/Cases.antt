-- Cases of document 01, computed on the definitions.
use Rattle.std.specs.Prelude.{◌≡◌, refl}
use Rattle.answer.specs.Numbers.{outcome_number}
use Rattle.nib.specs.Active.{turn}
use Rattle.nib.specs.Sending.{taken, restarted}

-- P7: active 255, opened under 0. P8: active 7, opened under 9.
pub p7 : turn 255 0 ≡ 0
unfolding turn
p7 = refl

pub p8 : turn 7 9 ≡ 7
unfolding turn
p8 = refl

-- P9: reset at 0x80000000 and at 0x80000001
pub p9 : (restarted (record { next = 2147483648 }) ≡ record { next = 2147483648 }) × (restarted (record { next = 2147483649 }) ≡ record { next = 0 })
unfolding restarted
p9 = (refl, refl)

-- P10: the outgoing counter is 2^32-1
pub p10 : outcome_number (taken (record { next = 4294967295 })).outcome ≡ 6
unfolding taken
p10 = refl
