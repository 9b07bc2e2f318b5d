-- `aps::sending::judged` meets its contract. Assumes nothing.
use Rattle.std.proofs.Common.{sym, ◌∙◌}
use Rattle.aps.proofs.SendingLaws.{plain-is-taken}
use Rattle.aps.proofs.sending.judged.Goals as goal

pub bounds-plain-0 : goal.bounds-plain-0
bounds-plain-0 c = (plain-is-taken _ _ _ (sym c.plain_taken.ensures ∙ c.in_ok-plain_taken.was)).some-octets

pub sendable-requires : goal.sendable-requires
sendable-requires c = (plain-is-taken _ _ _ (sym c.plain_taken.ensures ∙ c.in_ok-plain_taken.was)).small
