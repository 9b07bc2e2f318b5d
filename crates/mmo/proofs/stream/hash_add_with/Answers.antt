-- `mmo::stream::hash_add_with` meets its contract: a part that is taken is within the limit. Assumes nothing.
use Rattle.std.proofs.Common.{sym, ◌∙◌}
use Rattle.mmo.proofs.StreamLaws.{within-limit}
use Rattle.mmo.proofs.stream.hash_add_with.Goals as goal

pub followed-requires : goal.followed-requires
followed-requires c = within-limit _ (sym c.takes.ensures ∙ c.in_ok-takes.was)
