-- What the calls by value leave, read as what the calls on lent memory leave.
use Rattle.std.specs.Prelude.{List, ℕ}
use Rattle.judging.specs.OpenNwk.{Opened}
use Rattle.securing.specs.SecureNwk.{Secured}
use Rattle.nwk_by_value.specs.declared.OpenedWith.{OpenedWith}
use Rattle.nwk_by_value.specs.declared.SecuredWith.{SecuredWith}

abbrev pub opened_with : OpenedWith → List ℕ → Opened
opened_with r frame = record { answer = r.answer; frame = frame; rows = r.table.rows; used = r.table.used; active = r.active }

abbrev pub secured_with : SecuredWith → List ℕ → Secured
secured_with r out = record { answer = r.answer; out = out; outgoing = r.outgoing }
