-- What a call tells in numbers, of what it leaves.
use Rattle.answer.specs.Numbers.{outcome_number, told}
use Rattle.nib.specs.Counters.{After}
use Rattle.judging.specs.OpenNwk.{Opened}
use Rattle.pouchkettle.specs.declared.network.ToldNwk.{ToldNwk}
use Rattle.pouchkettle.specs.declared.network.ToldRows.{ToldRows}

abbrev pub told_nwk : Opened → ToldNwk
told_nwk o = record { told = told o.answer; used = o.used; active = o.active }

abbrev pub told_rows : After → ToldRows
told_rows a = record { number = outcome_number a.outcome; used = a.used }
