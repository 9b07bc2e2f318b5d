-- `aes::schedule::next_key` meets its contract. Assumes nothing.
use mathlib.Core.Path.{ap, ◌∙◌}
use Rattle.laws.specs.Octets.{◌⊕◌}
use Rattle.words.specs.Words.{bytes}
use Rattle.aes.specs.Schedule.{xor_word}
use Rattle.aes.proofs.schedule.next_key.Goals as goal

pub returns-clause-a : goal.returns-clause-a
unfolding ◌⊕◌
returns-clause-a c = c.xored-a.ensures ∙ ap (xor_word (bytes c.args.k.a)) c.turned.ensures

pub returns-clause-b : goal.returns-clause-b
unfolding ◌⊕◌
returns-clause-b c = c.xored-b.ensures

pub returns-clause-c : goal.returns-clause-c
unfolding ◌⊕◌
returns-clause-c c = c.xored-c.ensures

pub returns-clause-d : goal.returns-clause-d
unfolding ◌⊕◌
returns-clause-d c = c.xored-d.ensures
