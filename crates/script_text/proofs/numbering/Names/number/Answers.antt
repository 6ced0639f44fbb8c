use Rattle.script_text.proofs.NumberedLemmas.{entered_by}
use Rattle.script_text.proofs.numbering.Names.number.Goals as goal

pub returns-clause-numbered : goal.returns-clause-numbered
returns-clause-numbered c = (entered_by c.enter.result c.args.self.now.numbers c.enter.new.numbers c.args.name.now _ c.key_of.ensures c.requires.named c.enter.ensures.number c.enter.ensures.len c.enter.ensures.update).0

pub returns-clause-number : goal.returns-clause-number
returns-clause-number c = (entered_by c.enter.result c.args.self.now.numbers c.enter.new.numbers c.args.name.now _ c.key_of.ensures c.requires.named c.enter.ensures.number c.enter.ensures.len c.enter.ensures.update).1
