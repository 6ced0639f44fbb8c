use Rattle.std.proofs.Common.{◌∙◌, sym}
use Rattle.script_text.proofs.TakenLemmas.{taken_more, cause_found}
use Rattle.script_text.proofs.reading.Taken.place.Goals as goal

pub returns-in-Some-clause-fault : goal.returns-in-Some-clause-fault
returns-in-Some-clause-fault c = λ before h.
    cause_found c.args.self.now.rounds c.args.self.now.counts c.args.limit c.args.number c.args.line c.in-Some.cause before (sym c.cause.ensures ∙ c.in-Some.is) h

pub returns-in_ok-add_line-in-None-clause-noted : goal.returns-in_ok-add_line-in-None-clause-noted
returns-in_ok-add_line-in-None-clause-noted c = λ before h.
    taken_more c.args.self.now.rounds c.add_line.new.self c.args.self.now.counts c.after-self.result c.args.limit c.args.number c.args.line before
    (sym c.cause.ensures ∙ c.in-None.is) c.in_ok-add_line-in-None.ensures c.after-self.ensures.counted h
