use Rattle.fall_calls.proofs.VsFirst.{vs_tells, back_tells, both}
use Rattle.fall_calls.proofs.both.give_vs_first.Goals as goal

pub give_vs-requires-clause-tells : goal.give_vs-requires-clause-tells
give_vs-requires-clause-tells c = vs_tells c.args.c.now c.args.vs c.args.back c.requires.two c.check.ensures.stands

pub give_back-requires-clause-tells : goal.give_back-requires-clause-tells
give_back-requires-clause-tells c = back_tells c.args.c.now c.args.vs c.args.back c.requires.two c.check.ensures.stands c.give_vs.new.c c.give_vs.ensures

pub returns : goal.returns
returns c = both c.args.c.now c.args.vs c.args.back c.requires.two c.check.ensures.stands c.give_vs.new.c c.give_vs.ensures c.give_back.new.c c.give_back.ensures
