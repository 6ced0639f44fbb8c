use Rattle.heap_now.proofs.Callers.{back_tells, back_given}
use Rattle.heap_now.proofs.tests.held.let_back_go.Goals as goal

pub give_back-requires-clause-tells : goal.give_back-requires-clause-tells
give_back-requires-clause-tells c = back_tells c.args.c.now c.args.vs.now c.args.back c.requires.has

pub returns : goal.returns
returns c = back_given c.args.heap.now c.args.c.now c.give_back.new.c c.args.vs.now c.args.back c.requires c.check.ensures.stands c.give_back.ensures
