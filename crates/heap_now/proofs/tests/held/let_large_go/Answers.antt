use Rattle.std.proofs.Common.{refl}
use Rattle.heap_now.proofs.Callers.{large_given}
use Rattle.heap_now.proofs.tests.held.let_large_go.Goals as goal

pub give_large-requires-clause-tells : goal.give_large-requires-clause-tells
give_large-requires-clause-tells c = λ s q. (refl, c.requires.tells_large s q)

pub returns : goal.returns
returns c = large_given c.args.heap.now c.args.c.now c.give_large.new.c c.args.vs.now c.args.back.now c.args.large c.requires c.check.ensures.stands c.give_large.ensures
