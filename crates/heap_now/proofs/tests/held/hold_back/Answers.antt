use Rattle.heap_now.proofs.Callers.{both_held}
use Rattle.heap_now.proofs.tests.held.hold_back.Goals as goal

pub returns : goal.returns
returns g c = both_held c.args.heap.now c.args.c.now c.take_back.new.c c.args.vs.now c.in-Ok.back c.requires c.check.ensures.stands c.in-Ok.ensures.ok
