use Rattle.heap_now.proofs.Callers.{vs_held}
use Rattle.heap_now.proofs.tests.held.take_first.Goals as goal

pub returns : goal.returns
returns g c = vs_held c.args.heap.now c.args.c.now c.take_vs.new.c c.in-Ok.vs c.requires c.in-Ok.ensures.ok
