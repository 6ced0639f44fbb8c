use Rattle.heap_now.proofs.Callers.{all_held}
use Rattle.heap_now.proofs.tests.held.hold_large.Goals as goal

pub returns : goal.returns
returns g c = all_held c.args.heap.now c.args.c.now c.args.vs.now c.args.back.now c.requires c.check.ensures.stands c.take_large.new.c c.in-Ok.large c.in-Ok.ensures.ok
