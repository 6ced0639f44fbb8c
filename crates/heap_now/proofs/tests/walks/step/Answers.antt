use Rattle.heap_now.proofs.Walks.{walked_again}
use Rattle.heap_now.proofs.tests.walks.step.Goals as goal

pub returns : goal.returns
returns c = walked_again c.args.heap.now c.args.c.now c.walk_next.new.c c.args.from c.walk_next.result c.requires c.walk_next.ensures.walked c.walk_next.ensures.refused
