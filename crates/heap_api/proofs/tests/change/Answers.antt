use Rattle.heap_model.specs.declared.Call.TheVariants as calls
use Rattle.heap_api.specs.Reallocs.{realloc_reply}
use Rattle.heap_api.proofs.Callers.{caller_at_last}
use Rattle.heap_api.proofs.tests.change.Goals as goal

pub returns : goal.returns
returns g c = caller_at_last c.args.heap.now c.args.c.now c.realloc.new.c (calls.Realloc c.args.addr c.args.n c.args.flags) (realloc_reply c.realloc.result) c.requires c.realloc.ensures.gets
