use Rattle.heap_model.specs.declared.Call.TheVariants as calls
use Rattle.heap_api.specs.AtLast.{get_reply}
use Rattle.heap_api.proofs.Callers.{caller_at_last}
use Rattle.heap_api.proofs.tests.read.Goals as goal

pub returns : goal.returns
returns g c = caller_at_last c.args.heap.now c.args.c.now c.get.new.c (calls.Get c.args.addr c.args.index) (get_reply c.get.result) c.requires c.get.ensures
