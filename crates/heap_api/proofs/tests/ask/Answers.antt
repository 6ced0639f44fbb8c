use Rattle.heap_model.specs.declared.Call.TheVariants as calls
use Rattle.heap_api.specs.AtLast.{size_reply}
use Rattle.heap_api.proofs.Callers.{caller_at_last}
use Rattle.heap_api.proofs.tests.ask.Goals as goal

pub returns : goal.returns
returns g c = caller_at_last c.args.heap.now c.args.c.now c.size.new.c (calls.Size c.args.addr) (size_reply c.size.result) c.requires c.size.ensures
