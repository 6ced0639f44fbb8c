use Rattle.heap_model.specs.declared.Call.TheVariants as calls
use Rattle.heap_api.specs.AtLast.{free_reply}
use Rattle.heap_api.proofs.Callers.{caller_at_last}
use Rattle.heap_api.proofs.tests.give_up.Goals as goal

pub returns : goal.returns
returns g c = caller_at_last c.args.heap.now c.args.c.now c.free.new.c (calls.Free c.args.addr) (free_reply c.free.result) c.requires c.free.ensures
