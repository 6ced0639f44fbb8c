use Rattle.heap_model.specs.declared.Call.TheVariants as calls
use Rattle.heap_api.specs.AtLast.{put_reply}
use Rattle.heap_api.proofs.Callers.{caller_at_last}
use Rattle.heap_api.proofs.tests.write.Goals as goal

pub returns : goal.returns
returns g c = caller_at_last c.args.heap.now c.args.c.now c.put.new.c (calls.Put c.args.addr c.args.index c.args.value) (put_reply c.put.result) c.requires c.put.ensures
