use Rattle.heap_model.specs.declared.Call.TheVariants as calls
use Rattle.heap_model.specs.declared.Reply.TheVariants as replies
use Rattle.heap_api.proofs.Callers.{caller_at_last}
use Rattle.heap_api.proofs.tests.press.Goals as goal

pub returns : goal.returns
returns g c = caller_at_last c.args.heap.now c.args.c.now c.compact.new.c (calls.Compact) (replies.Compacted c.compact.result) c.requires c.compact.ensures
