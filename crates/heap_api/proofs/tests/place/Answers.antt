use Rattle.heap_model.specs.declared.Call.TheVariants as calls
use Rattle.std.specs.Prelude.{false}
use Rattle.heap_api.specs.AtLast.{alloc_reply}
use Rattle.heap_api.proofs.Callers.{caller_at_last}
use Rattle.heap_api.proofs.tests.place.Goals as goal

pub returns : goal.returns
returns g c = caller_at_last c.args.heap.now c.args.c.now c.alloc.new.c (calls.Alloc c.args.n (record { zero = false; in_place = false })) (alloc_reply c.alloc.result) c.requires c.alloc.ensures
