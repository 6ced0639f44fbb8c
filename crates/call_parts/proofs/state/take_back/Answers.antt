use Rattle.heap_model.specs.declared.What.TheVariants as whats
use Rattle.backend_fit.specs.Kept as its
use Rattle.call_parts.specs.States.{layer_of}
use Rattle.call_parts.proofs.Taken.{is_back, retold}
use Rattle.call_parts.proofs.state.take_back.Goals as goal

pub back_of-requires : goal.back_of-requires
back_of-requires c = is_back layer_of c.args.c.now c.take_lock.new.c c.in-Ok.state c.in-Ok.ensures.ok

pub returns-in-Ok-clause-ok : goal.returns-in-Ok-clause-ok
returns-in-Ok-clause-ok c = retold layer_of c.args.c.now c.take_lock.new.c c.in-Ok.state its.layer_of whats.Back c.back_of.result c.back_of.ensures c.in-Ok.ensures.ok
