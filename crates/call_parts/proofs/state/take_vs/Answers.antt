use Rattle.heap_model.specs.declared.What.TheVariants as whats
use Rattle.vs_layer.specs.Standing as its
use Rattle.call_parts.specs.States.{layer_of}
use Rattle.call_parts.proofs.Taken.{is_vs, retold}
use Rattle.call_parts.proofs.state.take_vs.Goals as goal

pub vs_of-requires : goal.vs_of-requires
vs_of-requires c = is_vs layer_of c.args.c.now c.take_lock.new.c c.in-Ok.state c.in-Ok.ensures.ok

pub returns-in-Ok-clause-ok : goal.returns-in-Ok-clause-ok
returns-in-Ok-clause-ok c = retold layer_of c.args.c.now c.take_lock.new.c c.in-Ok.state its.layer_of whats.Vs c.vs_of.result c.vs_of.ensures c.in-Ok.ensures.ok
