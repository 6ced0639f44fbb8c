use Rattle.heap_model.specs.declared.What.TheVariants as whats
use Rattle.large_blocks.specs.Table as its
use Rattle.call_parts.specs.States.{layer_of}
use Rattle.call_parts.proofs.Taken.{is_large, retold}
use Rattle.call_parts.proofs.state.take_large.Goals as goal

pub large_of-requires : goal.large_of-requires
large_of-requires c = is_large layer_of c.args.c.now c.take_lock.new.c c.in-Ok.state c.in-Ok.ensures.ok

pub returns-in-Ok-clause-ok : goal.returns-in-Ok-clause-ok
returns-in-Ok-clause-ok c = retold layer_of c.args.c.now c.take_lock.new.c c.in-Ok.state its.layer_of whats.Large c.large_of.result c.large_of.ensures c.in-Ok.ensures.ok
