use Rattle.std.proofs.Common.{refl}
use Rattle.heap_model.specs.declared.What.TheVariants as whats
use Rattle.large_blocks.specs.Table.{layer_of}
use Rattle.address_calls.proofs.States.{looks_taken, of_large_there, met_on}
use Rattle.address_calls.proofs.look.look_in_large.Goals as goal

pub returns-in-Ok-clause-looks : goal.returns-in-Ok-clause-looks
returns-in-Ok-clause-looks c = looks_taken layer_of c.args.c.now c.take_large.new.c whats.Large c.in-Ok.large refl c.requires.serving.1.owes c.in-Ok.ensures.ok

pub returns-in-Ok-clause-found : goal.returns-in-Ok-clause-found
returns-in-Ok-clause-found c = of_large_there c.args.c.now c.take_large.new.c c.in-Ok.large c.args.addr c.requires.serving.0 c.requires.serving.1 c.in-Ok.ensures.ok c.requires.behind

pub returns-in-Err-clause-busy : goal.returns-in-Err-clause-busy
returns-in-Err-clause-busy c = met_on c.args.c.now c.take_large.new.c c.args.addr c.in-Err.busy whats.Large c.requires.serving.0 c.requires.serving.1 (c.requires.behind, c.requires.inside) c.in-Err.ensures.busy
