use Rattle.std.proofs.Common.{refl}
use Rattle.heap_model.specs.declared.Call.TheVariants as calls
use Rattle.heap_model.specs.declared.What.TheVariants as whats
use Rattle.large_blocks.specs.Table.{layer_of}
use Rattle.paged_calls.proofs.Shapes.{serving_taken, placed_so, refused_so, blocked_so}
use Rattle.paged_calls.proofs.huge.place_huge.Goals as goal

pub returns-in-Err-clause-refused : goal.returns-in-Err-clause-refused
returns-in-Err-clause-refused c = blocked_so c.args.c.now c.take_large.new.c whats.Large c.in-Err.busy c.args.n c.args.zero c.requires.allocating c.in-Err.ensures.busy

pub place_in-requires-clause-holds : goal.place_in-requires-clause-holds
place_in-requires-clause-holds c =
    let v = c.requires.allocating in let x = c.in-Ok.ensures.ok in
    (v.0, v.1, record { serving = serving_taken layer_of c.args.c.now c.take_large.new.c whats.Large c.in-Ok.large (calls.Alloc c.args.n v.0) refl v.2 x; tells = x.tells_it })

pub returns-in-Some-clause-placed : goal.returns-in-Some-clause-placed
returns-in-Some-clause-placed c =
    placed_so layer_of c.args.c.now c.take_large.new.c c.place_in.new.c whats.Large c.in-Ok.large c.in-Some.addr c.args.n c.args.zero refl c.requires.allocating c.in-Ok.ensures.ok c.in-Some.ensures.placed

pub returns-in-None-clause-refused : goal.returns-in-None-clause-refused
returns-in-None-clause-refused c =
    refused_so layer_of c.args.c.now c.take_large.new.c c.place_in.new.c whats.Large c.in-Ok.large c.args.n c.args.zero refl c.requires.allocating c.in-Ok.ensures.ok c.in-None.ensures.refused
