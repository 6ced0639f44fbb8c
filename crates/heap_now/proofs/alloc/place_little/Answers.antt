use Rattle.std.proofs.Common.{refl}
use Rattle.heap_now.proofs.Allocs.{small_with}
use Rattle.heap_now.proofs.alloc.place_little.Goals as goal

pub place_small-requires-clause-allocating : goal.place_small-requires-clause-allocating
place_small-requires-clause-allocating c = (c.args.flags, refl, c.requires.serving)

pub returns-clause-serves : goal.returns-clause-serves
returns-clause-serves c = small_with c.args.c.now c.place_small.new.c c.args.n c.args.flags c.requires.serving c.requires.size c.place_small.result c.place_small.ensures.placed c.place_small.ensures.refused
