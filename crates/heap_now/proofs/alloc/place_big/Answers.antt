use Rattle.std.proofs.Common.{refl, arith}
use Rattle.heap_model.specs.declared.What.TheVariants as whats
use Rattle.heap_now.proofs.Allocs.{placed_with}
use Rattle.heap_now.proofs.alloc.place_big.Goals as goal

pub place_paged-requires-clause-allocating : goal.place_paged-requires-clause-allocating
place_paged-requires-clause-allocating c = (c.args.flags, refl, c.requires.serving)

pub place_huge-requires-clause-allocating : goal.place_huge-requires-clause-allocating
place_huge-requires-clause-allocating c = (c.args.flags, refl, c.requires.serving)

pub returns-then-n-le520192 : goal.returns-then-n-le520192
returns-then-n-le520192 c =
    placed_with whats.Back c.args.c.now c.place_paged.new.c c.args.n c.args.flags c.place_paged.result c.requires.serving (omega (arith, c.if-n-le520192.true)) c.place_paged.ensures.placed c.place_paged.ensures.refused

pub returns-else-n-le520192 : goal.returns-else-n-le520192
returns-else-n-le520192 c =
    placed_with whats.Large c.args.c.now c.place_huge.new.c c.args.n c.args.flags c.place_huge.result c.requires.serving (omega (arith, c.if-n-le520192.false)) c.place_huge.ensures.placed c.place_huge.ensures.refused
