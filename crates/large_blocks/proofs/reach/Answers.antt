use Rattle.large_blocks.specs.declared.LargeBlock.{LargeBlock}
use Rattle.large_blocks.proofs.Rooms.{starts_before, reaches}
use Rattle.large_blocks.proofs.reach.Goals as goal

nothing : LargeBlock
nothing = record { addr = 0; size = 0 }

pub overflow_sub-result : goal.overflow_sub-result
unfolding nothing
overflow_sub-result c = starts_before c.args.limits.now c.args.blocks.now nothing c.args.index c.end_behind.result c.requires.laid c.requires.inside c.end_behind.ensures

pub returns : goal.returns
unfolding nothing
returns c = reaches c.args.limits.now c.args.blocks.now nothing c.args.index c.end_behind.result c.requires.laid c.requires.inside c.end_behind.ensures
