use Rattle.large_blocks.proofs.Calls.{size_is_set}
use Rattle.large_blocks.proofs.set_size.Goals as goal

pub returns-clause-items : goal.returns-clause-items
returns-clause-items c d = size_is_set c.args.blocks.now.items c.args.index c.args.n c.index_mut.result.now d c.index_mut.ensures.value c.requires
