use Rattle.large_blocks.specs.Table.{LargeTable}
use Rattle.large_blocks.proofs.Calls.{is_size}
use Rattle.large_blocks.proofs.Large.find.Goals as goal

pub returns-clause-in_each : goal.returns-clause-in_each
returns-clause-in_each c =
    let t : LargeTable = record { limits = c.self.inside.limits; blocks = c.self.inside.blocks.items } in
    is_size t c.args.self.now c.deref.result.now c.args.addr c.size_of_block_at.result c.self.view_is c.self.invariant.0 c.deref.ensures.value c.size_of_block_at.ensures
