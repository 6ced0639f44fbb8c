use Rattle.large_blocks.specs.Table.{LargeTable}
use Rattle.large_blocks.proofs.Calls.{is_block}
use Rattle.large_blocks.proofs.Large.next_block.Goals as goal

pub returns-clause-in_each : goal.returns-clause-in_each
returns-clause-in_each c =
    let t : LargeTable = record { limits = c.self.inside.limits; blocks = c.self.inside.blocks.items } in
    is_block t c.args.self.now c.deref.result.now c.args.from c.first_from.result c.self.view_is c.deref.ensures.value c.first_from.ensures
