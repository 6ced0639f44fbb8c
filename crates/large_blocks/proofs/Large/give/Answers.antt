use Rattle.std.proofs.Common.{ap, arith}
use Rattle.large_blocks.specs.Table.{LargeTable, with_blocks}
use Rattle.large_blocks.proofs.Calls.{has_given, is_inside, HasGiven}
use Rattle.large_blocks.proofs.Large.give.Goals as goal
use Rattle.large_blocks.proofs.Large.give.Goals.{After-remove}

opened : (c : After-remove) → LargeTable
opened c = record { limits = c.self.inside.limits; blocks = c.self.inside.blocks.items }

left : (c : After-remove) → LargeTable
left c = record { limits = c.self.inside.limits; blocks = c.remove.new.self.items }

gives : (c : After-remove) → HasGiven c.args.self.now (left c) c.args.addr
unfolding opened left
gives c =
    has_given (opened c) c.args.self.now (left c) c.deref.result.now c.args.addr c.row_at-index.result c.self.view_is c.self.invariant.0 c.deref.ensures.value c.row_at-index.ensures
    (ap (with_blocks (opened c)) c.remove.ensures.items)

pub remove-requires : goal.remove-requires
remove-requires c =
    omega (arith, c.deref.ensures.len, is_inside (record { limits = c.self.inside.limits; blocks = c.self.inside.blocks.items }) c.deref.result.now c.args.addr c.row_at-index.result c.self.invariant.0 c.deref.ensures.value c.row_at-index.ensures)

pub invariant_of-self : goal.invariant_of-self
unfolding left
invariant_of-self c = ((gives c).sound, omega (arith, c.remove.ensures.capacity, c.self.invariant.1))

pub returns-clause-given : goal.returns-clause-given
unfolding left
returns-clause-given c = (gives c).given

pub returns-clause-stands : goal.returns-clause-stands
unfolding left
returns-clause-stands c = (gives c).stands
