use Rattle.large_blocks.proofs.Rooms.{end_at_next, end_of_area}
use Rattle.large_blocks.proofs.end_behind.Goals as goal

pub returns-in-Some : goal.returns-in-Some
returns-in-Some c = end_at_next c.args.limits.now c.args.blocks.now c.args.index c.in-Some.next.now c.requires.laid c.in-Some.ensures.lookup.0 c.in-Some.ensures.lookup.1

pub returns-in-None : goal.returns-in-None
returns-in-None c = end_of_area c.args.limits.now c.args.blocks.now c.args.index c.area_end.result c.in-None.ensures.lookup.0 c.area_end.ensures
