use Rattle.large_blocks.proofs.Rooms.{HasReached}
use Rattle.large_blocks.proofs.lowest_room.Given as goal

abbrev pub invariant-loop-index : goal.invariant-loop-index
invariant-loop-index l = HasReached l.limits l.blocks l.pages l.index l.addr
