use Rattle.heap_now.proofs.Frames.{has_gone}
use Rattle.heap_now.proofs.frame.leave_call.Goals as goal

pub leave-requires-clause-whole : goal.leave-requires-clause-whole
leave-requires-clause-whole c = c.requires.inside.1.whole

pub leave-requires-clause-inside : goal.leave-requires-clause-inside
leave-requires-clause-inside c = c.requires.inside.1.inside

pub leave-requires-clause-out : goal.leave-requires-clause-out
leave-requires-clause-out c = c.requires.inside.1.out

pub leave-requires-clause-free : goal.leave-requires-clause-free
leave-requires-clause-free c = c.requires.inside.1.free

pub leave-requires-clause-drawn : goal.leave-requires-clause-drawn
leave-requires-clause-drawn c = c.requires.inside.1.drawn

pub returns : goal.returns
returns c = has_gone c.args.c.now c.leave.new.c c.requires.inside.0 c.requires.inside.1 c.leave.ensures
