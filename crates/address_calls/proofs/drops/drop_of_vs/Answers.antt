use Rattle.address_calls.proofs.Dropped.{vs_dropped, vs_kept}
use Rattle.address_calls.proofs.drops.drop_of_vs.Goals as goal

pub drop_vs-requires-clause-vs : goal.drop_vs-requires-clause-vs
drop_vs-requires-clause-vs c = c.requires.vs.has

pub drop_vs-requires-clause-there : goal.drop_vs-requires-clause-there
drop_vs-requires-clause-there c = c.requires.vs.live

pub returns-in-Ok-clause-dropped : goal.returns-in-Ok-clause-dropped
returns-in-Ok-clause-dropped c = vs_dropped c.args.c.now c.drop_vs.new.c c.args.vs c.args.addr c.in-Ok.ensures.freed

pub returns-in-Err-clause-busy : goal.returns-in-Err-clause-busy
returns-in-Err-clause-busy c = vs_kept c.args.c.now c.drop_vs.new.c c.args.vs c.args.addr c.in-Err.busy c.requires.vs c.in-Err.ensures.busy
