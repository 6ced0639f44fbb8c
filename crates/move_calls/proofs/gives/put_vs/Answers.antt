use Rattle.heap_model.specs.declared.What.TheVariants as whats
use Rattle.move_calls.proofs.Given.{has_put}
use Rattle.move_calls.proofs.gives.put_vs.Goals as goal

pub give_vs-requires-clause-lock : goal.give_vs-requires-clause-lock
give_vs-requires-clause-lock c = let r = c.requires.resting in (r.0, r.1.out_is, r.2)

pub give_vs-requires-clause-tells : goal.give_vs-requires-clause-tells
give_vs-requires-clause-tells c = λ s q. (c.requires.tells.used s q, c.requires.tells.tells s q)

pub returns : goal.returns
returns c = λ more r. has_put c.args.c.now c.give_vs.new.c whats.Vs more r c.give_vs.ensures c.check-2.ensures.stands
