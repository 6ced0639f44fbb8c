use Rattle.std.proofs.Common.{refl}
use Rattle.heap_model.specs.declared.What.TheVariants as whats
use Rattle.move_calls.proofs.Given.{has_put}
use Rattle.move_calls.proofs.gives.put_large.Goals as goal

pub give_large-requires-clause-lock : goal.give_large-requires-clause-lock
give_large-requires-clause-lock c = let r = c.requires.resting in (r.0, r.1.out_is, r.2)

pub give_large-requires-clause-tells : goal.give_large-requires-clause-tells
give_large-requires-clause-tells c = λ s q. (refl, c.requires.tells s q)

pub returns : goal.returns
returns c = λ more r. has_put c.args.c.now c.give_large.new.c whats.Large more r c.give_large.ensures c.check-2.ensures.stands
