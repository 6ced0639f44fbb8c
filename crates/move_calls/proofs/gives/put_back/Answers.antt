use Rattle.heap_model.specs.declared.What.TheVariants as whats
use Rattle.heap_gate.specs.Token.{now}
use Rattle.backend_fit.proofs.Told.{spans_used}
use Rattle.move_calls.proofs.Given.{has_put}
use Rattle.move_calls.proofs.gives.put_back.Goals as goal

pub give_back-requires-clause-lock : goal.give_back-requires-clause-lock
give_back-requires-clause-lock c = let r = c.requires.resting in (r.0, r.1.out_is, r.2)

pub give_back-requires-clause-tells : goal.give_back-requires-clause-tells
give_back-requires-clause-tells c = λ s q. let t = c.requires.tells s q in (spans_used c.args.c.now.opening (now s c.args.c.now).state c.args.back t, t)

pub returns : goal.returns
returns c = λ more r. has_put c.args.c.now c.give_back.new.c whats.Back more r c.give_back.ensures c.check-2.ensures.stands
