use Rattle.address_calls.proofs.Parts.{front_drops, none_said}
use Rattle.address_calls.proofs.drops.drop_found.Goals as goal

pub returns-in-Front-clause-dropped : goal.returns-in-Front-clause-dropped
returns-in-Front-clause-dropped c = front_drops c.args.c.now c.drop_front.new.c c.args.addr c.drop_front.result c.drop_front.ensures

pub returns-in-Nowhere-clause-dropped : goal.returns-in-Nowhere-clause-dropped
returns-in-Nowhere-clause-dropped c = none_said c.args.c.now c.say_none.new.c c.args.addr c.say_none.ensures
