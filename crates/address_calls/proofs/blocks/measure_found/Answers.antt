use Rattle.address_calls.proofs.Parts.{front_measures, none_said}
use Rattle.address_calls.proofs.blocks.measure_found.Goals as goal

pub returns-in-Front-clause-measured : goal.returns-in-Front-clause-measured
returns-in-Front-clause-measured c = front_measures c.args.c.now c.measure_front.new.c c.args.addr c.measure_front.result c.measure_front.ensures

pub returns-in-Front-clause-front : goal.returns-in-Front-clause-front
returns-in-Front-clause-front c = λ of_front. c.measure_front.ensures

pub returns-in-Nowhere-clause-measured : goal.returns-in-Nowhere-clause-measured
returns-in-Nowhere-clause-measured c = none_said c.args.c.now c.say_none.new.c c.args.addr c.say_none.ensures

pub returns-in-Nowhere-clause-front : goal.returns-in-Nowhere-clause-front
returns-in-Nowhere-clause-front c = λ of_front. c.say_none.ensures
