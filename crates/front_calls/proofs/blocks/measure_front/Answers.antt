use Rattle.front_calls.proofs.Steps.{measured}
use Rattle.front_calls.proofs.blocks.measure_front.Goals as goal

pub returns : goal.returns
returns c = let v = c.requires.serving in measured c.args.c.now c.live_size.new.c v.0 c.args.addr c.live_size.result v.1 c.live_size.ensures.size c.live_size.ensures.none
