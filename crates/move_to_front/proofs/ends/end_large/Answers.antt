use Rattle.std.proofs.Common.{ap}
use Rattle.heap_model.specs.declared.Layer.{Layer}
use Rattle.heap_model.specs.declared.Layer.TheVariants as layers
use Rattle.heap_model.specs.State.{is_layer}
use Rattle.move_to_front.proofs.Ended.{rest_ok, ends_large, large_there}
use Rattle.move_to_front.proofs.ends.end_large.Goals as goal

pub swap-requires-clause-halfway : goal.swap-requires-clause-halfway
swap-requires-clause-halfway c = let h = c.requires.halfway in (h.0, h.1, h.2, h.3, h.4)

pub rest-requires : goal.rest-requires
rest-requires c =
    let h = c.requires.halfway in
    record { rests = rest_ok c.args.c.now c.swap.new.c h.0 c.args.addr c.args.size c.args.b c.args.n h.1 h.2 h.3 h.4 c.check.ensures.stands (c.swap.ensures h.0 h.1 h.2 h.3 h.4) (ap (λ (l : Layer). is_layer l layers.Back) h.5) }

pub give-requires : goal.give-requires
give-requires c = let h = c.requires.halfway in large_there c.args.c.now h.0 c.args.addr c.args.size c.args.b c.args.n h.1 h.2 h.3 h.4 h.5 c.args.large.now h.6 c.blocks-blocks.ensures.sound

pub returns : goal.returns
returns c = λ call p q out h is_large w.
    ends_large c.args.c.now c.swap.new.c call c.args.addr c.args.size c.args.b c.args.n p q out h c.check.ensures.stands (c.swap.ensures call p q out h) c.rest.new.c c.rest.ensures is_large c.args.large.now c.give.new.self w c.give.ensures.stands
