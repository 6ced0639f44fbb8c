use Rattle.std.proofs.Common.{ap}
use Rattle.heap_model.specs.declared.Layer.{Layer}
use Rattle.heap_model.specs.declared.Layer.TheVariants as layers
use Rattle.heap_model.specs.State.{is_layer}
use Rattle.move_parts.proofs.Ended.{large_there, ends_large}
use Rattle.move_parts.proofs.ends.end_large.Goals as goal

pub swap-requires : goal.swap-requires
swap-requires c = let h = c.requires.halfway in record { halfway = (h.0, h.1, h.2, h.3, h.4, ap (λ (l : Layer). is_layer l layers.Back) h.5) }

pub give-requires : goal.give-requires
give-requires c =
    let h = c.requires.halfway in
    large_there c.args.c.now h.0 c.args.addr c.args.size c.args.b c.args.n h.1 h.2 h.3 h.4 c.check.ensures.stands h.5 c.args.large.now h.6 c.blocks-blocks.ensures.sound

pub returns : goal.returns
returns c = λ call p q out h is_large w.
    ends_large c.args.c.now c.swap.new.c call c.args.addr c.args.size c.args.b c.args.n p q out h c.check.ensures.stands (c.swap.ensures call p q out h (ap (λ (l : Layer). is_layer l layers.Back) is_large)) is_large c.args.large.now c.give.new.self w
    c.give.ensures.stands
