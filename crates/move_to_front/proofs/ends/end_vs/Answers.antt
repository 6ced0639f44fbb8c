use Rattle.std.proofs.Common.{ap}
use Rattle.heap_model.specs.declared.Layer.{Layer}
use Rattle.heap_model.specs.declared.Layer.TheVariants as layers
use Rattle.heap_model.specs.State.{is_layer}
use Rattle.move_to_front.proofs.Ended.{rest_ok}
use Rattle.move_to_front.proofs.VsEnded.{vs_there, may_end, end_room, ends_vs, ends_with_span}
use Rattle.move_to_front.proofs.ends.end_vs.Goals as goal

pub swap-requires-clause-halfway : goal.swap-requires-clause-halfway
swap-requires-clause-halfway c = let h = c.requires.halfway in (h.0, h.1, h.2, h.3, h.4)

pub rest-requires : goal.rest-requires
rest-requires c =
    let h = c.requires.halfway in
    record { rests = rest_ok c.args.c.now c.swap.new.c h.0 c.args.addr c.args.size c.args.b c.args.n h.1 h.2 h.3 h.4 c.check.ensures.stands (c.swap.ensures h.0 h.1 h.2 h.3 h.4) (ap (λ (l : Layer). is_layer l layers.Back) h.5) }

pub drop_block-requires : goal.drop_block-requires
drop_block-requires c = let h = c.requires.halfway in vs_there c.args.c.now h.0 c.args.addr c.args.size c.args.b c.args.n h.1 h.2 h.3 h.4 h.5 c.args.vs.now h.7

pub end_span-requires-clause-ends : goal.end_span-requires-clause-ends
end_span-requires-clause-ends c =
    let h = c.requires.halfway in
    may_end c.args.c.now c.swap.new.c h.0 c.args.addr c.args.size c.args.b c.args.n h.1 h.2 h.3 h.4 c.check.ensures.stands (c.swap.ensures h.0 h.1 h.2 h.3 h.4) c.rest.new.c c.rest.ensures h.5 h.6 c.args.vs.now c.drop_block.new.self c.args.back.now h.7 h.8
    c.heads-heads.ensures.in_order c.heads-heads.ensures.inside c.region-region.ensures.sound c.in-Some.first c.in-Some.field-0-1 c.in-Some.ensures.dropped c.in-Some.ensures.stands

pub end_span-requires-clause-room : goal.end_span-requires-clause-room
end_span-requires-clause-room c =
    let h = c.requires.halfway in
    end_room c.args.c.now c.swap.new.c h.0 c.args.addr c.args.size c.args.b c.args.n h.1 h.2 h.3 h.4 c.check.ensures.stands (c.swap.ensures h.0 h.1 h.2 h.3 h.4) c.rest.new.c c.rest.ensures h.5 h.6 c.args.vs.now c.drop_block.new.self c.args.back.now h.7 h.8
    c.heads-heads.ensures.in_order c.heads-heads.ensures.inside c.region-region.ensures.sound c.in-Some.first c.in-Some.field-0-1 c.in-Some.ensures.dropped c.in-Some.ensures.stands

pub returns-in-Some : goal.returns-in-Some
returns-in-Some c = λ call p q out h is_vs back_out w wb.
    ends_with_span c.args.c.now c.swap.new.c call c.args.addr c.args.size c.args.b c.args.n p q out h c.check.ensures.stands (c.swap.ensures call p q out h) c.rest.new.c c.rest.ensures is_vs back_out c.args.vs.now c.drop_block.new.self c.args.back.now w wb
    c.heads-heads.ensures.in_order c.heads-heads.ensures.inside c.region-region.ensures.sound c.in-Some.first c.in-Some.field-0-1 c.in-Some.ensures.dropped c.in-Some.ensures.stands c.end_span.new.c c.end_span.new.back c.end_span.ensures

pub returns-in-None : goal.returns-in-None
returns-in-None c = λ call p q out h is_vs back_out w wb.
    ends_vs c.args.c.now c.swap.new.c call c.args.addr c.args.size c.args.b c.args.n p q out h c.check.ensures.stands (c.swap.ensures call p q out h) c.rest.new.c c.rest.ensures is_vs back_out c.args.vs.now c.drop_block.new.self c.args.back.now w wb
    c.heads-heads.ensures.in_order c.heads-heads.ensures.inside c.in-None.ensures.dropped c.in-None.ensures.stands
