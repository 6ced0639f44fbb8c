use Rattle.std.proofs.Common.{◌||◌, ◌==◌, not, Bool, [], length, refl, ap, subst, ◌∙◌, arith}
use Rattle.vs_split.specs.Tiles.{IsTiled}
use Rattle.vs_calls.proofs.Held.{live_block}
use Rattle.vs_calls.proofs.SpanKept.{under, out_added, out_out, out_whole, out_inside, kept_tells, kept_dropped}
use Rattle.vs_calls.proofs.dropping.drop_in_span.Goals as goal

pub take_out-size-requires-clause-vs : goal.take_out-size-requires-clause-vs
take_out-size-requires-clause-vs c = under c.args.c.now c.args.vs c.requires.vs

pub take_out-size-requires-clause-room : goal.take_out-size-requires-clause-room
take_out-size-requires-clause-room c = let none = ap length c.requires.vs.holds.serving.prepared in omega (arith, none)

pub drop_block-requires : goal.drop_block-requires
drop_block-requires c = let b = live_block c.args.vs c.args.addr c.take_out-size.result c.take_out-size.ensures.size in (b.place, b.there)

pub give_vs-requires-clause-table : goal.give_vs-requires-clause-table
give_vs-requires-clause-table c = (out_added c.args.c.now c.take_out-size.new.c c.args.addr c.take_out-size.result c.take_out-size.ensures.out).goes.table ∙ c.requires.table

pub give_vs-requires-clause-whole : goal.give_vs-requires-clause-whole
give_vs-requires-clause-whole c = out_whole c.args.c.now c.take_out-size.new.c c.args.addr c.take_out-size.result c.take_out-size.ensures.out

pub give_vs-requires-clause-inside : goal.give_vs-requires-clause-inside
give_vs-requires-clause-inside c =
    ap (λ (b : Bool). b || not (c.take_out-size.new.c.depth == 0)) (out_inside c.args.c.now c.take_out-size.new.c c.args.addr c.take_out-size.result c.take_out-size.ensures.out ∙ c.requires.vs.holds.serving.inside)

pub give_vs-requires-clause-lock : goal.give_vs-requires-clause-lock
give_vs-requires-clause-lock c = ([], out_out c.args.c.now c.take_out-size.new.c c.args.addr c.take_out-size.result c.take_out-size.ensures.out ∙ c.requires.vs.holds.serving.out_is, refl)

pub give_vs-requires-clause-tells : goal.give_vs-requires-clause-tells
give_vs-requires-clause-tells c =
    kept_tells c.args.c.now c.take_out-size.new.c c.args.vs c.drop_block.new.self c.requires.vs c.args.addr c.take_out-size.result c.take_out-size.ensures.out c.take_out-size.ensures.size
    c.heads.ensures.in_order (subst IsTiled c.heads.ensures.chunks c.chunk_at-head.ensures.tiled) c.requires.stays c.drop_block.result c.drop_block.ensures.dropped c.drop_block.ensures.stands

pub returns : goal.returns
returns c =
    kept_dropped c.args.c.now c.take_out-size.new.c c.args.vs c.drop_block.new.self c.requires.vs c.args.addr c.take_out-size.result c.take_out-size.ensures.out c.take_out-size.ensures.size
    c.heads.ensures.in_order (subst IsTiled c.heads.ensures.chunks c.chunk_at-head.ensures.tiled) c.requires.stays c.drop_block.result c.drop_block.ensures.dropped c.drop_block.ensures.stands c.give_vs.new.c c.give_vs.ensures
