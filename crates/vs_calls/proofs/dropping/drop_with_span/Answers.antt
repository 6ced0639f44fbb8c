use Rattle.std.proofs.Common.{None, length, refl, ap, subst, ◌∙◌, arith}
use Rattle.vs_split.specs.Tiles.{IsTiled}
use Rattle.vs_calls.proofs.Held.{live_block}
use Rattle.vs_calls.proofs.SpanKept.{out_added}
use Rattle.vs_calls.proofs.Closing.{under_both, may_end, end_room, closed_by, closes}
use Rattle.vs_calls.proofs.dropping.drop_with_span.Goals as goal

pub take_out-size-requires-clause-vs : goal.take_out-size-requires-clause-vs
take_out-size-requires-clause-vs c = under_both c.args.c.now c.requires.both.0 c.args.vs c.args.back c.requires.both.1

pub take_out-size-requires-clause-room : goal.take_out-size-requires-clause-room
take_out-size-requires-clause-room c = let none = ap length c.requires.both.1.serving.prepared in omega (arith, none)

pub drop_block-requires : goal.drop_block-requires
drop_block-requires c = let b = live_block c.args.vs c.args.addr c.take_out-size.result c.take_out-size.ensures.size in (b.place, b.there)

pub end_span-requires-clause-table : goal.end_span-requires-clause-table
end_span-requires-clause-table c = (out_added c.args.c.now c.take_out-size.new.c c.args.addr c.take_out-size.result c.take_out-size.ensures.out).goes.table ∙ c.requires.table

pub end_span-requires-clause-ends : goal.end_span-requires-clause-ends
end_span-requires-clause-ends c =
    may_end c.args.c.now c.take_out-size.new.c c.requires.both.0 c.args.vs c.drop_block.new.self c.args.back c.requires.both.1 c.requires.used c.region-region.ensures.sound c.args.addr c.take_out-size.result c.take_out-size.ensures.out c.take_out-size.ensures.size
    c.heads.ensures.in_order (subst IsTiled c.heads.ensures.chunks c.chunk_at-head.ensures.tiled) c.in-Some.first c.in-Some.field-0-1 c.in-Some.ensures.dropped c.in-Some.ensures.stands

pub end_span-requires-clause-room : goal.end_span-requires-clause-room
end_span-requires-clause-room c =
    end_room c.args.c.now c.take_out-size.new.c c.requires.both.0 c.args.vs c.drop_block.new.self c.args.back c.requires.both.1 c.requires.used c.region-region.ensures.sound c.args.addr c.take_out-size.result c.take_out-size.ensures.out c.take_out-size.ensures.size
    c.heads.ensures.in_order (subst IsTiled c.heads.ensures.chunks c.chunk_at-head.ensures.tiled) c.in-Some.first c.in-Some.field-0-1 c.in-Some.ensures.dropped c.in-Some.ensures.stands

pub unreachable-requires : goal.unreachable-requires
unreachable-requires c = closes c.args.vs c.drop_block.new.self c.args.addr None c.requires.last c.in-None.ensures.dropped refl

pub returns : goal.returns
returns c = (
  c.in-Some.first,
  closed_by c.args.c.now c.take_out-size.new.c c.requires.both.0 c.args.vs c.drop_block.new.self c.args.back c.requires.both.1 c.requires.used c.region-region.ensures.sound c.args.addr c.take_out-size.result c.take_out-size.ensures.out c.take_out-size.ensures.size
      c.heads.ensures.in_order (subst IsTiled c.heads.ensures.chunks c.chunk_at-head.ensures.tiled) c.in-Some.first c.in-Some.field-0-1 c.in-Some.ensures.dropped c.in-Some.ensures.stands c.end_span.new.c c.end_span.ensures,
)
