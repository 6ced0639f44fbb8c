use Rattle.std.proofs.Common.{◌-◌, arith}
use Rattle.vs_layer.specs.Kept.{block_in}
use Rattle.vs_calls.proofs.SpanActs.{low_may, high_may}
use Rattle.vs_calls.proofs.spans.prepare_in_span.Goals as goal

pub prepare_all-requires-clause-may : goal.prepare_all-requires-clause-may
prepare_all-requires-clause-may c =
    let b = c.requires.block in
    let at = b.1 in
    low_may c.args.c.now c.args.reserved c.args.first c.args.n b.0 c.span_pages.result (c.args.addr - 16) c.granules_at.result c.span_pages.ensures (omega (arith, at)) (c.granules_at.ensures (block_in b.0 c.args.n) b.2) b.3 c.if-first-reserved.true

pub prepare_all-requires-else-first-reserved-clause-may : goal.prepare_all-requires-else-first-reserved-clause-may
prepare_all-requires-else-first-reserved-clause-may c =
    let b = c.requires.block in
    let at = b.1 in
    high_may c.args.c.now c.args.reserved c.args.first c.args.n b.0 c.span_pages.result (c.args.addr - 16) c.granules_at.result c.span_pages.ensures (omega (arith, at)) (c.granules_at.ensures (block_in b.0 c.args.n) b.2) b.3 c.if-first-reserved.false
