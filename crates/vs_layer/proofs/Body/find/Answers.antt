use Rattle.std.proofs.Common.{◌-◌, ◌/◌, sym, ap, ◌∙◌, arith}
use Rattle.vs_split.specs.Chunks.{chunk_at}
use Rattle.vs_split.proofs.TiledLemmas.{chunk_of}
use Rattle.vs_layer.specs.Kept.{VsKept}
use Rattle.vs_layer.proofs.Blocks.{none_below, none_without_chunk, none_in_gap, size_here}
use Rattle.vs_layer.proofs.Body.find.Goals as goal

pub returns-then-addr-lt-GRANULE_BYTES : goal.returns-then-addr-lt-GRANULE_BYTES
returns-then-addr-lt-GRANULE_BYTES c = none_below c.args.self.now c.args.addr c.if-addr-lt-GRANULE_BYTES.true

pub returns-in_err-head : goal.returns-in_err-head
returns-in_err-head c =
    c.from_residual.ensures
    ∙ none_without_chunk c.args.self.now c.args.addr (ap (λ (k : VsKept). chunk_at k.chunks (c.args.addr - 16)) (sym c.self.view_is) ∙ sym c.chunk_at.ensures.head ∙ c.in_err-head.was)

pub size_in-requires-clause-some : goal.size_in-requires-clause-some
size_in-requires-clause-some c =
    let there = sym c.chunk_at.ensures.head ∙ c.in_ok-head.was in
    omega (arith, (c.self.invariant.0.chunks.tiled.tiles ((c.args.addr - 16) / 16) c.in_ok-head.head (chunk_of c.self.inside.tiling.heads (c.args.addr - 16) c.in_ok-head.head there).head).some)

pub size_in-requires-clause-within : goal.size_in-requires-clause-within
size_in-requires-clause-within c =
    let there = sym c.chunk_at.ensures.head ∙ c.in_ok-head.was in
    omega (arith, (c.self.invariant.0.chunks.sized ((c.args.addr - 16) / 16) c.in_ok-head.head (chunk_of c.self.inside.tiling.heads (c.args.addr - 16) c.in_ok-head.head there).head c.if-head.true).unused)

pub returns-then-head : goal.returns-then-head
returns-then-head c =
    let there = ap (λ (k : VsKept). chunk_at k.chunks (c.args.addr - 16)) (sym c.self.view_is) ∙ sym c.chunk_at.ensures.head ∙ c.in_ok-head.was in
    size_here c.args.self.now c.args.addr c.size_in.result c.in_ok-head.head c.if-addr-lt-GRANULE_BYTES.false there c.if-head.true c.size_in.ensures

pub returns-else-head : goal.returns-else-head
returns-else-head c =
    let there = ap (λ (k : VsKept). chunk_at k.chunks (c.args.addr - 16)) (sym c.self.view_is) ∙ sym c.chunk_at.ensures.head ∙ c.in_ok-head.was in
    none_in_gap c.args.self.now c.args.addr c.in_ok-head.head there c.if-head.false
