-- The gap in front of the chunk is joined with it.
use Rattle.std.proofs.Common.{◌≡◌, ◌<◌, ◌-◌, ◌*◌, ◌/◌, Some, is_some, arith, ap, sym, ◌∙◌}
use Rattle.vs_headers.specs.declared.Head.{Head}
use Rattle.vs_split.specs.Chunks.{chunk_at}
use Rattle.vs_split.proofs.TileLemmas.{same_head}
use Rattle.vs_split.proofs.TiledLemmas.{prev_below}
use Rattle.vs_layer.specs.Steps.{without_gap}
use Rattle.vs_layer.proofs.Neighbours.{front_there, taken_before}
use Rattle.vs_layer.proofs.Tiling.join_gap_before.Goals as goal

pub overflow_sub-front : goal.overflow_sub-front
overflow_sub-front c =
    let there = sym c.chunk_at.ensures.head ∙ c.unwrap-head.ensures in
    omega (arith, c.from.ensures, prev_below c.args.self.now.heads c.chunk_at.ensures.tiled c.args.start c.unwrap-head.result there)

pub unwrap-before-requires : goal.unwrap-before-requires
unwrap-before-requires c =
    let there = sym c.chunk_at.ensures.head ∙ c.unwrap-head.ensures in
    let some : 0 < c.unwrap-head.result.prev = omega (arith, c.if-head-eq0.false) in
    let front = front_there c.args.self.now.heads c.chunk_at.ensures.tiled c.args.start c.unwrap-head.result there some in
    ap is_some (c.chunk_at-2.ensures.head ∙ ap (λ n. chunk_at c.args.self.now.heads (c.args.start - 16 * n)) c.from.ensures ∙ front.1)

pub returns : goal.returns
returns c = λ h there.
    let v = c.args.self.now.heads in
    let same = same_head c.unwrap-head.result h (sym (sym c.chunk_at.ensures.head ∙ c.unwrap-head.ensures) ∙ there) in
    let told : c.from.result ≡ h.prev = c.from.ensures ∙ ap (λ (k : Head). k.prev) same in
    let some : 0 < h.prev = omega (arith, c.if-head-eq0.false, ap (λ (k : Head). k.prev) same) in
    let front : chunk_at v (c.args.start - 16 * h.prev) ≡ Some c.unwrap-before.result =
    ap (λ n. chunk_at v (c.args.start - 16 * n)) (sym told) ∙ sym c.chunk_at-2.ensures.head ∙ c.unwrap-before.ensures in
    let from = c.join_prev.ensures.start h there in
    let back : c.join_prev.result ≡ c.args.start - 16 * h.prev = omega (arith, from) in
    taken_before v c.join_prev.new.self c.args.self.now.index c.remove.new.self c.args.start c.join_prev.result h c.unwrap-before.result
    c.chunk_at.ensures.tiled there some front c.if-before.false from
    (c.join_prev.ensures.chunks c.unwrap-before.result h there (ap (chunk_at v) back ∙ front))
    (c.remove.ensures.gaps ∙ ap (λ n. without_gap c.args.self.now.index c.unwrap-before.result.units ((c.args.start - 16 * n) / 16)) told)
