use Rattle.std.proofs.Common.{◌<◌, ◌-◌, ◌*◌, is_some, arith, ◌∙◌, ap}
use Rattle.vs_split.specs.Chunks.{chunk_at}
use Rattle.vs_split.proofs.TiledLemmas.{prev_below}
use Rattle.vs_layer.proofs.Neighbours.{front_there}
use Rattle.vs_layer.proofs.Tiling.is_free_up_to.Goals as goal

pub overflow_sub-start : goal.overflow_sub-start
overflow_sub-start c = omega (arith, c.from.ensures, prev_below c.args.self.now.heads c.requires.tiled c.args.start c.args.head.now c.requires.there)

pub unwrap-before-requires : goal.unwrap-before-requires
unwrap-before-requires c =
    let some : 0 < c.args.head.now.prev = omega (arith, c.if-head-eq0.false) in
    let front = front_there c.args.self.now.heads c.requires.tiled c.args.start c.args.head.now c.requires.there some in
    ap is_some (c.chunk_at.ensures.head ∙ ap (λ n. chunk_at c.args.self.now.heads (c.args.start - 16 * n)) c.from.ensures ∙ front.1)
