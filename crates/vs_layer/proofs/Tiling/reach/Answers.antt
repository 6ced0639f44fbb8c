use Rattle.std.proofs.Common.{arith, ◌/◌, sym}
use Rattle.vs_split.proofs.TiledLemmas.{chunk_of, join_fits}
use Rattle.vs_layer.proofs.Tiling.reach.Goals as goal

pub overflow_add-result : goal.overflow_add-result
overflow_add-result c =
    let h = c.args.head.now in
    let at = chunk_of c.args.self.now.heads c.args.start h c.requires.there in
    omega (arith, join_fits c.args.self.now.heads c.requires.tiled (c.args.start / 16) h c.in-Some.next at.head (sym c.in-Some.ensures))
