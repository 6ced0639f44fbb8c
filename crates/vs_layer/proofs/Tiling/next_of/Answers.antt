use Rattle.std.proofs.Common.{arith}
use Rattle.vs_layer.proofs.Neighbours.{end_fits}
use Rattle.vs_layer.proofs.Tiling.next_of.Goals as goal

pub overflow_add-start : goal.overflow_add-start
overflow_add-start c = omega (arith, c.from.ensures, end_fits c.args.self.now.heads c.requires.tiled c.args.start c.args.head.now c.requires.there)
