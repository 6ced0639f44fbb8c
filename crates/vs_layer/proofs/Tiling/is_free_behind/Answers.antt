use Rattle.std.proofs.Common.{arith}
use Rattle.vs_layer.proofs.Neighbours.{end_fits}
use Rattle.vs_layer.proofs.Tiling.is_free_behind.Goals as goal

pub overflow_add-behind : goal.overflow_add-behind
overflow_add-behind c = omega (arith, c.from.ensures, end_fits c.args.self.now.heads c.requires.tiled c.args.start c.args.head.now c.requires.there)
