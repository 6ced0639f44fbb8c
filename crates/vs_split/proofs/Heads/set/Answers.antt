use Rattle.std.proofs.Common.{refl, sym, subst}
use Rattle.vs_split.specs.Tiles.{IsTiled}
use Rattle.vs_split.proofs.TiledLemmas.{tiled_set}
use Rattle.vs_split.proofs.Heads.set.Goals as goal

pub invariant_of-self : goal.invariant_of-self
invariant_of-self c =
    subst IsTiled (sym c.put.ensures) (tiled_set c.self.inside.table c.self.invariant c.chunk-at.result.0 c.chunk-at.result.1 _ c.chunk-at.ensures.start refl refl)
