use Rattle.std.proofs.Common.{sym, subst}
use Rattle.vs_split.specs.Chunks.{Chunks}
use Rattle.vs_split.specs.Tiles.{IsTiled, IsWhole}
use Rattle.vs_split.proofs.TiledLemmas.{tiled_close}
use Rattle.vs_split.proofs.Heads.close_span.Goals as goal

pub invariant_of-self : goal.invariant_of-self
invariant_of-self c =
    let whole = subst (λ (v : Chunks). IsWhole v c.args.first c.requires.0) (sym c.self.view_is) c.requires.1 in
    subst IsTiled (sym c.clear.ensures) (tiled_close c.self.inside.table c.self.invariant c.args.first c.requires.0 whole)
