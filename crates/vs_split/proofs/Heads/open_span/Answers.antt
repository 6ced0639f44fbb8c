use Rattle.std.proofs.Common.{◌+◌, ◌*◌, sym, subst}
use Rattle.vs_split.specs.Chunks.{Chunks}
use Rattle.vs_split.specs.Tiles.{IsTiled, AreSpanPages, IsClear}
use Rattle.vs_split.proofs.TiledLemmas.{tiled_open}
use Rattle.vs_split.proofs.Heads.open_span.Goals as goal

pub invariant_of-self : goal.invariant_of-self
invariant_of-self c =
    let pages = subst (λ (v : Chunks). AreSpanPages v c.args.first c.args.pages) (sym c.self.view_is) c.requires.pages in
    let clear = subst (λ (v : Chunks). IsClear v (256 * c.args.first) (256 * (c.args.first + c.args.pages))) (sym c.self.view_is) c.requires.clear in
    subst IsTiled (sym c.put.ensures) (tiled_open c.self.inside.table c.self.invariant c.args.first c.args.pages pages clear)
