use Rattle.std.proofs.Common.{is_some, ap, ◌∙◌}
use Rattle.heap_model.specs.Ranges.{vs_place}
use Rattle.vs_layer.specs.Kept.{gaps_in}
use Rattle.vs_layer.proofs.Best.{best_is}
use Rattle.vs_layer.proofs.Body.fit.Goals as goal

pub returns : goal.returns
returns c =
    c.is_some.ensures
    ∙ best_is _ c.self.invariant.0.chunks c.self.inside.tiling.index c.self.invariant.0.index c.units_for.result c.best.result c.best.ensures
    ∙ ap (λ k. is_some (vs_place (gaps_in k) c.units_for.result)) c.self.view_is
    ∙ ap (λ n. is_some (vs_place (gaps_in c.args.self.now) n)) c.units_for.ensures
