use Rattle.std.proofs.Common.{◌≡◌, ◌+◌, sym, ap, subst, ◌∙◌, arith, rules}
use Rattle.vs_split.specs.Chunks.{head_at, joined_chunk}
use Rattle.vs_split.specs.Tiles.{IsTiled}
use Rattle.vs_split.proofs.TiledLemmas.{tiled_join, join_fits}
use Rattle.vs_split.proofs.Heads.join_next.Goals as goal

pub overflow_add-units : goal.overflow_add-units
overflow_add-units c =
    let next = ap (λ n. head_at c.self.inside.table (c.chunk-at.result.0 + n)) (sym c.from.ensures) ∙ sym c.get.ensures ∙ c.unwrap-next.ensures in
    omega (arith, join_fits c.self.inside.table c.self.invariant c.chunk-at.result.0 c.chunk-at.result.1 c.unwrap-next.result c.chunk-at.ensures.start next)

pub invariant_of-self : goal.invariant_of-self
invariant_of-self c =
    let next = ap (λ n. head_at c.self.inside.table (c.chunk-at.result.0 + n)) (sym c.from.ensures) ∙ sym c.get.ensures ∙ c.unwrap-next.ensures in
    let joined : c.set_prev.new.self ≡ joined_chunk c.self.inside.table c.chunk-at.result.0 c.chunk-at.result.1 c.unwrap-next.result.units = search rules in
    subst IsTiled (sym joined) (tiled_join c.self.inside.table c.self.invariant c.chunk-at.result.0 c.chunk-at.result.1 c.unwrap-next.result c.chunk-at.ensures.start next)
