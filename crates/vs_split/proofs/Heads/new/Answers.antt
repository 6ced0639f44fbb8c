use Rattle.std.proofs.Common.{ap, arith}
use Rattle.vs_split.specs.Chunks.{Chunks}
use Rattle.vs_split.proofs.TiledLemmas.{tiled_empty}
use Rattle.vs_split.proofs.Heads.new.Goals as goal

pub invariant_of-result : goal.invariant_of-result
invariant_of-result c = tiled_empty _ c.args.limits.now.segments (ap (λ (v : Chunks). v.heads) c.in_ok-table.ensures) (omega (arith, c.requires.segments))
