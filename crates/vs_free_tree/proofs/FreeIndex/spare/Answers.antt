-- The nodes that hold a gap, and the spare ones, are all.
use Rattle.std.proofs.Common.{◌+◌, sym, ap, ◌∙◌}
use Rattle.std.specs.FinSet as set
use Rattle.vs_free_tree.specs.Index.{GapTree}
use Rattle.vs_free_tree.proofs.KeptLemmas.{total}
use Rattle.vs_free_tree.proofs.FreeIndex.spare.Goals as goal

pub returns : goal.returns
returns c =
    ap (λ (x : GapTree). c.self.inside.spare + set.len x.gaps) (sym c.self.view_is)
    ∙ total c.self.inside.nodes.items c.self.inside.root c.self.inside.free c.self.inside.spare c.self.invariant
    ∙ ap (λ (x : GapTree). x.capacity) c.self.view_is
