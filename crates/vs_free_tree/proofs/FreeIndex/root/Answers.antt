-- The index is its tree.
use Rattle.std.proofs.Common.{subst}
use Rattle.std.specs.Vec.{vec_capacity}
use Rattle.vs_free_tree.specs.Index.{IsTreeOfGaps}
use Rattle.vs_free_tree.proofs.SeenLemmas.{shown_by}
use Rattle.vs_free_tree.proofs.FreeIndex.root.Goals as goal

pub returns-clause-tree : goal.returns-clause-tree
returns-clause-tree c =
    subst IsTreeOfGaps c.self.view_is
    (c.self.invariant.tree, shown_by c.self.inside.nodes.items c.self.inside.root (vec_capacity c.self.inside.nodes) c.self.invariant.tree c.self.invariant.is_tree c.self.invariant.others)
