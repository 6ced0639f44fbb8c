use Rattle.vs_free_tree.specs.Slots.{height_at}
use Rattle.vs_free_tree.proofs.tree.+insert.Given as goal

abbrev pub decreases-insert : goal.decreases-insert
decreases-insert l = height_at l.nodes.now l.root
