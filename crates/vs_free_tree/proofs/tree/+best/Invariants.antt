use Rattle.vs_free_tree.specs.Slots.{height_at}
use Rattle.vs_free_tree.proofs.tree.+best.Given as goal

abbrev pub decreases-best : goal.decreases-best
decreases-best l = height_at l.nodes.now l.root
