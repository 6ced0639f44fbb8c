use Rattle.vs_free_tree.specs.Slots.{height_at}
use Rattle.vs_free_tree.proofs.removal.+take_out.Given as goal

abbrev pub decreases-take_out : goal.decreases-take_out
decreases-take_out l = height_at l.nodes.now l.root
