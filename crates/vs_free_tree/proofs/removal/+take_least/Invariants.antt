use Rattle.vs_free_tree.specs.Slots.{height_at}
use Rattle.vs_free_tree.proofs.removal.+take_least.Given as goal

abbrev pub decreases-take_least : goal.decreases-take_least
decreases-take_least l = height_at l.nodes.now l.root
