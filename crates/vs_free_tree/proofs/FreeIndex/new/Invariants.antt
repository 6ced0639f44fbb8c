use Rattle.std.proofs.Common.{◌≤◌}
use Rattle.std.specs.Vec.{vec_capacity}
use Rattle.vs_free_tree.proofs.NewLemmas.{AreNew}
use Rattle.vs_free_tree.proofs.FreeIndex.new.Given as goal

abbrev pub invariant-loop-number : goal.invariant-loop-number
invariant-loop-number l = record { new : AreNew l.nodes.items l.free l.number; room : l.fn.capacity ≤ vec_capacity l.nodes }
