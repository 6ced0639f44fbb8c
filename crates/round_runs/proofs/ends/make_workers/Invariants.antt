use Rattle.std.proofs.Common.{◌≡◌, length}
use Rattle.round_runs.specs.Crews.{AreMade}
use Rattle.round_runs.proofs.ends.make_workers.Given as goal

abbrev pub invariant-loop-t : goal.invariant-loop-t
invariant-loop-t l = AreMade l.heap l.root l.workers.items × (length l.workers.items ≡ l.t)
