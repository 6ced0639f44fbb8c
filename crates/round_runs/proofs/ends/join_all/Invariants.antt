use Rattle.std.proofs.Common.{◌≡◌, ◌++◌, List, length}
use Rattle.thread_commands.specs.declared.workers.Worker.{Worker}
use Rattle.round_runs.specs.Crews.{HaveJoinedFrom}
use Rattle.round_runs.proofs.ends.join_all.Given as goal

abbrev pub decreases-loop-w : goal.decreases-loop-w
decreases-loop-w l = length l.left.items

abbrev pub invariant-loop-w : goal.invariant-loop-w
invariant-loop-w l =
    (gone : List Worker) × (l.fn.workers.items ≡ l.left.items ++ gone) × HaveJoinedFrom (length l.left.items) l.fn.workers.items l.fn.root l.root
