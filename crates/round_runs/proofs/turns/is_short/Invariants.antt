use Rattle.std.proofs.Common.{◌≡◌, ℕ, ◌<◌, false, get_or}
use Rattle.thread_commands.specs.declared.workers.Worker.{Worker}
use Rattle.round_runs.proofs.turns.is_short.Given as goal

abbrev pub invariant-loop-w : goal.invariant-loop-w
invariant-loop-w l = (t : ℕ) (d : Worker) → t < l.w-index → (get_or l.workers t d).short ≡ false
