use Rattle.std.proofs.Common.{◌≡◌, ℕ, ◌<◌, ◌≤◌, length, get_or}
use Rattle.thread_commands.specs.declared.workers.Worker.{Worker}
use Rattle.round_runs.specs.Turns.{Learns}
use Rattle.round_runs.proofs.turns.learn_all.Given as goal

abbrev pub invariant-loop-k : goal.invariant-loop-k
invariant-loop-k l =
    (length l.workers ≡ length l.initial.workers)
    × ((t : ℕ) (d : Worker) → t < l.k → Learns l.news t (get_or l.initial.workers t d) (get_or l.workers t d))
    × ((t : ℕ) (d : Worker) → l.k ≤ t → get_or l.workers t d ≡ get_or l.initial.workers t d)
