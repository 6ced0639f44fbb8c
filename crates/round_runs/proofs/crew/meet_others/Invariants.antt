use Rattle.std.proofs.Common.{◌≡◌, ℕ, ◌<◌, ◌≤◌, length, get_or}
use Rattle.thread_commands.specs.declared.workers.Worker.{Worker}
use Rattle.round_runs.specs.Turns.{Keeps, Passes}
use Rattle.round_runs.proofs.crew.meet_others.Given as goal

abbrev pub invariant-loop-k : goal.invariant-loop-k
invariant-loop-k l =
    Keeps l.heap l.initial.first l.first
    × (length l.others ≡ length l.initial.others)
    × ((t : ℕ) (d : Worker) → t < l.k → Passes l.heap l.initial.first l.first (get_or l.initial.others t d) (get_or l.others t d))
    × ((t : ℕ) (d : Worker) → l.k ≤ t → get_or l.others t d ≡ get_or l.initial.others t d)
