use Rattle.std.proofs.Common.{◌≡◌, length, take}
use Rattle.script_text.specs.Scripts.{commands_of}
use Rattle.heap_gate.specs.Roots.{RootToken}
use Rattle.round_runs.specs.Crews.{AreFree, AreMade}
use Rattle.round_runs.specs.Turns.{HaveRun}
use Rattle.round_runs.proofs.rounds.play_all.Given as goal

abbrev pub invariant-loop-round : goal.invariant-loop-round
invariant-loop-round g l =
    AreFree l.heap l.workers × (length l.workers ≡ length l.fn.workers)
    × ((root : RootToken) → AreMade l.heap root l.fn.workers → HaveRun l.heap.opening root.roll l.workers (take l.round (commands_of l.script)) l.answers)
