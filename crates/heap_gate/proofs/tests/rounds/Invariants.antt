use Rattle.std.proofs.Common.{◌≡◌, ◌≤◌, false}
use Rattle.heap_gate.specs.Counts.{IsSettled, GoesOn}
use Rattle.heap_gate.proofs.tests.rounds.Given as goal

abbrev pub invariant-loop-round : goal.invariant-loop-round
invariant-loop-round g l = IsSettled l.heap l.c false × (l.c.depth ≡ 0) × GoesOn l.initial.c l.c l.times.entered l.times.locked × (l.times.entered ≤ l.round) × (l.times.locked ≤ l.round)
