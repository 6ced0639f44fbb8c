use Rattle.std.proofs.Common.{◌≡◌, false}
use Rattle.heap_gate.specs.Counts.{IsSettled}
use Rattle.heap_gate.proofs.tests.lock_times.Given as goal

abbrev pub invariant-loop-time : goal.invariant-loop-time
invariant-loop-time g l = IsSettled l.heap l.c false × (l.c.depth ≡ l.time) × (l.c.number ≡ l.initial.c.number)
