use Rattle.std.proofs.Common.{◌≡◌, ◌≤◌, true}
use Rattle.heap_gate.specs.Counts.{IsSettled}
use Rattle.heap_gate.specs.Turns.{TakesOn}
use Rattle.heap_gate.proofs.lock_tests.turns.Given as goal

abbrev pub invariant-loop-round : goal.invariant-loop-round
invariant-loop-round l = IsSettled l.heap l.c true × (l.c.depth ≡ l.initial.c.depth) × (l.c.number ≡ l.initial.c.number) × TakesOn l.initial.c l.c l.taken × (l.taken ≤ l.round)
