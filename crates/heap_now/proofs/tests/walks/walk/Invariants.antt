use Rattle.heap_now.specs.Calls.{IsCallerOf}
use Rattle.heap_now.proofs.tests.walks.walk.Given as goal

abbrev pub invariant-loop-i : goal.invariant-loop-i
invariant-loop-i g l = IsCallerOf l.heap l.c
