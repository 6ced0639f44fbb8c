use Rattle.heap_now.specs.Calls.{IsCallerOf}
use Rattle.heap_now.proofs.tests.walks.unlock_often.Given as goal

abbrev pub invariant-loop : goal.invariant-loop
invariant-loop g l = IsCallerOf l.heap l.c
