use Rattle.heap_now.specs.Calls.{IsCallerOf}
use Rattle.heap_now.proofs.tests.walks.look_often.Given as goal

abbrev pub invariant-loop : goal.invariant-loop
invariant-loop l = IsCallerOf l.heap l.c
