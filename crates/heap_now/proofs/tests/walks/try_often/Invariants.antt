use Rattle.heap_now.specs.Callers.{IsFreeCaller}
use Rattle.heap_now.proofs.tests.walks.try_often.Given as goal

abbrev pub invariant-loop : goal.invariant-loop
invariant-loop l = IsFreeCaller l.heap l.c
