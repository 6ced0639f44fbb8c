use Rattle.heap_now.specs.Callers.{IsFreeCaller}
use Rattle.heap_now.proofs.tests.walks.alloc_in.Given as goal

abbrev pub invariant-loop : goal.invariant-loop
invariant-loop g l = IsFreeCaller l.heap l.c
