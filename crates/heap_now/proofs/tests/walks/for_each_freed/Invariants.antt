use Rattle.heap_now.specs.Callers.{IsFreeCaller}
use Rattle.heap_now.proofs.tests.walks.for_each_freed.Given as goal

abbrev pub invariant-loop-i : goal.invariant-loop-i
invariant-loop-i g l = IsFreeCaller l.heap l.c
