use Rattle.heap_now.specs.Callers.{IsFreeCaller}
use Rattle.heap_now.proofs.tests.threads.get_some.Given as goal

abbrev pub invariant-loop : goal.invariant-loop
invariant-loop l = IsFreeCaller l.heap l.c
