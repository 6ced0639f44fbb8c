use Rattle.heap_now.specs.Calls.{IsCallerOf}
use Rattle.heap_api.proofs.tests.sharing.work.Given as goal

abbrev pub invariant-loop-turn : goal.invariant-loop-turn
invariant-loop-turn g l = IsCallerOf l.heap l.c
