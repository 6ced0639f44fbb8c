use Rattle.heap_now.specs.Callers.{IsFreeCaller}
use Rattle.heap_now.proofs.tests.sharing.claim_and_post.Given as goal

abbrev pub invariant-loop-turn : goal.invariant-loop-turn
invariant-loop-turn l = IsFreeCaller l.heap l.c
