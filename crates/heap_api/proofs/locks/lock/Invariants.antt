use Rattle.heap_api.proofs.Waiting.{WaitsForLock}
use Rattle.heap_api.proofs.locks.lock.Given as goal

abbrev pub invariant-loop : goal.invariant-loop
invariant-loop g l = (goal.iterator-loop g).can_next l.iterator' × (goal.iterator-loop g).is_finite l.iterator' × WaitsForLock l.initial.c l.c
