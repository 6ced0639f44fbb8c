use Rattle.heap_model.specs.declared.Call.TheVariants as calls
use Rattle.heap_api.proofs.Waiting.{Waits}
use Rattle.heap_api.proofs.reallocs.realloc.Given as goal

abbrev pub invariant-loop : goal.invariant-loop
invariant-loop g l = (goal.iterator-loop g).can_next l.iterator' × (goal.iterator-loop g).is_finite l.iterator' × Waits l.initial.c l.c (calls.Realloc l.addr l.n l.flags)
