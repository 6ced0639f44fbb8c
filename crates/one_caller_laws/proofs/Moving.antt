-- Runs of scripts in which blocks move, and the front end makes no place.
use Rattle.std.proofs.Common.{ℕ, ap, inl, inr, Option}
use Rattle.heap_model.specs.declared.Call.{Call}
use Rattle.heap_model.specs.declared.Call.TheVariants as calls
use Rattle.heap_model.specs.Stay.{for_some}
use Rattle.heap_model.specs.Legal.{goes_to_lfh}
use Rattle.one_caller_laws.specs.OneCall.{IsDetermined}
use Rattle.one_caller_laws.specs.Moving.{IsOfOthersOrMoves, RunsThatMoveAreOne}
use Rattle.one_caller_laws.proofs.Others.{each_of_others, each_all, unbucketed}
use Rattle.one_caller_laws.proofs.Reallocs.{reallocation_determined}

each_that_moves : (call : Call) → IsOfOthersOrMoves call → IsDetermined call
each_that_moves (calls.Realloc a n flags) (inl only) = each_of_others (calls.Realloc a n flags) only
each_that_moves (calls.Realloc a n flags) (inr l) = λ s m k reply other rest others valid b c alike x y.
    reallocation_determined s m k reply other rest others a n flags valid b c alike (inr (inr (ap (λ (o : Option ℕ). for_some o (goes_to_lfh m.state.vs)) (unbucketed n l)))) x y
each_that_moves (calls.Alloc n flags) h = each_of_others (calls.Alloc n flags) h
each_that_moves (calls.Free a) h = each_of_others (calls.Free a) h
each_that_moves (calls.Size a) h = each_of_others (calls.Size a) h
each_that_moves (calls.Get a index) h = each_of_others (calls.Get a index) h
each_that_moves (calls.Put a index v) h = each_of_others (calls.Put a index v) h
each_that_moves calls.Lock h = each_of_others calls.Lock h
each_that_moves calls.Unlock h = each_of_others calls.Unlock h
each_that_moves (calls.WalkNext from) h = each_of_others (calls.WalkNext from) h
each_that_moves calls.Compact h = each_of_others calls.Compact h
each_that_moves calls.Stay h = each_of_others calls.Stay h

pub runs_that_move : RunsThatMoveAreOne
runs_that_move s script valid h = each_all s script valid (λ before call e. each_that_moves call (h before call e))
