-- Each call is determined where what a pass finds is placed under Back, and so are all runs.
use Rattle.heap_model.specs.declared.Call.{Call}
use Rattle.heap_model.specs.declared.Call.TheVariants as calls
use Rattle.one_caller_laws.specs.UnderBack.{IsDeterminedUnderBack}
use Rattle.one_caller_laws.specs.AllUnderBack.{AllRunsUnderBackAreOne}
use Rattle.one_caller_laws.proofs.Asks.{size_determined}
use Rattle.one_caller_laws.proofs.Words.{get_determined, put_determined, lock_determined, unlock_determined, walk_determined}
use Rattle.one_caller_laws.proofs.Freeing.{free_determined}
use Rattle.one_caller_laws.proofs.Compact.{compact_determined}
use Rattle.one_caller_laws.proofs.SmallAllocs.{allocation_under_back}
use Rattle.one_caller_laws.proofs.FrontReturns.{reallocation_under_back}
use Rattle.one_caller_laws.proofs.UnderBackRuns.{determined_so, each_under_back}

each_call : (call : Call) → IsDeterminedUnderBack call
each_call (calls.Alloc n flags) = allocation_under_back n flags
each_call (calls.Free a) = determined_so (calls.Free a) (free_determined a)
each_call (calls.Realloc a n flags) = reallocation_under_back a n flags
each_call (calls.Size a) = determined_so (calls.Size a) (size_determined a)
each_call (calls.Get a index) = determined_so (calls.Get a index) (get_determined a index)
each_call (calls.Put a index v) = determined_so (calls.Put a index v) (put_determined a index v)
each_call calls.Lock = determined_so calls.Lock lock_determined
each_call calls.Unlock = determined_so calls.Unlock unlock_determined
each_call (calls.WalkNext from) = determined_so (calls.WalkNext from) (walk_determined from)
each_call calls.Compact = determined_so calls.Compact compact_determined
each_call calls.Stay = λ s m k reply other rest others valid b c alike x y u v. absurd x.gets.shape

pub all_runs_under_back : AllRunsUnderBackAreOne
all_runs_under_back s script valid = each_under_back s script valid (λ before call e. each_call call)
