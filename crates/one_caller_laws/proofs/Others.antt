-- Runs of scripts in which the front end has no part.
use Rattle.std.proofs.Common.{◌≡◌, ℕ, ◌<◌, Option, None, refl, ap, arith}
use Rattle.std.specs.Prelude.{max}
use Rattle.std.proofs.lemmas.Bool.{lt-leb}
use Rattle.heap_model.specs.declared.Call.{Call}
use Rattle.heap_model.specs.declared.Call.TheVariants as calls
use Rattle.heap_model.specs.Buckets.{bucket_of}
use Rattle.heap_model.specs.Stay.{for_some}
use Rattle.heap_model.specs.Legal.{goes_to_lfh}
use Rattle.one_caller_laws.specs.OneCall.{IsDetermined}
use Rattle.one_caller_laws.specs.Asked.{EachThenAll, IsOfOthers, RunsOfOthersAreOne}
use Rattle.one_caller_laws.proofs.Asks.{size_determined}
use Rattle.one_caller_laws.proofs.Words.{get_determined, put_determined, lock_determined, unlock_determined, walk_determined}
use Rattle.one_caller_laws.proofs.Freeing.{free_determined}
use Rattle.one_caller_laws.proofs.Compact.{compact_determined}
use Rattle.one_caller_laws.proofs.Allocs.{allocation_determined}
use Rattle.one_caller_laws.proofs.Reallocs.{in_place_determined}
use Rattle.one_caller_laws.proofs.Runs.{each_then_all}

-- so many bytes have no bucket
pub unbucketed : (n : ℕ) → 16368 < n → bucket_of n ≡ None
unbucketed n l =
    let a = lt-leb (max 1 n) 1024 (omega arith) in
    let b = lt-leb (max 1 n) 2048 (omega arith) in
    let c = lt-leb (max 1 n) 4096 (omega arith) in
    let d = lt-leb (max 1 n) 8192 (omega arith) in
    let e = lt-leb (max 1 n) 16368 (omega arith) in
    rw (a, b, c, d, e) refl

pub each_of_others : (call : Call) → IsOfOthers call → IsDetermined call
each_of_others (calls.Alloc n flags) h = λ s m k reply other rest others valid b c alike x y.
    allocation_determined s m k reply other rest others n flags valid b c alike (ap (λ (o : Option ℕ). for_some o (goes_to_lfh m.state.vs)) (unbucketed n h)) x y
each_of_others (calls.Free a) h = free_determined a
each_of_others (calls.Realloc a n flags) h = in_place_determined a n flags h
each_of_others (calls.Size a) h = size_determined a
each_of_others (calls.Get a index) h = get_determined a index
each_of_others (calls.Put a index v) h = put_determined a index v
each_of_others calls.Lock h = lock_determined
each_of_others calls.Unlock h = unlock_determined
each_of_others (calls.WalkNext from) h = walk_determined from
each_of_others calls.Compact h = compact_determined
each_of_others calls.Stay h = λ s m k reply other rest others valid b c alike x y. absurd x.gets.shape

pub each_all : EachThenAll
each_all = each_then_all walk_determined

pub runs_of_others : RunsOfOthersAreOne
runs_of_others s script valid h = each_all s script valid (λ before call e. each_of_others call (h before call e))
