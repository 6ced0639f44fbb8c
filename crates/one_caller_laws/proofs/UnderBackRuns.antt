-- Runs of scripts where what a pass of a search finds is placed under Back.
use Rattle.std.proofs.Common.{◌≡◌, ℕ, true, List, [], ◌∷◌, ◌++◌, Option, refl, ap, inl, inr}
use Rattle.std.proofs.lemmas.Bool.{and_parts, and_from}
use Rattle.heap_model.specs.declared.Act.{Act}
use Rattle.heap_model.specs.declared.Call.{Call}
use Rattle.heap_model.specs.declared.Call.TheVariants as calls
use Rattle.heap_model.specs.State.{Setting}
use Rattle.heap_model.specs.CallState.{Configuration}
use Rattle.heap_model.specs.Stay.{for_some}
use Rattle.heap_model.specs.Legal.{after, goes_to_lfh}
use Rattle.heap_model.specs.Alone.{by_zero, configuration_by}
use Rattle.one_caller_laws.specs.OneCall.{IsDetermined}
use Rattle.one_caller_laws.specs.UnderBack.{is_under_back, place_under_back, IsDeterminedUnderBack, EachThenAllUnderBack, MovesToOthers, RunsUnderBackAreOne}
use Rattle.one_caller_laws.proofs.Asks.{size_determined}
use Rattle.one_caller_laws.proofs.Words.{get_determined, put_determined, lock_determined, unlock_determined, walk_determined}
use Rattle.one_caller_laws.proofs.Freeing.{free_determined}
use Rattle.one_caller_laws.proofs.Compact.{compact_determined}
use Rattle.one_caller_laws.proofs.Reallocs.{in_place_determined, reallocation_determined}
use Rattle.one_caller_laws.proofs.Others.{unbucketed}
use Rattle.one_caller_laws.proofs.SmallAllocs.{allocation_under_back}
use Rattle.one_caller_laws.proofs.Runs.{runs_are_one}

-- .. in each part of the acts
parts_under_back : (s : Setting) (m : Configuration) (xs ys : List Act) → place_under_back s m (xs ++ ys) ≡ true → (place_under_back s m xs ≡ true) × (place_under_back s (configuration_by s m xs) ys ≡ true)
parts_under_back s m [] ys h = (refl, h)
parts_under_back s m (act ∷ xs) ys h =
    let p = and_parts (is_under_back m act) (place_under_back s (after s m (by_zero act)) (xs ++ ys)) h in
    let q = parts_under_back s (after s m (by_zero act)) xs ys p.1 in
    (and_from (is_under_back m act) (place_under_back s (after s m (by_zero act)) xs) p.0 q.0, q.1)

-- what is determined by any acts is so by these
pub determined_so : (call : Call) → IsDetermined call → IsDeterminedUnderBack call
determined_so call det s m n reply other rest others valid b c alike x y u v = det s m n reply other rest others valid b c alike x y

pub each_under_back : EachThenAllUnderBack
each_under_back s script valid det rs rs_too state other x y =
    runs_are_one place_under_back parts_under_back (λ from. determined_so (calls.WalkNext from) (walk_determined from)) s script valid det rs rs_too state other x.runs y.runs x.under y.under

each_that_moves : (call : Call) → MovesToOthers call → IsDeterminedUnderBack call
each_that_moves (calls.Alloc n flags) h = allocation_under_back n flags
each_that_moves (calls.Free a) h = determined_so (calls.Free a) (free_determined a)
each_that_moves (calls.Realloc a n flags) (inl only) = determined_so (calls.Realloc a n flags) (in_place_determined a n flags only)
each_that_moves (calls.Realloc a n flags) (inr l) = determined_so (calls.Realloc a n flags) (λ s m k reply other rest others valid b c alike x y.
    reallocation_determined s m k reply other rest others a n flags valid b c alike (inr (inr (ap (λ (o : Option ℕ). for_some o (goes_to_lfh m.state.vs)) (unbucketed n l)))) x y)
each_that_moves (calls.Size a) h = determined_so (calls.Size a) (size_determined a)
each_that_moves (calls.Get a index) h = determined_so (calls.Get a index) (get_determined a index)
each_that_moves (calls.Put a index v) h = determined_so (calls.Put a index v) (put_determined a index v)
each_that_moves calls.Lock h = determined_so calls.Lock lock_determined
each_that_moves calls.Unlock h = determined_so calls.Unlock unlock_determined
each_that_moves (calls.WalkNext from) h = determined_so (calls.WalkNext from) (walk_determined from)
each_that_moves calls.Compact h = determined_so calls.Compact compact_determined
each_that_moves calls.Stay h = λ s m k reply other rest others valid b c alike x y u v. absurd x.gets.shape

pub runs_under_back : RunsUnderBackAreOne
runs_under_back s script valid h = each_under_back s script valid (λ before call e. each_that_moves call (h before call e))
