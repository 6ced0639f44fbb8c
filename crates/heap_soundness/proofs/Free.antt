-- What is free behind a block of the back end or of the large area.
use Rattle.std.proofs.Common.{◌≡◌, ℕ, ◌+◌, ◌<◌, ◌≤◌, Bool, true, Option, Some, None, refl, subst, arith, eqb}
use Rattle.std.specs.Prelude.{option_map, unwrap_or}
use Rattle.std.specs.List.{find}
use Rattle.std.proofs.lemmas.Bool.{eqb-true}
use Rattle.heap_model.specs.Runs.{Run, runs, IsRun}
use Rattle.heap_model.specs.Stay.{run_from}
use Rattle.heap_soundness.proofs.Lists.{all_at, found_in, found_passes}
use Rattle.heap_soundness.proofs.Maximal.{runs_only}

-- the numbers behind at, so many as the run that begins there has: all pass, and lie below the end
pub record IsRunFrom (test : ℕ → Bool) (high at n : ℕ) : Type 0 where
  pub passes : (k : ℕ) → k < n → test (at + k) ≡ true
  pub below : 0 < n → at + n ≤ high

pub run_from_is : (test : ℕ → Bool) (high at : ℕ) → IsRunFrom test high at (run_from (runs test 0 high) at)
run_from_is test high at = by_find (find (λ (r : Run). eqb r.first at) (runs test 0 high)) refl
  where
    by_find : (o : Option Run) → find (λ (r : Run). eqb r.first at) (runs test 0 high) ≡ o → IsRunFrom test high at (unwrap_or (option_map (λ (r : Run). r.count) o) 0)
    by_find None e = record { passes = λ k l. absurd (omega arith); below = λ l. absurd (omega arith) }
    by_find (Some r) e =
        let i = all_at (IsRun test 0 (0 + high)) r (runs test 0 high) (runs_only test 0 high) (found_in (λ (r : Run). eqb r.first at) (runs test 0 high) r e) in
        let f = eqb-true r.first at (found_passes (λ (r : Run). eqb r.first at) (runs test 0 high) r e) in
        let b = i.below in
        record { passes = λ k l. subst (λ (x : ℕ). test (x + k) ≡ true) f (i.passes k l); below = λ l. omega arith }
