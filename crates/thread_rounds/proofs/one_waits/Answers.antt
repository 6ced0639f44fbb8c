-- The calls of each of two callers, cut out of the history.
use Rattle.std.proofs.Common.{◌≡◌, ℕ, zero, suc, ◌==◌, List, [], ◌∷◌, refl, take, drop, false, ne_eqb, arith}
use Rattle.std.specs.Prelude.{slice_index_or}
use Rattle.heap_model.specs.declared.Busy.{Busy}
use Rattle.heap_model.specs.declared.Reply.TheVariants as replies
use Rattle.heap_model.specs.declared.What.TheVariants as whats
use Rattle.heap_model.specs.State.{Setting}
use Rattle.heap_model.specs.History.{first_configuration}
use Rattle.heap_model.specs.Moments.{Moment, moments}
use Rattle.thread_rounds.specs.Threads.{IsThread}
use Rattle.thread_rounds.specs.Rounds.{setting_of}
use Rattle.thread_rounds.specs.Worked.{one_segment, locking, waiting, waits_history}
use Rattle.thread_rounds.proofs.one_waits.Goals as goal

abbrev setting : Setting
setting = setting_of one_segment 1

abbrev first : List Moment
first = moments setting 0 first_configuration waits_history

abbrev second : List Moment
second = moments setting 1 first_configuration waits_history

abbrev third : List Moment
third = drop 2 first

of_first : IsThread setting 0 [] [] 0 locking (replies.Done ∷ replies.Done ∷ replies.Walked 0 ∷ replies.Done ∷ replies.Done ∷ []) first
of_first = (
  replies.Done ∷ [],
  replies.Done ∷ replies.Walked 0 ∷ replies.Done ∷ replies.Done ∷ [],
  take 2 first,
  third,
  refl,
  refl,
  (replies.Done, refl, record { busy = []; last = take 2 first; are_busy = tt; gets = record { one = (refl, refl); shape = tt }; all = refl }),
  (
    replies.Done ∷ [],
    replies.Walked 0 ∷ replies.Done ∷ replies.Done ∷ [],
    [],
    third,
    refl,
    refl,
    (refl, refl),
    (
      replies.Walked 0 ∷ [],
      replies.Done ∷ replies.Done ∷ [],
      take 3 third,
      drop 3 third,
      refl,
      refl,
      (refl, record { busy = []; last = take 3 third; are_busy = tt; gets = record { one = (refl, refl); shape = (refl, refl) }; all = refl }),
      (
        replies.Done ∷ [],
        replies.Done ∷ [],
        [],
        drop 3 third,
        refl,
        refl,
        (refl, refl),
        (
          replies.Done ∷ [],
          [],
          drop 3 third,
          [],
          refl,
          refl,
          (replies.Done, refl, record { busy = []; last = drop 3 third; are_busy = tt; gets = record { one = (refl, refl); shape = tt }; all = refl }),
          (refl, refl),
        ),
      ),
    ),
  ),
)

gate : Busy
gate = record { what = whats.Gate; word = 65536 }

of_second : IsThread setting 1 [] [] 0 waiting (replies.NotLive ∷ []) second
unfolding gate
of_second = (
  replies.NotLive ∷ [],
  [],
  second,
  [],
  refl,
  refl,
  (
    replies.NotLive,
    refl,
    record {
      busy = take 3 second ∷ [];
      last = drop 3 second;
      are_busy = ((gate, record { one = (refl, refl); shape = refl }), tt);
      gets = record { one = (refl, refl); shape = refl };
      all = refl;
    },
  ),
  (refl, refl),
)

pub returns : goal.returns
returns c = record { legal = refl; rounds = waits_history ∷ []; in_order = refl; are_run = (record { as_many = refl; each = each }, tt) }
  where
    none : (t : ℕ) → IsThread setting (suc (suc t)) [] [] 0 [] [] (moments setting (suc (suc t)) first_configuration waits_history)
    none t =
        let a : (0 == suc (suc t)) ≡ false = ne_eqb 0 (suc (suc t)) (omega arith) in
        let b : (1 == suc (suc t)) ≡ false = ne_eqb 1 (suc (suc t)) (omega arith) in
        (refl, rw (a, b) refl)

    each : (t : ℕ) → IsThread setting t [] [] 0 (slice_index_or (locking ∷ waiting ∷ []) t [])
        (slice_index_or ((replies.Done ∷ replies.Done ∷ replies.Walked 0 ∷ replies.Done ∷ replies.Done ∷ []) ∷ (replies.NotLive ∷ []) ∷ []) t []) (moments setting t first_configuration waits_history)
    each zero = of_first
    each (suc zero) = of_second
    each (suc (suc t)) = none t
