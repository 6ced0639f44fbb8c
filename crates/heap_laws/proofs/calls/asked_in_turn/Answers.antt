use Rattle.std.proofs.Common.{refl, List, [], ◌∷◌, take, drop}
use Rattle.heap_model.specs.declared.Reply.TheVariants as replies
use Rattle.heap_model.specs.History.{configuration_of}
use Rattle.heap_model.specs.Moments.{Moment, moments_by}
use Rattle.heap_laws.specs.Worked.{one}
use Rattle.heap_laws.specs.WorkedCalls.{with_words, steps_under_lock, answered_under_lock}
use Rattle.heap_laws.proofs.calls.asked_in_turn.Goals as goal

abbrev xs : List Moment
xs = moments_by one (configuration_of one with_words) steps_under_lock

pub returns : goal.returns
returns c = record {
  legal = refl;
  served = (
    replies.Done ∷ [],
    drop 1 answered_under_lock,
    take 2 xs,
    drop 2 xs,
    refl,
    refl,
    (replies.Done, refl, record { one = (refl, refl); shape = tt }),
    (
      replies.Done ∷ [],
      drop 2 answered_under_lock,
      [],
      drop 2 xs,
      refl,
      refl,
      (refl, refl),
      (
        take 2 (drop 2 answered_under_lock),
        drop 4 answered_under_lock,
        take 2 (drop 2 xs),
        drop 4 xs,
        refl,
        refl,
        (take 1 (drop 2 xs), take 1 (drop 3 xs), refl, record { one = (refl, refl); shape = (refl, refl) }, (refl, record { one = (refl, refl); shape = (refl, refl) })),
        (
          replies.Done ∷ [],
          drop 5 answered_under_lock,
          [],
          drop 4 xs,
          refl,
          refl,
          (refl, refl),
          (
            replies.Done ∷ [],
            drop 6 answered_under_lock,
            drop 4 xs,
            [],
            refl,
            refl,
            (replies.Done, refl, record { one = (refl, refl); shape = tt }),
            (
              replies.NotOwner ∷ [],
              drop 7 answered_under_lock,
              [],
              [],
              refl,
              refl,
              (refl, refl),
              (replies.NotLocked ∷ [], [], [], [], refl, refl, (refl, refl), (refl, refl)),
            ),
          ),
        ),
      ),
    ),
  );
}
