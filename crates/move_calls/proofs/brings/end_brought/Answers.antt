use Rattle.heap_model.specs.Shape.{IsMoved, HasNoRange}
use Rattle.move_calls.specs.Holds.{slots_of, gives_of}
use Rattle.move_calls.proofs.Brought.{brought_rests}
use Rattle.move_calls.proofs.Handed.{none_in, hidden_in}
use Rattle.move_calls.proofs.Shown.{come_ends, moved_first, no_range_first}
use Rattle.move_calls.proofs.brings.end_brought.Goals as goal

pub give_all-requires-clause-holding : goal.give_all-requires-clause-holding
give_all-requires-clause-holding c = let z = c.requires.brought in record { resting = brought_rests z.0 c.args.c.now z.1 z.2 z.3 (slots_of c.args.held) c.args.brought z.4; tells = z.5 }

pub returns-in-Some : goal.returns-in-Some
returns-in-Some c = λ first addr n flags x.
    let y = rw c.in-Some.is at x in let h = c.args.held in
    come_ends first c.args.c.now c.give_all.new.c addr n flags (slots_of h) (λ s m xs. IsMoved s m addr n flags.zero c.in-Some.b xs) y (gives_of h) (none_in h) (hidden_in h) c.give_all.ensures (λ s m xs ys hidden t. moved_first xs ys hidden s m addr n t)

pub returns-in-None : goal.returns-in-None
returns-in-None c = λ first addr n flags x.
    let y = rw c.in-None.is at x in let h = c.args.held in
    come_ends first c.args.c.now c.give_all.new.c addr n flags (slots_of h) (λ s m xs. HasNoRange s m addr n xs) y (gives_of h) (none_in h) (hidden_in h) c.give_all.ensures (λ s m xs ys hidden t. no_range_first xs ys hidden s m addr n t)
