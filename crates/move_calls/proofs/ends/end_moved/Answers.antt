use Rattle.move_calls.specs.Holds.{slots_of, gives_of}
use Rattle.move_calls.proofs.Ended.{of_some, moves_to}
use Rattle.move_calls.proofs.Handed.{none_in, hidden_in}
use Rattle.move_calls.proofs.Holding.{holds_settled}
use Rattle.move_calls.proofs.ends.end_moved.Goals as goal

pub give_all-requires-clause-holding : goal.give_all-requires-clause-holding
give_all-requires-clause-holding c =
    let z = c.requires.behind in let x = z.5 in let y = of_some z.0 c.args.c.now z.1 z.2 c.args.n z.3 z.4 (slots_of c.args.held) c.args.b x.moving x.tried in
    holds_settled z.0 c.args.c.now z.1 z.2 c.args.n z.3 z.4 c.args.held x.moving y.settled x.tells

pub returns : goal.returns
returns c = λ k addr size flags p x.
    let out = slots_of c.args.held in
    moves_to k c.args.c.now c.give_all.new.c addr size c.args.n flags p out x.moving (gives_of c.args.held) (none_in c.args.held) (hidden_in c.args.held) c.check.ensures.legal c.args.b
    (of_some k c.args.c.now addr size c.args.n flags p out c.args.b x.moving x.tried) c.give_all.ensures
