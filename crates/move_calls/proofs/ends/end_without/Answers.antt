use Rattle.std.proofs.Common.{[], sym, subst}
use Rattle.heap_gate.specs.Token.{Token}
use Rattle.call_parts.specs.Entries.{HasEnded}
use Rattle.move_calls.specs.Holds.{IsHolding, slots_of, gives_of}
use Rattle.move_calls.proofs.Ended.{of_none, moves_nowhere}
use Rattle.move_calls.proofs.Handed.{none_in, hidden_in}
use Rattle.move_calls.proofs.Holding.{holds_said, said_room}
use Rattle.move_calls.proofs.ends.end_without.Goals as goal

pub prepare-requires-clause-room : goal.prepare-requires-clause-room
prepare-requires-clause-room c =
    let z = c.requires.behind in let x = z.5 in
    said_room z.0 c.args.c.now z.1 z.2 c.args.n z.3 z.4 c.args.held x.moving (of_none z.0 c.args.c.now z.1 z.2 c.args.n z.3 z.4 (slots_of c.args.held) x.moving x.tried)

pub prepare-requires-clause-may : goal.prepare-requires-clause-may
prepare-requires-clause-may c = let z = c.requires.behind in let x = z.5 in (of_none z.0 c.args.c.now z.1 z.2 c.args.n z.3 z.4 (slots_of c.args.held) x.moving x.tried).may

pub give_all-requires-clause-holding : goal.give_all-requires-clause-holding
give_all-requires-clause-holding c =
    let z = c.requires.behind in let x = z.5 in
    subst (λ (t : Token). IsHolding t c.args.held) (sym c.prepare.ensures)
    (holds_said z.0 c.args.c.now z.1 z.2 c.args.n z.3 z.4 c.args.held x.moving (of_none z.0 c.args.c.now z.1 z.2 c.args.n z.3 z.4 (slots_of c.args.held) x.moving x.tried) x.tells)

pub returns : goal.returns
returns c = λ k addr size flags p x.
    let out = slots_of c.args.held in
    moves_nowhere k c.args.c.now c.give_all.new.c addr size c.args.n flags p out x.moving (gives_of c.args.held) (none_in c.args.held) (hidden_in c.args.held) c.check-2.ensures.legal
    (of_none k c.args.c.now addr size c.args.n flags p out x.moving x.tried)
    (subst (λ (t : Token). HasEnded t c.give_all.new.c (gives_of c.args.held) []) c.prepare.ensures c.give_all.ensures)
