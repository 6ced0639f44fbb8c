use Rattle.move_calls.proofs.Halves.{stayed, moved}
use Rattle.move_calls.proofs.found.stay_or_move.Goals as goal

pub move_found-requires-clause-may : goal.move_found-requires-clause-may
move_found-requires-clause-may c = let z = c.requires.tried in let t = rw c.in-Moves.is at z.2 in t.0

pub move_found-requires-clause-moves : goal.move_found-requires-clause-moves
move_found-requires-clause-moves c = let z = c.requires.tried in let t = rw c.in-Moves.is at z.2 in (z.0, z.1, t.1)

pub returns-in-Stays : goal.returns-in-Stays
returns-in-Stays c = λ first v t. let u = rw c.in-Stays.is at t in stayed first c.args.c.now c.args.addr c.args.n c.args.flags u

pub returns-in-Moves : goal.returns-in-Moves
returns-in-Moves c = λ first v t.
    let u = rw c.in-Moves.is at t in
    moved first c.move_found.new.c c.args.addr c.args.n c.args.flags u.0 c.move_found.result (c.move_found.ensures first v u.1)
