use Rattle.std.proofs.Common.{sym}
use Rattle.small_calls.proofs.ForVs.{none_for_vs}
use Rattle.move_parts.specs.Moved.{HasMovedLow}
use Rattle.move_calls.proofs.Tried.{some_then, tried_low}
use Rattle.move_calls.proofs.tries.try_back.Goals as goal

pub returns-in-Some : goal.returns-in-Some
returns-in-Some c = c.ask_back.ensures

pub move_back-requires-clause-moving : goal.move_back-requires-clause-moving
move_back-requires-clause-moving c = let z = c.requires.moving in (z.0, z.1, z.2, z.4, z.5, z.6, z.7, z.8, z.9)

pub move_back-requires-clause-bucket : goal.move_back-requires-clause-bucket
move_back-requires-clause-bucket c = λ small. none_for_vs c.args.c.now c.args.n (sym c.in-None.ensures)

pub returns-in-None : goal.returns-in-None
returns-in-None c = λ flags p out zero_is v layer a w b u.
    let k = c.args.c.now in let f = c.move_back.new.c in let o = c.move_back.result in
    tried_low k f c.args.addr c.args.size c.args.n flags p c.args.vs.now c.move_back.new.vs c.args.back.now c.move_back.new.back o (some_then o _ (λ m. HasMovedLow k f c.args.addr c.args.size c.args.n flags p m c.move_back.new.vs c.move_back.new.back) (λ m h. h flags p out zero_is v layer a w b u) c.move_back.ensures.moved) c.move_back.ensures.none w u
