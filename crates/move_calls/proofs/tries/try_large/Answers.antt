use Rattle.std.proofs.Common.{sym}
use Rattle.small_calls.proofs.ForVs.{none_for_vs}
use Rattle.move_parts.specs.Moved.{HasMovedAll}
use Rattle.move_calls.proofs.Tried.{some_then, tried_back}
use Rattle.move_calls.proofs.tries.try_large.Goals as goal

pub returns-in-Some : goal.returns-in-Some
returns-in-Some c = c.ask_large.ensures

pub move_large_low-requires-clause-moving : goal.move_large_low-requires-clause-moving
move_large_low-requires-clause-moving c = let z = c.requires.moving in (z.0, z.1, z.2, z.4, z.5, z.6, z.7, z.8, z.9, z.10, z.11)

pub move_large_low-requires-clause-bucket : goal.move_large_low-requires-clause-bucket
move_large_low-requires-clause-bucket c = λ small. none_for_vs c.args.c.now c.args.n (sym c.in-None.ensures)

pub returns-in-None : goal.returns-in-None
returns-in-None c = λ flags p out zero_is v layer a w b u e t.
    let k = c.args.c.now in let f = c.move_large_low.new.c in let o = c.move_large_low.result in
    tried_back k f c.args.addr c.args.size c.args.n flags p c.args.vs.now c.move_large_low.new.vs c.args.back.now c.move_large_low.new.back c.args.large.now c.move_large_low.new.large o (some_then o _ (λ m. HasMovedAll k f c.args.addr c.args.size c.args.n flags p m c.move_large_low.new.vs c.move_large_low.new.back c.move_large_low.new.large) (λ m h. h flags p out zero_is v layer a w b u e t) c.move_large_low.ensures.moved) c.move_large_low.ensures.none c.move_large_low.ensures.kept w u t
