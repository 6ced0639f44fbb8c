use Rattle.std.proofs.Common.{sym}
use Rattle.small_calls.proofs.ForVs.{none_for_vs}
use Rattle.move_calls.proofs.brings.bring_low.Goals as goal

pub returns-in-Some : goal.returns-in-Some
returns-in-Some c = c.bring_in_front.ensures

pub bring_behind-requires-clause-bringing : goal.bring_behind-requires-clause-bringing
bring_behind-requires-clause-bringing c = let z = c.requires.carrying in (z.0, z.1.bringing, z.2, z.3)

pub bring_behind-requires-clause-bucket : goal.bring_behind-requires-clause-bucket
bring_behind-requires-clause-bucket c = λ small. none_for_vs c.args.c.now c.args.n (sym c.in-None.ensures)

pub returns-in-None : goal.returns-in-None
returns-in-None c = λ first v tvs tback. c.bring_behind.ensures first v.bringing tvs tback
