use Rattle.std.proofs.Common.{arith}
use Rattle.move_parts.proofs.HeldLow.{any_low, none_low}
use Rattle.move_parts.proofs.moves.hold_low.Goals as goal

pub hold_vs-requires-clause-bucket : goal.hold_vs-requires-clause-bucket
hold_vs-requires-clause-bucket c = c.requires.bucket (omega (arith, c.if-n-le-MOST_VARIABLE.true))

pub hold_back-requires-clause-moving : goal.hold_back-requires-clause-moving
hold_back-requires-clause-moving c = let h = c.requires.moving in (h.0, h.1, h.2, h.3, h.4, h.5, h.6, h.9, h.10)

pub returns-clause-held : goal.returns-clause-held
returns-clause-held c = any_low c.args.c.now c.hold_back.new.c c.args.n c.args.vs.now c.args.back.now c.hold_back.new.back c.hold_back.result c.hold_back.ensures.held

pub returns-clause-none : goal.returns-clause-none
returns-clause-none c = none_low c.args.c.now c.hold_back.new.c c.args.n c.args.vs.now c.args.back.now c.hold_back.new.back c.hold_back.result c.hold_back.ensures.none
