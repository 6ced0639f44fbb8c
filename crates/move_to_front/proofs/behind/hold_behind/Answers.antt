use Rattle.std.proofs.Common.{sym, ◌∙◌}
use Rattle.vs_calls.proofs.TakenBack.{none_fits}
use Rattle.move_to_front.proofs.behind.hold_behind.Goals as goal

pub hold_gap-requires-clause-fits : goal.hold_gap-requires-clause-fits
hold_gap-requires-clause-fits c = sym c.fit.ensures ∙ c.if-fit.true

pub hold_span-requires-clause-no_gap : goal.hold_span-requires-clause-no_gap
hold_span-requires-clause-no_gap c = none_fits c.args.vs.now c.args.n c.fit.result c.fit.ensures c.if-fit.false
