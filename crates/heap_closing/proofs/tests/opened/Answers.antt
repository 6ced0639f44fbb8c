use Rattle.std.proofs.Common.{refl, sym}
use Rattle.heap_gate.specs.Roots.{opened_with}
use Rattle.heap_closing.proofs.tests.opened.Goals as goal

pub open-requires-clause-vs : goal.open-requires-clause-vs
open-requires-clause-vs c = c.in_ok-vs.ensures.stands (opened_with c.args.limits c.args.seed) refl (sym c.key_of.ensures)
