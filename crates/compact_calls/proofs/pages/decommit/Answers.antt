use Rattle.std.proofs.Common.{[], subst}
use Rattle.heap_gate.specs.Token.{Token}
use Rattle.heap_gate.specs.Calls.{Runs}
use Rattle.compact_calls.proofs.Decommitting.{decommit_may, decommit_heap}
use Rattle.compact_calls.proofs.pages.decommit.Goals as goal

pub prepare-requires-clause-may : goal.prepare-requires-clause-may
prepare-requires-clause-may c = decommit_may c.args.c.now c.args.page c.check.ensures.stands c.requires.owning c.requires.loose

pub returns-clause-heap : goal.returns-clause-heap
returns-clause-heap c =
    decommit_heap c.args.c.now c.args.page c.check.ensures.stands c.requires.owning c.requires.loose c.settle.new.c
    (subst (λ (t : Token). Runs t c.settle.new.c []) c.prepare.ensures c.settle.ensures.runs)
