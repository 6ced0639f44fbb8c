use Rattle.std.proofs.Common.{◌≡◌, []}
use Rattle.heap_gate.specs.Calls.{Runs, Stands, stance}
use Rattle.span_steps.specs.Installs.{owed_tags}
use Rattle.lfh_spans.proofs.stores.clear_tags.Given as goal

abbrev pub invariant-loop-cleared : goal.invariant-loop-cleared
invariant-loop-cleared g l = record {
  runs : Runs l.initial.c l.c [];
  stands : Stands l.c (record (stance l.initial.c) { owes = l.c.owes });
  owes : l.c.owes ≡ owed_tags l.at.head l.cleared l.initial.c.owes;
}
