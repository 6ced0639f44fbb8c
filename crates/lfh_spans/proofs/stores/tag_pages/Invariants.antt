use Rattle.std.proofs.Common.{◌≡◌, ◌-◌, []}
use Rattle.heap_gate.specs.Calls.{Runs, Stands, stance}
use Rattle.lfh_spans.specs.Stores.{paid_tags}
use Rattle.lfh_spans.proofs.stores.tag_pages.Given as goal

abbrev pub invariant-loop-done : goal.invariant-loop-done
invariant-loop-done g l = record {
  runs : Runs l.initial.c l.c [];
  stands : Stands l.c (record (stance l.initial.c) { owes = l.c.owes });
  owes : paid_tags l.at.head (l.at.pages - l.done) l.c.owes ≡ paid_tags l.at.head l.at.pages l.initial.c.owes;
}
