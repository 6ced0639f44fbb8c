use Rattle.std.proofs.Common.{◌≡◌, ◌∷◌, [], length}
use Rattle.heap_model.specs.declared.Call.TheVariants as calls
use Rattle.claim_rule.specs.Places.{back_slot}
use Rattle.backend_fit.specs.Kept.{area_of}
use Rattle.compact_calls.specs.Owner.{Did}
use Rattle.compact_calls.specs.Pages.{loose_below, decommits, IsSwept, LeavesFront}
use Rattle.compact_calls.proofs.pages.sweep.Given as goal

abbrev pub invariant-loop-page : goal.invariant-loop-page
invariant-loop-page l = record {
  did : Did l.initial.c l.c calls.Compact (decommits (loose_below (area_of l.back) l.page)) (back_slot ∷ []);
  swept : IsSwept l.c l.back l.page;
  front : LeavesFront l.initial.c l.c;
  number : l.number ≡ length (loose_below (area_of l.back) l.page);
}
