use Rattle.std.proofs.Common.{ℕ, List, ◌∷◌, []}
use Rattle.heap_model.specs.declared.Call.TheVariants as calls
use Rattle.claim_rule.specs.Places.{back_slot}
use Rattle.heap_gate.specs.Token.{Always, now}
use Rattle.lfh_spans.specs.Subsegments.{IsBackOf}
use Rattle.compact_calls.specs.Owner.{Did}
use Rattle.compact_calls.specs.Empties.{AreUsedBelow, unspans}
use Rattle.compact_calls.proofs.empties.retire_empties.Given as goal

abbrev pub invariant-loop-page : goal.invariant-loop-page
invariant-loop-page l = record {
  did : (heads : List ℕ) × Did l.initial.c l.c calls.Compact (unspans heads) (back_slot ∷ []);
  back : IsBackOf l.c l.back;
  used : Always l.c (λ s. AreUsedBelow (now s l.c) l.page);
}
