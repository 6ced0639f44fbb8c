use Rattle.std.proofs.Common.{◌-◌}
use Rattle.lfh_spans.proofs.Lowest.{IsAbove}
use Rattle.lfh_spans.proofs.search.lowest.Given as goal

abbrev pub invariant-loop-page : goal.invariant-loop-page
invariant-loop-page l = record {
  above : IsAbove l.descs l.page l.bucket l.slot;
}

abbrev pub decreases-loop-page : goal.decreases-loop-page
decreases-loop-page l = l.end - l.page
