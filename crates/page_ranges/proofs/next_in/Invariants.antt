use Rattle.std.proofs.Common.{◌≤◌}
use Rattle.page_ranges.proofs.Next.{IsAt}
use Rattle.page_ranges.proofs.next_in.Given as goal

abbrev pub invariant-loop-page : goal.invariant-loop-page
invariant-loop-page l = record {
  at : IsAt l.words l.from l.page;
  low : l.from ≤ l.page;
}
