use Rattle.std.proofs.Common.{◌≤◌}
use Rattle.walk_calls.proofs.places.chunk_before.Given as goal

abbrev pub invariant-loop-granule : goal.invariant-loop-granule
invariant-loop-granule l = (l.front ≤ l.granule) × (l.granule ≤ l.from)

abbrev pub decreases-loop-granule : goal.decreases-loop-granule
decreases-loop-granule l = l.granule
