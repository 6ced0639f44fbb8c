use Rattle.std.proofs.Common.{◌-◌}
use Rattle.std.specs.List.{find}
use Rattle.layout_decode.specs.Decode.{is_at_or_after}
use Rattle.layout_decode.proofs.Rows.{IsAt}
use Rattle.walk_calls.specs.Seen.{chunks_in}
use Rattle.walk_calls.proofs.places.next_place.Given as goal

abbrev pub invariant-loop-granule : goal.invariant-loop-granule
invariant-loop-granule l = IsAt l.heads l.from l.end (find (is_at_or_after l.from) (chunks_in l.heads l.run)) l.granule

abbrev pub decreases-loop-granule : goal.decreases-loop-granule
decreases-loop-granule l = l.end - l.granule
