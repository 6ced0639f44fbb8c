use Rattle.std.proofs.Common.{◌-◌}
use Rattle.std.specs.List.{find}
use Rattle.heap_model.specs.declared.Kind.TheVariants as kinds
use Rattle.layout_decode.specs.Decode.{blocks_of, is_at_or_after}
use Rattle.layout_decode.proofs.Rows.{IsAt}
use Rattle.layout_decode.proofs.places.next_place.Given as goal

abbrev pub invariant-loop-granule : goal.invariant-loop-granule
invariant-loop-granule l = IsAt l.image.heads l.from l.end (find (is_at_or_after l.from) (blocks_of l.image l.run kinds.Vs)) l.granule

abbrev pub decreases-loop-granule : goal.decreases-loop-granule
decreases-loop-granule l = l.end - l.granule
