use Rattle.std.proofs.Common.{◌-◌, length}
use Rattle.heap_model.specs.declared.Kind.TheVariants as kinds
use Rattle.layout_decode.specs.Decode.{blocks_of, total_of}
use Rattle.layout_decode.proofs.Rows.{IsCounted}
use Rattle.layout_decode.proofs.places.count_places.Given as goal

abbrev pub invariant-loop-granule : goal.invariant-loop-granule
invariant-loop-granule l =
    IsCounted l.image.heads (length (blocks_of l.image l.run kinds.Vs)) (total_of (blocks_of l.image l.run kinds.Vs)) l.end l.granule l.blocks l.bytes

abbrev pub decreases-loop-granule : goal.decreases-loop-granule
decreases-loop-granule l = l.end - l.granule
