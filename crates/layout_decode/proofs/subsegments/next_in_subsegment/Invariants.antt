use Rattle.std.proofs.Common.{◌≡◌, ◌-◌}
use Rattle.std.specs.List.{find}
use Rattle.heap_model.specs.declared.Kind.TheVariants as kinds
use Rattle.heap_model.specs.Buckets.{block_count}
use Rattle.layout_decode.specs.Decode.{blocks_of, blocks_at_bits, is_at_or_after}
use Rattle.layout_decode.proofs.subsegments.next_in_subsegment.Given as goal

abbrev pub invariant-loop-index : goal.invariant-loop-index
invariant-loop-index l =
    find (is_at_or_after l.from) (blocks_at_bits l.image l.run (block_count l.run.mark.bucket - l.index) l.index) ≡ find (is_at_or_after l.from) (blocks_of l.image l.run kinds.Lfh)
