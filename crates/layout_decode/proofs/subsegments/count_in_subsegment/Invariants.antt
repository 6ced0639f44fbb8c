use Rattle.std.proofs.Common.{◌≡◌, ◌+◌, ◌-◌, length}
use Rattle.heap_model.specs.declared.Kind.TheVariants as kinds
use Rattle.heap_model.specs.Buckets.{block_count}
use Rattle.layout_decode.specs.Decode.{blocks_of, blocks_at_bits, total_of}
use Rattle.layout_decode.proofs.subsegments.count_in_subsegment.Given as goal

abbrev pub invariant-loop-index : goal.invariant-loop-index
invariant-loop-index l = record {
  blocks : l.blocks + length (blocks_at_bits l.image l.run (block_count l.run.mark.bucket - l.index) l.index) ≡ length (blocks_of l.image l.run kinds.Lfh);
  bytes : l.bytes + total_of (blocks_at_bits l.image l.run (block_count l.run.mark.bucket - l.index) l.index) ≡ total_of (blocks_of l.image l.run kinds.Lfh);
}
