use Rattle.std.proofs.Common.{◌≡◌, ◌-◌}
use Rattle.std.specs.List.{find}
use Rattle.heap_model.specs.declared.Kind.TheVariants as kinds
use Rattle.heap_model.specs.Buckets.{block_count}
use Rattle.layout_decode.specs.Decode.{blocks_of, blocks_at_bits, is_at_or_after}
use Rattle.walk_calls.specs.Seen.{Looks, TellsFront}
use Rattle.walk_calls.proofs.subsegments.next_in_subsegment.Given as goal

abbrev pub invariant-loop-index : goal.invariant-loop-index
invariant-loop-index l = record {
  looks : Looks l.initial.c l.c;
  left : TellsFront l.initial.c l.c (λ image.
      find (is_at_or_after l.from) (blocks_at_bits image l.run (block_count l.run.mark.bucket - l.index) l.index) ≡ find (is_at_or_after l.from) (blocks_of image l.run kinds.Lfh));
}
