use Rattle.std.proofs.Common.{◌≡◌, ◌+◌, ◌-◌, length}
use Rattle.heap_model.specs.declared.Run.{Run}
use Rattle.page_ranges.specs.Words.{runs_of}
use Rattle.layout_decode.specs.Decode.{blocks_of, page_blocks, total_of}
use Rattle.layout_decode.proofs.Walk.{blocks_from}
use Rattle.layout_decode.proofs.count_in_pages.Given as goal

abbrev pub invariant-loop-page : goal.invariant-loop-page
invariant-loop-page l = record {
  blocks : l.blocks + length (blocks_from (λ (r : Run). blocks_of l.image r r.mark.kind) l.page (runs_of l.image.descs)) ≡ length (page_blocks l.image);
  bytes : l.bytes + total_of (blocks_from (λ (r : Run). blocks_of l.image r r.mark.kind) l.page (runs_of l.image.descs)) ≡ total_of (page_blocks l.image);
}

abbrev pub decreases-loop-page : goal.decreases-loop-page
decreases-loop-page l = l.end - l.page
