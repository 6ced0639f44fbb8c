use Rattle.std.proofs.Common.{◌≡◌, ◌-◌}
use Rattle.std.specs.List.{find}
use Rattle.heap_model.specs.declared.Run.{Run}
use Rattle.page_ranges.specs.Words.{runs_of}
use Rattle.layout_decode.specs.Decode.{blocks_of, page_blocks, is_at_or_after}
use Rattle.layout_decode.proofs.Walk.{blocks_from}
use Rattle.layout_decode.proofs.next_in_pages.Given as goal

abbrev pub invariant-loop-page : goal.invariant-loop-page
invariant-loop-page l =
    find (is_at_or_after l.from) (blocks_from (λ (r : Run). blocks_of l.image r r.mark.kind) l.page (runs_of l.image.descs)) ≡ find (is_at_or_after l.from) (page_blocks l.image)

abbrev pub decreases-loop-page : goal.decreases-loop-page
decreases-loop-page l = l.end - l.page
