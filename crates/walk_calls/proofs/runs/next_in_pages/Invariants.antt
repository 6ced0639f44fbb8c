use Rattle.std.proofs.Common.{◌≡◌, ◌-◌}
use Rattle.std.specs.List.{find}
use Rattle.layout_decode.specs.Decode.{page_blocks, is_at_or_after}
use Rattle.layout_decode.proofs.Images.{left_from}
use Rattle.walk_calls.specs.Seen.{Looks, TellsPages}
use Rattle.walk_calls.proofs.runs.next_in_pages.Given as goal

abbrev pub invariant-loop-page : goal.invariant-loop-page
invariant-loop-page l = record {
  looks : Looks l.initial.c l.c;
  left : TellsPages l.descs l.heads l.initial.c l.c (λ image. find (is_at_or_after l.from) (left_from image l.page) ≡ find (is_at_or_after l.from) (page_blocks image));
}

abbrev pub decreases-loop-page : goal.decreases-loop-page
decreases-loop-page l = l.end - l.page
