use Rattle.std.proofs.Common.{◌≡◌, ◌++◌, ◌+◌, ◌*◌, ◌-◌, length, string_bytes}
use Rattle.layout_decode.specs.Decode.{decode}
use Rattle.report_text.proofs.BlockLemmas.{lines_from}
use Rattle.report_text.proofs.blocks.push_each.Given as goal

abbrev pub invariant-loop-block : goal.invariant-loop-block
invariant-loop-block l = string_bytes l.text ++ lines_from l.from (decode l.image) ≡ string_bytes l.fn.text ++ lines_from 0 (decode l.image)

abbrev pub decreases-loop-block : goal.decreases-loop-block
decreases-loop-block l = 4096 * (length l.image.descs + l.image.limits.large_pages) - l.from
