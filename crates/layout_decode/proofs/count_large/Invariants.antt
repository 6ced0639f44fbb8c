use Rattle.std.proofs.Common.{◌≡◌, take}
use Rattle.layout_decode.proofs.TableLemmas.{row_bytes}
use Rattle.layout_decode.proofs.count_large.Given as goal

abbrev pub invariant-loop-row : goal.invariant-loop-row
invariant-loop-row l = l.bytes ≡ row_bytes (take l.row-index l.rows)
