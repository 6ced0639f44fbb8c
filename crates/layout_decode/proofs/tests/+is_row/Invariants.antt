use Rattle.std.proofs.Common.{◌-◌}
use Rattle.layout_decode.proofs.tests.+is_row.Given as goal

abbrev pub decreases-is_row : goal.decreases-is_row
decreases-is_row l = l.to - l.from
