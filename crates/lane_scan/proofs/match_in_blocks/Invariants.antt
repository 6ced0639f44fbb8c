use Rattle.std.proofs.Common.{◌+◌, ◌*◌}
use Rattle.lane_scan.specs.declared.TheConstants.{LANES}
use Rattle.lane_scan.specs.Matches.{NoneMatches}
use Rattle.lane_scan.proofs.match_in_blocks.Given as goal

abbrev pub invariant-loop-block : goal.invariant-loop-block
invariant-loop-block l = NoneMatches l.words l.mask l.value l.from (l.from + l.block * LANES)
