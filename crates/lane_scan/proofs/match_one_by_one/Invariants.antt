use Rattle.lane_scan.specs.Matches.{NoneMatches}
use Rattle.lane_scan.proofs.match_one_by_one.Given as goal

abbrev pub invariant-loop-index : goal.invariant-loop-index
invariant-loop-index l = NoneMatches l.words l.mask l.value l.from l.index
