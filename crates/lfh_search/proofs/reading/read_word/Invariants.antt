use Rattle.std.proofs.Common.{◌-◌}
use Rattle.lfh_search.proofs.WordLoop.{IsSoFar}
use Rattle.lfh_search.proofs.reading.read_word.Given as goal

abbrev pub invariant-loop-so_far : goal.invariant-loop-so_far
invariant-loop-so_far g l = IsSoFar l.fn.c l.c l.course l.head l.word l.lost l.so_far

abbrev pub decreases-loop-so_far : goal.decreases-loop-so_far
decreases-loop-so_far g l = 8 - l.so_far
