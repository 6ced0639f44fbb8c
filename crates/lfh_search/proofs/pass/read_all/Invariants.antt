use Rattle.std.proofs.Common.{◌-◌, length}
use Rattle.lfh_search.proofs.Passed.{IsBetweenSpans}
use Rattle.lfh_search.proofs.pass.read_all.Given as goal

abbrev pub invariant-loop-page : goal.invariant-loop-page
invariant-loop-page g l = IsBetweenSpans l.fn.c l.c l.back l.course l.lost l.from l.so_far

abbrev pub decreases-loop-page : goal.decreases-loop-page
decreases-loop-page g l = length l.words - l.from
