use Rattle.lfh_search.proofs.Subsegment.{IsBetweenWords}
use Rattle.lfh_search.proofs.reading.read_subsegment.Given as goal

abbrev pub invariant-loop-dry : goal.invariant-loop-dry
invariant-loop-dry g l = IsBetweenWords l.fn.c l.c l.course l.head l.lost l.dry l.so_far l.word
