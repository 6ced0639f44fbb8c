use Rattle.std.proofs.Common.{◌≡◌, true}
use Rattle.data_words.specs.Clears.{IsCleared}
use Rattle.data_words.proofs.clear.Given as goal

abbrev pub invariant-loop-i : goal.invariant-loop-i
invariant-loop-i g l = record {
  cleared : IsCleared l.initial.c l.c l.word l.i;
  table : l.c.table ≡ l.initial.c.table;
  opening : l.c.opening ≡ l.initial.c.opening;
  whole : l.c.whole ≡ true;
  inside : l.c.inside ≡ true;
}
