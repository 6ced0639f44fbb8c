use Rattle.std.proofs.Common.{◌≡◌, ℕ, true, List, length}
use Rattle.data_words.specs.Copies.{IsCopied}
use Rattle.data_words.proofs.copy.Given as goal

abbrev pub invariant-loop-k : goal.invariant-loop-k
invariant-loop-k g l = record {
  values : List ℕ;
  many : length values ≡ l.k;
  copied : IsCopied l.initial.c l.c l.from l.to values;
  table : l.c.table ≡ l.initial.c.table;
  opening : l.c.opening ≡ l.initial.c.opening;
  whole : l.c.whole ≡ true;
  inside : l.c.inside ≡ true;
}
