use Rattle.std.proofs.Common.{◌≡◌, true, false, [], length}
use Rattle.heap_gate.proofs.lock_tests.prepare_all.Given as goal

abbrev pub invariant-loop : goal.invariant-loop
invariant-loop l = record {
  many : length l.c.prepared ≡ l.counter;
  table : l.c.table ≡ l.heap.table;
  opening : l.c.opening ≡ l.heap.opening;
  inside : l.c.inside ≡ false;
  out : l.c.out ≡ [];
  whole : l.c.whole ≡ true;
  free : l.c.free ≡ true;
  searched : l.c.searched ≡ false;
  drawn : l.c.drawn ≡ false;
  depth : l.c.depth ≡ l.initial.c.depth;
  number : l.c.number ≡ l.initial.c.number;
  seen : l.c.seen ≡ l.initial.c.seen;
}
