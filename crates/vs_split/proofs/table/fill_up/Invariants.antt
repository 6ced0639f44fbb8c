use Rattle.std.proofs.Common.{◌≡◌, ◌≤◌, max, length}
use Rattle.std.specs.Vec.{vec_capacity}
use Rattle.vs_split.specs.Table.{filled_up}
use Rattle.vs_split.proofs.table.fill_up.Given as goal

abbrev pub invariant-loop : goal.invariant-loop
invariant-loop g l = record {
  low : length l.fn.values.items ≤ l.counter;
  high : l.counter ≤ max l.n (length l.fn.values.items);
  items : l.values.items ≡ filled_up l.counter l.value l.fn.values.items;
  room : vec_capacity l.values ≡ vec_capacity l.fn.values;
}
