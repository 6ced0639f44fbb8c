use Rattle.std.proofs.Common.{◌≡◌, replicate}
use Rattle.std.specs.Vec.{vec_capacity}
use Rattle.heap_model.proofs.words.filled.Given as goal

abbrev pub invariant-loop : goal.invariant-loop
invariant-loop g l = (l.values.items ≡ replicate l.counter l.value) × (vec_capacity l.values ≡ l.n)
