use Rattle.std.proofs.Common.{◌≡◌, ◌+◌, ◌-◌, ℕ, vec_len}
use Rattle.name_values.specs.Table.{value_in}
use Rattle.name_values.proofs.table.put_in.Given as goal

abbrev pub invariant-loop-values : goal.invariant-loop-values
invariant-loop-values l = (k : ℕ) → value_in l.values.items k ≡ value_in l.fn.values.items k

abbrev pub decreases-loop-values : goal.decreases-loop-values
decreases-loop-values l = l.new.name + 1 - vec_len l.values
