use Rattle.std.proofs.Common.{◌≡◌, ◌+◌, ◌-◌, ℕ, vec_len}
use Rattle.command_run.specs.Values.{value_at}
use Rattle.command_run.proofs.values.assign_in.Given as goal

abbrev pub invariant-loop-values : goal.invariant-loop-values
invariant-loop-values l = (k : ℕ) → value_at l.values.items k ≡ value_at l.fn.values.items k

abbrev pub decreases-loop-values : goal.decreases-loop-values
decreases-loop-values l = l.name + 1 - vec_len l.values
