use Rattle.std.proofs.Common.{◌≡◌, ℕ, take}
use Rattle.std.specs.Option.{unwrap_or}
use Rattle.name_values.specs.Table.{value_in, last_in}
use Rattle.name_values.proofs.table.put_all.Given as goal

abbrev pub invariant-loop-new : goal.invariant-loop-new
invariant-loop-new l = (name : ℕ) → value_in l.values.items name ≡ unwrap_or (last_in (take l.new-index l.news) name) (value_in l.fn.values.items name)
