-- Which limits a heap can be opened with. They are this project's own: large enough for every worked case, small enough for one table.
use Rattle.std.specs.Prelude.{◌≤◌}
use Rattle.heap_model.specs.declared.Limits.{Limits}

pub record AreValid (l : Limits) : Type 0 where
  pub some_segments : 1 ≤ l.segments
  pub segments : l.segments ≤ 16
  pub large_pages : l.large_pages ≤ 4096
  pub some_slots : 1 ≤ l.slots
  pub slots : l.slots ≤ 16
  pub some_callers : 1 ≤ l.callers
  pub callers : l.callers ≤ 64
