-- The region and the descriptor words of a back end, and the area that they stand for.
use Rattle.std.specs.Prelude.{ℕ, List}
use Rattle.heap_model.specs.declared.Run.{Run}
use Rattle.heap_model.specs.State.{Area}
use Rattle.page_region.specs.Held.{Held, committed_of}
use Rattle.page_ranges.specs.Words.{runs_of}
use Rattle.page_ranges.specs.Spans.{taken_runs, area_in}

pub record Pages : Type 0 where
  pub region : Held
  pub words : List ℕ

-- the reserved segments, the committed pages and the spans
abbrev pub pages_area : Pages → Area
pages_area k = area_in k.region.reserved (committed_of k.region) k.words

-- the runs that are spans, by place, each with its mark
abbrev pub taken_in : List ℕ → List Run
taken_in words = taken_runs (runs_of words)
