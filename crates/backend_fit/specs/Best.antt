-- The best of the runs so far, and one more.
use Rattle.std.specs.Prelude.{◌≡◌, ℕ, ◌+◌, ◌*◌, ◌<◌, ◌≤◌, Bool, nat_le, count_by, List, Option, Some, None, IfSome, if◌then◌else◌}
use Rattle.heap_model.specs.declared.Run as real
use Rattle.heap_model.specs.Runs.{Run, least_of, least}
use Rattle.heap_model.specs.Backend.{numbers}
use Rattle.page_region.specs.Held.{Held, committed_of}
use Rattle.page_ranges.specs.Spans.{plain}
use Rattle.backend_fit.specs.declared.search.Best.{Best}

abbrev pub better : (Run → Run → Bool) → Option Run → Run → Run
better before None r = r
better before (Some s) r = if before r s then r else s

-- the best so far, after one more free run, for a request of n pages
abbrev pub with_run : (Run → Run → Bool) → ℕ → Option Run → real.Run → Option Run
with_run before n best r = if nat_le n r.pages then Some (better before best (plain r)) else best

-- the best so far and the runs that are to come
abbrev pub best_of : (Run → Run → Bool) → Option Run → List Run → Option Run
best_of before None rs = least before rs
best_of before (Some r) rs = Some (least_of before r rs)

-- the run that is the best so far
abbrev pub run_in : Best → Run
run_in b = plain b.run

-- how many of its pages are committed, if that is known
abbrev pub IsCounted : Held → Best → Type 0
IsCounted h b = IfSome b.committed (λ n. n ≡ count_by (committed_of h) (numbers b.run.first b.run.pages))

-- The best so far lies within the segments, and begins before a page.
pub record IsCandidate (h : Held) (page : ℕ) (b : Best) : Type 0 where
  pub inside : b.run.first + b.run.pages ≤ 256 * h.segments
  pub below : b.run.first < page
  pub counted : IsCounted h b
