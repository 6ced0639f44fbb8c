-- A block of the back end whose span gets longer or shorter.
use Rattle.std.specs.Prelude.{◌≡◌, ℕ, ◌*◌, ◌-◌, ◌&&◌, nat_le, Bool, true, false, Some}
use Rattle.heap_model.specs.declared.Run.{Run}
use Rattle.heap_model.specs.Geometry.{pages_of, route_of, is_paged}
use Rattle.page_ranges.specs.Spans.{span_of}
use Rattle.backend_fit.specs.Effects.{reach_of, part_resized, starts_at, with_mark}
use Rattle.backend_fit.specs.Kept.{Kept, area_of, spans_of, Becomes}
use Rattle.heap_model.specs.Marks.{back_mark}
use Rattle.heap_model.specs.State.{change_found}

-- The block that a run is keeps its address with n bytes: they are a size of this layer, and its pages and the free ones right behind it hold them.
abbrev pub run_stays : Kept → Run → ℕ → Bool
run_stays back r n = is_paged (route_of n) && nat_le (pages_of n) (reach_of (area_of back) (Some (span_of r)))

-- It has n bytes now, if it could.
pub record Widens (old new : Kept) (r : Run) (n : ℕ) (did : Bool) : Type 0 where
  pub told : did ≡ run_stays old r n
  pub spans : did ≡ true → spans_of new ≡ change_found (starts_at r.first) (with_mark (pages_of n) (back_mark (4096 * pages_of n - n))) (spans_of old)
  pub becomes : did ≡ true → Becomes old new (λ b. part_resized b r.first (pages_of n) (4096 * pages_of n - n))
  pub limits : new.limits ≡ old.limits
  pub same : did ≡ false → new ≡ old
