-- Blocks of the back end: what is taken for one, and what one has.
use Rattle.std.specs.Prelude.{◌≡◌, ℕ, ◌+◌, ◌*◌, ◌-◌, ◌≤◌, Option, Some, None}
use Rattle.heap_model.specs.declared.Run.{Run}
use Rattle.heap_model.specs.Geometry.{pages_of}
use Rattle.heap_model.specs.Backend.{back_place}
use Rattle.heap_model.specs.Marks.{back_mark}
use Rattle.backend_fit.specs.Effects.{marked_run, part_with}
use Rattle.backend_fit.specs.Kept.{Kept, area_of, Becomes}

-- the run of a block of n bytes at this page
abbrev pub block_run : ℕ → ℕ → Run
block_run first n = marked_run first (pages_of n) (back_mark (4096 * pages_of n - n))

-- the bytes of the block that a run is
abbrev pub block_size : Run → ℕ
block_size r = 4096 * r.pages - r.mark.unused

-- The pages of a block of n bytes go where they fit best; where they have no place, nothing changes.
pub record Carves (old new : Kept) (n : ℕ) (first : Option ℕ) : Type 0 where
  pub place : first ≡ back_place (area_of old) old.limits.segments (pages_of n)
  pub taken : (page : ℕ) → first ≡ Some page → Becomes old new (λ b. part_with b (block_run page n))
  pub within : (page : ℕ) → first ≡ Some page → page + pages_of n ≤ 256 * old.limits.segments
  pub none : first ≡ None → new ≡ old
