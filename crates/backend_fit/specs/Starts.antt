-- Where the free runs of descriptor words begin.
use Rattle.std.specs.Prelude.{◌≡◌, ℕ, ◌/◌, ◌%◌, ◌==◌, ◌≤◌, Bool, true, ◌&&◌, nat_le, List, slice_index}
use Rattle.heap_model.specs.declared.Run.{Run}
use Rattle.page_ranges.specs.Words.{run_of}
use Rattle.page_ranges.specs.Spans.{is_of_free}
use Rattle.backend_fit.specs.Bits.{has}

-- the word of a page tells that a free run begins there
abbrev pub begins_free : ℕ → ℕ → Bool
begins_free page word = word / 8 % 2 == 1 && is_of_free (run_of page word).mark.kind

-- These are the pages where free runs begin, and none of these runs is longer.
pub record AreStarts (starts : List ℕ) (longest : ℕ) (words : List ℕ) : Type 0 where
  pub each : (page : ℕ) → has starts page ≡ begins_free page (slice_index words page)
  pub most : (page : ℕ) → begins_free page (slice_index words page) ≡ true → (run_of page (slice_index words page)).pages ≤ longest

-- a free run that begins at a page or behind it
abbrev pub is_free_from : ℕ → Run → Bool
is_free_from page r = nat_le page r.first && is_of_free r.mark.kind
