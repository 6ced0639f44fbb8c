-- What the calls of a back end do to its area, and to the runs that are spans.
use Rattle.std.specs.Prelude.{ℕ, ◌+◌, ◌*◌, ◌-◌, ◌/◌, ◌==◌, Bool, ◌&&◌, not, nat_lt, List, [], ◌∷◌, Option, Some, None, if◌then◌else◌}
use Rattle.heap_model.specs.declared.Kind.TheVariants as kinds
use Rattle.heap_model.specs.declared.Mark.{Mark}
use Rattle.heap_model.specs.declared.Run.{Run}
use Rattle.heap_model.specs.State.{Area, BackPart, Span, Place, change_found, remove_found, has_address, is_live_at, is_kind}
use Rattle.heap_model.specs.Geometry.{page_bytes}
use Rattle.heap_model.specs.Backend.{free_runs, is_free}
use Rattle.heap_model.specs.Stay.{run_from}
use Rattle.heap_model.specs.Search.{begins_at}
use Rattle.heap_model.specs.Legal.{commit, is_back_at, with_pages, with_span, area_resized, resize_place}
use Rattle.serial_laws.specs.BackCalls.{live_place}
use Rattle.page_ranges.specs.Spans.{span_of}

---- The effects on an area

-- the area with the segment of this page reserved
abbrev pub with_segment : Area → ℕ → Area
with_segment a page = record { reserved = (if nat_lt (page / 256) a.reserved then a.reserved else a.reserved + 1); committed = a.committed; spans = a.spans }

-- the area without the span that starts at a page, whose pages stay committed
abbrev pub without_span : Area → ℕ → Area
without_span a first = record { reserved = a.reserved; committed = a.committed; spans = remove_found (begins_at first) a.spans }

-- the area with n pages in the back-end span that starts at a page, all of them committed
abbrev pub with_size : Area → ℕ → ℕ → Area
with_size a first n = record { reserved = a.reserved; committed = commit first n a.committed; spans = change_found (is_back_at first) (with_pages n) a.spans }

-- the pages of a span and of the free run right behind it
abbrev pub reach_of : Area → Option Span → ℕ
reach_of a None = 0
reach_of a (Some x) = x.pages + run_from (free_runs a) (x.first + x.pages)

-- the area with no free page committed
abbrev pub decommitted : Area → Area
decommitted a = record { reserved = a.reserved; committed = λ page. a.committed page && not (is_free a page); spans = a.spans }

-- a page that is committed and free
abbrev pub is_idle : Area → ℕ → Bool
is_idle a page = a.committed page && is_free a page

---- .. and on the runs with their marks

abbrev pub starts_at : ℕ → Run → Bool
starts_at first r = r.first == first

abbrev pub insert_run : Run → List Run → List Run
insert_run x [] = x ∷ []
insert_run x (y ∷ ys) = if nat_lt x.first y.first then x ∷ y ∷ ys else y ∷ insert_run x ys

abbrev pub marked_run : ℕ → ℕ → Mark → Run
marked_run first pages m = record { first = first; pages = pages; mark = m }

abbrev pub marked_span : ℕ → ℕ → Mark → Span
marked_span first pages m = span_of (marked_run first pages m)

-- the run with so many pages and another mark
abbrev pub with_mark : ℕ → Mark → Run → Run
with_mark pages m r = record { first = r.first; pages = pages; mark = m }

---- .. and on what the lock of a back end guards: its area and its places

-- the place of the block that a run of the back end is, which leaves the unused bytes of its mark
abbrev pub place_of : Run → Place
place_of r = live_place (4096 * r.first) (256 * r.pages) (4096 * r.pages - r.mark.unused)

-- with the place of a span that was taken, if it is one of the back end
abbrev pub with_place : Run → List Place → List Place
with_place r ps = if is_kind r.mark.kind kinds.Back then place_of r ∷ ps else ps

-- with the span, in the next segment if it begins there, and with its place
abbrev pub part_with : BackPart → Run → BackPart
part_with b r = record { area = with_span (with_segment b.area r.first) (span_of r); places = with_place r b.places }

-- without the span that begins at a page, nor its place
abbrev pub part_without : BackPart → ℕ → BackPart
part_without b first = record { area = without_span b.area first; places = remove_found (has_address (4096 * first)) b.places }

-- with n pages in the span of the back end that begins at a page, and with so many unused bytes in its place
abbrev pub part_resized : BackPart → ℕ → ℕ → ℕ → BackPart
part_resized b first n unused = record {
  area = area_resized page_bytes b.area (4096 * first) (256 * n);
  places = change_found (is_live_at (4096 * first)) (resize_place (256 * n) (4096 * n - unused)) b.places;
}
