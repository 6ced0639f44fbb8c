-- The page ranges of an area: its spans and free runs, in the order of their units.
use Rattle.std.specs.Prelude.{ℕ, nat_lt, List, [], ◌∷◌, map, if◌then◌else◌}
use Rattle.heap_model.specs.declared.Kind.{Kind}
use Rattle.heap_model.specs.declared.Kind.TheVariants as kinds
use Rattle.heap_model.specs.Runs.{Run}
use Rattle.heap_model.specs.State.{Area, Span}
use Rattle.heap_model.specs.Backend.{free_runs, committed_in}

-- a span, or a free run and how many of its units are committed
pub record PageRange : Type 0 where
  pub first : ℕ
  pub pages : ℕ
  pub kind : Kind
  pub bucket : ℕ
  pub slot : ℕ
  pub committed : ℕ

abbrev pub span_range : Span → PageRange
span_range x = record { first = x.first; pages = x.pages; kind = x.kind; bucket = x.bucket; slot = x.slot; committed = 0 }

abbrev pub free_range : Area → Run → PageRange
free_range a r = record { first = r.first; pages = r.count; kind = kinds.Free; bucket = 0; slot = 0; committed = committed_in a r }

abbrev pub insert_range : PageRange → List PageRange → List PageRange
insert_range x [] = x ∷ []
insert_range x (y ∷ ys) = if nat_lt x.first y.first then x ∷ y ∷ ys else y ∷ insert_range x ys

abbrev pub insert_ranges : List PageRange → List PageRange → List PageRange
insert_ranges [] ys = ys
insert_ranges (x ∷ xs) ys = insert_range x (insert_ranges xs ys)

abbrev pub page_ranges_of : Area → List PageRange
page_ranges_of a = insert_ranges (map (free_range a) (free_runs a)) (map span_range a.spans)
