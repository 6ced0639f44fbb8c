-- What a back end keeps, and what this stands for.
use Rattle.std.specs.Prelude.{◌≡◌, ℕ, ◌*◌, ◌==◌, Bool, ◌&&◌, List, [], map, filter}
use Rattle.heap_model.specs.declared.Kind.TheVariants as kinds
use Rattle.heap_model.specs.declared.Limits.{Limits}
use Rattle.heap_model.specs.declared.Opening.{Opening}
use Rattle.heap_model.specs.declared.Run.{Run}
use Rattle.heap_model.specs.declared.What.TheVariants as whats
use Rattle.heap_model.specs.State.{State, Area, BackPart, Place, is_kind, opening}
use Rattle.heap_model.specs.Layers.{LayerState, StandsForBack}
use Rattle.page_region.specs.Held.{Held}
use Rattle.backend_fit.specs.Effects.{place_of}
use Rattle.backend_fit.specs.Pages.{Pages, pages_area, taken_in}

-- the limits that it was made for, its region, and the words of its descriptors
pub record Kept : Type 0 where
  pub limits : Limits
  pub region : Held
  pub words : List ℕ

abbrev pub pages_in : Kept → Pages
pages_in k = record { region = k.region; words = k.words }

-- the reserved segments, the committed pages and the spans
abbrev pub area_of : Kept → Area
area_of k = pages_area (pages_in k)

-- the runs of its spans, by place, each with its mark
abbrev pub spans_of : Kept → List Run
spans_of k = taken_in k.words

---- Blocks

-- a run that is a block of the back end
abbrev pub is_block_run : Run → Bool
is_block_run r = is_kind r.mark.kind kinds.Back

pub record IsBlockRun (r : Run) : Type 0 where
  pub kind : r.mark.kind ≡ kinds.Back

-- the blocks among the runs of words, by place
abbrev pub block_runs : List ℕ → List Run
block_runs words = filter is_block_run (taken_in words)

-- a block of the back end begins at this address
abbrev pub is_block_at : ℕ → Run → Bool
is_block_at addr r = is_block_run r && 4096 * r.first == addr

abbrev pub places_in : Kept → List Place
places_in k = map place_of (block_runs k.words)

---- What it stands for

abbrev pub part_of : Kept → BackPart
part_of k = record { area = area_of k; places = places_in k }

abbrev pub layer_of : Kept → LayerState
layer_of k = record { lock = whats.Back; limits = k.limits; key = 0; back = part_of k; vs = opening.vs; vs_spans = []; large = [] }

-- For each state that the old one stands for, the new one stands for those whose back end is what becomes of it.
abbrev pub Becomes : Kept → Kept → (BackPart → BackPart) → Type 0
Becomes old new f = (o : Opening) (st later : State) → StandsForBack o st (layer_of old) → later.back ≡ f st.back → StandsForBack o later (layer_of new)
