-- What the variable-size layer stands for, and what its calls make of it.
use Rattle.std.specs.Prelude.{◌≡◌, ℕ, true, List, [], ◌∷◌, Option, Some, None}
use Rattle.heap_model.specs.declared.Opening.{Opening}
use Rattle.heap_model.specs.declared.What.TheVariants as whats
use Rattle.heap_model.specs.Buckets.{bucket_of}
use Rattle.heap_model.specs.Runs.{Run}
use Rattle.heap_model.specs.State.{State, Span, VsPart, has_address, is_live_at, change_found, remove_found, updated, opening}
use Rattle.heap_model.specs.Ranges.{vs_spans}
use Rattle.heap_model.specs.Search.{begins_at}
use Rattle.heap_model.specs.Legal.{serve, resize_place}
use Rattle.heap_model.specs.Layers.{LayerState, StandsForVs}
use Rattle.vs_layer.specs.Kept.{VsKept, part_of, block_in}

abbrev pub layer_of : VsKept → LayerState
layer_of k = record { lock = whats.Vs; limits = k.limits; key = k.chunks.key; back = opening.back; vs = part_of k; vs_spans = k.spans; large = [] }

-- For each state that the old layer stands for, the new one stands for those whose part for the lock is what becomes of it, and so are the spans.
abbrev pub Becomes : VsKept → VsKept → (VsPart → VsPart) → (List Span → List Span) → Type 0
Becomes old new f g =
    (o : Opening) (st later : State) → StandsForVs o st (layer_of old) → later.vs ≡ f st.vs → vs_spans later.back.area ≡ g (vs_spans st.back.area)
    → StandsForVs o later (layer_of new)

-- with a block of n bytes at the front of a gap, which was served
abbrev pub with_block : VsPart → Run → ℕ → VsPart
with_block v r n = record { places = block_in r n ∷ v.places; active = v.active; served = serve (bucket_of n) v.served }

-- without the block at an address
abbrev pub without_block : VsPart → ℕ → VsPart
without_block v addr = record { places = remove_found (has_address addr) v.places; active = v.active; served = v.served }

-- with so many granules and bytes in the block at an address
abbrev pub with_length : VsPart → ℕ → ℕ → ℕ → VsPart
with_length v addr granules n = record { places = change_found (is_live_at addr) (resize_place granules n) v.places; active = v.active; served = v.served }

abbrev pub with_active : VsPart → ℕ → VsPart
with_active v bucket = record { places = v.places; active = updated v.active bucket true; served = v.served }

-- without the span that was closed, if one was
abbrev pub without_closed : Option (ℕ × ℕ) → List Span → List Span
without_closed None xs = xs
without_closed (Some closed) xs = remove_found (begins_at closed.0) xs
