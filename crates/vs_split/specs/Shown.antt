-- The chunks of a heap, by its definitions: each place and each gap of the variable-size layer is one.
use Rattle.std.specs.Prelude.{ℕ, ◌+◌, ◌-◌, ◌*◌, ◌/◌, ◌==◌, Bool, true, false, List, Option, option_map, unwrap_or}
use Rattle.std.specs.List.{find}
use Rattle.std.specs.Option.{option_map_or, option_or}
use Rattle.heap_model.specs.Runs.{Run}
use Rattle.heap_model.specs.State.{Span, Place, live_size}
use Rattle.heap_model.specs.Ranges.{gaps_of}
use Rattle.vs_headers.specs.declared.Head.{Head}
use Rattle.vs_headers.specs.Headers.{encoded}

-- a place or a gap starts at a granule, or ends there
abbrev pub place_from : ℕ → Place → Bool
place_from g p = p.start == 16 * g

abbrev pub place_to : ℕ → Place → Bool
place_to g p = p.start / 16 + p.granules == g

abbrev pub gap_from : ℕ → Run → Bool
gap_from g r = r.first == g

abbrev pub gap_to : ℕ → Run → Bool
gap_to g r = r.first + r.count == g

-- the granules of the place or the gap that ends where granule g starts, 0 where none does: behind the front of a span
abbrev pub units_to : List Span → List Place → ℕ → ℕ
units_to xs ps g =
    unwrap_or (option_or (option_map (λ p. p.granules) (find (place_to g) ps)) (option_map (λ r. r.count) (find (gap_to g) (gaps_of xs ps)))) 0

-- the bytes of a place, behind its header, that its block was not asked for
abbrev pub unused_of : Place → ℕ
unused_of p = 16 * (p.granules - 1) - unwrap_or (live_size p.status) 0

abbrev pub place_head : ℕ → Place → Head
place_head prev p = record { units = p.granules; prev = prev; unused = unused_of p; busy = true }

abbrev pub gap_head : ℕ → Run → Head
gap_head prev r = record { units = r.count; prev = prev; unused = 0; busy = false }

-- the head of the chunk that starts at granule g, where the VS spans are xs and the places in them ps
abbrev pub head_shown : List Span → List Place → ℕ → Option Head
head_shown xs ps g =
    option_or (option_map (place_head (units_to xs ps g)) (find (place_from g) ps)) (option_map (gap_head (units_to xs ps g)) (find (gap_from g) (gaps_of xs ps)))

-- the header word of granule g, 0 where no chunk starts
abbrev pub word_shown : ℕ → List Span → List Place → ℕ → ℕ
word_shown key xs ps g = option_map_or (λ h. encoded h key (16 * g)) (head_shown xs ps g) 0
