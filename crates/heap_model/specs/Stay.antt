-- Which blocks keep their address at another size, as HeapReAlloc may let them, and which buckets are due for activation.
use Rattle.std.specs.Prelude.{ℕ, ◌+◌, ◌*◌, ◌/◌, ◌-◌, ◌==◌, Bool, false, ◌&&◌, ◌||◌, nat_le, List, count_by, Option, Some, None, unwrap_or, option_map}
use Rattle.std.specs.List.{find}
use Rattle.heap_model.specs.declared.Limits.{Limits}
use Rattle.heap_model.specs.declared.Layer.{Layer}
use Rattle.heap_model.specs.declared.Layer.TheVariants as layers
use Rattle.heap_model.specs.Geometry.{page_bytes, route_of, is_paged, is_huge, units_of, pages_of}
use Rattle.heap_model.specs.Buckets.{bucket_of}
use Rattle.heap_model.specs.Runs.{Run}
use Rattle.heap_model.specs.State.{State, Area, VsPart, Place, is_layer, live_size}
use Rattle.heap_model.specs.Backend.{free_runs}
use Rattle.heap_model.specs.Ranges.{gaps, large_runs, taken_of}

-- how long the run is that begins right here, 0 where none does
abbrev pub run_from : List Run → ℕ → ℕ
run_from rs at = unwrap_or (option_map (λ r. r.count) (find (λ r. r.first == at) rs)) 0

-- the granules that a back-end place and the free run right behind it have, where a unit has so many bytes
abbrev pub reach_back : ℕ → Area → Place → ℕ
reach_back unit a p = p.granules + unit / 16 * run_from (free_runs a) (p.start / unit + p.granules / (unit / 16))

-- the granules that the place and what is free right behind it have
abbrev pub reach_in : Limits → State → Place → Layer → ℕ
reach_in l st p layers.Lfh = p.granules
reach_in l st p layers.Vs = p.granules + run_from (gaps st) (p.start / 16 + p.granules)
reach_in l st p layers.Back = reach_back page_bytes st.back.area p
reach_in l st p layers.Large = p.granules + 256 * run_from (large_runs l st.large) (p.start / 4096 - 256 * l.segments + p.granules / 256)

abbrev pub reach : Limits → State → Place → ℕ
reach l st p = reach_in l st p p.layer

-- the place keeps its address at the size n
abbrev pub lets_stay_in : Limits → State → Place → ℕ → Layer → Bool
lets_stay_in l st p n layers.Lfh = nat_le n 16368 && nat_le n (16 * p.granules)
lets_stay_in l st p n layers.Vs = nat_le n 131072 && nat_le (units_of n) (reach l st p)
lets_stay_in l st p n layers.Back = is_paged (route_of n) && nat_le (256 * pages_of n) (reach l st p)
lets_stay_in l st p n layers.Large = is_huge (route_of n) && nat_le (256 * pages_of n) (reach l st p)

abbrev pub lets_stay : Limits → State → Place → ℕ → Bool
lets_stay l st p n = lets_stay_in l st p n p.layer

-- the granules that it then has
abbrev pub resized_in : Limits → State → Place → ℕ → Layer → ℕ
resized_in l st p n layers.Lfh = p.granules
resized_in l st p n layers.Vs = taken_of (units_of n) (reach l st p)
resized_in l st p n layers.Back = 256 * pages_of n
resized_in l st p n layers.Large = 256 * pages_of n

abbrev pub resized : Limits → State → Place → ℕ → ℕ
resized l st p n = resized_in l st p n p.layer

-- a test of the value that an option has
abbrev pub for_some : {A : Type 0} → Option A → (A → Bool) → Bool
for_some None test = false
for_some (Some x) test = test x

abbrev pub is_some_of : Option ℕ → ℕ → Bool
is_some_of o b = for_some o (λ c. c == b)

-- a live VS place whose size falls into the bucket
abbrev pub is_live_in : ℕ → Place → Bool
is_live_in b p = is_layer p.layer layers.Vs && for_some (live_size p.status) (λ n. is_some_of (bucket_of n) b)

abbrev pub is_due : VsPart → ℕ → Bool
is_due v b = nat_le 17 (count_by (is_live_in b) v.places) || nat_le 2040 (v.served b)
