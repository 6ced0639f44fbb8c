-- Which entries may come next, one test for each kind of entry, and what each changes.
use Rattle.std.specs.Prelude.{ℕ, ◌+◌, ◌*◌, ◌/◌, ◌-◌, ◌==◌, Bool, true, false, ◌&&◌, ◌||◌, not, min, nat_le, nat_lt, List, [], ◌∷◌, filter, Option, Some, None, if◌then◌else◌, is_none, is_some, option_map}
use Rattle.std.specs.List.{find, list_any, list_all}
use Rattle.heap_model.specs.declared.Call.{Call}
use Rattle.heap_model.specs.declared.Call.TheVariants as calls
use Rattle.heap_model.specs.declared.Act.{Act}
use Rattle.heap_model.specs.declared.Act.TheVariants as acts
use Rattle.heap_model.specs.declared.Entry.{Entry}
use Rattle.heap_model.specs.declared.Kind.{Kind}
use Rattle.heap_model.specs.declared.Kind.TheVariants as kinds
use Rattle.heap_model.specs.declared.Layer.{Layer}
use Rattle.heap_model.specs.declared.Layer.TheVariants as layers
use Rattle.heap_model.specs.declared.What.{What}
use Rattle.heap_model.specs.declared.What.TheVariants as whats
use Rattle.heap_model.specs.Geometry.{page_bytes, Route, Small, Variable, Paged, Huge, route_of, is_small, is_variable, is_paged, is_huge, units_of, span_pages_of, pages_of}
use Rattle.heap_model.specs.Buckets.{bucket_of, bucket_pages, block_size, block_address}
use Rattle.heap_model.specs.Runs.{Run}
use Rattle.heap_model.specs.State.{Area, BackPart, VsPart, GateAndLocks, State, Setting, Span, Place, Status, Live, InHand, is_kind, is_layer, updated, room, place_at, hand_at, hands, is_live, is_live_of, is_live_at, is_hand_at, is_another, is_among, without, holder_of, put_holder, gate_word, insert_span, add_place, change_found, remove_found}
use Rattle.heap_model.specs.Backend.{in_span, free_runs, back_place}
use Rattle.heap_model.specs.Ranges.{gaps, is_of_kind, vs_place, large_place}
use Rattle.heap_model.specs.Stay.{lets_stay, resized, is_some_of, for_some, is_due}
use Rattle.heap_model.specs.Bits.{bits_of, starts_at}
use Rattle.heap_model.specs.CallState.{Stage, NotBegun, Search, not_begun, CallState, Demand, Nothing, SpanBy, PlaceBy, UnspanBy, SpanHistory, Configuration, CallerView, caller_view, is_outside, is_inside, holds_none, held}
use Rattle.heap_model.specs.Search.{asked, asked_bucket, Request, request_of, spans_of, span_at, begins_at, SearchKey, search_key_of, is_spent, may_see, may_miss_hint, may_claim, after_saw, after_no_hint, after_lost, after_no_span, after_own_span}

-- A place lies in a span of units of so many bytes.
abbrev pub lies_in : ℕ → Span → Place → Bool
lies_in unit x p = nat_le (unit * x.first) p.start && nat_le (p.start + 16 * p.granules) (unit * (x.first + x.pages))

-- the places that are made in spans of a kind
abbrev pub places_in : State → Kind → List Place
places_in st kinds.Vs = st.vs.places
places_in st kinds.Lfh = st.lfh
places_in st kinds.Back = st.back.places
places_in st _ = []

abbrev pub has_place : ℕ → List Place → Span → Bool
has_place unit ps x = list_any (lies_in unit x) ps

-- the lock of a layer is held; LFH needs none
abbrev pub may_touch : CallerView → Layer → Bool
may_touch k layers.Lfh = true
may_touch k layers.Vs = k.vs
may_touch k layers.Back = k.back
may_touch k layers.Large = k.large

abbrev pub is_lock_or_compact : Call → Bool
is_lock_or_compact calls.Lock = true
is_lock_or_compact calls.Compact = true
is_lock_or_compact _ = false

abbrev pub is_compact : Call → Bool
is_compact calls.Compact = true
is_compact _ = false

abbrev pub fits_none : Setting → Area → ℕ → Bool
fits_none s a pages = is_none (back_place a s.limits.segments pages)

-- a bucket is active or due
abbrev pub goes_to_lfh : VsPart → ℕ → Bool
goes_to_lfh v b = v.active b || is_due v b

-- c has searched b without success under the locks, and no range fits a subsegment
abbrev pub cannot_be_served : Setting → Area → ℕ → CallerView → Request → ℕ → Bool
cannot_be_served s a c k request b = is_some_of request.search b && is_spent a k (search_key_of s c k.call b) && fits_none s a (bucket_pages b)

---- What follows at once

abbrev pub is_run_of : ℕ → Run → Bool
is_run_of segment r = r.first / 256 == segment

abbrev pub meets_span : Area → ℕ → Act → Bool
meets_span a segment (acts.Span first pages kind bucket slot) =
    list_all (λ r. is_run_of segment r || nat_lt r.count pages) (free_runs a)
meets_span a segment _ = false

-- places of this layer are made in spans of this kind
abbrev pub is_layer_of : Kind → Layer → Bool
is_layer_of kinds.Vs layers.Vs = true
is_layer_of kinds.Lfh layers.Lfh = true
is_layer_of kinds.Back layers.Back = true
is_layer_of _ _ = false

-- the place in a new span, which for the back end is all of it
abbrev pub meets_place : Span → Act → Bool
meets_place x (acts.Place start granules layer) =
    is_layer_of x.kind layer && lies_in page_bytes x (record { start = start; granules = granules; layer = layer; status = InHand 0 })
    && (not (is_kind x.kind kinds.Back) || granules == 256 * x.pages)
meets_place x _ = false

abbrev pub meets_unspan : ℕ → Act → Bool
meets_unspan first (acts.Unspan at) = at == first
meets_unspan first _ = false

abbrev pub meets_demand : Area → Entry → Demand → Bool
meets_demand a e Nothing = true
meets_demand a e (SpanBy c segment) = e.caller == c && meets_span a segment e.act
meets_demand a e (PlaceBy c x) = e.caller == c && meets_place x e.act
meets_demand a e (UnspanBy c first) = e.caller == c && meets_unspan first e.act

abbrev pub is_back_due : Demand → Bool
is_back_due (PlaceBy c x) = is_kind x.kind kinds.Back
is_back_due _ = false

---- The rows. k says where the caller stands; the rest is what the row reads

abbrev pub is_empty : List Place → Bool
is_empty [] = true
is_empty (p ∷ ps) = false

abbrev pub may_begin : Setting → ℕ → CallerView → List Place → Bool
may_begin s c k hands = nat_lt c s.limits.callers && is_outside k && holds_none k && is_empty hands

abbrev pub may_enter : CallerView → Option ℕ → Bool
may_enter k owner = is_outside k && not k.call.entered && (is_none owner || k.owns)

abbrev pub may_leave : CallerView → List Place → Bool
may_leave k hands = k.turning || (k.entered && holds_none k && is_empty hands)

abbrev pub may_unlock : CallerView → Bool
may_unlock k = k.owns && not k.entered && holds_none k

abbrev pub may_be_blocked : GateAndLocks → ℕ → CallerView → ℕ → What → Bool
may_be_blocked f c k word whats.Gate =
    is_outside k && word == gate_word f
    && for_some k.call.call (λ call. if is_lock_or_compact call then not k.owns && not (word == 0) else is_another c f.owner)
may_be_blocked f c k word what = for_some (holder_of f.locks what) (λ d. not (d == c) && word == d + 1)

abbrev pub may_take_lock : GateAndLocks → CallerView → What → Bool
may_take_lock f k whats.Gate = false
may_take_lock f k what = is_none (holder_of f.locks what) && is_inside k

-- each span of this kind has a place
abbrev pub are_used : ℕ → Kind → List Place → List Span → Bool
are_used unit kind ps xs = list_all (has_place unit ps) (filter (is_of_kind kind) xs)

abbrev pub leaves_whole : State → What → Bool
leaves_whole st whats.Vs = are_used page_bytes kinds.Vs st.vs.places st.back.area.spans
leaves_whole st whats.Back = are_used page_bytes kinds.Back st.back.places st.back.area.spans
leaves_whole st _ = true

abbrev pub may_give_lock : State → CallerView → What → Bool
may_give_lock st k what = held k what && is_inside k && leaves_whole st what

abbrev pub may_reserve : Setting → Area → CallerView → ℕ → Bool
may_reserve s a k segment = k.entered && k.back && segment == a.reserved && nat_lt segment s.limits.segments

-- a span of so many pages that the call needs now; of LFH it is of the call's bucket
abbrev pub may_span_for : Setting → Area → List Run → ℕ → CallerView → Request → ℕ → ℕ → Kind → Bool
may_span_for s a spaces c k request pages bucket kinds.Back = for_some request.size (λ n. is_paged (route_of n) && pages == pages_of n)
may_span_for s a spaces c k request pages bucket kinds.Vs =
    k.vs && for_some (asked k.call) (λ n. is_none (vs_place spaces (units_of n)) && pages == span_pages_of n)
may_span_for s a spaces c k request pages bucket kinds.Lfh =
    for_some request.search (λ b. bucket == b && is_spent a k (search_key_of s c k.call b) && pages == bucket_pages b)
may_span_for s a spaces c k request pages bucket _ = false

abbrev pub may_span : Setting → Area → List Run → ℕ → CallerView → Request → Span → Bool
may_span s a spaces c k request x =
    k.entered && k.back && is_some_of (back_place a s.limits.segments x.pages) x.first && nat_lt (x.first / 256) a.reserved
    && (if is_kind x.kind kinds.Lfh then x.slot == s.slot c else x.bucket == 0 && x.slot == 0)
    && may_span_for s a spaces c k request x.pages x.bucket x.kind

abbrev pub may_unspan_of : CallerView → Kind → Bool
may_unspan_of k kinds.Vs = is_inside k && k.vs
may_unspan_of k kinds.Lfh = for_some k.call.call is_compact && k.owns && not k.entered
may_unspan_of k kinds.Back = is_inside k
may_unspan_of k _ = false

abbrev pub is_unused : State → CallerView → Span → Bool
is_unused st k x = may_unspan_of k x.kind && not (has_place page_bytes (places_in st x.kind) x)

abbrev pub may_unspan : State → CallerView → ℕ → Bool
may_unspan st k first = k.back && for_some (span_at st.back.area first) (is_unused st k)

-- n is not for LFH, or LFH has no block for it and no range for a subsegment
abbrev pub may_place_small : Setting → Area → VsPart → ℕ → CallerView → Request → ℕ → Bool
may_place_small s a v c k request n =
    not (for_some (bucket_of n) (λ b. goes_to_lfh v b && not (k.back && k.call.no_span && cannot_be_served s a c k request b)))

abbrev pub is_vs_place : List Run → ℕ → ℕ → ℕ → Bool
is_vs_place spaces n start granules = for_some (vs_place spaces (units_of n)) (λ r. start == 16 * r.first && granules == r.count)

abbrev pub may_place_vs : Setting → Area → VsPart → List Run → ℕ → CallerView → Request → ℕ → ℕ → Bool
may_place_vs s a v spaces c k request start granules =
    k.entered && k.vs && for_some (asked k.call) (λ n.
    (is_small (route_of n) || is_variable (route_of n)) && is_vs_place spaces n start granules && may_place_small s a v c k request n)

-- the place is the block of the span that the search picked
abbrev pub is_picked_in : ℕ → Search → ℕ → ℕ → Span → Bool
is_picked_in b f start granules x =
    let i = (start - block_address b x.first 0) / block_size b in
    may_claim f x.first i && start == block_address b x.first i && 16 * granules == block_size b

abbrev pub may_place_lfh : Setting → Area → List Place → ℕ → CallerView → Request → ℕ → ℕ → Bool
may_place_lfh s a lfh c k request start granules =
    k.entered && not (starts_at lfh start)
    && for_some request.search (λ b. list_any (is_picked_in b k.call.search start granules) (spans_of a b (s.slot c)))

abbrev pub may_place_large : Setting → List Place → CallerView → ℕ → ℕ → Bool
may_place_large s large k start granules =
    k.entered && k.large && for_some (asked k.call) (λ n.
    is_huge (route_of n) && is_some_of (large_place s.limits large (pages_of n)) start && granules == 256 * pages_of n)

abbrev pub may_place : Setting → Configuration → ℕ → CallerView → ℕ → ℕ → Layer → Bool
may_place s m c k start granules layers.Vs =
    may_place_vs s m.state.back.area m.state.vs (gaps m.state) c k (request_of s m c) start granules
may_place s m c k start granules layers.Lfh = may_place_lfh s m.state.back.area m.state.lfh c k (request_of s m c) start granules
may_place s m c k start granules layers.Back = k.entered && k.back && is_back_due m.now.demand
may_place s m c k start granules layers.Large = may_place_large s m.state.large k start granules

-- the search goes on: c is inside, and its call places an active bucket
abbrev pub searches : CallerView → Request → (ℕ → Bool) → Bool
searches k request test = k.entered && for_some request.search test

abbrev pub may_saw : Setting → Configuration → ℕ → CallerView → ℕ → ℕ → ℕ → Bool
may_saw s m c k head word bits = searches k (request_of s m c) (λ b.
    may_see m.state.back.area m.now.span_history (m.now.disturbed c) k (search_key_of s c k.call b) head word
    && for_some (span_at m.state.back.area head) (λ x. bits == bits_of m.state.lfh x word))

abbrev pub may_lose : List Place → CallerView → Request → ℕ → ℕ → Bool
may_lose lfh k request head index = searches k request (λ b. may_claim k.call.search head index && starts_at lfh (block_address b head index))

abbrev pub may_no_hint : Setting → Area → SpanHistory → ℕ → CallerView → Request → ℕ → ℕ → Bool
may_no_hint s a r c k request bucket slot =
    searches k request (λ b. bucket == b && slot == s.slot c && may_miss_hint a r c k.call.search (search_key_of s c k.call b))

abbrev pub may_no_span : Setting → Area → ℕ → CallerView → Request → ℕ → Bool
may_no_span s a c k request bucket = searches k request (λ b. bucket == b && k.back && not k.call.no_span && cannot_be_served s a c k request b)

abbrev pub may_activate : VsPart → CallerView → Request → ℕ → Bool
may_activate v k request bucket = k.entered && k.vs && is_some_of request.bucket bucket && not (v.active bucket) && is_due v bucket

abbrev pub suits_in : ℕ → ℕ → Layer → Bool
suits_in size granules layers.Lfh = nat_le size 16368
suits_in size granules layers.Vs = nat_le size 131072 && (granules == units_of size || granules == units_of size + 1)
suits_in size granules layers.Back = is_paged (route_of size) && granules == 256 * pages_of size
suits_in size granules layers.Large = is_huge (route_of size) && granules == 256 * pages_of size

-- a block of this size may be in the place
abbrev pub suits : ℕ → Place → Bool
suits size p = nat_le size (room p) && suits_in size p.granules p.layer

-- the place is open to the caller
abbrev pub may_give : CallerView → Option Place → ℕ → Bool
may_give k hand size = k.entered && for_some hand (λ p. may_touch k p.layer && suits size p)

abbrev pub may_take : CallerView → Option Place → ℕ → Bool
may_take k place size = k.entered && for_some place (λ p. may_touch k p.layer && is_live_of size p.status)

abbrev pub may_drop : CallerView → Option Place → Bool
may_drop k hand = k.entered && for_some hand (λ p. may_touch k p.layer)

-- the live place becomes so long that it has the size
abbrev pub is_resized : Setting → State → CallerView → ℕ → ℕ → Place → Bool
is_resized s st k granules size p =
    may_touch k p.layer && not (is_layer p.layer layers.Lfh) && is_live p.status
    && lets_stay s.limits st p size && granules == resized s.limits st p size

abbrev pub may_resize : Setting → State → ℕ → CallerView → ℕ → ℕ → ℕ → Bool
may_resize s st c k a granules size = k.entered && for_some (place_at st c a) (is_resized s st k granules size)

-- under both locks there is no gap for n, and no range for a subsegment
abbrev pub has_no_vs_range : Setting → Area → List Run → CallerView → ℕ → Bool
has_no_vs_range s a spaces k n = k.vs && k.back && is_none (vs_place spaces (units_of n)) && fits_none s a (span_pages_of n)

abbrev pub has_no_range : Setting → State → ℕ → CallerView → Request → ℕ → Route → Bool
has_no_range s st c k request n Small =
    has_no_vs_range s st.back.area (gaps st) k n
    && for_some (bucket_of n) (λ b. not (goes_to_lfh st.vs b) || cannot_be_served s st.back.area c k request b)
has_no_range s st c k request n Variable = has_no_vs_range s st.back.area (gaps st) k n
has_no_range s st c k request n Paged = k.back && fits_none s st.back.area (pages_of n)
has_no_range s st c k request n Huge = k.large && is_none (large_place s.limits st.large (pages_of n))

abbrev pub may_not_fit : Setting → State → ℕ → CallerView → Request → ℕ → Bool
may_not_fit s st c k request n = k.entered && is_some_of (asked k.call) n && has_no_range s st c k request n (route_of n)

abbrev pub has_live : List Place → ℕ → Bool
has_live ps a = list_any (is_live_at a) ps

abbrev pub may_not_be_live : State → CallerView → ℕ → Bool
may_not_be_live st k a =
    k.entered && not (has_live st.lfh a) && not (has_live st.vs.places a) && not (has_live st.back.places a) && not (has_live st.large a)

abbrev pub may_be_sized : CallerView → Option Place → ℕ → Bool
may_be_sized k place size = k.entered && for_some place (λ p. is_live_of size p.status)

abbrev pub data_words : Setting → ℕ
data_words s = 131072 * s.limits.segments + 512 * s.limits.large_pages

abbrev pub may_decommit : Area → CallerView → ℕ → Bool
may_decommit a k page = k.owns && k.back && a.committed page && not (list_any (in_span page) a.spans)

-- the act may come next, of a caller that stands so and whose call has begun
abbrev pub may_act : Setting → Configuration → ℕ → CallerView → Act → Bool
may_act s m c k (acts.Begin call) = may_begin s c k (hands m.state c)
may_act s m c k acts.Enter = may_enter k m.state.gate.owner
may_act s m c k acts.Leave = may_leave k (hands m.state c)
may_act s m c k acts.Lock = gate_word m.state.gate == 0
may_act s m c k acts.Unlock = may_unlock k
may_act s m c k (acts.Blocked what word) = may_be_blocked m.state.gate c k word what
may_act s m c k (acts.TakeLock what) = may_take_lock m.state.gate k what
may_act s m c k (acts.GiveLock what) = may_give_lock m.state k what
may_act s m c k (acts.Reserve segment) = may_reserve s m.state.back.area k segment
may_act s m c k (acts.Span first pages kind bucket slot) =
    may_span s m.state.back.area (gaps m.state) c k (request_of s m c) (record { first = first; pages = pages; kind = kind; bucket = bucket; slot = slot })
may_act s m c k (acts.Unspan first) = may_unspan m.state k first
may_act s m c k (acts.Place start granules layer) = may_place s m c k start granules layer
may_act s m c k (acts.Saw head word bits) = may_saw s m c k head word bits
may_act s m c k (acts.Lost head index) = may_lose m.state.lfh k (request_of s m c) head index
may_act s m c k (acts.NoHint bucket slot) = may_no_hint s m.state.back.area m.now.span_history c k (request_of s m c) bucket slot
may_act s m c k (acts.Give a size) = may_give k (hand_at m.state c a) size
may_act s m c k (acts.Take a size) = may_take k (place_at m.state c a) size
may_act s m c k (acts.Drop a) = may_drop k (hand_at m.state c a)
may_act s m c k (acts.Resize a granules size) = may_resize s m.state c k a granules size
may_act s m c k (acts.Active bucket) = may_activate m.state.vs k (request_of s m c) bucket
may_act s m c k (acts.NoSpan bucket) = may_no_span s m.state.back.area c k (request_of s m c) bucket
may_act s m c k (acts.NoFit n) = may_not_fit s m.state c k (request_of s m c) n
may_act s m c k (acts.NotLive a) = may_not_be_live m.state k a
may_act s m c k (acts.Sized a size) = may_be_sized k (place_at m.state c a) size
may_act s m c k (acts.Load w v) = k.entered && m.state.words w == v && nat_lt w (data_words s)
may_act s m c k (acts.Store w v) = k.entered && nat_lt w (data_words s)
may_act s m c k (acts.Decommit page) = may_decommit m.state.back.area k page

abbrev pub may : Setting → Configuration → ℕ → Act → Bool
may s m c act = may_act s m c (caller_view m c) act

abbrev pub is_begin : Act → Bool
is_begin (acts.Begin call) = true
is_begin _ = false

-- The entry may come next.
abbrev pub may_follow : Setting → Configuration → Entry → Bool
may_follow s m e =
    meets_demand m.state.back.area e m.now.demand && (is_begin e.act || is_some (m.now.calls e.caller).call) && may s m e.caller e.act

---- The effects on the state

abbrev pub commit : ℕ → ℕ → (ℕ → Bool) → ℕ → Bool
commit first pages committed unit = (nat_le first unit && nat_lt unit (first + pages)) || committed unit

-- sizes in the bucket were served once more
abbrev pub serve : Option ℕ → (ℕ → ℕ) → ℕ → ℕ
serve None served = served
serve (Some b) served = updated served b (min 2040 (served b + 1))

abbrev pub served_by : Option ℕ → (ℕ → ℕ) → Layer → ℕ → ℕ
served_by b served layers.Vs = serve b served
served_by b served _ = served

abbrev pub with_span : Area → Span → Area
with_span a x = record { reserved = a.reserved; committed = commit x.first x.pages a.committed; spans = insert_span x a.spans }

abbrev pub is_back_at : ℕ → Span → Bool
is_back_at first x = begins_at first x && is_kind x.kind kinds.Back

abbrev pub with_pages : ℕ → Span → Span
with_pages pages x = record x { pages = pages }

-- the place of the back end that starts there, and its span, have so many granules now
abbrev pub area_resized : ℕ → Area → ℕ → ℕ → Area
area_resized unit a start granules = record {
  reserved = a.reserved;
  committed = commit (start / unit) (granules / (unit / 16)) a.committed;
  spans = change_found (is_back_at (start / unit)) (with_pages (granules / (unit / 16))) a.spans;
}

abbrev pub area_with : Area → ℕ → Option Place → Area
area_with a granules None = a
area_with a granules (Some p) = if is_layer p.layer layers.Back then area_resized page_bytes a p.start granules else a

abbrev pub resize_place : ℕ → ℕ → Place → Place
resize_place granules size p = record p { granules = granules; status = Live size }

abbrev pub with_status : Status → Place → Place
with_status status p = record p { status = status }

-- places of a layer, changed if they are of the layer that is meant
abbrev pub on : Layer → (List Place → List Place) → List Place → Option Layer → List Place
on layer f ps None = ps
on layer f ps (Some l) = if is_layer layer l then f ps else ps

-- the places of one layer changed
abbrev pub with_places : State → Option Layer → (List Place → List Place) → State
with_places st l f = record {
  gate = st.gate;
  back = record { area = st.back.area; places = on layers.Back f st.back.places l };
  vs = record { places = on layers.Vs f st.vs.places l; active = st.vs.active; served = st.vs.served };
  lfh = on layers.Lfh f st.lfh l;
  large = on layers.Large f st.large l;
  words = st.words;
}

abbrev pub layer_of : Option Place → Option Layer
layer_of p = option_map (λ q. q.layer) p

abbrev pub with_counted : GateAndLocks → List ℕ → List ℕ → GateAndLocks
with_counted f counted turning = record { counted = counted; turning = turning; owner = f.owner; locks = f.locks }

abbrev pub with_owner : GateAndLocks → Option ℕ → GateAndLocks
with_owner f owner = record { counted = f.counted; turning = f.turning; owner = owner; locks = f.locks }

abbrev pub with_holder : GateAndLocks → What → Option ℕ → GateAndLocks
with_holder f what c = record { counted = f.counted; turning = f.turning; owner = f.owner; locks = put_holder c f.locks what }

abbrev pub with_area : BackPart → Area → BackPart
with_area b a = record { area = a; places = b.places }

-- a call of lock or compact leaves the gate as it was; any other has entered by what it found, and turns back
abbrev pub gate_blocked : GateAndLocks → ℕ → CallState → GateAndLocks
gate_blocked f c k =
    let stays = for_some k.call is_lock_or_compact in
    with_counted f (if stays then f.counted else c ∷ f.counted) (if stays then f.turning else c ∷ f.turning)

abbrev pub state_after : State → CallState → ℕ → Act → State
state_after st k c acts.Enter = record st { gate = with_counted st.gate (c ∷ st.gate.counted) st.gate.turning }
state_after st k c acts.Leave = record st { gate = with_counted st.gate (without c st.gate.counted) (without c st.gate.turning) }
state_after st k c acts.Lock = record st { gate = with_owner st.gate (Some c) }
state_after st k c acts.Unlock = record st { gate = with_owner st.gate None }
state_after st k c (acts.Blocked whats.Gate word) = record st { gate = gate_blocked st.gate c k }
state_after st k c (acts.TakeLock what) = record st { gate = with_holder st.gate what (Some c) }
state_after st k c (acts.GiveLock what) = record st { gate = with_holder st.gate what None }
state_after st k c (acts.Reserve segment) = record st { back = with_area st.back (record { reserved = st.back.area.reserved + 1; committed = st.back.area.committed; spans = st.back.area.spans }) }
state_after st k c (acts.Span first pages kind bucket slot) =
    record st { back = with_area st.back (with_span st.back.area (record { first = first; pages = pages; kind = kind; bucket = bucket; slot = slot })) }
state_after st k c (acts.Unspan first) =
    record st { back = with_area st.back (record { reserved = st.back.area.reserved; committed = st.back.area.committed; spans = remove_found (begins_at first) st.back.area.spans }) }
state_after st k c (acts.Place start granules layer) =
    let next = with_places st (Some layer) (add_place (record { start = start; granules = granules; layer = layer; status = InHand c })) in
    record next { vs = record { places = next.vs.places; active = st.vs.active; served = served_by (asked_bucket k) st.vs.served layer } }
state_after st k c (acts.Give a size) = with_places st (layer_of (hand_at st c a)) (change_found (is_hand_at c a) (with_status (Live size)))
state_after st k c (acts.Take a size) = with_places st (layer_of (place_at st c a)) (change_found (is_live_at a) (with_status (InHand c)))
state_after st k c (acts.Drop a) = with_places st (layer_of (hand_at st c a)) (remove_found (is_hand_at c a))
state_after st k c (acts.Resize a granules size) =
    let next = with_places st (layer_of (place_at st c a)) (change_found (is_live_at a) (resize_place granules size)) in
    record next { back = record { area = area_with st.back.area granules (place_at st c a); places = next.back.places } }
state_after st k c (acts.Active bucket) = record st { vs = record { places = st.vs.places; active = updated st.vs.active bucket true; served = st.vs.served } }
state_after st k c (acts.Store w v) = record st { words = updated st.words w v }
state_after st k c (acts.Decommit page) =
    record st { back = with_area st.back (record { reserved = st.back.area.reserved; committed = updated st.back.area.committed page false; spans = st.back.area.spans }) }
state_after st k c _ = st

---- .. on the call of the caller

abbrev pub searched_once : Stage → ℕ
searched_once NotBegun = 0
searched_once _ = 1

abbrev pub begun : CallState → Call → CallState
begun k call = record {
  call = Some call;
  entered = false;
  placed = false;
  taken = false;
  no_span = false;
  searches = k.searches + searched_once k.search.stage;
  search = not_begun;
}

abbrev pub with_search : CallState → Search → CallState
with_search k f = record k { search = f }

-- the search for the bucket of the size that the call asks
abbrev pub step_search : Setting → ℕ → CallState → (SearchKey → Search → Search) → Option ℕ → CallState
step_search s c k f None = k
step_search s c k f (Some b) = with_search k (f (search_key_of s c k b) k.search)

abbrev pub after_span : Setting → ℕ → CallState → ℕ → Kind → CallState
after_span s c k first kinds.Lfh = step_search s c k (λ g f. after_own_span g f first) (asked_bucket k)
after_span s c k first _ = k

abbrev pub call_after : Setting → ℕ → CallState → Act → CallState
call_after s c k (acts.Begin call) = begun k call
call_after s c k acts.Enter = record k { entered = true }
call_after s c k (acts.Span first pages kind bucket slot) = after_span s c k first kind
call_after s c k (acts.Place start granules layer) = record k { placed = true }
call_after s c k (acts.Saw head word bits) = step_search s c k (λ g f. after_saw g f head word bits) (asked_bucket k)
call_after s c k (acts.Lost head index) = step_search s c k (λ g f. after_lost f) (asked_bucket k)
call_after s c k (acts.NoHint bucket slot) = step_search s c k (λ g f. after_no_hint f) (asked_bucket k)
call_after s c k (acts.NoSpan bucket) = record (step_search s c k (λ g f. after_no_span f) (asked_bucket k)) { no_span = true }
call_after s c k (acts.Take a size) = record k { taken = true }
call_after s c k _ = k

-- .. on what the others' calls have met: an Enter disturbs all but its caller
abbrev pub disturbed_after : GateAndLocks → (ℕ → Bool) → ℕ → Act → ℕ → Bool
disturbed_after f disturbed c (acts.Begin call) = updated disturbed c (list_any (λ d. not (d == c) && not (is_among d f.turning)) f.counted)
disturbed_after f disturbed c acts.Enter = λ d. not (d == c) || disturbed d
disturbed_after f disturbed c _ = disturbed

-- .. on what is remembered of LFH spans
abbrev pub forget_hint : ℕ → (ℕ → ℕ → Option ℕ) → ℕ → ℕ → Option ℕ
forget_hint first hints b t = if is_some_of (hints b t) first then None else hints b t

abbrev pub hints_with : (ℕ → ℕ → Option ℕ) → Option Span → ℕ → ℕ → Option ℕ
hints_with hints None = hints
hints_with hints (Some x) = updated hints x.bucket (updated (hints x.bucket) x.slot (Some x.first))

abbrev pub is_lfh_over : ℕ → Span → Bool
is_lfh_over start x = is_kind x.kind kinds.Lfh && in_span (start / 4096) x

-- a place of LFH was made, under Back or not
abbrev pub put_hint : Area → SpanHistory → ℕ → Bool → SpanHistory
put_hint a r start true = record { hints = hints_with r.hints (find (is_lfh_over start) a.spans); makers = r.makers }
put_hint a r start false = r

abbrev pub span_history_placed : Area → SpanHistory → ℕ → Bool → Layer → SpanHistory
span_history_placed a r start back layers.Lfh = put_hint a r start back
span_history_placed a r start back _ = r

abbrev pub put_maker : SpanHistory → ℕ → ℕ → Kind → SpanHistory
put_maker r c first kinds.Lfh = record { hints = r.hints; makers = updated r.makers first (Some c) }
put_maker r c first _ = r

abbrev pub span_history_after : Area → SpanHistory → ℕ → Bool → Act → SpanHistory
span_history_after a r c back (acts.GiveLock whats.Back) = record { hints = r.hints; makers = λ page. None }
span_history_after a r c back (acts.Span first pages kind bucket slot) = put_maker r c first kind
span_history_after a r c back (acts.Unspan first) = record { hints = forget_hint first r.hints; makers = updated r.makers first None }
span_history_after a r c back (acts.Place start granules layer) = span_history_placed a r start back layer
span_history_after a r c back _ = r

-- .. and what has to follow at once
abbrev pub unspan_of : ℕ → Option Place → Demand
unspan_of c None = Nothing
unspan_of c (Some p) = if is_layer p.layer layers.Back then UnspanBy c (p.start / 4096) else Nothing

abbrev pub demand_after : State → ℕ → Act → Demand
demand_after st c (acts.Reserve segment) = SpanBy c segment
demand_after st c (acts.Span first pages kind bucket slot) =
    PlaceBy c (record { first = first; pages = pages; kind = kind; bucket = bucket; slot = slot })
demand_after st c (acts.Drop a) = unspan_of c (hand_at st c a)
demand_after st c _ = Nothing

abbrev pub after : Setting → Configuration → Entry → Configuration
after s m e = record {
  state = state_after m.state (m.now.calls e.caller) e.caller e.act;
  now = record {
    calls = updated m.now.calls e.caller (call_after s e.caller (m.now.calls e.caller) e.act);
    disturbed = disturbed_after m.state.gate m.now.disturbed e.caller e.act;
    span_history = span_history_after m.state.back.area m.now.span_history e.caller (caller_view m e.caller).back e.act;
    demand = demand_after m.state e.caller e.act;
  };
}
