-- The random search of the low-fragmentation front end, step by step. That a random block is taken is published; the order of the words is chosen here.
use Rattle.std.specs.Prelude.{ℕ, ◌+◌, ◌*◌, ◌/◌, ◌%◌, ◌==◌, Bool, true, false, ◌&&◌, ◌||◌, not, nat_lt, List, [], ◌∷◌, filter, Option, Some, None, if◌then◌else◌, is_none, is_some, unwrap_or, option_and_then}
use Rattle.std.specs.List.{find, list_any, list_all}
use Rattle.rand_pcg.specs.Lcg.{started, increment_of, advance}
use Rattle.rand_pcg.specs.Pcg.{multiplier_64, pcg32}
use Rattle.heap_model.specs.declared.Call.{Call}
use Rattle.heap_model.specs.declared.Call.TheVariants as calls
use Rattle.heap_model.specs.declared.Kind.TheVariants as kinds
use Rattle.heap_model.specs.Buckets.{bucket_of, words_in_use, valid_bits}
use Rattle.heap_model.specs.State.{Area, State, Setting, Span, Place, is_kind, place_at, is_another, is_live, is_in_hand_of}
use Rattle.heap_model.specs.Stay.{lets_stay, is_some_of, for_some}
use Rattle.heap_model.specs.Bits.{pick}
use Rattle.heap_model.specs.CallState.{Stage, NotBegun, AtHint, FirstPass, SecondPass, Search, CallState, SpanHistory, Configuration, CallerView}

-- draw k of a caller, from 0
unfoldable pub draw_of : Setting → ℕ → ℕ → ℕ
draw_of s c k = (pcg32 (advance 64 multiplier_64 k (started 64 multiplier_64 s.seed (increment_of 64 (s.stream c))))).0

-- the size that a call asks
abbrev pub asked_by : Call → Option ℕ
asked_by (calls.Alloc n flags) = Some n
asked_by (calls.Realloc a n flags) = Some n
asked_by _ = None

abbrev pub asked : CallState → Option ℕ
asked k = option_and_then asked_by k.call

-- the bucket of that size
abbrev pub asked_bucket : CallState → Option ℕ
asked_bucket k = option_and_then bucket_of (asked k)

-- the block there is live, or in hand of c, and does not keep its address at the size n
abbrev pub has_to_move : Setting → State → ℕ → ℕ → Place → Bool
has_to_move s st c n p = (is_live p.status || is_in_hand_of c p.status) && not (lets_stay s.limits st p n)

-- the size that a call has to place, where there is one
abbrev pub sought_by : Setting → State → ℕ → Call → Option ℕ
sought_by s st c (calls.Alloc n flags) = Some n
sought_by s st c (calls.Realloc a n flags) =
    if not flags.in_place && for_some (place_at st c a) (has_to_move s st c n) then Some n else None
sought_by s st c _ = None

abbrev pub sought : Setting → State → ℕ → CallState → Option ℕ
sought s st c k = if k.placed then None else option_and_then (sought_by s st c) k.call

-- .. and only an active bucket is searched
abbrev pub searched : (ℕ → Bool) → Option ℕ → Option ℕ
searched active None = None
searched active (Some b) = if active b then Some b else None

-- what the call of a caller still has to place: the size, its bucket, and its bucket where there is a search for it
pub record Request : Type 0 where
  pub size : Option ℕ
  pub bucket : Option ℕ
  pub search : Option ℕ

abbrev pub request_for : (ℕ → Bool) → Option ℕ → Request
request_for active n = record { size = n; bucket = option_and_then bucket_of n; search = searched active (option_and_then bucket_of n) }

abbrev pub request_of : Setting → Configuration → ℕ → Request
request_of s m c = request_for m.state.vs.active (sought s m.state c (m.now.calls c))

-- the LFH spans of a bucket and a slot, by place
abbrev pub is_span_of : ℕ → ℕ → Span → Bool
is_span_of b t x = is_kind x.kind kinds.Lfh && x.bucket == b && x.slot == t

abbrev pub spans_of : Area → ℕ → ℕ → List Span
spans_of a b t = filter (is_span_of b t) a.spans

abbrev pub first_of : List Span → Option ℕ
first_of [] = None
first_of (x ∷ xs) = Some x.first

-- the span that a hint has to name where nobody disturbs
abbrev pub hint_or : Option ℕ → Option ℕ → Option ℕ
hint_or (Some head) other = Some head
hint_or None other = other

abbrev pub hint : Area → SpanHistory → ℕ → ℕ → Option ℕ
hint a r b t = hint_or (r.hints b t) (first_of (spans_of a b t))

abbrev pub begins_at : ℕ → Span → Bool
begins_at first x = x.first == first

abbrev pub span_at : Area → ℕ → Option Span
span_at a head = find (begins_at head) a.spans

-- what a search of the bucket b in the slot t goes by
pub record SearchKey : Type 0 where
  pub bucket : ℕ
  pub slot : ℕ
  pub draw : ℕ

abbrev pub search_key_of : Setting → ℕ → CallState → ℕ → SearchKey
search_key_of s c k b = record { bucket = b; slot = s.slot c; draw = draw_of s c k.searches }

abbrev pub first_word : SearchKey → ℕ
first_word g = g.draw / 64 % words_in_use g.bucket

-- the word of the present span that is read next
abbrev pub next_word : SearchKey → Search → ℕ
next_word g f = (first_word g + f.exhausted) % words_in_use g.bucket

abbrev pub is_read : Search → Span → Bool
is_read f x = list_any (λ head. head == x.first) f.read

-- the lowest span that this pass has not read
abbrev pub next_span : Area → SearchKey → Search → Option ℕ
next_span a g f = first_of (filter (λ x. not (is_read f x)) (spans_of a g.bucket g.slot))

abbrev pub head_of : List ℕ → Option ℕ
head_of [] = None
head_of (x ∷ xs) = Some x

abbrev pub last_read : Search → Option ℕ
last_read f = head_of f.read

-- a pass of these locks may begin or go on
abbrev pub may_pass : CallerView → Bool
may_pass k = k.back && (not k.call.no_span || k.vs)

-- every span of bucket and slot was read in the call's last pass
abbrev pub all_read_at : Area → CallerView → SearchKey → Stage → Bool
all_read_at a k g NotBegun = false
all_read_at a k g AtHint = is_none (first_of (spans_of a g.bucket g.slot)) && not k.call.no_span
all_read_at a k g FirstPass = is_none (next_span a g k.call.search) && not k.call.no_span
all_read_at a k g SecondPass = is_none (next_span a g k.call.search) && (is_some (last_read k.call.search) || k.vs)

abbrev pub all_read : Area → CallerView → SearchKey → Bool
all_read a k g = k.call.search.ended && all_read_at a k g k.call.search.stage

abbrev pub is_spent : Area → CallerView → SearchKey → Bool
is_spent a k g = k.back && (k.call.search.lost == 8 || all_read a k g)

-- the reading goes on in the present span
abbrev pub goes_on : SearchKey → Search → ℕ → ℕ → Bool
goes_on g f head word = word == next_word g f && is_some_of (last_read f) head

-- a reading of another span of a pass begins
abbrev pub begins_span : Area → CallerView → SearchKey → Search → ℕ → ℕ → Bool
begins_span a k g f head word = word == first_word g && may_pass k && is_some_of (next_span a g f) head

-- the first reading, of the span of the hint, or of any where another caller is about
abbrev pub begins_search : Area → SpanHistory → Bool → SearchKey → ℕ → ℕ → Bool
begins_search a r disturbed g head word =
    word == first_word g && list_any (begins_at head) (spans_of a g.bucket g.slot)
    && (disturbed || is_some_of (hint a r g.bucket g.slot) head)

abbrev pub may_see_at : Area → SpanHistory → Bool → CallerView → SearchKey → ℕ → ℕ → Stage → Bool
may_see_at a r disturbed k g head word NotBegun = begins_search a r disturbed g head word
may_see_at a r disturbed k g head word AtHint =
    if k.call.search.ended then begins_span a k g (record k.call.search { read = [] }) head word else goes_on g k.call.search head word
may_see_at a r disturbed k g head word FirstPass =
    if k.call.search.ended then begins_span a k g k.call.search head word else goes_on g k.call.search head word
may_see_at a r disturbed k g head word SecondPass =
    if k.call.search.ended then begins_span a k g k.call.search head word else goes_on g k.call.search head word

-- the reading of a word of a span may come next
abbrev pub may_see : Area → SpanHistory → Bool → CallerView → SearchKey → ℕ → ℕ → Bool
may_see a r disturbed k g head word =
    is_none k.call.search.picked && nat_lt k.call.search.lost 8 && may_see_at a r disturbed k g head word k.call.search.stage

abbrev pub has_not_begun : Stage → Bool
has_not_begun NotBegun = true
has_not_begun _ = false

-- an empty hint may come next
abbrev pub may_miss_hint : Area → SpanHistory → ℕ → Search → SearchKey → Bool
may_miss_hint a r c f g = has_not_begun f.stage && list_all (λ x. is_another c (r.makers x.first)) (spans_of a g.bucket g.slot)

-- the claim of a block of a span may come next
abbrev pub may_claim : Search → ℕ → ℕ → Bool
may_claim f head index = is_some_of f.picked index && is_some_of (last_read f) head

-- after a reading of a word: the block picked, or one more exhausted word
abbrev pub after_pick : SearchKey → Search → ℕ → Option ℕ → Search
after_pick g f word (Some i) = record f { picked = Some (64 * word + i) }
after_pick g f word None = record f { exhausted = f.exhausted + 1; ended = f.exhausted + 1 == words_in_use g.bucket }

abbrev pub after_reading : SearchKey → Search → ℕ → ℕ → Search
after_reading g f word bits = after_pick g f word (pick bits (valid_bits g.bucket word) (g.draw % 64))

-- the reading goes on in the present span, or begins in another
abbrev pub onto_span_at : Search → ℕ → Stage → Bool → Search
onto_span_at f head NotBegun ended = record f { stage = AtHint; read = head ∷ []; exhausted = 0; ended = false }
onto_span_at f head AtHint true = record f { stage = FirstPass; read = head ∷ []; exhausted = 0; ended = false }
onto_span_at f head FirstPass true = record f { read = head ∷ f.read; exhausted = 0; ended = false }
onto_span_at f head SecondPass true = record f { read = head ∷ f.read; exhausted = 0; ended = false }
onto_span_at f head _ false = f

abbrev pub onto_span : Search → ℕ → Search
onto_span f head = onto_span_at f head f.stage f.ended

abbrev pub after_saw : SearchKey → Search → ℕ → ℕ → ℕ → Search
after_saw g f head word bits = after_reading g (onto_span f head) word bits

abbrev pub after_no_hint : Search → Search
after_no_hint f = record f { stage = AtHint; read = []; exhausted = 0; ended = true }

abbrev pub after_lost : Search → Search
after_lost f = record f { picked = None; lost = f.lost + 1 }

abbrev pub after_no_span : Search → Search
after_no_span f = record f { stage = SecondPass; read = []; exhausted = 0; ended = true; picked = None }

-- the block of a new span that the draw picks
abbrev pub own_block : SearchKey → ℕ
own_block g = 64 * first_word g + unwrap_or (pick 0 (valid_bits g.bucket (first_word g)) (g.draw % 64)) 0

abbrev pub after_own_span : SearchKey → Search → ℕ → Search
after_own_span g f head = record f { read = head ∷ []; picked = Some (own_block g) }
