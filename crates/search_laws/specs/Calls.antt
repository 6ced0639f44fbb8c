-- What one call by the low-fragmentation front end does, from a configuration at rest, where the bucket is active.
use Rattle.std.specs.Prelude.{◌≡◌, ℕ, ◌+◌, ◌/◌, ◌<◌, true, false, ◌||◌, nat_lt, List, [], ◌∷◌, Option, Some, None}
use Rattle.std.specs.List.{find, list_all}
use Rattle.heap_model.specs.declared.Call.{Call}
use Rattle.heap_model.specs.declared.Call.TheVariants as calls
use Rattle.heap_model.specs.declared.Act.{Act}
use Rattle.heap_model.specs.declared.Act.TheVariants as acts
use Rattle.heap_model.specs.declared.Kind.TheVariants as kinds
use Rattle.heap_model.specs.declared.Layer.TheVariants as layers
use Rattle.heap_model.specs.declared.Reply.{Reply}
use Rattle.heap_model.specs.declared.Reply.TheVariants as replies
use Rattle.heap_model.specs.Buckets.{bucket_of, bucket_pages, block_address}
use Rattle.heap_model.specs.Bits.{starts_at}
use Rattle.heap_model.specs.State.{Setting, Area, Span, Place, Live, has_address, remove_found, updated}
use Rattle.heap_model.specs.Backend.{free_runs, back_place}
use Rattle.heap_model.specs.CallState.{Configuration}
use Rattle.heap_model.specs.Search.{SearchKey, search_key_of, spans_of, hint, own_block}
use Rattle.heap_model.specs.Legal.{with_span, is_run_of, begun}
use Rattle.heap_model.specs.Alone.{configuration_by}
use Rattle.heap_soundness.specs.Sound.{IsOneOf, AreInOrder}
use Rattle.serial_laws.specs.OneCall.{IsAtRest, searches_of, Completes}
use Rattle.serial_laws.specs.BackCalls.{plain, one_more_reserved}
use Rattle.search_laws.specs.Reading.{Found, found_of, pass_found, lfh_block}

-- what the next call of caller 0 searches by, where it asks for a block of n bytes
abbrev pub next_key : Setting → Configuration → ℕ → ℕ → SearchKey
next_key s m n b = search_key_of s 0 (begun (m.now.calls 0) (calls.Alloc n plain)) b

-- Of the heap, the spans, the places of this front end and the hints alone have changed, to these, and so many calls have searched.
pub record OnlyLfh (old new : Configuration) (area : Area) (places : List Place) (hints : ℕ → ℕ → Option ℕ) (searches : ℕ) : Type 0 where
  pub area_is : new.state.back.area ≡ area
  pub places_are : new.state.lfh ≡ places
  pub hints_are : new.now.span_history.hints ≡ hints
  pub back : new.state.back.places ≡ old.state.back.places
  pub vs : new.state.vs ≡ old.state.vs
  pub large : new.state.large ≡ old.state.large
  pub words : new.state.words ≡ old.state.words
  pub searches_are : searches_of new ≡ searches

-- Some acts complete the call with this reply, leave all at rest, and change the front end so.
pub record EndsLfh (s : Setting) (m : Configuration) (call : Call) (reply : Reply) (area : Area) (places : List Place) (hints : ℕ → ℕ → Option ℕ) (searches : ℕ) : Type 0 where
  pub rest : List Act
  pub completes : Completes s m call reply rest
  pub at_rest : IsAtRest (configuration_by s m (acts.Begin call ∷ rest))
  pub only : OnlyLfh m (configuration_by s m (acts.Begin call ∷ rest)) area places hints searches

-- a block of n bytes is for this front end, in bucket b
pub record IsForLfh (m : Configuration) (n b : ℕ) : Type 0 where
  pub bucket : bucket_of n ≡ Some b
  pub active : m.state.vs.active b ≡ true
  pub in_order : AreInOrder 0 m.state.back.area.spans

-- the hints with one for a bucket and a slot
abbrev pub hint_put : (ℕ → ℕ → Option ℕ) → ℕ → ℕ → ℕ → ℕ → ℕ → Option ℕ
hint_put hints b t first = updated hints b (updated (hints b) t (Some first))

-- An allocation takes the block that the reading of the hint's span finds ..
abbrev pub HintAllocationEnds : Type 0
HintAllocationEnds = (s : Setting) (m : Configuration) (n b : ℕ) (x : Span) (f : Found) → 0 < s.limits.callers → IsAtRest m → IsForLfh m n b →
    hint m.state.back.area m.now.span_history b (s.slot 0) ≡ Some x.first → IsOneOf x (spans_of m.state.back.area b (s.slot 0)) →
    pass_found m.state.lfh (next_key s m n b) (x ∷ []) ≡ Some f →
    EndsLfh s m (calls.Alloc n plain) (replies.Address (block_address b f.span.first f.index)) m.state.back.area
    (lfh_block b n f ∷ m.state.lfh) m.now.span_history.hints (searches_of m + 1)

-- the hint's span, where there is one, has no free block
abbrev pub HintHasNone : Setting → Configuration → ℕ → ℕ → Option ℕ → Type 0
HintHasNone s m n b None = spans_of m.state.back.area b (s.slot 0) ≡ []
HintHasNone s m n b (Some first) =
    (x : Span) × (x.first ≡ first) × IsOneOf x (spans_of m.state.back.area b (s.slot 0)) × (pass_found m.state.lfh (next_key s m n b) (x ∷ []) ≡ None)

-- .. else the one that a pass finds, in a span as long as those of its bucket, which is the hint then ..
abbrev pub PassAllocationEnds : Type 0
PassAllocationEnds = (s : Setting) (m : Configuration) (n b : ℕ) (f : Found) → 0 < s.limits.callers → IsAtRest m → IsForLfh m n b →
    HintHasNone s m n b (hint m.state.back.area m.now.span_history b (s.slot 0)) →
    pass_found m.state.lfh (next_key s m n b) (spans_of m.state.back.area b (s.slot 0)) ≡ Some f → f.span.pages ≡ bucket_pages b →
    EndsLfh s m (calls.Alloc n plain) (replies.Address (block_address b f.span.first f.index)) m.state.back.area
    (lfh_block b n f ∷ m.state.lfh) (hint_put m.now.span_history.hints b (s.slot 0) f.span.first) (searches_of m + 1)

-- the span that is made for a bucket and a slot at this page, and the block of it that the draw picks
abbrev pub lfh_span : ℕ → ℕ → ℕ → Span
lfh_span first b t = record { first = first; pages = bucket_pages b; kind = kinds.Lfh; bucket = b; slot = t }

abbrev pub own_found : Setting → Configuration → ℕ → ℕ → ℕ → Found
own_found s m n b first = found_of (lfh_span first b (s.slot 0)) (own_block (next_key s m n b))

-- .. where no place begins
abbrev pub HasNoPlace : Setting → Configuration → ℕ → ℕ → ℕ → Type 0
HasNoPlace s m n b first = starts_at m.state.lfh (block_address b first (own_found s m n b first).index) ≡ false

-- no span of the bucket and the slot has a free block
pub record NoneIsFree (s : Setting) (m : Configuration) (n b : ℕ) : Type 0 where
  pub hint : HintHasNone s m n b (hint m.state.back.area m.now.span_history b (s.slot 0))
  pub pass : pass_found m.state.lfh (next_key s m n b) (spans_of m.state.back.area b (s.slot 0)) ≡ None

-- .. else one of a span that is made for it, in a segment that is reserved ..
abbrev pub LfhSpanAllocationEnds : Type 0
LfhSpanAllocationEnds = (s : Setting) (m : Configuration) (n b first : ℕ) → 0 < s.limits.callers → IsAtRest m → IsForLfh m n b → NoneIsFree s m n b →
    back_place m.state.back.area s.limits.segments (bucket_pages b) ≡ Some first → first / 256 < m.state.back.area.reserved → HasNoPlace s m n b first →
    let f = own_found s m n b first in
    EndsLfh s m (calls.Alloc n plain) (replies.Address (block_address b first f.index)) (with_span m.state.back.area f.span)
    (lfh_block b n f ∷ m.state.lfh) (hint_put m.now.span_history.hints b (s.slot 0) first) (searches_of m + 1)

-- .. or in the next segment, where the others have no free run of its pages.
abbrev pub ReservingLfhSpanEnds : Type 0
ReservingLfhSpanEnds = (s : Setting) (m : Configuration) (n b first : ℕ) → 0 < s.limits.callers → IsAtRest m → IsForLfh m n b → NoneIsFree s m n b →
    let more = one_more_reserved m.state.back.area in
    back_place more s.limits.segments (bucket_pages b) ≡ Some first → first / 256 < more.reserved → m.state.back.area.reserved < s.limits.segments →
    list_all (λ r. is_run_of m.state.back.area.reserved r || nat_lt r.count (bucket_pages b)) (free_runs more) ≡ true → HasNoPlace s m n b first →
    let f = own_found s m n b first in
    EndsLfh s m (calls.Alloc n plain) (replies.Address (block_address b first f.index)) (with_span more f.span)
    (lfh_block b n f ∷ m.state.lfh) (hint_put m.now.span_history.hints b (s.slot 0) first) (searches_of m + 1)

-- a live block of this front end
abbrev pub live_lfh : ℕ → ℕ → ℕ → Place
live_lfh a granules size = record { start = a; granules = granules; layer = layers.Lfh; status = Live size }

-- A free takes the place of the block away.
abbrev pub LfhFreeEnds : Type 0
LfhFreeEnds = (s : Setting) (m : Configuration) (a granules size : ℕ) → 0 < s.limits.callers → IsAtRest m →
    find (has_address a) m.state.lfh ≡ Some (live_lfh a granules size) →
    EndsLfh s m (calls.Free a) replies.Done m.state.back.area (remove_found (has_address a) m.state.lfh) m.now.span_history.hints (searches_of m)

-- A question for the size finds it, and changes nothing.
abbrev pub LfhSizeEnds : Type 0
LfhSizeEnds = (s : Setting) (m : Configuration) (a granules size : ℕ) → 0 < s.limits.callers → IsAtRest m →
    find (has_address a) m.state.lfh ≡ Some (live_lfh a granules size) →
    EndsLfh s m (calls.Size a) (replies.Number size) m.state.back.area m.state.lfh m.now.span_history.hints (searches_of m)
