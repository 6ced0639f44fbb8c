-- What an allocation does whose bucket is due: it becomes active, and a span is made for it, or the block goes where it can.
use Rattle.std.specs.Prelude.{◌≡◌, ℕ, ◌+◌, ◌*◌, ◌/◌, ◌<◌, true, false, ◌||◌, nat_lt, [], ◌∷◌, Some, None}
use Rattle.std.specs.List.{list_all}
use Rattle.heap_model.specs.declared.Call.TheVariants as calls
use Rattle.heap_model.specs.declared.Reply.TheVariants as replies
use Rattle.heap_model.specs.Geometry.{units_of, span_pages_of}
use Rattle.heap_model.specs.Buckets.{bucket_of, bucket_pages, block_address}
use Rattle.heap_model.specs.Runs.{Run}
use Rattle.heap_model.specs.State.{Setting, VsPart, updated}
use Rattle.heap_model.specs.Backend.{free_runs, back_place}
use Rattle.heap_model.specs.Ranges.{gaps, vs_place}
use Rattle.heap_model.specs.Stay.{is_due}
use Rattle.heap_model.specs.CallState.{Configuration}
use Rattle.heap_model.specs.Search.{spans_of}
use Rattle.heap_model.specs.Legal.{with_span, is_run_of}
use Rattle.heap_soundness.specs.Sound.{AreInOrder}
use Rattle.serial_laws.specs.OneCall.{IsAtRest}
use Rattle.serial_laws.specs.BackCalls.{plain, one_more_reserved}
use Rattle.serial_laws.specs.VsCalls.{vs_span_for}
use Rattle.search_laws.specs.Reading.{lfh_block}
use Rattle.search_laws.specs.Calls.{own_found, HasNoPlace, hint_put}
use Rattle.search_laws.specs.Falls.{EndsSmall, HasNoRange, vs_with, IsInVsSpan}

-- a block of n bytes is in bucket b, which is due and not active, and so has no span
pub record IsToActivate (s : Setting) (m : Configuration) (n b : ℕ) : Type 0 where
  pub bucket : bucket_of n ≡ Some b
  pub inactive : m.state.vs.active b ≡ false
  pub due : is_due m.state.vs b ≡ true
  pub none : spans_of m.state.back.area b (s.slot 0) ≡ []
  pub in_order : AreInOrder 0 m.state.back.area.spans

-- the part of the variable-size layer once the bucket is active
abbrev pub activated : VsPart → ℕ → VsPart
activated v b = record { places = v.places; active = updated v.active b true; served = v.served }

-- The block is one of a span that is made for the bucket, in a segment that is reserved ..
abbrev pub ActivatingSpanEnds : Type 0
ActivatingSpanEnds = (s : Setting) (m : Configuration) (n b first : ℕ) → 0 < s.limits.callers → IsAtRest m → IsToActivate s m n b →
    back_place m.state.back.area s.limits.segments (bucket_pages b) ≡ Some first → first / 256 < m.state.back.area.reserved → HasNoPlace s m n b first →
    let f = own_found s m n b first in
    EndsSmall s m (calls.Alloc n plain) (replies.Address (block_address b first f.index)) (with_span m.state.back.area f.span) (activated m.state.vs b)
    (lfh_block b n f ∷ m.state.lfh) (hint_put m.now.span_history.hints b (s.slot 0) first)

-- .. or in the next segment, where the others have no free run of its pages;
abbrev pub ActivatingReservingEnds : Type 0
ActivatingReservingEnds = (s : Setting) (m : Configuration) (n b first : ℕ) → 0 < s.limits.callers → IsAtRest m → IsToActivate s m n b →
    let more = one_more_reserved m.state.back.area in
    back_place more s.limits.segments (bucket_pages b) ≡ Some first → first / 256 < more.reserved → m.state.back.area.reserved < s.limits.segments →
    list_all (λ r. is_run_of m.state.back.area.reserved r || nat_lt r.count (bucket_pages b)) (free_runs more) ≡ true → HasNoPlace s m n b first →
    let f = own_found s m n b first in
    EndsSmall s m (calls.Alloc n plain) (replies.Address (block_address b first f.index)) (with_span more f.span) (activated m.state.vs b)
    (lfh_block b n f ∷ m.state.lfh) (hint_put m.now.span_history.hints b (s.slot 0) first)

-- where no range is there for it, the block goes to the gap that the definitions name,
abbrev pub ActivatingFallGapEnds : Type 0
ActivatingFallGapEnds = (s : Setting) (m : Configuration) (n b : ℕ) (r : Run) → 0 < s.limits.callers → IsAtRest m → IsToActivate s m n b → HasNoRange s m b →
    vs_place (gaps m.state) (units_of n) ≡ Some r →
    EndsSmall s m (calls.Alloc n plain) (replies.Address (16 * r.first + 16)) m.state.back.area (vs_with (activated m.state.vs b) r n b)
    m.state.lfh m.now.span_history.hints

-- .. else into a span of the variable-size layer that is made for it,
abbrev pub ActivatingFallSpanEnds : Type 0
ActivatingFallSpanEnds = (s : Setting) (m : Configuration) (n b first : ℕ) (r : Run) → 0 < s.limits.callers → IsAtRest m → IsToActivate s m n b → HasNoRange s m b →
    IsInVsSpan s m n first r →
    EndsSmall s m (calls.Alloc n plain) (replies.Address (16 * r.first + 16)) (with_span m.state.back.area (vs_span_for first n))
    (vs_with (activated m.state.vs b) r n b) m.state.lfh m.now.span_history.hints

-- .. and else it is refused. The bucket is active in each case.
abbrev pub ActivatingFallRefusalEnds : Type 0
ActivatingFallRefusalEnds = (s : Setting) (m : Configuration) (n b : ℕ) → 0 < s.limits.callers → IsAtRest m → IsToActivate s m n b → HasNoRange s m b →
    vs_place (gaps m.state) (units_of n) ≡ None → back_place m.state.back.area s.limits.segments (span_pages_of n) ≡ None →
    EndsSmall s m (calls.Alloc n plain) replies.NoFit m.state.back.area (activated m.state.vs b) m.state.lfh m.now.span_history.hints
