-- What the induction over a legal history keeps beside the law itself, so that each step follows from the one before.
use Rattle.std.specs.Prelude.{◌≡◌, ◌⊎◌, ℕ, suc, ◌+◌, ◌*◌, ◌<◌, ◌≤◌, Bool, true, List, Some, is_some}
use Rattle.std.specs.List.{AllByRecursion}
use Rattle.heap_model.specs.declared.Kind.TheVariants as kinds
use Rattle.heap_model.specs.declared.Limits.{Limits}
use Rattle.heap_model.specs.Geometry.{span_pages_of}
use Rattle.heap_model.specs.Buckets.{block_count}
use Rattle.heap_model.specs.State.{State, Setting, Area, Span, Place}
use Rattle.heap_model.specs.CallState.{CallState, Demand, PlaceBy, Configuration}
use Rattle.heap_model.specs.Search.{asked, asked_bucket}
use Rattle.heap_model.specs.Backend.{is_usable}
use Rattle.heap_model.specs.Ranges.{is_clear}
use Rattle.heap_model.specs.Agreement.{GateIsSound, HasHomes, UndisturbedIsAlone}
use Rattle.heap_soundness.specs.Sound.{IsOneOf, AreAt, AreDisjoint, HasSoundSpans, HasSoundKinds, HasSoundSizes, IsInVs, IsInLfh, IsInBack, IsInLarge, HasShortSpans, IsGateCounted, MakersHoldBack, HintsNameSpans}

-- a number of the range right beside k passes
abbrev pub IsBeside : (ℕ → Bool) → ℕ → ℕ → ℕ → Type 0
IsBeside test low high k = ((suc k < high) × (test (suc k) ≡ true)) ⊎ ((j : ℕ) × (suc j ≡ k) × (low ≤ j) × (test j ≡ true))

-- no number of the range passes alone, so each maximal run has at least two
abbrev pub NonePassesAlone : (ℕ → Bool) → ℕ → ℕ → Type 0
NonePassesAlone test low high = (k : ℕ) → low ≤ k → k < high → test k ≡ true → IsBeside test low high k

-- each place is where its layer has it, and shares no byte with another
pub record IsLayerSound (At : ℕ → ℕ → Type 0) (ps : List Place) : Type 0 where
  pub places : AreAt At ps
  pub disjoint : AreDisjoint ps

-- VS: no granule of a span is clear alone
pub record IsVsSound (xs : List Span) (ps : List Place) : Type 0 where
  pub places : AreAt (IsInVs xs) ps
  pub disjoint : AreDisjoint ps
  pub clear : (x : Span) → IsOneOf x xs → x.kind ≡ kinds.Vs → NonePassesAlone (is_clear ps) (256 * x.first + 3) (256 * (x.first + x.pages))

-- the spans, and the places of each layer in them
pub record AreLayersSound (l : Limits) (a : Area) (in_vs in_lfh in_back in_large : List Place) : Type 0 where
  pub usable : (unit : ℕ) → a.committed unit ≡ true → is_usable a unit ≡ true
  pub spans : HasSoundSpans a
  pub vs : IsVsSound a.spans in_vs
  pub lfh : IsLayerSound (IsInLfh a.spans) in_lfh
  pub back : IsLayerSound (IsInBack a.spans) in_back
  pub large : IsLayerSound (IsInLarge l) in_large

abbrev pub IsHeapSound : Setting → State → Type 0
IsHeapSound s st = AreLayersSound s.limits st.back.area st.vs.places st.lfh st.back.places st.large

-- A span that waits for its place: one of the back end is there and has none; one of VS was made for the size that the call asks.
abbrev pub IsDue : (ℕ → CallState) → Area → List Place → Demand → Type 0
IsDue calls a back (PlaceBy c x) =
    (x.kind ≡ kinds.Back → IsOneOf x a.spans × AllByRecursion (λ p. p.start ≡ 4096 * x.first → ⊥) back)
    × (x.kind ≡ kinds.Vs → (n : ℕ) × (asked (calls c) ≡ Some n) × (x.pages ≡ span_pages_of n))
IsDue calls a back _ = Unit {0}

-- what a search has picked is a block of its bucket
abbrev pub IsPickSound : CallState → Type 0
IsPickSound k = (i : ℕ) → k.search.picked ≡ Some i → (b : ℕ) × (asked_bucket k ≡ Some b) × (i < block_count b)

-- who has begun a call is a caller of the limits
abbrev pub HaveBegun : Setting → Configuration → Type 0
HaveBegun s m = (c : ℕ) → is_some (m.now.calls c).call ≡ true → c < s.limits.callers

-- The joint invariant: what each entry that may come next keeps, from one configuration to the one behind it.
pub record Keeps (s : Setting) (m : Configuration) : Type 0 where
  pub reserved : m.state.back.area.reserved ≤ s.limits.segments
  pub heap : IsHeapSound s m.state
  pub of_kinds : HasSoundKinds s m.state
  pub homes : HasHomes m.state
  pub sizes : HasSoundSizes m.state
  pub gate : GateIsSound m.state.gate
  pub counted : IsGateCounted s m.state.gate
  pub alone : UndisturbedIsAlone m
  pub makers : MakersHoldBack m.state.gate m.now.span_history
  pub hints : HintsNameSpans m.state.back.area m.now.span_history
  pub short : HasShortSpans m
  pub due : IsDue m.now.calls m.state.back.area m.state.back.places m.now.demand
  pub picks : (c : ℕ) → IsPickSound (m.now.calls c)
  pub begun : HaveBegun s m
