-- What holds of a state, and of a step from one configuration to the next, in each legal history.
use Rattle.std.specs.Prelude.{◌≡◌, ◌⊎◌, ℕ, ◌+◌, ◌*◌, ◌%◌, ◌<◌, ◌≤◌, Bool, true, List, [], ◌∷◌, length, Some, nat_eq}
use Rattle.std.specs.List.{AllByRecursion, IsDistinct}
use Rattle.heap_model.specs.declared.Block.{Block}
use Rattle.heap_model.specs.declared.Kind.{Kind}
use Rattle.heap_model.specs.declared.Kind.TheVariants as kinds
use Rattle.heap_model.specs.declared.Layer.{Layer}
use Rattle.heap_model.specs.declared.Layer.TheVariants as layers
use Rattle.heap_model.specs.declared.Limits.{Limits}
use Rattle.heap_model.specs.declared.What.{What}
use Rattle.heap_model.specs.declared.What.TheVariants as whats
use Rattle.heap_model.specs.Geometry.{route_of, is_paged, is_huge, units_of, pages_of}
use Rattle.heap_model.specs.Buckets.{bucket_pages, block_size, block_count, block_address}
use Rattle.heap_model.specs.State.{State, Setting, Area, Span, Place, Status, Live, InHand, GateAndLocks, address, room, all_places, is_among, is_entered, holder_of, holds, live}
use Rattle.heap_model.specs.CallState.{PlaceBy, Configuration, SpanHistory}
use Rattle.heap_model.specs.Backend.{is_usable}
use Rattle.heap_model.specs.Ranges.{gaps, large_start}
use Rattle.heap_model.specs.Agreement.{AgreesFor, HasHomes}

-- x is an element of the list
abbrev pub IsOneOf : {A : Type 0} → A → List A → Type 0
IsOneOf x [] = ⊥
IsOneOf x (y ∷ ys) = (y ≡ x) ⊎ IsOneOf x ys

---- Spans

-- in rising order from a unit on, none empty, each behind the one before
abbrev pub AreInOrder : ℕ → List Span → Type 0
AreInOrder from [] = Unit {0}
AreInOrder from (x ∷ xs) = (from ≤ x.first) × (0 < x.pages) × AreInOrder (x.first + x.pages) xs

abbrev pub IsCommittedSpan : Area → Span → Type 0
IsCommittedSpan a x = (unit : ℕ) → x.first ≤ unit → unit < x.first + x.pages → (is_usable a unit ≡ true) × (a.committed unit ≡ true)

-- the spans are disjoint runs of usable units of reserved segments, all committed
pub record HasSoundSpans (a : Area) : Type 0 where
  pub in_order : AreInOrder 0 a.spans
  pub committed : AllByRecursion (IsCommittedSpan a) a.spans

-- an LFH span is made for a bucket that is active, and for a slot
pub record IsSoundLfh (s : Setting) (is_active : ℕ → Bool) (x : Span) : Type 0 where
  pub bucket : (1 ≤ x.bucket) × (x.bucket ≤ 128)
  pub pages : x.pages ≡ bucket_pages x.bucket
  pub slot : x.slot < s.limits.slots
  pub active : is_active x.bucket ≡ true

-- what a span of each kind keeps to: there are no others, and only those of LFH have a bucket and a slot
abbrev pub IsSoundSpan : Setting → (ℕ → Bool) → Span → Kind → Type 0
IsSoundSpan s is_active x kinds.Vs = (16 ≤ x.pages) × (x.bucket ≡ 0) × (x.slot ≡ 0)
IsSoundSpan s is_active x kinds.Lfh = IsSoundLfh s is_active x
IsSoundSpan s is_active x kinds.Back = (33 ≤ x.pages) × (x.pages ≤ 127) × (x.bucket ≡ 0) × (x.slot ≡ 0)
IsSoundSpan s is_active x _ = ⊥

abbrev pub HasSoundKinds : Setting → State → Type 0
HasSoundKinds s st = AllByRecursion (λ x. IsSoundSpan s st.vs.active x x.kind) st.back.area.spans

---- Places, by their first byte and their granules

-- one of the two ends where the other begins, or before
abbrev pub AreApart : Place → Place → Type 0
AreApart p q = (p.start + 16 * p.granules ≤ q.start) ⊎ (q.start + 16 * q.granules ≤ p.start)

abbrev pub AreDisjoint : List Place → Type 0
AreDisjoint [] = Unit {0}
AreDisjoint (p ∷ ps) = AllByRecursion (AreApart p) ps × AreDisjoint ps

-- at least two granules of a VS span, behind its first 48 bytes
pub record IsInVs (xs : List Span) (start granules : ℕ) : Type 0 where
  pub span : Span
  pub there : IsOneOf span xs
  pub kind : span.kind ≡ kinds.Vs
  pub behind : 4096 * span.first + 48 ≤ start
  pub before : start + 16 * granules ≤ 4096 * (span.first + span.pages)
  pub two : 2 ≤ granules
  pub aligned : start % 16 ≡ 0

-- a block of an LFH span
pub record IsInLfh (xs : List Span) (start granules : ℕ) : Type 0 where
  pub span : Span
  pub there : IsOneOf span xs
  pub kind : span.kind ≡ kinds.Lfh
  pub index : ℕ
  pub below : index < block_count span.bucket
  pub block : start ≡ block_address span.bucket span.first index
  pub size : 16 * granules ≡ block_size span.bucket

-- all of a back-end span
pub record IsInBack (xs : List Span) (start granules : ℕ) : Type 0 where
  pub span : Span
  pub there : IsOneOf span xs
  pub kind : span.kind ≡ kinds.Back
  pub begins : start ≡ 4096 * span.first
  pub whole : granules ≡ 256 * span.pages

-- whole pages of the large area, so many as its smallest size needs
pub record IsInLarge (l : Limits) (start granules : ℕ) : Type 0 where
  pub page : ℕ
  pub pages : ℕ
  pub enough : 128 ≤ pages
  pub begins : start ≡ 16 * (large_start l + 256 * page)
  pub whole : granules ≡ 256 * pages
  pub inside : page + pages ≤ l.large_pages

abbrev pub AreAt : (ℕ → ℕ → Type 0) → List Place → Type 0
AreAt At ps = AllByRecursion (λ p. At p.start p.granules) ps

-- each place is a piece of what its layer has
pub record HasSoundPlaces (l : Limits) (st : State) : Type 0 where
  pub vs : AreAt (IsInVs st.back.area.spans) st.vs.places
  pub lfh : AreAt (IsInLfh st.back.area.spans) st.lfh
  pub back : AreAt (IsInBack st.back.area.spans) st.back.places
  pub large : AreAt (IsInLarge l) st.large

-- an address is a multiple of 16, in the back end and the large area of 4,096
abbrev pub IsAligned : ℕ → Layer → Type 0
IsAligned a layers.Lfh = a % 16 ≡ 0
IsAligned a layers.Vs = a % 16 ≡ 0
IsAligned a layers.Back = a % 4096 ≡ 0
IsAligned a layers.Large = a % 4096 ≡ 0

---- Live sizes

-- what the size of a live block keeps to
abbrev pub SuitsSize : Layer → ℕ → ℕ → Type 0
SuitsSize layers.Lfh granules size = size ≤ 16368
SuitsSize layers.Vs granules size = (size ≤ 131072) × ((granules ≡ units_of size) ⊎ (granules ≡ units_of size + 1))
SuitsSize layers.Back granules size = (is_paged (route_of size) ≡ true) × (granules ≡ 256 * pages_of size)
SuitsSize layers.Large granules size = (is_huge (route_of size) ≡ true) × (granules ≡ 256 * pages_of size)

abbrev pub HasSoundSize : Place → Status → Type 0
HasSoundSize p (InHand c) = Unit {0}
HasSoundSize p (Live size) = (size ≤ room p) × SuitsSize p.layer p.granules size

-- each live block suits its place
pub record HasSoundSizes (st : State) : Type 0 where
  pub lfh : AllByRecursion (λ p. HasSoundSize p p.status) st.lfh
  pub vs : AllByRecursion (λ p. HasSoundSize p p.status) st.vs.places
  pub back : AllByRecursion (λ p. HasSoundSize p p.status) st.back.places
  pub large : AllByRecursion (λ p. HasSoundSize p p.status) st.large

---- The state

pub record IsSound (s : Setting) (st : State) : Type 0 where
  pub reserved : st.back.area.reserved ≤ s.limits.segments
  pub usable : (unit : ℕ) → st.back.area.committed unit ≡ true → is_usable st.back.area unit ≡ true
  pub spans : HasSoundSpans st.back.area
  pub of_kinds : HasSoundKinds s st
  pub homes : HasHomes st
  pub places : HasSoundPlaces s.limits st
  pub disjoint : AreDisjoint (all_places st)
  pub aligned : AllByRecursion (λ p. IsAligned (address p) p.layer) (all_places st)
  pub gaps : AllByRecursion (λ r. 2 ≤ r.count) (gaps st)
  pub few_large : length st.large ≤ 32
  pub sizes : HasSoundSizes st

---- A configuration, and a step

-- a VS span is as short as the longest size needs, unless it was made for a size that is none of VS: then it waits for a place that cannot come
abbrev pub HasShortSpans : Configuration → Type 0
HasShortSpans m = (x : Span) → IsOneOf x m.state.back.area.spans → x.kind ≡ kinds.Vs → (x.pages ≤ 33) ⊎ ((c : ℕ) × (m.now.demand ≡ PlaceBy c x))

-- Whoever is at the gate is counted once, and is a caller of the limits, as are the owner of the heap lock and the holders of locks.
pub record IsGateCounted (s : Setting) (f : GateAndLocks) : Type 0 where
  pub distinct : IsDistinct nat_eq f.counted
  pub turning : (c : ℕ) → is_among c f.turning ≡ true → is_among c f.counted ≡ true
  pub callers : AllByRecursion (λ c. c < s.limits.callers) f.counted
  pub owner : (c : ℕ) → f.owner ≡ Some c → c < s.limits.callers
  pub holders : (w : What) (c : ℕ) → holder_of f.locks w ≡ Some c → c < s.limits.callers

-- whoever is remembered as the maker of a span still holds Back
abbrev pub MakersHoldBack : GateAndLocks → SpanHistory → Type 0
MakersHoldBack f r = (page c : ℕ) → r.makers page ≡ Some c → holds f c whats.Back ≡ true

-- an LFH span of the bucket and the slot begins there
pub record IsHintOf (xs : List Span) (bucket_is slot_is head : ℕ) : Type 0 where
  pub span : Span
  pub there : IsOneOf span xs
  pub kind : span.kind ≡ kinds.Lfh
  pub bucket : span.bucket ≡ bucket_is
  pub slot : span.slot ≡ slot_is
  pub begins : span.first ≡ head

abbrev pub HintsNameSpans : Area → SpanHistory → Type 0
HintsNameSpans a r = (bucket slot head : ℕ) → r.hints bucket slot ≡ Some head → IsHintOf a.spans bucket slot head

-- An entry of c leads from m to n. While a caller is entered no LFH span goes, and what another caller alone decides stays:
-- the places in its hand, and while it holds the lock of a layer the spans and the places that need it.
pub record IsStableStep (c : ℕ) (m n : Configuration) : Type 0 where
  pub lfh : (d : ℕ) → is_entered m.state.gate d ≡ true → (x : Span) → x.kind ≡ kinds.Lfh → IsOneOf x m.state.back.area.spans → IsOneOf x n.state.back.area.spans
  pub others : (d : ℕ) → (c ≡ d → ⊥) → AgreesFor d n m

---- Live blocks

-- the one ends where the other begins, or before
abbrev pub IsInFrontOf : Block → Block → Type 0
IsInFrontOf b d = (b.addr < d.addr) × (b.addr + b.size ≤ d.addr)

abbrev pub AreInOrderBlocks : List Block → Type 0
AreInOrderBlocks [] = Unit {0}
AreInOrderBlocks (b ∷ bs) = AllByRecursion (IsInFrontOf b) bs × AreInOrderBlocks bs

-- a block is in a place of its address and layer, which has room for its size
pub record HasRoom (ps : List Place) (b : Block) : Type 0 where
  pub place : Place
  pub there : IsOneOf place ps
  pub at : address place ≡ b.addr
  pub layer : place.layer ≡ b.layer
  pub live : place.status ≡ Live b.size
  pub room : b.size ≤ room place

-- the live blocks, each behind the one before
pub record HasSoundBlocks (st : State) : Type 0 where
  pub in_order : AreInOrderBlocks (live st)
  pub aligned : AllByRecursion (λ b. IsAligned b.addr b.layer) (live st)
  pub room : AllByRecursion (HasRoom (all_places st)) (live st)
