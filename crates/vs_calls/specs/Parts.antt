-- What the calls that the variable-size layer serves do.
use Rattle.std.specs.Prelude.{◌≡◌, ℕ, ◌+◌, ◌*◌, ◌/◌, Bool, true, false, not, List, [], ◌∷◌, ◌++◌, nat_lt, Some, None, if◌then◌else◌}
use Rattle.std.specs.List.{list_all}
use Rattle.heap_model.specs.declared.Act.{Act}
use Rattle.heap_model.specs.declared.Act.TheVariants as acts
use Rattle.heap_model.specs.declared.AllocNo.{AllocNo}
use Rattle.heap_model.specs.declared.AllocNo.TheVariants as alloc_nos
use Rattle.heap_model.specs.declared.Busy.{Busy}
use Rattle.heap_model.specs.declared.Call.{Call}
use Rattle.heap_model.specs.declared.Call.TheVariants as calls
use Rattle.heap_model.specs.declared.Flags.{Flags}
use Rattle.heap_model.specs.declared.Kind.TheVariants as kinds
use Rattle.heap_model.specs.declared.Layer.TheVariants as layers
use Rattle.heap_model.specs.declared.Reply.TheVariants as replies
use Rattle.heap_model.specs.declared.What.TheVariants as whats
use Rattle.heap_model.specs.Backend.{back_place}
use Rattle.heap_model.specs.Geometry.{page_bytes, units_of, span_pages_of}
use Rattle.heap_model.specs.Layers.{StandsForVs, StandsForBack}
use Rattle.heap_model.specs.Legal.{leaves_whole, has_place, is_begin}
use Rattle.heap_model.specs.Marks.{vs_mark}
use Rattle.heap_model.specs.Ranges.{gaps_of, vs_place}
use Rattle.heap_model.specs.Runs.{Run}
use Rattle.heap_model.specs.Search.{span_at}
use Rattle.heap_model.specs.Shape.{Replied, shape_of, zeroing}
use Rattle.heap_model.specs.State.{State, Span, insert_span}
use Rattle.claim_rule.specs.Places.{vs_slot, back_slot}
use Rattle.serial_laws.specs.VsCalls.{area_closed}
use Rattle.backend_fit.specs.Effects.{part_with, marked_run}
use Rattle.backend_fit.specs.Kept.{Kept, area_of}
use Rattle.backend_fit.specs.Kept as backs
use Rattle.call_laws.specs.Spans.{vs_acts}
use Rattle.heap_gate.specs.Token.{Token, Always, now}
use Rattle.vs_layer.specs.Effects.{TellsLast}
use Rattle.vs_layer.specs.Kept.{VsKept, vs_span, places_of, place_for, block_at, block_in}
use Rattle.vs_layer.specs.Standing.{layer_of, Becomes, with_block}
use Rattle.call_parts.specs.Calls.{HoldsVs, HoldsBoth, Makes, Brings, MeetsBusy}
use Rattle.call_parts.specs.Entries.{with_all, HasEnded}
use Rattle.vs_calls.specs.Blocks.{IsForVs, size_at}
use Rattle.vs_calls.specs.Tries.{tries_none}

---- The call

-- so it is of the call that the caller is in
abbrev pub ForCall : Token → (Call → Type 0) → Type 0
ForCall c P = (call : Call) → c.call ≡ Some call → P call

-- The caller allocates n bytes, a size of this layer, to be zeroed or not; it has the state of VS, and each span of VS has a place ..
pub record IsPlacing (c : Token) (vs : VsKept) (n : ℕ) (zero : Bool) : Type 0 where
  pub flags : Flags
  pub zero_is : flags.zero ≡ zero
  pub holds : HoldsVs c (calls.Alloc n flags) vs
  pub used : Always c (λ s. leaves_whole (now s c).state whats.Vs ≡ true)
  pub bucket : IsForVs c n

-- .. and that of the back end too, since no gap fits.
pub record IsPlacingAnew (c : Token) (vs : VsKept) (back : Kept) (n : ℕ) (zero : Bool) : Type 0 where
  pub flags : Flags
  pub zero_is : flags.zero ≡ zero
  pub holds : HoldsBoth c (calls.Alloc n flags) vs back
  pub used : Always c (λ s. leaves_whole (now s c).state whats.Vs ≡ true)
  pub bucket : IsForVs c n
  pub no_gap : place_for vs n ≡ None

---- What the parts do

-- the block is placed, and given at this address
abbrev pub Places : Token → Token → ℕ → Type 0
Places old new addr = ForCall old (λ call. Brings old new call (Replied (replies.Address addr)))

-- no range fits
abbrev pub Refuses : Token → Token → Type 0
Refuses old new = ForCall old (λ call. Brings old new call (Replied replies.NoFit))

-- No gap fits, and no range is there for a new span, or another holds the lock of the back end.
abbrev pub IsRefused : VsKept → ℕ → Token → Token → AllocNo → Type 0
IsRefused vs n old new alloc_nos.NoFit = (place_for vs n ≡ None) × Refuses old new
IsRefused vs n old new (alloc_nos.Busy b) = (place_for vs n ≡ None) × ForCall old (λ call. MeetsBusy old new call b whats.Back)

-- the block at an address, which had this size, is taken, and its place goes
pub record HasFreed (old new : Token) (vs : VsKept) (addr : ℕ) : Type 0 where
  pub size : ℕ
  pub size_is : size_at vs addr ≡ Some size
  pub made : ForCall old (λ call. Makes old new call (acts.Take addr size ∷ acts.Drop addr ∷ []))

-- .. with these entries, behind which the caller holds no lock
pub record HasDroppedBy (old new : Token) (vs : VsKept) (addr : ℕ) (more : List Act) : Type 0 where
  pub size : ℕ
  pub size_is : size_at vs addr ≡ Some size
  pub ended : HasEnded old new (acts.Take addr size ∷ acts.Drop addr ∷ more) []

-- Another holds the lock of the back end, to which the span of the block would go, and the block stays.
pub record KeepsBlock (old new : Token) (vs : VsKept) (addr : ℕ) (b : Busy) : Type 0 where
  pub last : TellsLast vs addr true
  pub busy : ForCall old (λ call. MeetsBusy old new call b whats.Back)

-- A new block of n bytes is placed and given, and the caller holds no lock then. The lock of the back end is not tried.
pub record HasPlaced (old new : Token) (n addr : ℕ) (zero : Bool) : Type 0 where
  pub first : ℕ
  pub granules : ℕ
  pub rest : List Act
  pub at : addr ≡ 16 * first + 16
  pub ended : HasEnded old new rest []
  pub no_begin : list_all (λ act. not (is_begin act)) rest ≡ true
  pub no_back : tries_none whats.Back rest ≡ true
  pub shape_is : shape_of rest ≡ acts.Place (16 * first) granules layers.Vs ∷ (zeroing zero addr n ++ acts.Give addr n ∷ [])

---- A span that goes

-- the state without the span that begins at a page
abbrev pub without_span : State → ℕ → State
without_span st first = record st { back = record { area = area_closed st.back.area first; places = st.back.places } }

-- a span of VS begins at this page, and no block is left in it
pub record IsEmptySpan (st : State) (first : ℕ) : Type 0 where
  pub span : Span
  pub there : span_at st.back.area first ≡ Some span
  pub kind : span.kind ≡ kinds.Vs
  pub none : has_place page_bytes st.vs.places span ≡ false

-- The caller is in its call under the locks of VS and of the back end, that taken last. VS tells the state without the span that begins at this page, in
-- which no block is left; each other span of VS has a place.
pub record MayEndSpan (c : Token) (vs : VsKept) (back : Kept) (first : ℕ) : Type 0 where
  pub call : Call
  pub call_is : c.call ≡ Some call
  pub inside : c.inside ≡ true
  pub whole : c.whole ≡ true
  pub free : c.free ≡ true
  pub out_is : c.out ≡ back_slot ∷ vs_slot ∷ []
  pub owes : c.owes ≡ []
  pub empty : Always c (λ s. IsEmptySpan (now s c).state first)
  pub used : Always c (λ s. leaves_whole (without_span (now s c).state first) whats.Vs ≡ true)
  pub tells_vs : Always c (λ s. StandsForVs c.opening (without_span (now s c).state first) (layer_of vs))
  pub tells_back : Always c (λ s. StandsForBack c.opening (now s c).state (backs.layer_of back))

---- A new span

-- the entries of a block of n bytes in a new span at this page, for which a segment is reserved where that of the page is not
abbrev pub span_acts : ℕ → ℕ → ℕ → Run → List Act
span_acts reserved first n r = if nat_lt (first / 256) reserved then vs_acts first n r else acts.Reserve reserved ∷ vs_acts first n r

-- No gap holds n bytes. The back end has pages for a span of them, the first at this page, and the block has its place in this span.
pub record HasRange (vs : VsKept) (back : Kept) (n first : ℕ) (run : Run) : Type 0 where
  pub no_gap : place_for vs n ≡ None
  pub pages : back_place (area_of back) back.limits.segments (span_pages_of n) ≡ Some first
  pub fits : vs_place (gaps_of (insert_span (vs_span first (span_pages_of n)) vs.spans) (places_of vs)) (units_of n) ≡ Some run

-- A block of n bytes is in hand in a new span: the span and the place are prepared, and once the block is given both layers tell it.
pub record HasHeldAnew (old new : Token) (vs later : VsKept) (back more : Kept) (n addr : ℕ) : Type 0 where
  pub first : ℕ
  pub run : Run
  pub range : HasRange vs back n first run
  pub at : addr ≡ 16 * run.first + 16
  pub there : block_at later addr ≡ Some (block_in run n)
  pub prepared : new ≡ with_all old (span_acts (area_of back).reserved first n run)
  pub becomes : Becomes vs later (λ v. with_block v run n) (insert_span (vs_span first (span_pages_of n)))
  pub becomes_back : backs.Becomes back more (λ b. part_with b (marked_run first (span_pages_of n) vs_mark))

-- .. or the back end has no pages for a span, and nothing has changed
pub record HasNoRange (old new : Token) (vs later : VsKept) (back more : Kept) (n : ℕ) : Type 0 where
  pub no_pages : back_place (area_of back) back.limits.segments (span_pages_of n) ≡ None
  pub same : new ≡ old
  pub same_vs : later ≡ vs
  pub same_back : more ≡ back
