-- What an allocation comes to whose first pass of the front end is spent.
use Rattle.std.specs.Prelude.{◌≡◌, ◌⊎◌, ℕ, ◌≤◌, Bool, true, false, not, Some, length, List, [], ◌∷◌, ◌++◌}
use Rattle.std.specs.List.{list_all}
use Rattle.heap_model.specs.declared.Act.{Act}
use Rattle.heap_model.specs.declared.Act.TheVariants as acts
use Rattle.heap_model.specs.declared.Busy.{Busy}
use Rattle.heap_model.specs.declared.Call.{Call}
use Rattle.heap_model.specs.declared.Call.TheVariants as calls
use Rattle.heap_model.specs.declared.Flags.{Flags}
use Rattle.heap_model.specs.declared.What.TheVariants as whats
use Rattle.heap_model.specs.Legal.{is_begin}
use Rattle.heap_model.specs.Shape.{shape_of}
use Rattle.claim_rule.specs.Places.{vs_slot, back_slot}
use Rattle.backend_fit.specs.Kept.{Kept}
use Rattle.vs_layer.specs.Kept.{VsKept}
use Rattle.heap_gate.specs.Calls.{HasMissed}
use Rattle.heap_gate.specs.Token.{Token, is_out}
use Rattle.call_parts.specs.Calls.{GoesOn, MeetsBusy}
use Rattle.paged_calls.specs.Parts.{ForCall, Places}
use Rattle.lfh_claims.specs.Search.{own_slot}
use Rattle.lfh_search.specs.declared.course.Course.{Course}
use Rattle.lfh_search.specs.Acts.{AreReadings}
use Rattle.lfh_search.specs.Hints.{IsSpentBy, HasSpentHint}
use Rattle.lfh_search.specs.Under.{HasNoPages, CannotBeServed}
use Rattle.lfh_spans.specs.Subsegments.{IsBackOf}
use Rattle.small_calls.specs.Fronts.{IsAsking}
use Rattle.small_calls.specs.Ways.{KeepsVs}
use Rattle.small_calls.specs.Under.{SearchesOn, IsServedUnderBack}
use Rattle.small_calls.specs.declared.spent.BehindSpent.{BehindSpent}
use Rattle.small_calls.specs.declared.spent.BehindSpent.TheVariants as behind
use Rattle.small_calls.specs.declared.no_room.BehindNoSpan.{BehindNoSpan}
use Rattle.small_calls.specs.declared.no_room.BehindNoSpan.TheVariants as no_span
use Rattle.small_calls.specs.declared.with_both.WithBack.{WithBack}
use Rattle.small_calls.specs.declared.with_both.WithBack.TheVariants as with_back

---- The lock of the back end is taken

-- The caller allocates n bytes with these locks, and has spent the first pass of its search since it stood as `begun`.
pub record HasSpent (c : Token) (n : ℕ) (zero : Bool) (b d lost : ℕ) (out : List ℕ) : Type 0 where
  pub begun : Token
  pub asking : IsAsking begun n zero out
  pub spent : HasSpentHint (record begun { drawn = true }) c b d lost

-- The lock was taken. No block is free, and no range has the pages of a subsegment: NoSpan is prepared, and the lock is held still.
pub record IsWithoutRoom (old new : Token) (after : Kept) (course : Course) (lost now_lost n : ℕ) (zero : Bool) (out : List ℕ) : Type 0 where
  pub taken : Token
  pub goes : GoesOn old taken (acts.TakeLock whats.Back ∷ [])
  pub call : taken.call ≡ old.call
  pub back : Kept
  pub on : SearchesOn taken back course lost n zero out
  pub none : HasNoPages taken new back after course lost now_lost
  pub keeps : (vs : VsKept) → is_out whats.Vs old.out ≡ true → KeepsVs old vs → KeepsVs new vs

-- another has the lock, or a block is given and then the lock, or there is no room
abbrev pub ComesUnderBack : Token → Token → Course → ℕ → Call → ℕ → Bool → List ℕ → BehindSpent → Type 0
ComesUnderBack old new course lost call n zero out (behind.Busy busy) = HasMissed old new whats.Back busy.what busy.word
ComesUnderBack old new course lost call n zero out (behind.Placed addr) = IsServedUnderBack old new call course.bucket n zero addr out
ComesUnderBack old new course lost call n zero out (behind.NoRoom after now_lost) = IsWithoutRoom old new after course lost now_lost n zero out

---- Why a lock is met busy

-- Another has the lock of the back end, to which the caller came behind these readings, which spent the first pass of its search.
pub record IsBusyAtBack (old new : Token) (call : Call) (b d lost : ℕ) (busy : Busy) : Type 0 where
  pub meets : MeetsBusy old new call busy whats.Back
  pub begun : Token
  pub at_first : GoesOn old begun []
  pub its : List Act
  pub are : AreReadings its
  pub why : IsSpentBy b (own_slot begun) d lost its
  pub goes : GoesOn begun new (its ++ acts.Blocked whats.Back busy.word ∷ [])

-- Another has the lock of VS, to which the caller came behind its NoSpan; it has given the lock of the back end back.
pub record IsBusyAtVs (old new : Token) (call : Call) (b : ℕ) (busy : Busy) : Type 0 where
  pub meets : MeetsBusy old new call busy whats.Vs
  pub first : List Act
  pub goes : GoesOn old new (first ++ acts.NoSpan b ∷ acts.Blocked whats.Vs busy.word ∷ acts.GiveLock whats.Back ∷ [])

---- Without a lock

-- the lock of the back end is met busy, or a block is given, or there is no room, and the lock is held still
abbrev pub TriesUnderBack : Token → Token → Token → Course → ℕ → ℕ → Bool → BehindSpent → Type 0
TriesUnderBack first old new course lost n zero (behind.Busy busy) = ForCall first (λ call. IsBusyAtBack first new call course.bucket course.draw.value lost busy)
TriesUnderBack first old new course lost n zero (behind.Placed addr) = Places first new addr
TriesUnderBack first old new course lost n zero (behind.NoRoom after now_lost) = IsWithoutRoom old new after course lost now_lost n zero []

---- With the lock of VS

-- Another has the lock of the back end; the caller came to it as above, with the lock of VS, which it took first and has given back.
pub record IsBusyWithVs (old new : Token) (call : Call) (b d lost : ℕ) (busy : Busy) : Type 0 where
  pub meets : MeetsBusy old new call busy whats.Back
  pub begun : Token
  pub front : List Act
  pub front_is : (front ≡ []) ⊎ (front ≡ acts.Active b ∷ [])
  pub at_first : GoesOn old begun (acts.TakeLock whats.Vs ∷ front)
  pub its : List Act
  pub are : AreReadings its
  pub why : IsSpentBy b (own_slot begun) d lost its
  pub goes : GoesOn begun new (its ++ acts.Blocked whats.Back busy.word ∷ acts.GiveLock whats.Vs ∷ [])

-- there is no room, and both locks are held still
pub record IsWithoutRoomWithVs (old new : Token) (vs : VsKept) (after : Kept) (course : Course) (lost now_lost n : ℕ) (zero : Bool) : Type 0 where
  pub none : IsWithoutRoom old new after course lost now_lost n zero (vs_slot ∷ [])
  pub keeps : KeepsVs new vs

abbrev pub TriesWithVs : Token → Token → Token → Course → ℕ → ℕ → Bool → WithBack → Type 0
TriesWithVs first old new course lost n zero (with_back.Busy busy) = ForCall first (λ call. IsBusyWithVs first new call course.bucket course.draw.value lost busy)
TriesWithVs first old new course lost n zero (with_back.Placed addr) = Places first new addr
TriesWithVs first old new course lost n zero (with_back.NoRoom vs after now_lost) = IsWithoutRoomWithVs old new vs after course lost now_lost n zero

---- Behind NoSpan

-- Another has the lock of VS, and the lock of the back end was given back.
pub record IsBusyBehind (old new : Token) (call : Call) (busy : Busy) : Type 0 where
  pub meets : MeetsBusy old new call busy whats.Vs
  pub goes : GoesOn old new (acts.Blocked whats.Vs busy.word ∷ acts.GiveLock whats.Back ∷ [])

-- The caller is in this call with these locks, and has nothing in hand; it has searched, and no more than its NoSpan is prepared.
pub record HasSearched (c : Token) (call : Call) (out : List ℕ) : Type 0 where
  pub call_is : c.call ≡ Some call
  pub fresh : c.fresh ≡ false
  pub inside : c.inside ≡ true
  pub out_is : c.out ≡ out
  pub whole : c.whole ≡ true
  pub free : c.free ≡ true
  pub pending : c.pending ≡ false
  pub searched : c.searched ≡ true
  pub drawn : c.drawn ≡ true
  pub owes : c.owes ≡ []
  pub few : length c.prepared ≤ 1

-- Both locks are held, for which these acts were added. The front end cannot serve the size, behind these readings.
pub record IsForVsBehind (old new : Token) (vs : VsKept) (back : Kept) (b n : ℕ) (zero : Bool) (taking : List Act) (out : List ℕ) : Type 0 where
  pub flags : Flags
  pub zero_is : flags.zero ≡ zero
  pub its : List Act
  pub are : AreReadings its
  pub goes : GoesOn old new (taking ++ its)
  pub call : new.call ≡ old.call
  pub stands : HasSearched new (calls.Alloc n flags) out
  pub keeps : KeepsVs new vs
  pub back_is : IsBackOf new back
  pub cannot : CannotBeServed new b

-- the lock is met busy, or a block of the front end is given, or VS serves the size
abbrev pub SearchesWithVs : Token → Token → ℕ → ℕ → Bool → BehindNoSpan → Type 0
SearchesWithVs old new b n zero (no_span.Busy busy) = ForCall old (λ call. IsBusyBehind old new call busy)
SearchesWithVs old new b n zero (no_span.Placed addr) = Places old new addr
SearchesWithVs old new b n zero (no_span.ForVs vs back) = IsForVsBehind old new vs back b n zero (acts.TakeLock whats.Vs ∷ []) (vs_slot ∷ back_slot ∷ [])

---- What it comes to

-- VS serves the size, and both locks are held: so it is behind the caller's NoSpan. What came before it shows nothing.
pub record IsForVsAt (old new : Token) (vs : VsKept) (back : Kept) (b n : ℕ) (zero : Bool) (taking : List Act) (out : List ℕ) : Type 0 where
  pub at : Token
  pub first : List Act
  pub goes : GoesOn old at (first ++ acts.NoSpan b ∷ [])
  pub call : at.call ≡ old.call
  pub no_begin : list_all (λ act. not (is_begin act)) first ≡ true
  pub shape_is : shape_of first ≡ []
  pub for_vs : IsForVsBehind at new vs back b n zero taking out

-- another has a lock: of the back end, or of VS behind NoSpan; or a block is given; or VS serves the size
abbrev pub GoneOn : Token → Token → ℕ → ℕ → ℕ → ℕ → Bool → BehindNoSpan → Type 0
GoneOn old new b d lost n zero (no_span.Busy busy) = ForCall old (λ call. IsBusyAtBack old new call b d lost busy ⊎ IsBusyAtVs old new call b busy)
GoneOn old new b d lost n zero (no_span.Placed addr) = Places old new addr
GoneOn old new b d lost n zero (no_span.ForVs vs back) = IsForVsAt old new vs back b n zero (acts.TakeLock whats.Vs ∷ []) (vs_slot ∷ back_slot ∷ [])

---- What it comes to with the lock of VS

-- behind NoSpan: a block of the front end is given, or VS serves the size
abbrev pub SearchesAgain : Token → Token → ℕ → ℕ → Bool → BehindNoSpan → Type 0
SearchesAgain old new b n zero (no_span.Busy busy) = ⊥
SearchesAgain old new b n zero (no_span.Placed addr) = Places old new addr
SearchesAgain old new b n zero (no_span.ForVs vs back) = IsForVsBehind old new vs back b n zero [] (back_slot ∷ vs_slot ∷ [])

-- the lock of the back end is met busy, or a block is given, or VS serves the size
abbrev pub GoneOnWithVs : Token → Token → ℕ → ℕ → ℕ → ℕ → Bool → BehindNoSpan → Type 0
GoneOnWithVs old new b d lost n zero (no_span.Busy busy) = ForCall old (λ call. IsBusyWithVs old new call b d lost busy)
GoneOnWithVs old new b d lost n zero (no_span.Placed addr) = Places old new addr
GoneOnWithVs old new b d lost n zero (no_span.ForVs vs back) = IsForVsAt old new vs back b n zero [] (back_slot ∷ vs_slot ∷ [])
