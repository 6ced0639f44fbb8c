-- An allocation of a bucket that the front end cannot serve, and all that an allocation of at most 131,072 bytes may be refused for.
use Rattle.std.specs.Prelude.{◌≡◌, ◌⊎◌, ℕ, Bool, Some, None, [], ◌∷◌, if◌then◌else◌}
use Rattle.heap_model.specs.declared.Act.TheVariants as acts
use Rattle.heap_model.specs.declared.AllocNo.{AllocNo}
use Rattle.heap_model.specs.declared.AllocNo.TheVariants as alloc_nos
use Rattle.heap_model.specs.declared.Call.TheVariants as calls
use Rattle.heap_model.specs.declared.Flags.{Flags}
use Rattle.heap_model.specs.declared.Reply.TheVariants as replies
use Rattle.heap_model.specs.declared.What.TheVariants as whats
use Rattle.heap_model.specs.Backend.{back_place}
use Rattle.heap_model.specs.Buckets.{bucket_of}
use Rattle.heap_model.specs.Geometry.{span_pages_of}
use Rattle.heap_model.specs.Shape.{Replied}
use Rattle.backend_fit.specs.Kept.{Kept, area_of}
use Rattle.heap_gate.specs.Token.{Token}
use Rattle.vs_layer.specs.Kept.{VsKept, place_for}
use Rattle.call_parts.specs.Calls.{Brings}
use Rattle.paged_calls.specs.Parts.{ForCall}
use Rattle.lfh_spans.specs.Subsegments.{IsBackOf}
use Rattle.lfh_search.specs.Under.{CannotBeServed}
use Rattle.small_calls.specs.GoingOn.{HasSearched, IsForVsAt}
use Rattle.small_calls.specs.Served.{IsRefusedSmall}
use Rattle.small_calls.specs.Ways.{KeepsVs}
use Rattle.fall_calls.specs.Both.{both_slots}

---- Under both locks

-- The caller allocates n bytes, has the states of VS and of the back end, and the front end cannot serve the bucket.
pub record FallsToVs (c : Token) (vs : VsKept) (back : Kept) (n : ℕ) (zero vs_last : Bool) : Type 0 where
  pub flags : Flags
  pub zero_is : flags.zero ≡ zero
  pub stands : HasSearched c (calls.Alloc n flags) (both_slots vs_last)
  pub bucket : ℕ
  pub bucket_is : bucket_of n ≡ Some bucket
  pub keeps : KeepsVs c vs
  pub back_is : IsBackOf c back
  pub cannot : CannotBeServed c bucket

-- no gap holds n bytes, and no range has the pages of a span for them
pub record HasNoRoom (vs : VsKept) (back : Kept) (n : ℕ) : Type 0 where
  pub no_gap : place_for vs n ≡ None
  pub no_pages : back_place (area_of back) back.limits.segments (span_pages_of n) ≡ None

---- From before the search

-- The call came so far: behind its NoSpan the front end could not serve it, and both locks are held.
abbrev pub IsFallen : Token → Token → VsKept → Kept → ℕ → Bool → Bool → Type 0
IsFallen first c vs back n zero vs_last = (b : ℕ) × (bucket_of n ≡ Some b) × IsForVsAt first c vs back b n zero (if vs_last then acts.TakeLock whats.Vs ∷ [] else []) (both_slots vs_last)

-- Both locks were held, where the front end could not serve the bucket, and there was no room in VS either.
pub record IsRefusedBehind (old new : Token) (n : ℕ) : Type 0 where
  pub zero : Bool
  pub vs_last : Bool
  pub at : Token
  pub vs : VsKept
  pub back : Kept
  pub fallen : IsFallen old at vs back n zero vs_last
  pub none : HasNoRoom vs back n
  pub refused : ForCall old (λ call. Brings old new call (Replied replies.NoFit))

-- No block of n bytes: VS refuses the size, or it does behind the front end; or a lock that the call needs was met busy.
abbrev pub IsRefused : ℕ → Token → Token → AllocNo → Type 0
IsRefused n old new alloc_nos.NoFit = IsRefusedSmall n old new alloc_nos.NoFit ⊎ IsRefusedBehind old new n
IsRefused n old new (alloc_nos.Busy busy) = IsRefusedSmall n old new (alloc_nos.Busy busy)
