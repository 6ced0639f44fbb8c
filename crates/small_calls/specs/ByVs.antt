-- What an allocation comes to that the variable-size layer serves.
use Rattle.std.specs.Prelude.{◌≡◌, ◌⊎◌, ℕ, Bool, Some, None, [], ◌∷◌}
use mathlib.Core.List.{IsPrefix}
use Rattle.heap_model.specs.declared.Act.TheVariants as acts
use Rattle.heap_model.specs.declared.AllocNo.{AllocNo}
use Rattle.heap_model.specs.declared.AllocNo.TheVariants as alloc_nos
use Rattle.heap_model.specs.declared.Reply.TheVariants as replies
use Rattle.heap_model.specs.declared.What.TheVariants as whats
use Rattle.heap_model.specs.Buckets.{bucket_of}
use Rattle.heap_model.specs.Layers.{StandsForVs}
use Rattle.heap_model.specs.Shape.{Replied}
use Rattle.heap_gate.specs.Token.{Token, Always, now}
use Rattle.vs_layer.specs.Kept.{VsKept, place_for}
use Rattle.vs_layer.specs.Standing.{layer_of}
use Rattle.call_parts.specs.Calls.{GoesOn, Brings, MeetsBusy}
use Rattle.paged_calls.specs.Parts.{ForCall, Places}
use Rattle.small_calls.specs.Ways.{IsSpentUnderVs}
use Rattle.small_calls.specs.declared.by_vs.SmallTry.{SmallTry}
use Rattle.small_calls.specs.declared.by_vs.SmallTry.TheVariants.{Placed, Refused, SpentUnderVs}

-- The lock of VS was taken, and by the state that it guarded no gap holds n bytes.
pub record HasNoGap (old new : Token) (n : ℕ) : Type 0 where
  pub held : Token
  pub vs : VsKept
  pub goes : GoesOn old held (acts.TakeLock whats.Vs ∷ [])
  pub later : IsPrefix held.seen new.seen
  pub tells : Always held (λ s. StandsForVs held.opening (now s held).state (layer_of vs))
  pub none : place_for vs n ≡ None

-- No gap holds n bytes, and no range is there for a new span, or another holds the lock of the back end; or another holds that of VS.
abbrev pub IsRefusedByVs : ℕ → Token → Token → AllocNo → Type 0
IsRefusedByVs n old new alloc_nos.NoFit = HasNoGap old new n × ForCall old (λ call. Brings old new call (Replied replies.NoFit))
IsRefusedByVs n old new (alloc_nos.Busy b) = ForCall old (λ call. MeetsBusy old new call b whats.Vs) ⊎ (HasNoGap old new n × ForCall old (λ call. MeetsBusy old new call b whats.Back))

-- What an allocation comes to whose bucket was not active. Where it became so, and the first pass of its search is spent, the search is to go on under Back, with
-- the lock of VS.
abbrev pub TriesSmall : Token → Token → ℕ → Bool → SmallTry → Type 0
TriesSmall old new n zero (Placed addr) = Places old new addr
TriesSmall old new n zero (Refused why) = IsRefusedByVs n old new why
TriesSmall old new n zero (SpentUnderVs vs b lost draw) = (bucket_of n ≡ Some b) × IsSpentUnderVs old new n zero b draw.value lost vs
