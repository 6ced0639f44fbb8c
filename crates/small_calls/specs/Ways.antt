-- What the ways of an allocation come to.
use Rattle.std.specs.Prelude.{◌≡◌, ◌⊎◌, ℕ, Bool, true, false, List, [], ◌∷◌}
use Rattle.heap_model.specs.declared.Act.{Act}
use Rattle.heap_model.specs.declared.Act.TheVariants as acts
use Rattle.heap_model.specs.declared.What.TheVariants as whats
use Rattle.heap_model.specs.Legal.{leaves_whole}
use Rattle.heap_model.specs.Layers.{StandsForVs}
use Rattle.claim_rule.specs.Places.{vs_slot}
use Rattle.heap_gate.specs.Token.{Token, Always, now}
use Rattle.vs_layer.specs.Kept.{VsKept}
use Rattle.vs_layer.specs.Standing.{layer_of}
use Rattle.call_parts.specs.Calls.{GoesOn, MeetsBusy}
use Rattle.vs_calls.specs.Blocks.{IsForVs}
use Rattle.lfh_search.specs.Hints.{HasSpentHint}
use Rattle.paged_calls.specs.Parts.{ForCall, Places}
use Rattle.small_calls.specs.Fronts.{IsAsking}
use Rattle.small_calls.specs.declared.ways.FirstTry.{FirstTry}
use Rattle.small_calls.specs.declared.ways.FirstTry.TheVariants.{Inactive, Placed, Spent}
use Rattle.small_calls.specs.declared.under_vs.WithVs.{WithVs}
use Rattle.small_calls.specs.declared.under_vs.WithVs.TheVariants as with_vs
use Rattle.small_calls.specs.declared.under_vs.UnderVs.{UnderVs}
use Rattle.small_calls.specs.declared.under_vs.UnderVs.TheVariants as under_vs

---- The first try

-- The caller stands as it did: it has read the active word of the bucket, which is not active.
pub record IsInactive (old new : Token) (n : ℕ) (zero : Bool) : Type 0 where
  pub goes : GoesOn old new []
  pub call : new.call ≡ old.call
  pub asking : IsAsking new n zero []

-- The search of its call, which is that of the bucket and the draw, is to go on under Back.
pub record IsSpent (old new : Token) (n : ℕ) (zero : Bool) (b d lost : ℕ) : Type 0 where
  pub begun : Token
  pub goes : GoesOn old begun []
  pub call : begun.call ≡ old.call
  pub asking : IsAsking begun n zero []
  pub spent : HasSpentHint (record begun { drawn = true }) new b d lost

abbrev pub Tries : Token → Token → ℕ → ℕ → Bool → FirstTry → Type 0
Tries old new b n zero Inactive = IsInactive old new n zero
Tries old new b n zero (Placed addr) = Places old new addr
Tries old new b n zero (Spent lost draw) = IsSpent old new n zero b draw.value lost

---- Under the lock of VS

-- The caller allocates n bytes, holds VS alone, and has its state; each span of VS has a place.
pub record AsksUnderVs (c : Token) (n : ℕ) (zero : Bool) (vs : VsKept) : Type 0 where
  pub asking : IsAsking c n zero (vs_slot ∷ [])
  pub tells : Always c (λ s. StandsForVs c.opening (now s c).state (layer_of vs))
  pub used : Always c (λ s. leaves_whole (now s c).state whats.Vs ≡ true)

-- The bucket is active, which it may have become by the caller.
pub record IsFrontNow (old new : Token) (later : VsKept) (n : ℕ) (zero : Bool) (b : ℕ) : Type 0 where
  pub its : List Act
  pub its_are : (its ≡ []) ⊎ (its ≡ acts.Active b ∷ [])
  pub goes : GoesOn old new its
  pub asks : AsksUnderVs new n zero later
  pub call : new.call ≡ old.call
  pub active : Always new (λ s. (now s new).state.vs.active b ≡ true)

-- It is neither active nor due.
pub record IsNotFront (old new : Token) (vs later : VsKept) (n : ℕ) : Type 0 where
  pub same : new ≡ old
  pub vs_is : later ≡ vs
  pub for_vs : IsForVs new n

abbrev pub LooksUnderVs : Token → Token → VsKept → VsKept → ℕ → Bool → ℕ → Bool → Type 0
LooksUnderVs old new vs later n zero b true = IsFrontNow old new later n zero b
LooksUnderVs old new vs later n zero b false = IsNotFront old new vs later n

---- With the lock of VS

-- VS is as its state tells, and each of its spans has a place.
pub record KeepsVs (c : Token) (vs : VsKept) : Type 0 where
  pub tells : Always c (λ s. StandsForVs c.opening (now s c).state (layer_of vs))
  pub used : Always c (λ s. leaves_whole (now s c).state whats.Vs ≡ true)

-- The search of the call is to go on under Back, and the lock of VS is held still.
pub record IsSpentWithVs (old new : Token) (b d lost : ℕ) (vs : VsKept) : Type 0 where
  pub spent : HasSpentHint (record old { drawn = true }) new b d lost
  pub keeps : KeepsVs new vs

-- the block is given, and so is the lock
abbrev pub ServesWithVs : Token → Token → ℕ → WithVs → Type 0
ServesWithVs old new b (with_vs.Placed addr) = Places old new addr
ServesWithVs old new b (with_vs.Spent vs lost draw) = IsSpentWithVs old new b draw.value lost vs

-- The lock was taken, and its state says that the bucket is none of the front end.
pub record IsForVsNow (old new : Token) (n : ℕ) (zero : Bool) (vs : VsKept) : Type 0 where
  pub goes : GoesOn old new (acts.TakeLock whats.Vs ∷ [])
  pub call : new.call ≡ old.call
  pub asks : AsksUnderVs new n zero vs
  pub for_vs : IsForVs new n

-- The lock was taken, the bucket is active, which it may have become by the caller, and the search is to go on under Back.
pub record IsSpentUnderVs (old new : Token) (n : ℕ) (zero : Bool) (b d lost : ℕ) (vs : VsKept) : Type 0 where
  pub begun : Token
  pub its : List Act
  pub its_are : (its ≡ []) ⊎ (its ≡ acts.Active b ∷ [])
  pub goes : GoesOn old begun (acts.TakeLock whats.Vs ∷ its)
  pub call : begun.call ≡ old.call
  pub asking : IsAsking begun n zero (vs_slot ∷ [])
  pub spent : IsSpentWithVs begun new b d lost vs

abbrev pub TriesUnderVs : Token → Token → ℕ → ℕ → Bool → UnderVs → Type 0
TriesUnderVs old new b n zero (under_vs.Busy busy) = ForCall old (λ call. MeetsBusy old new call busy whats.Vs)
TriesUnderVs old new b n zero (under_vs.Placed addr) = Places old new addr
TriesUnderVs old new b n zero (under_vs.ForVs vs) = IsForVsNow old new n zero vs
TriesUnderVs old new b n zero (under_vs.Spent vs lost draw) = IsSpentUnderVs old new n zero b draw.value lost vs
