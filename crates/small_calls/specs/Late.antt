-- How late an allocation tries the locks: that of the back end behind the spent first pass of its search, or where VS has no gap; that of VS, where its bucket
-- was seen active, behind its NoSpan.
use Rattle.std.specs.Prelude.{◌≡◌, ◌⊎◌, ℕ, true, List, [], ◌∷◌, ◌++◌, Some, None}
use mathlib.Core.List.{IsPrefix}
use Rattle.heap_model.specs.declared.Act.{Act}
use Rattle.heap_model.specs.declared.Act.TheVariants as acts
use Rattle.heap_model.specs.declared.What.TheVariants as whats
use Rattle.heap_model.specs.Buckets.{bucket_of}
use Rattle.heap_model.specs.Geometry.{units_of}
use Rattle.heap_model.specs.Ranges.{gaps, vs_place}
use Rattle.heap_soundness.specs.Sound.{IsOneOf}
use Rattle.claim_rule.specs.Entries.{entry}
use Rattle.heap_gate.specs.Token.{Token, Always, now}
use Rattle.call_parts.specs.Calls.{GoesOn}
use Rattle.lfh_claims.specs.Search.{own_slot}
use Rattle.lfh_search.specs.Acts.{AreReadings, losses}
use Rattle.lfh_search.specs.Hints.{IsSpentBy}
use Rattle.vs_calls.specs.Tries.{tries_none, TriesBehind, LeavesBack}
use Rattle.small_calls.specs.declared.ways.FirstTry.{FirstTry}
use Rattle.small_calls.specs.declared.ways.FirstTry.TheVariants as first_try
use Rattle.small_calls.specs.declared.under_vs.WithVs.{WithVs}
use Rattle.small_calls.specs.declared.under_vs.WithVs.TheVariants as with_vs
use Rattle.small_calls.specs.declared.under_vs.UnderVs.{UnderVs}
use Rattle.small_calls.specs.declared.under_vs.UnderVs.TheVariants as under_vs
use Rattle.small_calls.specs.declared.by_vs.SmallTry.{SmallTry}
use Rattle.small_calls.specs.declared.by_vs.SmallTry.TheVariants as tries
use Rattle.small_calls.specs.declared.serving.SmallCall.{SmallCall}
use Rattle.small_calls.specs.declared.serving.SmallCall.TheVariants as ends

---- What comes before

-- Among the acts are readings that spent the first pass of a search for the bucket and the caller's slot.
pub record HasSpentFirst (old : Token) (b : ℕ) (before : List Act) : Type 0 where
  pub earlier : List Act
  pub its : List Act
  pub later : List Act
  pub parts : before ≡ earlier ++ (its ++ later)
  pub are : AreReadings its
  pub at : Token
  pub goes : GoesOn old at earlier
  pub draw : ℕ
  pub why : IsSpentBy b (own_slot at) draw (losses its) its

-- some caller's Active of the bucket is in the list that this one has seen
abbrev pub HasSeenActive : Token → ℕ → Type 0
HasSeenActive c b = (n : ℕ) × IsOneOf (entry n (acts.Active b)) c.seen

---- In an active bucket

-- The caller's list goes on by acts that try neither lock.
pub record TriesNeither (old new : Token) : Type 0 where
  pub added : List Act
  pub goes : GoesOn old new added
  pub back : tries_none whats.Back added ≡ true
  pub vs : tries_none whats.Vs added ≡ true

-- .. or that try the lock of the back end behind a spent first pass alone, and that of VS behind NoSpan alone
pub record TriesLate (old new : Token) (b : ℕ) : Type 0 where
  pub added : List Act
  pub goes : GoesOn old new added
  pub back : TriesBehind whats.Back (HasSpentFirst old b) added
  pub vs : TriesBehind whats.Vs (IsOneOf (acts.NoSpan b)) added

-- .. and both are behind the caller
pub record HasTriedLate (old new : Token) (b : ℕ) : Type 0 where
  pub late : TriesLate old new b
  pub spent : HasSpentFirst old b late.added
  pub said : IsOneOf (acts.NoSpan b) late.added

-- what a caller adds that has spent its first pass
pub record GoesLate (old new : Token) (b : ℕ) : Type 0 where
  pub rest : List Act
  pub goes : GoesOn old new rest
  pub vs : TriesBehind whats.Vs (IsOneOf (acts.NoSpan b)) rest

---- What the ways of an allocation add

-- of n bytes whose bucket the caller has seen active
abbrev pub IsLate : Token → Token → ℕ → Type 0
IsLate old new n = (b : ℕ) → bucket_of n ≡ Some b → HasSeenActive old b → TriesLate old new b

-- The first try finds a bucket active that was seen so, and takes no lock.
abbrev pub IsFirstTry : Token → Token → ℕ → FirstTry → Type 0
IsFirstTry old new b first_try.Inactive = HasSeenActive old b → ⊥
IsFirstTry old new b (first_try.Placed addr) = TriesNeither old new
IsFirstTry old new b (first_try.Spent lost draw) = Unit {0}

-- The call is late, and where both locks are held still it has done all that lets it try them.
abbrev pub IsLateCall : Token → Token → ℕ → SmallCall → Type 0
IsLateCall old new n (ends.Placed addr) = IsLate old new n
IsLateCall old new n (ends.Refused why) = IsLate old new n
IsLateCall old new n (ends.ForVs vs back) = (b : ℕ) → bucket_of n ≡ Some b → HasSeenActive old b → HasTriedLate old new b
IsLateCall old new n (ends.ForVsFirst vs back) = (b : ℕ) → bucket_of n ≡ Some b → HasSeenActive old b → HasTriedLate old new b

---- In any bucket, or of a size without one

-- The last act took the lock of VS, and in the state behind it no gap has room for n bytes.
pub record HasSeenFull (old new : Token) (n : ℕ) (before : List Act) : Type 0 where
  pub earlier : List Act
  pub took : before ≡ earlier ++ acts.TakeLock whats.Vs ∷ []
  pub at : Token
  pub goes : GoesOn old at before
  pub later : IsPrefix at.seen new.seen
  pub full : Always at (λ s. vs_place (gaps (now s at).state) (units_of n) ≡ None)

-- An allocation of n bytes may try the lock of the back end: it has spent the first pass of its search, or has seen VS full.
abbrev pub MayTryBack : Token → Token → ℕ → List Act → Type 0
MayTryBack old new n before = ((b : ℕ) × (bucket_of n ≡ Some b) × HasSpentFirst old b before) ⊎ HasSeenFull old new n before

-- The caller's list goes on by acts that try it behind such acts alone.
pub record BacksLate (old new : Token) (n : ℕ) : Type 0 where
  pub added : List Act
  pub goes : GoesOn old new added
  pub back : TriesBehind whats.Back (MayTryBack old new n) added

-- .. and the first pass is spent
pub record HasTriedBack (old new : Token) (n : ℕ) : Type 0 where
  pub late : BacksLate old new n
  pub bucket : ℕ
  pub bucket_is : bucket_of n ≡ Some bucket
  pub spent : HasSpentFirst old bucket late.added

-- Under the lock of VS the front end does not try it where it gives a block,
abbrev pub LeavesWithVs : Token → Token → WithVs → Type 0
LeavesWithVs old new (with_vs.Placed addr) = LeavesBack old new
LeavesWithVs old new (with_vs.Spent vs lost draw) = Unit {0}

-- nor where the lock of VS is met busy.
abbrev pub LeavesUnderVs : Token → Token → UnderVs → Type 0
LeavesUnderVs old new (under_vs.Busy busy) = LeavesBack old new
LeavesUnderVs old new (under_vs.Placed addr) = LeavesBack old new
LeavesUnderVs old new (under_vs.ForVs vs) = Unit {0}
LeavesUnderVs old new (under_vs.Spent vs lost draw) = Unit {0}

abbrev pub IsBackTry : Token → Token → ℕ → SmallTry → Type 0
IsBackTry old new n (tries.Placed addr) = BacksLate old new n
IsBackTry old new n (tries.Refused why) = BacksLate old new n
IsBackTry old new n (tries.SpentUnderVs vs b lost draw) = Unit {0}

abbrev pub IsBackCall : Token → Token → ℕ → SmallCall → Type 0
IsBackCall old new n (ends.Placed addr) = BacksLate old new n
IsBackCall old new n (ends.Refused why) = BacksLate old new n
IsBackCall old new n (ends.ForVs vs back) = HasTriedBack old new n
IsBackCall old new n (ends.ForVsFirst vs back) = HasTriedBack old new n
