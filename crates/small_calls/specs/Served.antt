-- What an allocation of at most 131,072 bytes comes to.
use Rattle.std.specs.Prelude.{◌≡◌, ◌⊎◌, ℕ, Bool, Some, [], ◌∷◌}
use Rattle.heap_model.specs.declared.Act.TheVariants as acts
use Rattle.heap_model.specs.declared.AllocNo.{AllocNo}
use Rattle.heap_model.specs.declared.AllocNo.TheVariants as alloc_nos
use Rattle.heap_model.specs.declared.Busy.{Busy}
use Rattle.heap_model.specs.declared.What.TheVariants as whats
use Rattle.heap_model.specs.Buckets.{bucket_of}
use Rattle.claim_rule.specs.Places.{vs_slot, back_slot}
use Rattle.heap_gate.specs.Token.{Token}
use Rattle.paged_calls.specs.Parts.{ForCall, Places}
use Rattle.small_calls.specs.ByVs.{IsRefusedByVs}
use Rattle.small_calls.specs.GoingOn.{IsBusyAtBack, IsBusyAtVs, IsBusyWithVs, IsForVsAt}
use Rattle.small_calls.specs.declared.serving.SmallCall.{SmallCall}
use Rattle.small_calls.specs.declared.serving.SmallCall.TheVariants.{Placed, Refused, ForVs, ForVsFirst}

-- The bucket is active. Another has the lock of the back end, to which the spent first pass of the search led, or that of VS, behind the caller's NoSpan;
-- or that of the back end, with VS held by the caller.
pub record IsBusyInSearch (old new : Token) (n : ℕ) (busy : Busy) : Type 0 where
  pub bucket : ℕ
  pub bucket_is : bucket_of n ≡ Some bucket
  pub draw : ℕ
  pub lost : ℕ
  pub meets : ForCall old (λ call. IsBusyAtBack old new call bucket draw lost busy ⊎ IsBusyAtVs old new call bucket busy ⊎ IsBusyWithVs old new call bucket draw lost busy)

-- VS refuses the size, or the front end's search meets a lock busy
abbrev pub IsRefusedSmall : ℕ → Token → Token → AllocNo → Type 0
IsRefusedSmall n old new alloc_nos.NoFit = IsRefusedByVs n old new alloc_nos.NoFit
IsRefusedSmall n old new (alloc_nos.Busy busy) = IsRefusedByVs n old new (alloc_nos.Busy busy) ⊎ IsBusyInSearch old new n busy

-- The block is given, or there is none; or VS serves the size behind NoSpan, and both locks are held: that of VS was taken last, or first.
abbrev pub ServesSmall : Token → Token → ℕ → Bool → SmallCall → Type 0
ServesSmall old new n zero (Placed addr) = Places old new addr
ServesSmall old new n zero (Refused why) = IsRefusedSmall n old new why
ServesSmall old new n zero (ForVs vs back) = (b : ℕ) × (bucket_of n ≡ Some b) × IsForVsAt old new vs back b n zero (acts.TakeLock whats.Vs ∷ []) (vs_slot ∷ back_slot ∷ [])
ServesSmall old new n zero (ForVsFirst vs back) = (b : ℕ) × (bucket_of n ≡ Some b) × IsForVsAt old new vs back b n zero [] (back_slot ∷ vs_slot ∷ [])
