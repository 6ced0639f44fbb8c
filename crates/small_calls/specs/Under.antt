-- What is given under the lock of the back end.
use Rattle.std.specs.Prelude.{◌≡◌, ℕ, ◌<◌, Bool, true, false, not, List, [], ◌∷◌, ◌++◌, Some}
use Rattle.std.specs.List.{list_all}
use Rattle.heap_model.specs.declared.Act.{Act}
use Rattle.heap_model.specs.declared.Call.{Call}
use Rattle.heap_model.specs.declared.Call.TheVariants as calls
use Rattle.heap_model.specs.declared.Flags.{Flags}
use Rattle.heap_model.specs.Buckets.{block_address}
use Rattle.heap_model.specs.CallState.{Search}
use Rattle.heap_model.specs.Legal.{is_begin}
use Rattle.heap_model.specs.declared.Act.TheVariants as acts
use Rattle.heap_model.specs.declared.What.TheVariants as whats
use Rattle.heap_model.specs.Shape.{shape_of, zeroing}
use Rattle.heap_gate.specs.Token.{Token, is_out}
use Rattle.vs_layer.specs.Kept.{VsKept}
use Rattle.call_parts.specs.Entries.{HasEnded}
use Rattle.claim_rule.specs.Places.{back_slot}
use Rattle.backend_fit.specs.Kept.{Kept}
use Rattle.call_parts.specs.Calls.{GoesOn}
use Rattle.lfh_claims.specs.Search.{own_slot}
use Rattle.lfh_search.specs.declared.course.Course.{Course}
use Rattle.lfh_search.specs.Under.{IsUnder, HasNotSaid, HasNoPages}
use Rattle.small_calls.specs.Fronts.{IsResting, front_acts}
use Rattle.vs_calls.specs.Tries.{tries_none}
use Rattle.small_calls.specs.Ways.{KeepsVs}
use Rattle.small_calls.specs.declared.back_search.UnderBack.{UnderBack}
use Rattle.small_calls.specs.declared.back_search.UnderBack.TheVariants.{Placed, NoRoom}

-- The block in hand was zeroed, where that was asked, and given, and then the lock, behind which these are held. What VS is stays, where its lock is held.
pub record IsGivenUnderBack (old new : Token) (addr n : ℕ) (zero : Bool) (more : List ℕ) : Type 0 where
  pub ended : HasEnded old new (zeroing zero addr n ++ acts.Give addr n ∷ acts.GiveLock whats.Back ∷ []) more
  pub keeps : (vs : VsKept) → is_out whats.Vs old.out ≡ true → KeepsVs old vs → KeepsVs new vs

---- The search under the lock

-- The caller allocates n bytes, has its draw, and has spent the first pass of its search; it holds Back, which was taken last, and has not said NoSpan.
pub record SearchesOn (c : Token) (back : Kept) (course : Course) (lost n : ℕ) (zero : Bool) (more : List ℕ) : Type 0 where
  pub flags : Flags
  pub zero_is : flags.zero ≡ zero
  pub call_is : c.call ≡ Some (calls.Alloc n flags)
  pub fresh : c.fresh ≡ false
  pub inside : c.inside ≡ true
  pub whole : c.whole ≡ true
  pub free : c.free ≡ true
  pub pending : c.pending ≡ false
  pub prepared : c.prepared ≡ []
  pub drawn : c.drawn ≡ true
  pub out_is : c.out ≡ back_slot ∷ more
  pub only : is_out whats.Back more ≡ false
  pub slot : own_slot c < 16
  pub search : Search
  pub under : IsUnder c back course search lost
  pub first : HasNotSaid c

-- A block of n bytes of the bucket is given at this address, and then the lock, behind which these are held. The lock of VS is not tried, and what VS is stays,
-- where its lock is held.
pub record IsServedUnderBack (old new : Token) (call : Call) (b n : ℕ) (zero : Bool) (addr : ℕ) (more : List ℕ) : Type 0 where
  pub head : ℕ
  pub index : ℕ
  pub at : addr ≡ block_address b head index
  pub added : List Act
  pub goes : GoesOn old new added
  pub no_begin : list_all (λ act. not (is_begin act)) added ≡ true
  pub no_vs : tries_none whats.Vs added ≡ true
  pub shape_is : shape_of added ≡ front_acts b head index n zero
  pub rests : IsResting new call more
  pub keeps : (vs : VsKept) → is_out whats.Vs old.out ≡ true → KeepsVs old vs → KeepsVs new vs

-- .. or there is no block and no room for a subsegment, and the lock is held still
abbrev pub ServesUnderBack : Token → Token → Kept → Course → ℕ → Call → ℕ → Bool → List ℕ → UnderBack → Type 0
ServesUnderBack old new back course lost call n zero more (Placed addr) = IsServedUnderBack old new call course.bucket n zero addr more
ServesUnderBack old new back course lost call n zero more (NoRoom after now_lost) = HasNoPages old new back after course lost now_lost
