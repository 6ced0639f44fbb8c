-- Blocks of the variable-size layer, as a call finds and places them.
use Rattle.std.specs.Prelude.{◌≡◌, ℕ, ◌+◌, ◌*◌, ◌/◌, ◌≤◌, true, false, [], ◌∷◌, Option, Some, option_and_then}
use Rattle.heap_model.specs.declared.Act.TheVariants as acts
use Rattle.heap_model.specs.declared.Call.{Call}
use Rattle.heap_model.specs.declared.Layer.TheVariants as layers
use Rattle.heap_model.specs.declared.What.TheVariants as whats
use Rattle.heap_model.specs.declared.Limits.{Limits}
use Rattle.heap_model.specs.Buckets.{bucket_of}
use Rattle.heap_model.specs.Geometry.{words_of}
use Rattle.heap_model.specs.Legal.{leaves_whole, goes_to_lfh}
use Rattle.heap_model.specs.Stay.{for_some}
use Rattle.heap_model.specs.Runs.{Run}
use Rattle.heap_model.specs.State.{State, live_size}
use Rattle.heap_model.specs.Layers.{StandsForVs, StandsForBack}
use Rattle.claim_rule.specs.Places.{vs_slot, back_slot, data_count}
use Rattle.backend_fit.specs.Kept.{Kept}
use Rattle.backend_fit.specs.Kept as backs
use Rattle.heap_gate.specs.Calls.{with_prepared, rested}
use Rattle.heap_gate.specs.Token.{Token, Always, now, is_out}
use Rattle.vs_layer.specs.Kept.{VsKept, block_at, block_in, place_for}
use Rattle.vs_layer.specs.Standing.{layer_of, Becomes, with_block, without_block}
use Rattle.call_parts.specs.Calls.{HoldsVs}
use Rattle.call_parts.specs.Entries.{with_all}

-- The caller has, in its call, the state of VS, and each span of VS has a place.
pub record HasVs (c : Token) (vs : VsKept) : Type 0 where
  pub call : Call
  pub holds : HoldsVs c call vs
  pub used : Always c (λ s. leaves_whole (now s c).state whats.Vs ≡ true)

-- The caller is in a call under the lock of VS, has its state, and has nothing in hand.
pub record IsUnderVs (c : Token) (vs : VsKept) : Type 0 where
  pub call : Call
  pub call_is : c.call ≡ Some call
  pub inside : c.inside ≡ true
  pub whole : c.whole ≡ true
  pub free : c.free ≡ true
  pub held : is_out whats.Vs c.out ≡ true
  pub tells : Always c (λ s. StandsForVs c.opening (now s c).state (layer_of vs))

-- .. under the locks of VS and of the back end, that taken last; each span of VS has a place, and no word is owed
pub record HasVsAndBack (c : Token) (vs : VsKept) (back : Kept) : Type 0 where
  pub inside : c.inside ≡ true
  pub whole : c.whole ≡ true
  pub free : c.free ≡ true
  pub out_is : c.out ≡ back_slot ∷ vs_slot ∷ []
  pub owes : c.owes ≡ []
  pub used : Always c (λ s. leaves_whole (now s c).state whats.Vs ≡ true)
  pub tells_vs : Always c (λ s. StandsForVs c.opening (now s c).state (layer_of vs))
  pub tells_back : Always c (λ s. StandsForBack c.opening (now s c).state (backs.layer_of back))

-- the size of the live block at an address, if one is there
abbrev pub size_at : VsKept → ℕ → Option ℕ
size_at vs addr = option_and_then (λ p. live_size p.status) (block_at vs addr)

-- the words of a block lie among the data words
abbrev pub LiesWithin : Limits → ℕ → ℕ → Type 0
LiesWithin l addr size = addr / 8 + words_of size ≤ data_count l

-- sizes in the bucket of n, where n has one, do not go to the front end
abbrev pub IsForVs : Token → ℕ → Type 0
IsForVs c n = Always c (λ s. for_some (bucket_of n) (goes_to_lfh (now s c).state.vs) ≡ false)

-- A block of n bytes has its place where the definitions have it, at the front of the smallest gap that fits, and is in hand: the place is prepared, and
-- once the block is given the layer tells it.
pub record HasHeld (old new : Token) (vs later : VsKept) (n addr : ℕ) : Type 0 where
  pub run : Run
  pub place : place_for vs n ≡ Some run
  pub at : addr ≡ 16 * run.first + 16
  pub prepared : new ≡ with_prepared old (acts.Place (16 * run.first) run.count layers.Vs)
  pub there : block_at later addr ≡ Some (block_in run n)
  pub becomes : Becomes vs later (λ v. with_block v run n) (λ xs. xs)

-- the block at an address is gone, and the back end is as it was
pub record IsGone (addr : ℕ) (st later : State) : Type 0 where
  pub vs : later.vs ≡ without_block st.vs addr
  pub back : later.back ≡ st.back

-- The block at an address, which had this size, is taken and dropped, by entries that are prepared, and nothing is in hand.
pub record HasTakenOut (old new : Token) (addr size : ℕ) : Type 0 where
  pub prepared : new ≡ rested (with_all old (acts.Take addr size ∷ acts.Drop addr ∷ []))
  pub gone : Always new (λ s. IsGone addr (now s old).state (now s new).state)
