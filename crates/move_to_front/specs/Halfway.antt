-- A new block of the front end in hand, for one that moves, and how the old one goes.
use Rattle.std.specs.Prelude.{◌≡◌, ℕ, ◌+◌, ◌*◌, ◌/◌, ◌<◌, ◌≤◌, Bool, true, false, not, List, [], ◌∷◌, Some}
use Rattle.std.specs.List.{list_all}
use Rattle.heap_model.specs.declared.Act.{Act}
use Rattle.heap_model.specs.declared.Act.TheVariants as acts
use Rattle.heap_model.specs.declared.Call.{Call}
use Rattle.heap_model.specs.declared.Call.TheVariants as calls
use Rattle.heap_model.specs.declared.Flags.{Flags}
use Rattle.heap_model.specs.declared.Layer.{Layer}
use Rattle.heap_model.specs.declared.Layer.TheVariants as layers
use Rattle.heap_model.specs.declared.What.{What}
use Rattle.heap_model.specs.declared.What.TheVariants as whats
use Rattle.heap_model.specs.Buckets.{block_size}
use Rattle.heap_model.specs.CallState.{Configuration}
use Rattle.heap_model.specs.Geometry.{words_of}
use Rattle.heap_model.specs.Legal.{is_begin, with_places, with_status, unspan_of}
use Rattle.heap_model.specs.Moments.{Before}
use Rattle.heap_model.specs.Ranges.{vs_spans}
use Rattle.heap_model.specs.Shape.{Finds, shape_of, begins_move}
use Rattle.heap_model.specs.Stay.{lets_stay}
use Rattle.heap_model.specs.State.{State, Place, InHand, address, has_address, hands, in_hand, holds, remove_found}
use Rattle.claim_rule.specs.Entries.{IsLegalWith, have_slots, entry}
use Rattle.claim_rule.specs.Places.{data_count}
use Rattle.heap_gate.specs.Token.{Token, Always, now, is_out}
use Rattle.backend_fit.specs.Kept.{Kept}
use Rattle.large_blocks.specs.Table.{LargeTable}
use Rattle.vs_layer.specs.Kept.{VsKept}
use Rattle.lfh_search.specs.Under.{CannotBeServed}
use Rattle.call_parts.specs.Calls.{GoesOn}
use Rattle.call_parts.specs.Entries.{HasAdded}
use Rattle.move_front.specs.declared.front.Front.{Front}
use Rattle.move_front.specs.declared.front.Front.TheVariants.{Held, Idle, NoRoom}
use Rattle.move_front.specs.Front.{AreBefore}
use Rattle.move_parts.specs.Moves.{IsHeld, IsHalfway, IsMovingTaken, WillTellVs, WillTellBack, WillTellLarge, TellsLarge}
use Rattle.move_parts.specs.Places.{HasMade}
use Rattle.stay_calls.specs.Moments.{OfMoments}
use Rattle.move_to_front.specs.Moved.{IsIdle, TellsLow}

---- A new block in hand

-- all that n has in hand is this place of the front end
pub record HoldsFrontPlace (st : State) (n : ℕ) (q : Place) : Type 0 where
  pub lfh : in_hand n st.lfh ≡ q ∷ []
  pub vs : in_hand n st.vs.places ≡ []
  pub back : in_hand n st.back.places ≡ []
  pub large : in_hand n st.large ≡ []

-- .. at b, and is long enough for n bytes; the old block is as it was. The words of both are data words.
pub record IsHalfwayOver (c : Token) (call : Call) (addr size : ℕ) (p : Place) (b n : ℕ) (q : Place) (out : List ℕ) : Type 0 where
  pub call_is : c.call ≡ Some call
  pub fresh : c.fresh ≡ false
  pub inside : c.inside ≡ true
  pub out_is : c.out ≡ out
  pub whole : c.whole ≡ true
  pub pending : c.pending ≡ false
  pub prepared : c.prepared ≡ []
  pub drawn : c.searched ≡ c.drawn
  pub owes : c.owes ≡ []
  pub hand : Always c (λ s. HoldsFrontPlace (now s c).state c.number q)
  pub front : q.layer ≡ layers.Lfh
  pub at : address q ≡ b
  pub bucket : ℕ
  pub long : 16 * q.granules ≡ block_size bucket
  pub fits : n ≤ block_size bucket
  pub small : n ≤ 16368
  pub there : b < 1048576 * c.opening.limits.segments
  pub old : Always c (λ s. IsHeld (now s c) c.number addr p size)
  pub apart : addr ≡ b → ⊥
  pub from : addr / 8 + words_of size ≤ data_count c.opening.limits
  pub to : b / 8 + words_of n ≤ data_count c.opening.limits

-- The place q was made, and nothing is prepared. Before the first act of the move the caller found the old block at its address, where n bytes would not let
-- it stay.
pub record HasMadePlace (old new : Token) (addr n : ℕ) (p q : Place) : Type 0 where
  pub added : List Act
  pub goes : GoesOn old new added
  pub no_begin : list_all (λ act. not (is_begin act)) added ≡ true
  pub shape_is : shape_of added ≡ acts.Place q.start q.granules q.layer ∷ []
  pub leaves : OfMoments (λ s c xs. Before begins_move (Finds s c addr n p false) xs) old new goes.seen.0
  pub prepared : new.prepared ≡ []
  pub call : new.call ≡ old.call
  pub fresh : new.fresh ≡ old.fresh
  pub inside : new.inside ≡ old.inside
  pub out : new.out ≡ old.out

-- .. of the front end, and in hand; what the caller's locks guard is told as it was
pub record HasNewFront (old new : Token) (addr size n : ℕ) (flags : Flags) (p : Place) (out : List ℕ) (more : VsKept) (kept : Kept) (b : ℕ) : Type 0 where
  pub place : Place
  pub half : IsHalfwayOver new (calls.Realloc addr n flags) addr size p b n place out
  pub made : HasMadePlace old new addr n p place
  pub tells : TellsLow new more kept
  pub large : is_out whats.Large out ≡ true → (large : LargeTable) → TellsLarge old large → TellsLarge new large

---- None

-- The caller moves the block at addr, which would not keep its address with n bytes. It is at rest with these locks. The words of the block are data words,
-- and each caller that it knows of has a slot of the heap.
pub record IsMovingOn (c : Token) (addr size n : ℕ) (flags : Flags) (p : Place) (out : List ℕ) : Type 0 where
  pub call_is : c.call ≡ Some (calls.Realloc addr n flags)
  pub fresh : c.fresh ≡ false
  pub inside : c.inside ≡ true
  pub out_is : c.out ≡ out
  pub whole : c.whole ≡ true
  pub free : c.free ≡ true
  pub pending : c.pending ≡ false
  pub prepared : c.prepared ≡ []
  pub drawn : c.searched ≡ c.drawn
  pub owes : c.owes ≡ []
  pub may_move : flags.in_place ≡ false
  pub old : Always c (λ s. IsHeld (now s c) c.number addr p size)
  pub leaves : Always c (λ s. lets_stay s.limits (now s c).state p n ≡ false)
  pub from : addr / 8 + words_of size ≤ data_count c.opening.limits
  pub slots : have_slots c.opening.limits.slots c.roll ≡ true

-- .. either this, or its old block was taken, by whether it was
abbrev pub IsMovingOnAny : Bool → Token → ℕ → ℕ → ℕ → Flags → Place → List ℕ → Type 0
IsMovingOnAny true c addr size n flags p out = IsMovingTaken c addr size n flags p out
IsMovingOnAny false c addr size n flags p out = IsMovingOn c addr size n flags p out

-- The front end has searched in vain, behind acts that leave what the caller holds.
pub record IsBehindFront (old new : Token) (addr size n : ℕ) (flags : Flags) (p : Place) (out : List ℕ) (more : VsKept) (back kept : Kept) (bucket : ℕ) : Type 0 where
  pub its : List Act
  pub are : AreBefore its
  pub goes : GoesOn old new its
  pub on : IsMovingOn new addr size n flags p out
  pub cannot : CannotBeServed new bucket
  pub tells : TellsLow new more kept
  pub same : kept ≡ back
  pub large : is_out whats.Large out ≡ true → (large : LargeTable) → TellsLarge old large → TellsLarge new large

abbrev pub HoldsNew : Token → Token → ℕ → ℕ → ℕ → Flags → Place → List ℕ → VsKept → VsKept → Kept → Kept → ℕ → Front → Type 0
HoldsNew old new addr size n flags p out vs more back kept bucket (Held b) = HasNewFront old new addr size n flags p out more kept b
HoldsNew old new addr size n flags p out vs more back kept bucket Idle = IsIdle old new n vs more back kept
HoldsNew old new addr size n flags p out vs more back kept bucket NoRoom = IsBehindFront old new addr size n flags p out more back kept bucket

-- A place of VS for n bytes is at b, and in hand, and nothing is prepared. Once it is given, these states of VS and of the back end tell what is there.
pub record HasHeldSettled (old new : Token) (addr size n : ℕ) (flags : Flags) (p : Place) (out : List ℕ) (b : ℕ) (more : VsKept) (kept : Kept) : Type 0 where
  pub place : Place
  pub half : IsHalfway new (calls.Realloc addr n flags) addr size p b n place out
  pub made : HasMade old new p n place
  pub vs : WillTellVs new place n more
  pub back : WillTellBack new place n kept
  pub large : is_out whats.Large out ≡ true → (large : LargeTable) → TellsLarge old large → WillTellLarge new place n large
  pub prepared : new.prepared ≡ []
  pub legal : IsLegalWith new.opening new.roll new.seen

---- The end

-- what n alone has is in k as it was in m, but that the place at addr of a layer is gone, and nothing is in hand
pub record IsGoneFrom (n addr : ℕ) (layer : Layer) (m k : Configuration) : Type 0 where
  pub locks : (w : What) → holds k.state.gate n w ≡ holds m.state.gate n w
  pub vs : holds m.state.gate n whats.Vs ≡ true → k.state.vs ≡ (with_places m.state (Some layer) (remove_found (has_address addr))).vs
  pub spans : holds m.state.gate n whats.Vs ≡ true → vs_spans k.state.back.area ≡ vs_spans m.state.back.area
  pub back : holds m.state.gate n whats.Back ≡ true → k.state.back ≡ (with_places m.state (Some layer) (remove_found (has_address addr))).back
  pub large : holds m.state.gate n whats.Large ≡ true → k.state.large ≡ (with_places m.state (Some layer) (remove_found (has_address addr))).large
  pub hands : hands k.state n ≡ []

-- The old block was taken and the new one given, and the Drop of the old one is prepared.
pub record HasSwappedOver (old new : Token) (addr size : ℕ) (p : Place) (b n : ℕ) : Type 0 where
  pub added : HasAdded old new (acts.Take addr size ∷ acts.Give b n ∷ acts.Drop addr ∷ [])
  pub out_is : new.out ≡ old.out
  pub pending : new.pending ≡ false
  pub prepared : new.prepared ≡ entry old.number (acts.Drop addr) ∷ []
  pub gone : Always new (λ s. IsGoneFrom old.number addr p.layer (now s old) (now s new))
  pub demand : Always new (λ s. (now s new).now.demand ≡ unspan_of old.number (Some (with_status (InHand old.number) p)))
