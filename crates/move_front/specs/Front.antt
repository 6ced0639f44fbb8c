-- A block of the front end for a call that holds the locks of VS and of the back end.
use Rattle.std.specs.Prelude.{◌≡◌, ◌⊎◌, ℕ, ◌<◌, ◌≤◌, Bool, true, false, not, List, [], ◌∷◌, ◌++◌, length, Some}
use Rattle.std.specs.List.{list_all}
use Rattle.heap_model.specs.declared.Act.{Act}
use Rattle.heap_model.specs.declared.Act.TheVariants as acts
use Rattle.heap_model.specs.declared.Layer.{Layer}
use Rattle.heap_model.specs.declared.Layer.TheVariants as layers
use Rattle.heap_model.specs.declared.What.{What}
use Rattle.heap_model.specs.declared.What.TheVariants as whats
use Rattle.heap_model.specs.Agreement.{holds_old_block}
use Rattle.heap_model.specs.Buckets.{block_count, block_address}
use Rattle.heap_model.specs.CallState.{Configuration, not_begun}
use Rattle.heap_model.specs.Layers.{StandsForVs}
use Rattle.heap_model.specs.Legal.{is_begin, leaves_whole, goes_to_lfh}
use Rattle.heap_model.specs.Ranges.{vs_spans}
use Rattle.heap_model.specs.Search.{request_of}
use Rattle.heap_model.specs.Shape.{shape_of, begins_move}
use Rattle.heap_model.specs.State.{holds, hands, in_hand, places_of, is_layer}
use Rattle.step_parts.specs.InHand.{HasBlock}
use Rattle.backend_fit.specs.Kept.{Kept}
use Rattle.vs_layer.specs.Kept.{VsKept}
use Rattle.vs_layer.specs.Standing.{layer_of}
use Rattle.heap_gate.specs.Token.{Token, Always, now, is_out}
use Rattle.call_parts.specs.Calls.{GoesOn}
use Rattle.lfh_claims.specs.Moves.{block_place}
use Rattle.lfh_claims.specs.Search.{own_slot}
use Rattle.lfh_spans.specs.Subsegments.{IsBackOf}
use Rattle.lfh_search.specs.Results.{place}
use Rattle.lfh_search.specs.Under.{CameBy, CannotBeServed}
use Rattle.lfh_search.specs.Both.{HasSearchedTo, HasSearchedInVain}
use Rattle.lfh_search.specs.declared.course.Course.{Course}
use Rattle.move_front.specs.declared.front.Front.{Front}
use Rattle.move_front.specs.declared.front.Front.TheVariants.{Held, Idle, NoRoom}

---- What a call has to be

-- The caller is inside a call that has to place a block of bucket b, and has neither drawn nor searched. It holds Vs and Back, and owes no word. Only it
-- changes the block that it moves, if it moves one; it may have that in hand.
pub record IsToPlace (c : Token) (b : ℕ) : Type 0 where
  pub inside : c.inside ≡ true
  pub whole : c.whole ≡ true
  pub searched : c.searched ≡ false
  pub drawn : c.drawn ≡ false
  pub owes : c.owes ≡ []
  pub vs_out : is_out whats.Vs c.out ≡ true
  pub back_out : is_out whats.Back c.out ≡ true
  pub seeks : Always c (λ s. (request_of s (now s c) c.number).bucket ≡ Some b)
  pub old : Always c (λ s. holds_old_block (now s c) c.number ≡ true)
  pub search : Always c (λ s. ((now s c).now.calls c.number).search ≡ not_begun)
  pub no_span : Always c (λ s. ((now s c).now.calls c.number).no_span ≡ false)

-- the state of VS tells what its lock guards, and each of its spans has a place
pub record TellsVs (c : Token) (vs : VsKept) : Type 0 where
  pub tells : Always c (λ s. StandsForVs c.opening (now s c).state (layer_of vs))
  pub used : Always c (λ s. leaves_whole (now s c).state whats.Vs ≡ true)

---- What stays

-- What n holds is in k as it was in m, but for spans and blocks of the front end, and for which buckets are active.
pub record IsBesideFront (n : ℕ) (m k : Configuration) : Type 0 where
  pub locks : (w : What) → holds k.state.gate n w ≡ holds m.state.gate n w
  pub vs : holds m.state.gate n whats.Vs ≡ true → k.state.vs.places ≡ m.state.vs.places
  pub spans : holds m.state.gate n whats.Vs ≡ true → vs_spans k.state.back.area ≡ vs_spans m.state.back.area
  pub back : holds m.state.gate n whats.Back ≡ true → k.state.back.places ≡ m.state.back.places
  pub large : holds m.state.gate n whats.Large ≡ true → k.state.large ≡ m.state.large
  pub hand : (layer : Layer) → is_layer layer layers.Lfh ≡ false → in_hand n (places_of k.state layer) ≡ in_hand n (places_of m.state layer)

-- .. and the caller stands in its call with its locks; nothing has to follow, and it has searched by its draw
pub record StandsBeside (old new : Token) : Type 0 where
  pub call : new.call ≡ old.call
  pub fresh : new.fresh ≡ old.fresh
  pub inside : new.inside ≡ true
  pub out : new.out ≡ old.out
  pub owes : new.owes ≡ []
  pub searched : new.searched ≡ true
  pub drawn : new.drawn ≡ true
  pub whole : new.whole ≡ true
  pub pending : new.pending ≡ false
  pub beside : Always new (λ s. IsBesideFront old.number (now s old) (now s new))

---- What it comes to

-- an act that leaves all that its caller holds, but for which buckets are active
abbrev pub is_quiet : Act → Bool
is_quiet (acts.Active bucket) = true
is_quiet (acts.Reserve segment) = true
is_quiet (acts.Saw head word bits) = true
is_quiet (acts.Lost head index) = true
is_quiet (acts.NoHint bucket slot) = true
is_quiet (acts.NoSpan bucket) = true
is_quiet _ = false

-- such acts, which no shape shows, and which neither begin a call nor a move
pub record AreBefore (its : List Act) : Type 0 where
  pub quiet : list_all is_quiet its ≡ true
  pub shape_is : shape_of its ≡ []
  pub no_begin : list_all (λ act. not (is_begin act)) its ≡ true
  pub no_move : list_all (λ act. not (begins_move act)) its ≡ true

-- A block of the bucket is in hand at this address, in front of what was, behind the acts of its search and those that made its subsegment. It is not
-- given yet.
pub record HasFrontBlock (old new : Token) (vs : VsKept) (back after : Kept) (b addr : ℕ) : Type 0 where
  pub its : List Act
  pub are : AreBefore its
  pub made : List Act
  pub draw : ℕ
  pub head : ℕ
  pub index : ℕ
  pub below : index < block_count b
  pub came : CameBy back after b (own_slot old) draw head index made
  pub address : addr ≡ block_address b head index
  pub goes : GoesOn old new (its ++ (made ++ place b head index ∷ []))
  pub shape_is : shape_of (its ++ (made ++ place b head index ∷ [])) ≡ place b head index ∷ []
  pub no_begin : list_all (λ act. not (is_begin act)) (its ++ (made ++ place b head index ∷ [])) ≡ true
  pub stands : StandsBeside old new
  pub prepared : new.prepared ≡ []
  pub hands : Always new (λ s. hands (now s new).state old.number ≡ block_place b head index old.number ∷ hands (now s old).state old.number)
  pub block : Always new (λ s. HasBlock (now s new) old.number b addr)
  pub tells_vs : TellsVs new vs
  pub back_is : IsBackOf new after

-- The bucket is neither active nor due: its sizes are for VS. Nothing has changed.
pub record IsNotOfFront (old new : Token) (vs later : VsKept) (back after : Kept) (b : ℕ) : Type 0 where
  pub same : new ≡ old
  pub vs_is : later ≡ vs
  pub back_is : after ≡ back
  pub idle : Always new (λ s. goes_to_lfh (now s new).state.vs b ≡ false)

-- The front end cannot serve the bucket, and no range has the pages of a subsegment, so that VS serves the size. What is in hand is as it was, and so is the
-- back end.
pub record HasNoFrontBlock (old new : Token) (vs : VsKept) (back after : Kept) (b : ℕ) : Type 0 where
  pub its : List Act
  pub are : AreBefore its
  pub goes : GoesOn old new its
  pub stands : StandsBeside old new
  pub free : new.free ≡ old.free
  pub few : length new.prepared ≤ 1
  pub hands : Always new (λ s. hands (now s new).state old.number ≡ hands (now s old).state old.number)
  pub tells_vs : TellsVs new vs
  pub same : after ≡ back
  pub back_is : IsBackOf new after
  pub cannot : CannotBeServed new b

abbrev pub HoldsFront : Token → Token → VsKept → VsKept → Kept → Kept → ℕ → Front → Type 0
HoldsFront old new vs later back after b (Held addr) = HasFrontBlock old new later back after b addr
HoldsFront old new vs later back after b Idle = IsNotOfFront old new vs later back after b
HoldsFront old new vs later back after b NoRoom = HasNoFrontBlock old new later back after b

---- Its parts

-- The bucket is active, which it may have become by the caller.
pub record IsActiveNow (old new : Token) (later : VsKept) (b : ℕ) : Type 0 where
  pub its : List Act
  pub its_are : (its ≡ []) ⊎ (its ≡ acts.Active b ∷ [])
  pub goes : GoesOn old new its
  pub to_place : IsToPlace new b
  pub active : Always new (λ s. (now s new).state.vs.active b ≡ true)
  pub slot : own_slot new ≡ own_slot old
  pub call : new.call ≡ old.call
  pub fresh : new.fresh ≡ old.fresh
  pub out : new.out ≡ old.out
  pub free : new.free ≡ old.free
  pub beside : Always new (λ s. IsBesideFront old.number (now s old) (now s new))
  pub hands : Always new (λ s. hands (now s new).state old.number ≡ hands (now s old).state old.number)
  pub tells_vs : TellsVs new later
  pub back_is : (back : Kept) → IsBackOf old back → IsBackOf new back

-- It is neither active nor due, and nothing has changed.
pub record IsIdleNow (old new : Token) (vs later : VsKept) (b : ℕ) : Type 0 where
  pub same : new ≡ old
  pub vs_is : later ≡ vs
  pub idle : Always new (λ s. goes_to_lfh (now s new).state.vs b ≡ false)

abbrev pub Activates : Token → Token → VsKept → VsKept → ℕ → Bool → Type 0
Activates old new vs later b true = IsActiveNow old new later b
Activates old new vs later b false = IsIdleNow old new vs later b

-- A search by the call's draw has come to a block, or to none.
abbrev pub SearchesTo : Token → Token → Kept → Kept → ℕ → ℕ → Type 0
SearchesTo old new back after b addr = (course : Course) × (course.bucket ≡ b) × HasSearchedTo (record old { drawn = true }) new back after course addr

abbrev pub SearchesInVain : Token → Token → Kept → Kept → ℕ → Type 0
SearchesInVain old new back after b = (course : Course) × (course.bucket ≡ b) × HasSearchedInVain (record old { drawn = true }) new back after course
