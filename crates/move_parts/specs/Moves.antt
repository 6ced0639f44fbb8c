-- A block that has to move, and the new one that it moves to.
use Rattle.std.specs.Prelude.{◌≡◌, ℕ, ◌+◌, ◌/◌, ◌≤◌, Bool, true, false, List, [], ◌++◌, length, is_some, Some}
use Rattle.std.specs.List.{find}
use Rattle.heap_model.specs.declared.Act.{Act}
use Rattle.heap_model.specs.declared.Call.{Call}
use Rattle.heap_model.specs.declared.Call.TheVariants as calls
use Rattle.heap_model.specs.declared.Flags.{Flags}
use Rattle.heap_model.specs.declared.Layer.TheVariants as layers
use Rattle.heap_model.specs.declared.What.TheVariants as whats
use Rattle.heap_model.specs.CallState.{Configuration, caller_view}
use Rattle.heap_model.specs.Geometry.{words_of}
use Rattle.heap_model.specs.Layers.{StandsForVs, StandsForBack, StandsForLarge}
use Rattle.heap_model.specs.Legal.{may_touch, suits, with_places, with_status, leaves_whole}
use Rattle.heap_model.specs.Ranges.{vs_spans}
use Rattle.heap_model.specs.Stay.{lets_stay}
use Rattle.heap_model.specs.State.{State, Place, Live, InHand, is_layer, address, has_address, is_hand_at, places_of, in_hand, holds, exclusive_places, change_found}
use Rattle.heap_model.specs.declared.Layer.{Layer}
use Rattle.heap_model.specs.declared.What.{What}
use Rattle.claim_rule.specs.Entries.{have_slots}
use Rattle.claim_rule.specs.Places.{data_count}
use Rattle.heap_gate.specs.Token.{Token, Always, now}
use Rattle.backend_fit.specs.Kept.{Kept}
use Rattle.backend_fit.specs.Kept as backs
use Rattle.large_blocks.specs.Table.{LargeTable}
use Rattle.large_blocks.specs.Table as larges
use Rattle.vs_layer.specs.Kept.{VsKept}
use Rattle.vs_layer.specs.Standing as vss
use Rattle.call_parts.specs.Calls.{IsServing}
use Rattle.call_parts.specs.Entries.{HasNew, HasAdded, holding}

---- The old block

-- The block at addr, which this place is, is live with this size, and its layer's lock is held: only the caller changes it.
pub record IsHeld (m : Configuration) (c addr : ℕ) (p : Place) (size : ℕ) : Type 0 where
  pub first : find (has_address addr) (exclusive_places m.state c) ≡ Some p
  pub there : find (has_address addr) (places_of m.state p.layer) ≡ Some p
  pub live : p.status ≡ Live size
  pub behind : is_layer p.layer layers.Lfh ≡ false
  pub touch : may_touch (caller_view m c) p.layer ≡ true

-- The caller moves it to a block of n bytes, which would not let it keep its address. It is at rest with these locks, and has neither searched nor placed. The
-- words of the block are data words, and each caller that it knows of has a slot of the heap.
pub record IsMoving (c : Token) (addr size n : ℕ) (flags : Flags) (p : Place) (out : List ℕ) : Type 0 where
  pub serving : IsServing c (calls.Realloc addr n flags) out
  pub may_move : flags.in_place ≡ false
  pub old : Always c (λ s. IsHeld (now s c) c.number addr p size)
  pub leaves : Always c (λ s. lets_stay s.limits (now s c).state p n ≡ false)
  pub from : addr / 8 + words_of size ≤ data_count c.opening.limits
  pub slots : have_slots c.opening.limits.slots c.roll ≡ true

---- An old block that was taken

-- The block at addr, which this place is, is one of the front end, and all that the caller has in hand.
pub record IsTaken (m : Configuration) (c addr : ℕ) (p : Place) : Type 0 where
  pub at : address p ≡ addr
  pub front : p.layer ≡ layers.Lfh
  pub status : p.status ≡ InHand c
  pub hand : (layer : Layer) → in_hand c (places_of m.state layer) ≡ holding p layer

-- The caller moves such a block, which had this size, to one of n bytes. It is at rest with these locks but for the block in hand, and has not placed; where it
-- has searched, it is by its draw. The rest is as for a live block.
pub record IsMovingTaken (c : Token) (addr size n : ℕ) (flags : Flags) (p : Place) (out : List ℕ) : Type 0 where
  pub call_is : c.call ≡ Some (calls.Realloc addr n flags)
  pub fresh : c.fresh ≡ false
  pub inside : c.inside ≡ true
  pub out_is : c.out ≡ out
  pub whole : c.whole ≡ true
  pub pending : c.pending ≡ false
  pub prepared : c.prepared ≡ []
  pub drawn : c.searched ≡ c.drawn
  pub owes : c.owes ≡ []
  pub placed : Always c (λ s. ((now s c).now.calls c.number).placed ≡ false)
  pub may_move : flags.in_place ≡ false
  pub old : Always c (λ s. IsTaken (now s c) c.number addr p)
  pub leaves : Always c (λ s. lets_stay s.limits (now s c).state p n ≡ false)
  pub from : addr / 8 + words_of size ≤ data_count c.opening.limits
  pub slots : have_slots c.opening.limits.slots c.roll ≡ true

-- either of them, by whether it was taken
abbrev pub IsMovingAny : Bool → Token → ℕ → ℕ → ℕ → Flags → Place → List ℕ → Type 0
IsMovingAny true c addr size n flags p out = IsMovingTaken c addr size n flags p out
IsMovingAny false c addr size n flags p out = IsMoving c addr size n flags p out

---- The new block in hand

-- the state in which the place in hand is given with n bytes
abbrev pub with_given : State → ℕ → Place → ℕ → State
with_given st c q n = with_places st (Some q.layer) (change_found (is_hand_at c (address q)) (with_status (Live n)))

-- All that the caller has in hand is this new place q, at b, for n bytes. Its old block is as it was; the words of both are data words.
pub record IsHalfway (c : Token) (call : Call) (addr size : ℕ) (p : Place) (b n : ℕ) (q : Place) (out : List ℕ) : Type 0 where
  pub call_is : c.call ≡ Some call
  pub fresh : c.fresh ≡ false
  pub out_is : c.out ≡ out
  pub pending : c.pending ≡ false
  pub drawn : c.searched ≡ c.drawn
  pub owes : c.owes ≡ []
  pub few : length c.prepared ≤ 3
  pub new : HasNew c q b n
  pub old : Always c (λ s. IsHeld (now s c) c.number addr p size)
  pub apart : addr ≡ b → ⊥
  pub from : addr / 8 + words_of size ≤ data_count c.opening.limits
  pub to : b / 8 + words_of n ≤ data_count c.opening.limits

-- .. beside the old one, which was taken: these two places are all that the caller has in hand
pub record HasNewBeside (c : Token) (p q : Place) (b n : ℕ) : Type 0 where
  pub at : address q ≡ b
  pub suits_it : suits n q ≡ true
  pub behind : is_layer q.layer layers.Lfh ≡ false
  pub status : q.status ≡ InHand c.number
  pub inside : c.inside ≡ true
  pub whole : c.whole ≡ true
  pub begun : is_some c.call ≡ true
  pub hand : Always c (λ s. (layer : Layer) → in_hand c.number (places_of (now s c).state layer) ≡ holding q layer ++ holding p layer)
  pub open_to : Always c (λ s. may_touch (caller_view (now s c) c.number) q.layer ≡ true)

pub record IsHalfwayTaken (c : Token) (call : Call) (addr size : ℕ) (p : Place) (b n : ℕ) (q : Place) (out : List ℕ) : Type 0 where
  pub call_is : c.call ≡ Some call
  pub fresh : c.fresh ≡ false
  pub out_is : c.out ≡ out
  pub pending : c.pending ≡ false
  pub drawn : c.searched ≡ c.drawn
  pub owes : c.owes ≡ []
  pub few : length c.prepared ≤ 3
  pub new : HasNewBeside c p q b n
  pub old_at : address p ≡ addr
  pub old_front : p.layer ≡ layers.Lfh
  pub old_status : p.status ≡ InHand c.number
  pub apart : addr ≡ b → ⊥
  pub from : addr / 8 + words_of size ≤ data_count c.opening.limits
  pub to : b / 8 + words_of n ≤ data_count c.opening.limits

abbrev pub IsHalfwayAny : Bool → Token → Call → ℕ → ℕ → Place → ℕ → ℕ → Place → List ℕ → Type 0
IsHalfwayAny true c call addr size p b n q out = IsHalfwayTaken c call addr size p b n q out
IsHalfwayAny false c call addr size p b n q out = IsHalfway c call addr size p b n q out

-- once the new block is given, this state of VS tells what its lock guards, and each span of VS has a place
abbrev pub WillTellVs : Token → Place → ℕ → VsKept → Type 0
WillTellVs c q n vs = Always c (λ s.
    let st = with_given (now s c).state c.number q n in (leaves_whole st whats.Vs ≡ true) × StandsForVs c.opening st (vss.layer_of vs))

-- .. so of the back end
abbrev pub WillTellBack : Token → Place → ℕ → Kept → Type 0
WillTellBack c q n back = Always c (λ s. StandsForBack c.opening (with_given (now s c).state c.number q n) (backs.layer_of back))

-- .. and of the large area
abbrev pub WillTellLarge : Token → Place → ℕ → LargeTable → Type 0
WillTellLarge c q n large = Always c (λ s. StandsForLarge c.opening (with_given (now s c).state c.number q n) (larges.layer_of large))

-- .. it tells so now, of VS with a place in each of its spans
pub record TellsVs (c : Token) (vs : VsKept) : Type 0 where
  pub tells : Always c (λ s. StandsForVs c.opening (now s c).state (vss.layer_of vs))
  pub used : Always c (λ s. leaves_whole (now s c).state whats.Vs ≡ true)

abbrev pub TellsBack : Token → Kept → Type 0
TellsBack c back = Always c (λ s. StandsForBack c.opening (now s c).state (backs.layer_of back))

abbrev pub TellsLarge : Token → LargeTable → Type 0
TellsLarge c large = Always c (λ s. StandsForLarge c.opening (now s c).state (larges.layer_of large))

---- Words

-- what n alone has is so in k as it was in m: its locks, what is in its hand, and the layers that it holds
pub record IsSameFor (n : ℕ) (m k : Configuration) : Type 0 where
  pub locks : (w : What) → holds k.state.gate n w ≡ holds m.state.gate n w
  pub hand : (layer : Layer) → in_hand n (places_of k.state layer) ≡ in_hand n (places_of m.state layer)
  pub back : holds m.state.gate n whats.Back ≡ true → k.state.back ≡ m.state.back
  pub large : holds m.state.gate n whats.Large ≡ true → k.state.large ≡ m.state.large
  pub vs : holds m.state.gate n whats.Vs ≡ true → k.state.vs ≡ m.state.vs
  pub spans : holds m.state.gate n whats.Vs ≡ true → vs_spans k.state.back.area ≡ vs_spans m.state.back.area

-- The caller has added loads and stores alone.
pub record HasFilled (old new : Token) (acts : List Act) : Type 0 where
  pub added : HasAdded old new acts
  pub out_is : new.out ≡ old.out
  pub whole : new.whole ≡ true
  pub pending : old.pending ≡ false → new.pending ≡ false
  pub few : length new.prepared ≤ length old.prepared
  pub same : Always new (λ s. IsSameFor old.number (now s old) (now s new))
