-- What a part prepares: lists of entries, and the block that it has in hand.
use Rattle.std.specs.Prelude.{◌≡◌, ℕ, ◌/◌, Bool, true, false, is_some, nat_lt, List, [], ◌∷◌, ◌++◌, if◌then◌else◌}
use Rattle.heap_model.specs.declared.Act.{Act}
use Rattle.heap_model.specs.declared.Act.TheVariants as acts
use Rattle.heap_model.specs.declared.Layer.{Layer}
use Rattle.heap_model.specs.declared.Layer.TheVariants as layers
use Rattle.heap_model.specs.declared.What.TheVariants as whats
use Rattle.heap_model.specs.Shape.{zeroing}
use Rattle.heap_model.specs.State.{Place, Live, InHand, in_hand, places_of, is_layer, address}
use Rattle.heap_model.specs.Ranges.{vs_spans}
use Rattle.heap_model.specs.CallState.{Configuration, caller_view}
use Rattle.heap_model.specs.Legal.{may_touch, suits, with_status}
use Rattle.heap_gate.specs.Token.{Token, Always, now, is_out}
use Rattle.heap_gate.specs.Calls.{with_prepared}
use Rattle.call_laws.specs.Spans.{back_acts}
use Rattle.call_parts.specs.Calls.{GoesOn}
use Rattle.data_words.specs.Clears.{IsCleared}

-- the caller with all these entries prepared
abbrev pub with_all : Token → List Act → Token
with_all c [] = c
with_all c (act ∷ rest) = with_all (with_prepared c act) rest

-- a block of n bytes at this page, for which a segment is reserved where that of the page is not
abbrev pub block_acts : ℕ → ℕ → ℕ → List Act
block_acts reserved first n = if nat_lt (first / 256) reserved then back_acts first n else acts.Reserve reserved ∷ back_acts first n

---- The block in hand

-- what is in hand of a layer where that is one place
abbrev pub holding : Place → Layer → List Place
holding p layer = if is_layer layer p.layer then p ∷ [] else []

-- All that the caller has in hand is this place, not one of the front end, which suits n bytes.
pub record HasNew (c : Token) (p : Place) (addr n : ℕ) : Type 0 where
  pub at : address p ≡ addr
  pub suits_it : suits n p ≡ true
  pub behind : is_layer p.layer layers.Lfh ≡ false
  pub status : p.status ≡ InHand c.number
  pub inside : c.inside ≡ true
  pub whole : c.whole ≡ true
  pub begun : is_some c.call ≡ true
  pub hand : Always c (λ s. (layer : Layer) → in_hand c.number (places_of (now s c).state layer) ≡ holding p layer)
  pub open_to : Always c (λ s. may_touch (caller_view (now s c) c.number) p.layer ≡ true)

-- .. zeroed, where that is asked
abbrev pub Zeroes : Token → Token → ℕ → ℕ → Bool → Type 0
Zeroes old new word words true = IsCleared old new word words
Zeroes old new word words false = new ≡ old

---- What a part leaves to its caller

-- the caller stands as it did in its call and in what it owes
pub record IsSteady (old new : Token) : Type 0 where
  pub call : new.call ≡ old.call
  pub fresh : new.fresh ≡ old.fresh
  pub inside : new.inside ≡ old.inside
  pub searched : new.searched ≡ old.searched
  pub drawn : new.drawn ≡ old.drawn
  pub owes : new.owes ≡ old.owes

-- its list goes on by these acts, and it stands as it did
pub record HasAdded (old new : Token) (rest : List Act) : Type 0 where
  pub goes : GoesOn old new rest
  pub steady : IsSteady old new

-- .. and has nothing prepared, nothing in hand, and these locks
pub record HasEnded (old new : Token) (rest : List Act) (out : List ℕ) : Type 0 where
  pub added : HasAdded old new rest
  pub out_is : new.out ≡ out
  pub whole : new.whole ≡ true
  pub free : new.free ≡ true
  pub pending : new.pending ≡ false
  pub prepared : new.prepared ≡ []

-- The place in hand, in front of the places of its layer, is live with n bytes, and nothing else of the layer has changed.
pub record IsGiven (p : Place) (n : ℕ) (m k : Configuration) : Type 0 where
  pub back : (ps : List Place) → p.layer ≡ layers.Back → m.state.back.places ≡ p ∷ ps → k.state.back ≡ record { area = m.state.back.area; places = with_status (Live n) p ∷ ps }
  pub large : (ps : List Place) → p.layer ≡ layers.Large → m.state.large ≡ p ∷ ps → k.state.large ≡ with_status (Live n) p ∷ ps
  pub vs : (ps : List Place) → p.layer ≡ layers.Vs → m.state.vs.places ≡ p ∷ ps → k.state.vs ≡ record { places = with_status (Live n) p ∷ ps; active = m.state.vs.active; served = m.state.vs.served }
  pub spans : p.layer ≡ layers.Vs → vs_spans k.state.back.area ≡ vs_spans m.state.back.area

-- The block in hand was zeroed, where that was asked, and given. Beside one of VS the back end is as it was, where its lock is held.
pub record HasHandedOver (old new : Token) (p : Place) (n : ℕ) (zero : Bool) : Type 0 where
  pub added : HasAdded old new (zeroing zero (address p) n ++ acts.Give (address p) n ∷ [])
  pub out_is : new.out ≡ old.out
  pub whole : new.whole ≡ true
  pub free : new.free ≡ true
  pub given : Always new (λ s. IsGiven p n (now s old) (now s new))
  pub kept_back : p.layer ≡ layers.Vs → is_out whats.Back old.out ≡ true → Always new (λ s. (now s new).state.back ≡ (now s old).state.back)
