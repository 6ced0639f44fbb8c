-- What a caller has that moves a block, whether that is live still or was taken: only it changes the block, which it finds at its address.
use Rattle.std.proofs.Common.{◌≡◌, ℕ, Bool, true, false, ◌||◌, List, [], ◌∷◌, ◌++◌, Option, Some, refl, sym, ap, ◌∙◌, subst, eq-eqb}
use Rattle.std.specs.Prelude.{cond}
use Rattle.std.specs.List.{find}
use Rattle.std.proofs.lemmas.Bool.{or_left, or_right, true≢false}
use Rattle.heap_model.specs.declared.Call.{Call}
use Rattle.heap_model.specs.declared.Call.TheVariants as calls
use Rattle.heap_model.specs.declared.Flags.{Flags}
use Rattle.heap_model.specs.declared.Layer.{Layer}
use Rattle.heap_model.specs.declared.Layer.TheVariants as layers
use Rattle.heap_model.specs.declared.What.TheVariants as whats
use Rattle.heap_model.specs.Agreement.{holds_old_block, moves_exclusive, is_exclusive_at}
use Rattle.heap_model.specs.CallState.{Configuration, caller_view}
use Rattle.heap_model.specs.Legal.{may_touch}
use Rattle.heap_model.specs.State.{State, Area, Place, is_layer, is_live, is_in_hand_of, has_address, address, hands, places_of, holds, guarded, exclusive_places}
use Rattle.heap_model.specs.Stay.{for_some, lets_stay}
use Rattle.claim_rule.specs.Entries.{have_slots}
use Rattle.heap_gate.specs.Token.{Token, Always, now}
use Rattle.call_parts.specs.Entries.{holding}
use Rattle.move_parts.specs.Moves.{IsHeld, IsTaken, IsMovingAny}

-- the place is the first one of its address that only c changes
pub record IsMine (m : Configuration) (c addr : ℕ) (p : Place) : Type 0 where
  pub first : find (has_address addr) (exclusive_places m.state c) ≡ Some p
  pub touch : may_touch (caller_view m c) p.layer ≡ true
  pub there : (is_live p.status || is_in_hand_of c p.status) ≡ true

pub record IsMover (c : Token) (addr n : ℕ) (flags : Flags) (p : Place) (out : List ℕ) : Type 0 where
  pub call_is : c.call ≡ Some (calls.Realloc addr n flags)
  pub inside : c.inside ≡ true
  pub out_is : c.out ≡ out
  pub whole : c.whole ≡ true
  pub pending : c.pending ≡ false
  pub prepared : c.prepared ≡ []
  pub placed : Always c (λ s. ((now s c).now.calls c.number).placed ≡ false)
  pub may_move : flags.in_place ≡ false
  pub old : Always c (λ s. IsMine (now s c) c.number addr p)
  pub of_back : p.layer ≡ layers.Back → Always c (λ s. find (has_address addr) (now s c).state.back.places ≡ Some p)
  pub leaves : Always c (λ s. lets_stay s.limits (now s c).state p n ≡ false)
  pub slots : have_slots c.opening.limits.slots c.roll ≡ true

---- A block that was taken

of_front : (p : Place) → p.layer ≡ layers.Lfh → (layer : Layer) → holding p layer ≡ cond (is_layer layer layers.Lfh) (p ∷ []) []
of_front p e layer = ap (λ (l : Layer). cond (is_layer layer l) (p ∷ []) []) e

-- it is all that is in hand
pub taken_hands : (m : Configuration) (c addr : ℕ) (p : Place) → IsTaken m c addr p → hands m.state c ≡ p ∷ []
taken_hands m c addr p x =
    let a = x.hand layers.Lfh ∙ of_front p x.front layers.Lfh in
    let b = x.hand layers.Vs ∙ of_front p x.front layers.Vs in
    let d = x.hand layers.Back ∙ of_front p x.front layers.Back in
    let e = x.hand layers.Large ∙ of_front p x.front layers.Large in
    (λ i. a i ++ b i ++ d i ++ e i)

taken_mine : (m : Configuration) (c addr : ℕ) (p : Place) → IsTaken m c addr p → IsMine m c addr p
taken_mine m c addr p x = record {
  first = ap (λ (ps : List Place). find (has_address addr) (ps ++ guarded m.state.vs.places (holds m.state.gate c whats.Vs) ++ guarded m.state.back.places (holds m.state.gate c whats.Back) ++ guarded m.state.large (holds m.state.gate c whats.Large)))
      (taken_hands m c addr p x) ∙ at_front;
  touch = ap (may_touch (caller_view m c)) x.front;
  there = or_right (is_live p.status) (is_in_hand_of c p.status) (ap (is_in_hand_of c) x.status ∙ eq-eqb c c refl);
}
  where
    at_front : find (has_address addr) (p ∷ [] ++ guarded m.state.vs.places (holds m.state.gate c whats.Vs) ++ guarded m.state.back.places (holds m.state.gate c whats.Back) ++ guarded m.state.large (holds m.state.gate c whats.Large)) ≡ Some p
    at_front = let e = eq-eqb (address p) addr x.at in rw e refl

---- Either

pub held_mine : (m : Configuration) (c addr size : ℕ) (p : Place) → IsHeld m c addr p size → IsMine m c addr p
held_mine m c addr size p x = record { first = x.first; touch = x.touch; there = or_left (is_live p.status) (is_in_hand_of c p.status) (ap is_live x.live) }

pub mover : (taken : Bool) (c : Token) (addr size n : ℕ) (flags : Flags) (p : Place) (out : List ℕ) → IsMovingAny taken c addr size n flags p out → IsMover c addr n flags p out
mover true c addr size n flags p out v = record {
  call_is = v.call_is;
  inside = v.inside;
  out_is = v.out_is;
  whole = v.whole;
  pending = v.pending;
  prepared = v.prepared;
  placed = v.placed;
  may_move = v.may_move;
  old = λ s x. taken_mine (now s c) c.number addr p (v.old s x);
  of_back = λ e s x. absurd (true≢false (ap (λ (l : Layer). is_layer l layers.Back) (sym e ∙ (v.old s x).front)));
  leaves = v.leaves;
  slots = v.slots;
}
mover false c addr size n flags p out v = record {
  call_is = v.serving.call_is;
  inside = v.serving.inside;
  out_is = v.serving.out_is;
  whole = v.serving.whole;
  pending = v.serving.pending;
  prepared = v.serving.prepared;
  placed = λ s x. (v.serving.is_new s x).placed;
  may_move = v.may_move;
  old = λ s x. held_mine (now s c) c.number addr size p (v.old s x);
  of_back = λ e s x. subst (λ (l : Layer). find (has_address addr) (places_of (now s c).state l) ≡ Some p) e (v.old s x).there;
  leaves = v.leaves;
  slots = v.slots;
}

---- What it places it alone decides

mine_exclusive : (m : Configuration) (c addr : ℕ) (p : Place) → IsMine m c addr p → is_exclusive_at m c addr ≡ true
mine_exclusive m c addr p old = ap (λ (o : Option Place). for_some o (λ q. may_touch (caller_view m c) q.layer)) old.first ∙ old.touch

pub holds_mine : (m : Configuration) (c addr n : ℕ) (flags : Flags) (p : Place) → (m.now.calls c).call ≡ Some (calls.Realloc addr n flags) → IsMine m c addr p → holds_old_block m c ≡ true
holds_mine m c addr n flags p e old =
    or_right (m.now.calls c).placed (for_some (m.now.calls c).call (moves_exclusive m c)) (ap (λ (o : Option Call). for_some o (moves_exclusive m c)) e ∙ mine_exclusive m c addr p old)

---- Where the area is another

-- the state with another area
abbrev with_area : State → Area → State
with_area st a = record st { back = record { area = a; places = st.back.places } }

module _ (m k : Configuration) (a : Area) (e : k.state ≡ with_area m.state a) (c addr : ℕ) (p : Place) (old : IsMine m c addr p) where
  touch_same : (l : Layer) → may_touch (caller_view m c) l ≡ true → may_touch (caller_view k c) l ≡ true
  touch_same layers.Lfh h = refl
  touch_same layers.Vs h = ap (λ (y : State). holds y.gate c whats.Vs) e ∙ h
  touch_same layers.Back h = ap (λ (y : State). holds y.gate c whats.Back) e ∙ h
  touch_same layers.Large h = ap (λ (y : State). holds y.gate c whats.Large) e ∙ h

  pub mine_area : IsMine k c addr p
  mine_area = record { first = ap (λ (y : State). find (has_address addr) (exclusive_places y c)) e ∙ old.first; touch = touch_same p.layer old.touch; there = old.there }
