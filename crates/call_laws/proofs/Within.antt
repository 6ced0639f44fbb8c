-- One more entry of a caller that is within its call.
use Rattle.std.proofs.Common.{◌≡◌, ℕ, true, false, ◌&&◌, ◌||◌, List, [], ◌∷◌, ◌++◌, Some, refl, sym, ap, subst, ◌∙◌, inl, inr}
use Rattle.std.specs.Prelude.{is_some}
use Rattle.std.proofs.lemmas.Bool.{cases_Bool, and_from, eq-eqb, or_right}
use Rattle.heap_model.specs.declared.Act.{Act}
use Rattle.heap_model.specs.declared.Call.{Call}
use Rattle.heap_model.specs.declared.Layer.{Layer}
use Rattle.heap_model.specs.declared.Layer.TheVariants as layers
use Rattle.heap_model.specs.State.{Setting, State, Place, InHand, GateAndLocks, updated, address, has_address, place_at, hand_at, hands, in_hand, all_places, places_of, is_in_hand_of}
use Rattle.heap_model.specs.CallState.{Configuration, CallState, Nothing}
use Rattle.heap_model.specs.Legal.{may, may_follow, after, call_after, demand_after, meets_demand, is_begin}
use Rattle.heap_soundness.specs.Sound.{IsOneOf}
use Rattle.heap_soundness.specs.Invariant.{Keeps}
use Rattle.heap_soundness.specs.Legal.{HaveOneAddress}
use Rattle.heap_soundness.proofs.Kept.{keeps_all}
use Rattle.heap_soundness.proofs.Addresses.{addresses_sound}
use Rattle.heap_soundness.proofs.Lists.{find_some}
use Rattle.call_laws.specs.Within.{by_caller, IsReached, IsWithin, LeadsTo}
use Rattle.call_laws.proofs.Goes.{goes_on}

pub updated_here : {A : Type 0} (f : ℕ → A) (n : ℕ) (x : A) → updated f n x n ≡ x
updated_here f n x = let e = eq-eqb n n refl in rw e refl

pub follows : (s : Setting) (m : Configuration) (c : ℕ) (call : Call) (act : Act) → IsWithin m c call → may s m c act ≡ true → may_follow s m (by_caller c act) ≡ true
follows s m c call act w r =
    and_from (meets_demand m.state.back.area (by_caller c act) m.now.demand && (is_begin act || is_some (m.now.calls c).call)) (may s m c act)
    (and_from (meets_demand m.state.back.area (by_caller c act) m.now.demand) (is_begin act || is_some (m.now.calls c).call)
    (ap (meets_demand m.state.back.area (by_caller c act)) w.demand) (or_right (is_begin act) (is_some (m.now.calls c).call) (ap is_some w.call_is))) r

-- the call goes on
same_call : (s : Setting) (c : ℕ) (k : CallState) (act : Act) → is_begin act ≡ false → (call_after s c k act).call ≡ k.call
same_call s c k act h = goes_on s c k act h

pub within_after : (s : Setting) (m : Configuration) (c : ℕ) (call : Call) (act : Act) → IsWithin m c call → is_begin act ≡ false →
    (after s m (by_caller c act)).state.gate ≡ m.state.gate → demand_after m.state c act ≡ Nothing → IsWithin (after s m (by_caller c act)) c call
within_after s m c call act w b gate demand = record {
  entered = ap (λ (f : GateAndLocks). Rattle.heap_model.specs.State.is_entered f c) gate ∙ w.entered;
  call_is = ap (λ (k : CallState). k.call) (updated_here m.now.calls c (call_after s c (m.now.calls c) act)) ∙ (same_call s c (m.now.calls c) act b ∙ w.call_is);
  demand = demand;
}

pub leads : (s : Setting) (m : Configuration) (c : ℕ) (call : Call) (act : Act) (st : State) → IsWithin m c call → is_begin act ≡ false → may s m c act ≡ true →
    (after s m (by_caller c act)).state ≡ st → st.gate ≡ m.state.gate → demand_after m.state c act ≡ Nothing → LeadsTo s m c call act st
leads s m c call act st w b r to gate demand = record {
  may = follows s m c call act w r;
  state = to;
  within = within_after s m c call act w b (ap (λ (x : State). x.gate) to ∙ gate) demand;
}

---- What is there

pub keeps : (s : Setting) (m : Configuration) → IsReached s m → Keeps s m
keeps s m r = subst (Keeps s) (sym r.leads) (keeps_all s r.entries r.valid r.legal)

pub one_in : {A : Type 0} (x : A) (xs ys : List A) → IsOneOf x xs → IsOneOf x (xs ++ ys)
one_in x [] ys h = absurd h
one_in x (y ∷ xs) ys (inl e) = inl e
one_in x (y ∷ xs) ys (inr h) = inr (one_in x xs ys h)

pub one_behind : {A : Type 0} (x : A) (xs ys : List A) → IsOneOf x ys → IsOneOf x (xs ++ ys)
one_behind x [] ys h = h
one_behind x (y ∷ xs) ys h = inr (one_behind x xs ys h)

-- of four lists, that of a layer
abbrev of_layer : Layer → List Place → List Place → List Place → List Place → List Place
of_layer layers.Lfh a b d e = a
of_layer layers.Vs a b d e = b
of_layer layers.Back a b d e = d
of_layer layers.Large a b d e = e

among_four : (l : Layer) (p : Place) (a b d e : List Place) → IsOneOf p (of_layer l a b d e) → IsOneOf p (a ++ b ++ d ++ e)
among_four layers.Lfh p a b d e h = one_in p (a ++ b ++ d) e (one_in p (a ++ b) d (one_in p a b h))
among_four layers.Vs p a b d e h = one_in p (a ++ b ++ d) e (one_in p (a ++ b) d (one_behind p a b h))
among_four layers.Back p a b d e h = one_in p (a ++ b ++ d) e (one_behind p (a ++ b) d h)
among_four layers.Large p a b d e h = one_behind p (a ++ b ++ d) e h

pub among_all : (st : State) (l : Layer) (p : Place) → IsOneOf p (places_of st l) → IsOneOf p (all_places st)
among_all st layers.Lfh p h = among_four layers.Lfh p st.lfh st.vs.places st.back.places st.large h
among_all st layers.Vs p h = among_four layers.Vs p st.lfh st.vs.places st.back.places st.large h
among_all st layers.Back p h = among_four layers.Back p st.lfh st.vs.places st.back.places st.large h
among_all st layers.Large p h = among_four layers.Large p st.lfh st.vs.places st.back.places st.large h

pub in_hand_of : (c : ℕ) (p : Place) (ps : List Place) → p.status ≡ InHand c → IsOneOf p ps → IsOneOf p (in_hand c ps)
in_hand_of c p [] e h = absurd h
in_hand_of c p (q ∷ ps) e (inl same) =
    let t : is_in_hand_of c q.status ≡ true = ap (λ (x : Place). is_in_hand_of c x.status) same ∙ (ap (is_in_hand_of c) e ∙ eq-eqb c c refl) in
    rw t (inl same)
in_hand_of c p (q ∷ ps) e (inr h) = elim (cases_Bool (is_in_hand_of c q.status)) [
  | inl t ↦ rw t (inr (in_hand_of c p ps e h))
  | inr t ↦ rw t (in_hand_of c p ps e h)
]

pub among_hands : (st : State) (c : ℕ) (l : Layer) (p : Place) → p.status ≡ InHand c → IsOneOf p (places_of st l) → IsOneOf p (hands st c)
among_hands st c layers.Lfh p e h = among_four layers.Lfh p (in_hand c st.lfh) (in_hand c st.vs.places) (in_hand c st.back.places) (in_hand c st.large) (in_hand_of c p st.lfh e h)
among_hands st c layers.Vs p e h = among_four layers.Vs p (in_hand c st.lfh) (in_hand c st.vs.places) (in_hand c st.back.places) (in_hand c st.large) (in_hand_of c p st.vs.places e h)
among_hands st c layers.Back p e h = among_four layers.Back p (in_hand c st.lfh) (in_hand c st.vs.places) (in_hand c st.back.places) (in_hand c st.large) (in_hand_of c p st.back.places e h)
among_hands st c layers.Large p e h = among_four layers.Large p (in_hand c st.lfh) (in_hand c st.vs.places) (in_hand c st.back.places) (in_hand c st.large) (in_hand_of c p st.large e h)

module _ (s : Setting) (m : Configuration) (k : Keeps s m) (c : ℕ) (p : Place) (there : IsOneOf p (places_of m.state p.layer)) where
  one : HaveOneAddress m.state
  one = addresses_sound s m k

  -- the place is found by its address ..
  pub place_is : place_at m.state c (address p) ≡ Some p
  place_is = one.place p (among_all m.state p.layer p there) c

  -- .. and so where it is in hand
  pub hand_is : p.status ≡ InHand c → hand_at m.state c (address p) ≡ Some p
  hand_is e =
      let f = find_some (has_address (address p)) (hands m.state c) p (among_hands m.state c p.layer p e there) (eq-eqb (address p) (address p) refl) in
      let same : Some f.0 ≡ Some p = sym (one.hand c (address p) f.0 f.1) ∙ place_is in
      f.1 ∙ same
