-- A Take of the old block and a Give of the new one come in either order to the same.
use Rattle.std.proofs.Common.{◌≡◌, ℕ, ◌==◌, Bool, true, false, not, ◌&&◌, ◌||◌, List, [], ◌∷◌, ◌++◌, Option, Some, refl, sym, ap, ◌∙◌, subst, eq-eqb, inl, inr}
use Rattle.std.specs.Prelude.{is_some}
use Rattle.std.specs.List.{find}
use Rattle.std.specs.Option.{option_or}
use Rattle.std.proofs.lemmas.Bool.{cases_Bool, and_from, and_parts, ne_eqb}
use Rattle.std.proofs.lemmas.List.Folds.{find-append}
use Rattle.heap_model.specs.declared.Act.{Act}
use Rattle.heap_model.specs.declared.Act.TheVariants as acts
use Rattle.heap_model.specs.declared.Layer.{Layer}
use Rattle.heap_model.specs.declared.Layer.TheVariants as layers
use Rattle.heap_model.specs.declared.What.TheVariants as whats
use Rattle.heap_model.specs.State.{Setting, State, Place, is_layer, address, has_address, is_entered, in_hand, hands, hand_at, place_at, places_of, all_places, holds, guarded, exclusive_places}
use Rattle.heap_model.specs.Stay.{for_some}
use Rattle.heap_model.specs.CallState.{Configuration, CallState, Nothing, caller_view}
use Rattle.heap_model.specs.Legal.{after, call_after, may_touch, suits, with_places, layer_of}
use Rattle.heap_model.specs.History.{configuration_after}
use Rattle.claim_rule.specs.Entries.{entry, is_of_lfh, may_prepare, are_prepared}
use Rattle.serial_laws.proofs.Found.{find_front}
use Rattle.call_laws.specs.Within.{by_all}
use Rattle.call_laws.proofs.Within.{updated_here}
use Rattle.call_parts.specs.Entries.{holding}
use Rattle.call_parts.proofs.Handing.{new_place, hands_are as all_hands, rests_then}
use Rattle.call_parts.proofs.Tokens.{prepares, one_prepared}
use Rattle.move_parts.proofs.Held.{take_may}
use Rattle.move_parts.specs.Moves.{IsHeld}
use Rattle.move_parts.proofs.Lists.{take, give, take_other, give_find, commute}

---- Lists of four layers

find_four : (t : Place → Bool) (a b d e x y z w : List Place) → find t a ≡ find t x → find t b ≡ find t y → find t d ≡ find t z → find t e ≡ find t w → find t (a ++ b ++ d ++ e) ≡ find t (x ++ y ++ z ++ w)
find_four t a b d e x y z w h k l m =
    find-append t (a ++ b ++ d) e ∙ ((λ i. option_or (two i) (m i)) ∙ sym (find-append t (x ++ y ++ z) w))
  where
    one : find t (a ++ b) ≡ find t (x ++ y)
    one = find-append t a b ∙ ((λ i. option_or (h i) (k i)) ∙ sym (find-append t x y))

    two : find t (a ++ b ++ d) ≡ find t (x ++ y ++ z)
    two = find-append t (a ++ b) d ∙ ((λ i. option_or (one i) (l i)) ∙ sym (find-append t (x ++ y) z))

---- The two entries

module _ (s : Setting) (m : Configuration) (c a size : ℕ) (p : Place) (l : Layer) (start granules n : ℕ) (old : IsHeld m c a p size) (apart : a ≡ address (new_place c l start granules) → ⊥) (ent : is_entered m.state.gate c ≡ true) (beg : is_some (m.now.calls c).call ≡ true)
    (dem : m.now.demand ≡ Nothing) (hand : (layer : Layer) → in_hand c (places_of m.state layer) ≡ holding (new_place c l start granules) layer) (front : is_layer l layers.Lfh ≡ false) (open_to : may_touch (caller_view m c) l ≡ true) (suit : suits n (new_place c l start granules) ≡ true) where
  abbrev q : Place
  q = new_place c l start granules

  abbrev b : ℕ
  b = address q

  abbrev take_it : Act
  take_it = acts.Take a size

  abbrev give_it : Act
  give_it = acts.Give b n

  abbrev taken : List Place → List Place
  taken ps = take c a b n apart ps

  abbrev given : List Place → List Place
  given ps = give c a b n apart ps

  hands_are : hands m.state c ≡ q ∷ []
  hands_are = all_hands m.state c l start granules hand

  hand_m : hand_at m.state c b ≡ Some q
  hand_m = ap (find (has_address b)) hands_are ∙ (let e = eq-eqb b b refl in rw e refl)

  place_m : place_at m.state c a ≡ Some p
  place_m = find_front (has_address a) (exclusive_places m.state c) (all_places m.state) p old.first

  ---- The Take first

  abbrev t1 : Configuration
  t1 = after s m (entry c take_it)

  abbrev st_t : State
  st_t = with_places m.state (Some p.layer) taken

  state_t : t1.state ≡ st_t
  state_t = ap (λ (o : Option Place). with_places m.state (layer_of o) taken) place_m

  same_hand : (k : Layer) → find (has_address b) (in_hand c (places_of st_t k)) ≡ find (has_address b) (in_hand c (places_of m.state k))
  same_hand k = by k (is_layer k p.layer) refl
    where
      by : (k : Layer) (x : Bool) → is_layer k p.layer ≡ x → find (has_address b) (in_hand c (places_of st_t k)) ≡ find (has_address b) (in_hand c (places_of m.state k))
      by layers.Lfh true e = rw e (take_other c a b n apart m.state.lfh)
      by layers.Lfh false e = rw e refl
      by layers.Vs true e = rw e (take_other c a b n apart m.state.vs.places)
      by layers.Vs false e = rw e refl
      by layers.Back true e = rw e (take_other c a b n apart m.state.back.places)
      by layers.Back false e = rw e refl
      by layers.Large true e = rw e (take_other c a b n apart m.state.large)
      by layers.Large false e = rw e refl

  hand_t : hand_at t1.state c b ≡ Some q
  hand_t =
      ap (λ (x : State). hand_at x c b) state_t
      ∙ (find_four (has_address b) (in_hand c st_t.lfh) (in_hand c st_t.vs.places) (in_hand c st_t.back.places) (in_hand c st_t.large)
      (in_hand c m.state.lfh) (in_hand c m.state.vs.places) (in_hand c m.state.back.places) (in_hand c m.state.large)
      (same_hand layers.Lfh) (same_hand layers.Vs) (same_hand layers.Back) (same_hand layers.Large) ∙ hand_m)

  begun_t : is_some (t1.now.calls c).call ≡ true
  begun_t = ap (λ (x : CallState). is_some x.call) (updated_here m.now.calls c (call_after s c (m.now.calls c) take_it)) ∙ beg

  give_may : may_prepare s t1 c give_it ≡ true
  give_may = prepares s t1 c give_it refl (ap (λ (o : Option Place). not (is_of_lfh o)) hand_t ∙ ap not front)
      (and_from (true && (false || is_some (t1.now.calls c).call)) _ begun_t
      (and_from (is_entered m.state.gate c) _ ent
      (ap (λ (o : Option Place). for_some o (λ x. may_touch (caller_view t1 c) x.layer && suits n x)) hand_t ∙ and_from (may_touch (caller_view m c) l) (suits n q) open_to suit)))

  abbrev t2 : Configuration
  t2 = after s t1 (entry c give_it)

  ---- The Give first

  abbrev pub g1 : Configuration
  g1 = after s m (entry c give_it)

  abbrev st_g : State
  st_g = with_places m.state (Some l) given

  pub state_g : g1.state ≡ st_g
  state_g = ap (λ (o : Option Place). with_places m.state (layer_of o) given) hand_m

  same_find : (k : Layer) → find (has_address a) (places_of st_g k) ≡ find (has_address a) (places_of m.state k)
  same_find k = by k (is_layer k l) refl
    where
      by : (k : Layer) (x : Bool) → is_layer k l ≡ x → find (has_address a) (places_of st_g k) ≡ find (has_address a) (places_of m.state k)
      by layers.Lfh true e = rw e (give_find c a b n apart m.state.lfh)
      by layers.Lfh false e = rw e refl
      by layers.Vs true e = rw e (give_find c a b n apart m.state.vs.places)
      by layers.Vs false e = rw e refl
      by layers.Back true e = rw e (give_find c a b n apart m.state.back.places)
      by layers.Back false e = rw e refl
      by layers.Large true e = rw e (give_find c a b n apart m.state.large)
      by layers.Large false e = rw e refl

  pub none_g : hands g1.state c ≡ []
  none_g = (rests_then s m c l start granules n front ent beg dem hand open_to suit).hands

  guarded_find : (x y : List Place) (h : Bool) → find (has_address a) x ≡ find (has_address a) y → find (has_address a) (guarded x h) ≡ find (has_address a) (guarded y h)
  guarded_find x y true e = e
  guarded_find x y false e = refl

  not_q : has_address a q ≡ false
  not_q = ne_eqb b a (λ e. apart (sym e))

  first_g : find (has_address a) (exclusive_places g1.state c) ≡ Some p
  first_g =
      let v = guarded_find st_g.vs.places m.state.vs.places (holds m.state.gate c whats.Vs) (same_find layers.Vs) in
      let k = guarded_find st_g.back.places m.state.back.places (holds m.state.gate c whats.Back) (same_find layers.Back) in
      let r = guarded_find st_g.large m.state.large (holds m.state.gate c whats.Large) (same_find layers.Large) in
      let hm : find (has_address a) (q ∷ []) ≡ find (has_address a) [] = (let e = not_q in rw e refl) in
      (λ i. find (has_address a) (none_g i ++ guarded (state_g i).vs.places (holds m.state.gate c whats.Vs) ++ guarded (state_g i).back.places (holds m.state.gate c whats.Back) ++ guarded (state_g i).large (holds m.state.gate c whats.Large)))
      ∙ (find_four (has_address a) [] (guarded st_g.vs.places (holds m.state.gate c whats.Vs)) (guarded st_g.back.places (holds m.state.gate c whats.Back)) (guarded st_g.large (holds m.state.gate c whats.Large))
      (q ∷ []) (guarded m.state.vs.places (holds m.state.gate c whats.Vs)) (guarded m.state.back.places (holds m.state.gate c whats.Back)) (guarded m.state.large (holds m.state.gate c whats.Large)) (sym hm) v k r
      ∙ (ap (λ (hs : List Place). find (has_address a) (hs ++ guarded m.state.vs.places (holds m.state.gate c whats.Vs) ++ guarded m.state.back.places (holds m.state.gate c whats.Back) ++ guarded m.state.large (holds m.state.gate c whats.Large))) (sym hands_are) ∙ old.first))

  -- the old block is as it was
  pub held_g : IsHeld g1 c a p size
  held_g = record {
    first = first_g;
    there = ap (λ (x : State). find (has_address a) (places_of x p.layer)) state_g ∙ (same_find p.layer ∙ old.there);
    live = old.live;
    behind = old.behind;
    touch = touch p.layer old.touch;
  }
    where
      touch : (k : Layer) → may_touch (caller_view m c) k ≡ true → may_touch (caller_view g1 c) k ≡ true
      touch layers.Lfh h = refl
      touch layers.Vs h = h
      touch layers.Back h = h
      touch layers.Large h = h

  place_g : place_at g1.state c a ≡ Some p
  place_g = find_front (has_address a) (exclusive_places g1.state c) (all_places g1.state) p first_g

  abbrev g2 : Configuration
  g2 = after s g1 (entry c take_it)

  ---- They come to the same

  both_states : (k j : Layer) → with_places (with_places m.state (Some k) taken) (Some j) given ≡ with_places (with_places m.state (Some j) given) (Some k) taken
  both_states layers.Lfh layers.Lfh = ap (λ (ps : List Place). record m.state { lfh = ps }) (commute c a b n apart m.state.lfh)
  both_states layers.Lfh layers.Vs = refl
  both_states layers.Lfh layers.Back = refl
  both_states layers.Lfh layers.Large = refl
  both_states layers.Vs layers.Lfh = refl
  both_states layers.Vs layers.Vs = ap (λ (ps : List Place). record m.state { vs = record { places = ps; active = m.state.vs.active; served = m.state.vs.served } }) (commute c a b n apart m.state.vs.places)
  both_states layers.Vs layers.Back = refl
  both_states layers.Vs layers.Large = refl
  both_states layers.Back layers.Lfh = refl
  both_states layers.Back layers.Vs = refl
  both_states layers.Back layers.Back = ap (λ (ps : List Place). record m.state { back = record { area = m.state.back.area; places = ps } }) (commute c a b n apart m.state.back.places)
  both_states layers.Back layers.Large = refl
  both_states layers.Large layers.Lfh = refl
  both_states layers.Large layers.Vs = refl
  both_states layers.Large layers.Back = refl
  both_states layers.Large layers.Large = ap (λ (ps : List Place). record m.state { large = ps }) (commute c a b n apart m.state.large)

  state_same : t2.state ≡ g2.state
  state_same =
      ap (λ (o : Option Place). with_places t1.state (layer_of o) given) hand_t
      ∙ (ap (λ (x : State). with_places x (Some l) given) state_t
      ∙ (both_states p.layer l
      ∙ (ap (λ (x : State). with_places x (Some p.layer) taken) (sym state_g)
      ∙ ap (λ (o : Option Place). with_places g1.state (layer_of o) taken) (sym place_g))))

  calls_same : (d : ℕ) → t2.now.calls d ≡ g2.now.calls d
  calls_same d = elim (cases_Bool (d == c)) [
    | inl e ↦ let z = eq-eqb c c refl in rw e (rw z refl)
    | inr e ↦ rw e refl
  ]

  pub swapped_two : t2 ≡ g2
  swapped_two = λ i. record {
    state = state_same i;
    now = record { calls = λ d. calls_same d i; disturbed = m.now.disturbed; span_history = m.now.span_history; demand = Nothing };
  }

  -- what may be prepared behind the Give with the Take first, may be so with the Take before it
  pub swapped_may : (rest : List Act) → are_prepared s g1 c (by_all c (take_it ∷ rest)) ≡ true → are_prepared s m c (by_all c (take_it ∷ give_it ∷ rest)) ≡ true
  swapped_may rest h =
      let k = (and_parts _ (are_prepared s g2 c (by_all c rest)) h).1 in
      one_prepared s m c take_it (by_all c (give_it ∷ rest)) (take_may s m c a size p old ent beg dem)
      (one_prepared s t1 c give_it (by_all c rest) give_may (subst (λ (x : Configuration). are_prepared s x c (by_all c rest) ≡ true) (sym swapped_two) k))

  pub swapped_is : (rest : List Act) → configuration_after s m (by_all c (take_it ∷ give_it ∷ rest)) ≡ configuration_after s g1 (by_all c (take_it ∷ rest))
  swapped_is rest = ap (λ (x : Configuration). configuration_after s x (by_all c rest)) swapped_two
