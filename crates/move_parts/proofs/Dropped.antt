-- The old block is taken and dropped, where nothing else is in hand.
use Rattle.std.proofs.Common.{◌≡◌, ℕ, true, false, not, ◌&&◌, ◌||◌, List, [], ◌∷◌, ◌++◌, Option, Some, refl, ap, ◌∙◌}
use Rattle.std.specs.Prelude.{is_some}
use Rattle.std.specs.List.{find}
use Rattle.std.proofs.lemmas.Bool.{and_from}
use Rattle.heap_model.specs.declared.Act.{Act}
use Rattle.heap_model.specs.declared.Act.TheVariants as acts
use Rattle.heap_model.specs.declared.Layer.{Layer}
use Rattle.heap_model.specs.declared.Layer.TheVariants as layers
use Rattle.heap_model.specs.State.{Setting, State, Place, InHand, is_live, has_address, is_live_at, is_hand_at, is_entered, hands, hand_at, places_of, all_places, exclusive_places, change_found, remove_found}
use Rattle.heap_model.specs.Stay.{for_some}
use Rattle.heap_model.specs.CallState.{Configuration, CallState, Nothing, caller_view}
use Rattle.heap_model.specs.Legal.{after, call_after, may_touch, with_places, with_status, layer_of, unspan_of}
use Rattle.heap_soundness.proofs.Lists.{found_passes}
use Rattle.claim_rule.specs.Entries.{entry, is_of_lfh, may_prepare, are_prepared}
use Rattle.serial_laws.proofs.Found.{find_front}
use Rattle.call_laws.specs.Within.{by_all}
use Rattle.call_laws.proofs.Within.{updated_here}
use Rattle.call_parts.proofs.Tokens.{prepares, one_prepared}
use Rattle.call_parts.proofs.VsBlocks.{HasNothing, has_nothing, taken_hand, taken_dropped}
use Rattle.move_parts.proofs.Held.{take_may}
use Rattle.move_parts.proofs.Lists.{none_left}
use Rattle.move_parts.specs.Moves.{IsHeld}

module _ (s : Setting) (m : Configuration) (c a size : ℕ) (p : Place) (old : IsHeld m c a p size) (none : hands m.state c ≡ []) (ent : is_entered m.state.gate c ≡ true) (beg : is_some (m.now.calls c).call ≡ true) where
  abbrev take_it : Act
  take_it = acts.Take a size

  abbrev drop_it : Act
  drop_it = acts.Drop a

  abbrev taken : List Place → List Place
  taken ps = change_found (is_live_at a) (with_status (InHand c)) ps

  abbrev in_hand_then : Place
  in_hand_then = with_status (InHand c) p

  nothing : HasNothing m.state c
  nothing = has_nothing m.state c none

  live : is_live p.status ≡ true
  live = ap is_live old.live

  abbrev m1 : Configuration
  m1 = after s m (entry c take_it)

  state1 : m1.state ≡ with_places m.state (Some p.layer) taken
  state1 = ap (λ (o : Option Place). with_places m.state (layer_of o) taken) (find_front (has_address a) (exclusive_places m.state c) (all_places m.state) p old.first)

  one_hand : (l : Layer) → find (has_address a) (places_of m.state l) ≡ Some p → hands (with_places m.state (Some l) taken) c ≡ in_hand_then ∷ []
  one_hand layers.Lfh f = let h = taken_hand c a m.state.lfh p f live nothing.lfh in (λ i. h i ++ nothing.vs i ++ nothing.back i ++ nothing.large i)
  one_hand layers.Vs f = let h = taken_hand c a m.state.vs.places p f live nothing.vs in (λ i. nothing.lfh i ++ h i ++ nothing.back i ++ nothing.large i)
  one_hand layers.Back f = let h = taken_hand c a m.state.back.places p f live nothing.back in (λ i. nothing.lfh i ++ nothing.vs i ++ h i ++ nothing.large i)
  one_hand layers.Large f = let h = taken_hand c a m.state.large p f live nothing.large in (λ i. nothing.lfh i ++ nothing.vs i ++ nothing.back i ++ h i)

  hand1 : hand_at m1.state c a ≡ Some in_hand_then
  hand1 =
      let e : has_address a in_hand_then ≡ true = found_passes (has_address a) (places_of m.state p.layer) p old.there in
      ap (λ (x : State). hand_at x c a) state1 ∙ (ap (find (has_address a)) (one_hand p.layer old.there) ∙ rw e refl)

  begun1 : is_some (m1.now.calls c).call ≡ true
  begun1 = ap (λ (x : CallState). is_some x.call) (updated_here m.now.calls c (call_after s c (m.now.calls c) take_it)) ∙ beg

  touch1 : (l : Layer) → may_touch (caller_view m c) l ≡ true → may_touch (caller_view m1 c) l ≡ true
  touch1 layers.Lfh h = refl
  touch1 layers.Vs h = h
  touch1 layers.Back h = h
  touch1 layers.Large h = h

  drop_may : may_prepare s m1 c drop_it ≡ true
  drop_may = prepares s m1 c drop_it refl (ap (λ (o : Option Place). not (is_of_lfh o)) hand1 ∙ ap not old.behind)
      (and_from (true && (false || is_some (m1.now.calls c).call)) _ begun1
      (and_from (is_entered m.state.gate c) _ ent (ap (λ (o : Option Place). for_some o (λ q. may_touch (caller_view m1 c) q.layer)) hand1 ∙ touch1 p.layer old.touch)))

  pub both_may : (dem : m.now.demand ≡ Nothing) (rest : List Act) → are_prepared s (after s m1 (entry c drop_it)) c (by_all c rest) ≡ true → are_prepared s m c (by_all c (take_it ∷ drop_it ∷ rest)) ≡ true
  both_may dem rest h =
      one_prepared s m c take_it (by_all c (drop_it ∷ rest)) (take_may s m c a size p old ent beg dem) (one_prepared s m1 c drop_it (by_all c rest) drop_may h)

  abbrev pub m2 : Configuration
  m2 = after s m1 (entry c drop_it)

  both_lists : (l : Layer) → find (has_address a) (places_of m.state l) ≡ Some p → with_places (with_places m.state (Some l) taken) (Some l) (remove_found (is_hand_at c a)) ≡ with_places m.state (Some l) (remove_found (has_address a))
  both_lists layers.Lfh f = ap (λ (ps : List Place). record m.state { lfh = ps }) (taken_dropped c a m.state.lfh p f live)
  both_lists layers.Vs f = ap (λ (ps : List Place). record m.state { vs = record { places = ps; active = m.state.vs.active; served = m.state.vs.served } }) (taken_dropped c a m.state.vs.places p f live)
  both_lists layers.Back f = ap (λ (ps : List Place). record m.state { back = record { area = m.state.back.area; places = ps } }) (taken_dropped c a m.state.back.places p f live)
  both_lists layers.Large f = ap (λ (ps : List Place). record m.state { large = ps }) (taken_dropped c a m.state.large p f live)

  -- the block is gone from its layer, and nothing else has changed
  pub state2 : m2.state ≡ with_places m.state (Some p.layer) (remove_found (has_address a))
  state2 =
      ap (λ (o : Option Place). with_places m1.state (layer_of o) (remove_found (is_hand_at c a))) hand1
      ∙ (ap (λ (x : State). with_places x (Some p.layer) (remove_found (is_hand_at c a))) state1 ∙ both_lists p.layer old.there)

  left : (l : Layer) → hands (with_places m.state (Some l) (remove_found (has_address a))) c ≡ []
  left layers.Lfh = let h = none_left c (has_address a) m.state.lfh nothing.lfh in (λ i. h i ++ nothing.vs i ++ nothing.back i ++ nothing.large i)
  left layers.Vs = let h = none_left c (has_address a) m.state.vs.places nothing.vs in (λ i. nothing.lfh i ++ h i ++ nothing.back i ++ nothing.large i)
  left layers.Back = let h = none_left c (has_address a) m.state.back.places nothing.back in (λ i. nothing.lfh i ++ nothing.vs i ++ h i ++ nothing.large i)
  left layers.Large = let h = none_left c (has_address a) m.state.large nothing.large in (λ i. nothing.lfh i ++ nothing.vs i ++ nothing.back i ++ h i)

  pub hands2 : hands m2.state c ≡ []
  hands2 = ap (λ (x : State). hands x c) state2 ∙ left p.layer

  pub demand2 : m2.now.demand ≡ unspan_of c (Some in_hand_then)
  demand2 = ap (unspan_of c) hand1

  pub begun2 : is_some (m2.now.calls c).call ≡ true
  begun2 = ap (λ (x : CallState). is_some x.call) (updated_here m1.now.calls c (call_after s c (m1.now.calls c) drop_it)) ∙ begun1
