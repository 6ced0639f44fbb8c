-- A block of VS that is taken and dropped under the lock.
use Rattle.std.proofs.Common.{◌≡◌, ℕ, true, false, not, ◌&&◌, List, [], ◌∷◌, ◌++◌, Option, Some, refl, sym, ap, ◌∙◌, subst, eq-eqb}
use Rattle.std.specs.List.{find}
use Rattle.std.proofs.lemmas.Bool.{and_from}
use Rattle.heap_model.specs.declared.Act.{Act}
use Rattle.heap_model.specs.declared.Act.TheVariants as acts
use Rattle.heap_model.specs.declared.Call.{Call}
use Rattle.heap_model.specs.declared.Layer.{Layer}
use Rattle.heap_model.specs.declared.Layer.TheVariants as layers
use Rattle.heap_model.specs.declared.What.TheVariants as whats
use Rattle.heap_model.specs.CallState.{Configuration, caller_view}
use Rattle.heap_model.specs.Legal.{may_touch, after, with_places, with_status, layer_of, unspan_of}
use Rattle.heap_model.specs.State.{Setting, State, Place, Live, InHand, is_live, is_live_of, is_layer, is_live_at, is_hand_at, is_in_hand_of, has_address, hands, in_hand, hand_at, holds, change_found, remove_found}
use Rattle.heap_model.specs.Stay.{for_some}
use Rattle.heap_model.proofs.ListLemmas.{filter-remove_found}
use Rattle.heap_soundness.proofs.Lists.{found_passes}
use Rattle.claim_rule.specs.Entries.{entry, is_of_lfh, may_prepare, are_prepared}
use Rattle.call_laws.specs.Within.{IsWithin, by_all}
use Rattle.call_laws.proofs.Within.{follows, within_after}
use Rattle.vs_layer.specs.Kept.{VsKept}
use Rattle.vs_layer.proofs.Told.{block_is}
use Rattle.heap_gate.specs.Token.{Token, Always, now, IsStanding}
use Rattle.heap_gate.specs.Calls.{rested, HasRested}
use Rattle.call_parts.specs.Entries.{with_all}
use Rattle.call_parts.proofs.Serving.{within}
use Rattle.call_parts.proofs.Tokens.{now_all, prepares, one_prepared}
use Rattle.call_parts.proofs.VsBlocks.{HasNothing, has_nothing, found_among, taken_hand, taken_dropped}
use Rattle.vs_calls.specs.Blocks.{IsUnderVs, IsGone, HasTakenOut}
use Rattle.vs_calls.proofs.Held.{IsLiveBlock, locked}

---- By the configuration

module _ (s : Setting) (m : Configuration) (c : ℕ) (call : Call) (addr size : ℕ) (p : Place) (w : IsWithin m c call) (held : holds m.state.gate c whats.Vs ≡ true) (none : hands m.state c ≡ [])
    (there : find (has_address addr) m.state.vs.places ≡ Some p) (live : p.status ≡ Live size) (layer : p.layer ≡ layers.Vs) where
  abbrev take : Act
  take = acts.Take addr size

  abbrev drop : Act
  drop = acts.Drop addr

  abbrev taken : Place
  taken = with_status (InHand c) p

  abbrev as_taken : List Place → List Place
  as_taken ps = change_found (is_live_at addr) (with_status (InHand c)) ps

  is_it_live : is_live p.status ≡ true
  is_it_live = ap is_live live

  nothing : HasNothing m.state c
  nothing = has_nothing m.state c none

  opens : may_touch (caller_view m c) p.layer ≡ true
  opens = ap (may_touch (caller_view m c)) layer ∙ held

  may_take_it : may_prepare s m c take ≡ true
  may_take_it =
      prepares s m c take (locked s m c call addr size p w held none there live layer)
      (ap (λ (o : Option Place). not (is_of_lfh o)) (found_among m.state c addr p none held there) ∙ ap (λ (l : Layer). not (is_layer l layers.Lfh)) layer)
      (follows s m c call take w
      (and_from (caller_view m c).entered _ w.entered
      (ap (λ (o : Option Place). for_some o (λ q. may_touch (caller_view m c) q.layer && is_live_of size q.status)) (found_among m.state c addr p none held there)
      ∙ and_from (may_touch (caller_view m c) p.layer) (is_live_of size p.status) opens (ap (is_live_of size) live ∙ eq-eqb size size refl))))

  abbrev m1 : Configuration
  m1 = after s m (entry c take)

  abbrev st1 : State
  st1 = with_places m.state (Some layers.Vs) as_taken

  state1 : m1.state ≡ st1
  state1 =
      ap (λ (o : Option Place). with_places m.state (layer_of o) as_taken) (found_among m.state c addr p none held there)
      ∙ ap (λ (l : Layer). with_places m.state (Some l) as_taken) layer

  within1 : IsWithin m1 c call
  within1 = within_after s m c call take w refl (ap (λ (x : State). x.gate) state1) refl

  hands1 : hands st1 c ≡ taken ∷ []
  hands1 = let h = taken_hand c addr m.state.vs.places p there is_it_live nothing.vs in (λ i. nothing.lfh i ++ h i ++ nothing.back i ++ nothing.large i)

  hand1 : hand_at m1.state c addr ≡ Some taken
  hand1 =
      let e : has_address addr taken ≡ true = found_passes (has_address addr) m.state.vs.places p there in
      ap (λ (x : State). hand_at x c addr) state1 ∙ (ap (find (has_address addr)) hands1 ∙ rw e refl)

  opens1 : may_touch (caller_view m1 c) taken.layer ≡ true
  opens1 = ap (may_touch (caller_view m1 c)) layer ∙ (ap (λ (x : State). holds x.gate c whats.Vs) state1 ∙ held)

  may_drop_it : may_prepare s m1 c drop ≡ true
  may_drop_it =
      prepares s m1 c drop refl (ap (λ (o : Option Place). not (is_of_lfh o)) hand1 ∙ ap (λ (l : Layer). not (is_layer l layers.Lfh)) layer)
      (follows s m1 c call drop within1 (and_from (caller_view m1 c).entered _ within1.entered (ap (λ (o : Option Place). for_some o (λ q. may_touch (caller_view m1 c) q.layer)) hand1 ∙ opens1)))

  pub may_both : are_prepared s m c (by_all c (take ∷ drop ∷ [])) ≡ true
  may_both = one_prepared s m c take (by_all c (drop ∷ [])) may_take_it (one_prepared s m1 c drop [] may_drop_it refl)

  abbrev pub m2 : Configuration
  m2 = after s m1 (entry c drop)

  abbrev st2 : State
  st2 = with_places st1 (Some layers.Vs) (remove_found (is_hand_at c addr))

  state2 : m2.state ≡ st2
  state2 =
      ap (λ (o : Option Place). with_places m1.state (layer_of o) (remove_found (is_hand_at c addr))) hand1
      ∙ (ap (λ (l : Layer). with_places m1.state (Some l) (remove_found (is_hand_at c addr))) layer ∙ ap (λ (x : State). with_places x (Some layers.Vs) (remove_found (is_hand_at c addr))) state1)

  left : remove_found (is_hand_at c addr) (as_taken m.state.vs.places) ≡ remove_found (has_address addr) m.state.vs.places
  left = taken_dropped c addr m.state.vs.places p there is_it_live

  not_in_hand : (q : Place) → find (has_address addr) m.state.vs.places ≡ Some q → is_in_hand_of c q.status ≡ false
  not_in_hand q f =
      let both : Some p ≡ Some q = sym there ∙ f in
      let same : p ≡ q = cc in
      ap (λ (x : Place). is_in_hand_of c x.status) (sym same) ∙ ap (is_in_hand_of c) live

  hands2 : hands st2 c ≡ []
  hands2 =
      let h : in_hand c (remove_found (is_hand_at c addr) (as_taken m.state.vs.places)) ≡ [] =
      ap (in_hand c) left ∙ (filter-remove_found (λ (q : Place). is_in_hand_of c q.status) (has_address addr) m.state.vs.places not_in_hand ∙ nothing.vs) in
      (λ i. nothing.lfh i ++ h i ++ nothing.back i ++ nothing.large i)

  pub rests : HasRested m2 c
  rests = record {
    hands = ap (λ (x : State). hands x c) state2 ∙ hands2;
    demand = ap (unspan_of c) hand1 ∙ (let e : is_layer p.layer layers.Back ≡ false = ap (λ (l : Layer). is_layer l layers.Back) layer in rw e refl);
  }

  pub gone : IsGone addr m.state m2.state
  gone = record {
    vs = ap (λ (x : State). x.vs) state2 ∙ ap (λ (ps : List Place). record { places = ps; active = m.state.vs.active; served = m.state.vs.served }) left;
    back = ap (λ (x : State). x.back) state2;
  }

---- By the token

module _ (c : Token) (vs : VsKept) (h : IsUnderVs c vs) (st : IsStanding c) (addr size : ℕ) (b : IsLiveBlock vs addr size) where
  abbrev list : List Act
  list = acts.Take addr size ∷ acts.Drop addr ∷ []

  within_now : Always c (λ s. IsWithin (now s c) c.number h.call)
  within_now = within c h.call st h.inside h.call_is h.whole

  vs_held : Always c (λ s. holds (now s c).state.gate c.number whats.Vs ≡ true)
  vs_held s q = (st s q).locks whats.Vs ∙ h.held

  found_now : Always c (λ s. find (has_address addr) (now s c).state.vs.places ≡ Some b.place)
  found_now s q = sym (block_is c.opening (now s c).state vs (h.tells s q) addr) ∙ b.there

  pub both_may : Always c (λ s. are_prepared s (now s c) c.number (by_all c.number list) ≡ true)
  both_may s q = may_both s (now s c) c.number h.call addr size b.place (within_now s q) (vs_held s q) ((st s q).hands h.free) (found_now s q) b.live b.layer

  pub both_rest : Always (with_all c list) (λ s. HasRested (now s (with_all c list)) c.number)
  both_rest s q =
      subst (λ (k : Configuration). HasRested k c.number) (sym (now_all s c list))
      (rests s (now s c) c.number h.call addr size b.place (within_now s q) (vs_held s q) ((st s q).hands h.free) (found_now s q) b.live b.layer)

  pub taken_out : (d : Token) → d ≡ rested (with_all c list) → HasTakenOut c d addr size
  taken_out d e = record {
    prepared = e;
    gone = subst (λ (t : Token). Always t (λ s. IsGone addr (now s c).state (now s t).state)) (sym e) (λ s q.
        subst (λ (k : Configuration). IsGone addr (now s c).state k.state) (sym (now_all s c list))
        (gone s (now s c) c.number h.call addr size b.place (within_now s q) (vs_held s q) ((st s q).hands h.free) (found_now s q) b.live b.layer));
  }
