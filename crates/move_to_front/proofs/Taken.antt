-- The old block is taken, the new one of the front end given, and the old one dropped: what is there behind each of the three.
use Rattle.std.proofs.Common.{◌≡◌, ℕ, ◌*◌, true, false, not, ◌&&◌, ◌||◌, List, [], ◌∷◌, ◌++◌, Option, Some, refl, sym, ap, ◌∙◌, subst, eq-eqb}
use Rattle.std.specs.Prelude.{is_some}
use Rattle.std.specs.List.{find}
use Rattle.std.proofs.lemmas.Bool.{and_from, true≢false}
use Rattle.std.proofs.lemmas.List.{append-nil}
use Rattle.heap_model.specs.declared.Act.{Act}
use Rattle.heap_model.specs.declared.Act.TheVariants as acts
use Rattle.heap_model.specs.declared.Layer.{Layer}
use Rattle.heap_model.specs.declared.Layer.TheVariants as layers
use Rattle.heap_model.specs.declared.What.TheVariants as whats
use Rattle.heap_model.specs.Agreement.{AgreesFor}
use Rattle.heap_model.specs.Buckets.{block_size}
use Rattle.heap_model.specs.State.{Setting, State, BackPart, VsPart, Place, Live, InHand, is_layer, address, is_live, has_address, is_live_at, is_hand_at, is_entered, in_hand, hands, hand_at, places_of, all_places, exclusive_places, holds, change_found, remove_found}
use Rattle.heap_model.specs.Ranges.{vs_spans}
use Rattle.heap_model.specs.Stay.{for_some}
use Rattle.heap_model.specs.CallState.{Configuration, CallState, Nothing, caller_view}
use Rattle.heap_model.specs.Legal.{after, call_after, may_touch, meets_demand, with_places, with_status, layer_of, unspan_of}
use Rattle.heap_soundness.proofs.Lists.{found_passes}
use Rattle.claim_rule.specs.Entries.{entry, is_of_lfh, may_prepare}
use Rattle.serial_laws.proofs.Found.{find_front}
use Rattle.call_laws.proofs.Within.{updated_here}
use Rattle.step_parts.specs.InHand.{HasBlock}
use Rattle.lfh_claims.specs.Moves.{IsWith}
use Rattle.call_parts.proofs.Tokens.{prepares}
use Rattle.call_parts.proofs.VsBlocks.{taken_hand, taken_dropped}
use Rattle.move_parts.specs.Moves.{IsHeld}
use Rattle.move_parts.proofs.Lists.{none_left}
use Rattle.move_to_front.specs.Halfway.{HoldsFrontPlace, IsGoneFrom}

---- Lists

front_none : (f : List Place) (y : Place) → f ++ y ∷ [] ≡ y ∷ [] → f ≡ []
front_none [] y e = refl
front_none (x ∷ []) y e = absurd (let no : ⊥ = cc (e) in no)
front_none (x ∷ z ∷ f) y e = absurd (let no : ⊥ = cc (e) in no)

-- of two places the one of the front end goes
left_one : (b : ℕ) (less : List Place) (q y : Place) → IsWith b less (q ∷ y ∷ []) → is_layer y.layer layers.Lfh ≡ false → less ≡ y ∷ []
left_one b less q y w behind = by w.front w.back w.less_is w.more_is
  where
    by : (front back : List Place) → less ≡ front ++ back → q ∷ y ∷ [] ≡ front ++ w.place ∷ back → less ≡ y ∷ []
    by [] back e m = e ∙ (let is : y ∷ [] ≡ back = cc (m) in sym is)
    by (x ∷ []) back e m =
        let is : y ≡ w.place = cc (m) in
        absurd (true≢false (sym (ap (λ (l : Layer). is_layer l layers.Lfh) w.layer) ∙ (ap (λ (z : Place). is_layer z.layer layers.Lfh) (sym is) ∙ behind)))
    by (x ∷ z ∷ []) back e m = absurd (let no : ⊥ = cc (m) in no)
    by (x ∷ z ∷ u ∷ front) back e m = absurd (let no : ⊥ = cc (m) in no)

module _ (s : Setting) (m : Configuration) (n a size b num : ℕ) (p q : Place) (hand : HoldsFrontPlace m.state n q) (old : IsHeld m n a p size) (front : q.layer ≡ layers.Lfh) (at : address q ≡ b) (ent : is_entered m.state.gate n ≡ true) (beg : is_some (m.now.calls n).call ≡ true) where
  abbrev take_it : Act
  take_it = acts.Take a size

  abbrev give_it : Act
  give_it = acts.Give b num

  abbrev drop_it : Act
  drop_it = acts.Drop a

  abbrev taken : List Place → List Place
  taken ps = change_found (is_live_at a) (with_status (InHand n)) ps

  abbrev gone : List Place → List Place
  gone ps = remove_found (has_address a) ps

  abbrev p1 : Place
  p1 = with_status (InHand n) p

  live : is_live p.status ≡ true
  live = ap is_live old.live

  ---- The Take

  abbrev m1 : Configuration
  m1 = after s m (entry n take_it)

  state1 : m1.state ≡ with_places m.state (Some p.layer) taken
  state1 = ap (λ (o : Option Place). with_places m.state (layer_of o) taken) (find_front (has_address a) (exclusive_places m.state n) (all_places m.state) p old.first)

  two_hands : (l : Layer) → is_layer l layers.Lfh ≡ false → find (has_address a) (places_of m.state l) ≡ Some p → hands (with_places m.state (Some l) taken) n ≡ q ∷ p1 ∷ []
  two_hands layers.Lfh e f = absurd (true≢false e)
  two_hands layers.Vs e f = let h = taken_hand n a m.state.vs.places p f live hand.vs in (λ i. hand.lfh i ++ h i ++ hand.back i ++ hand.large i)
  two_hands layers.Back e f = let h = taken_hand n a m.state.back.places p f live hand.back in (λ i. hand.lfh i ++ hand.vs i ++ h i ++ hand.large i)
  two_hands layers.Large e f = let h = taken_hand n a m.state.large p f live hand.large in (λ i. hand.lfh i ++ hand.vs i ++ hand.back i ++ h i)

  pub hands1 : hands m1.state n ≡ q ∷ p1 ∷ []
  hands1 = ap (λ (x : State). hands x n) state1 ∙ two_hands p.layer old.behind old.there

  hand_b : hand_at m1.state n b ≡ Some q
  hand_b = ap (find (has_address b)) hands1 ∙ (let e = eq-eqb (address q) b at in rw e refl)

  begun1 : is_some (m1.now.calls n).call ≡ true
  begun1 = ap (λ (x : CallState). is_some x.call) (updated_here m.now.calls n (call_after s n (m.now.calls n) take_it)) ∙ beg

  pub block1 : (bucket : ℕ) → 16 * q.granules ≡ block_size bucket → HasBlock m1 n bucket b
  block1 bucket long = record { hand = record { begun = begun1; place = q; hand = hand_b; layer = front }; long = long }

  ---- The Give

  abbrev pub m2 : Configuration
  m2 = after s m1 (entry n give_it)

  state2 : m2.state ≡ with_places (with_places m.state (Some p.layer) taken) (Some layers.Lfh) (change_found (is_hand_at n b) (with_status (Live num)))
  state2 =
      ap (λ (o : Option Place). with_places m1.state (layer_of o) (change_found (is_hand_at n b) (with_status (Live num)))) hand_b
      ∙ ((λ i. with_places m1.state (Some (front i)) (change_found (is_hand_at n b) (with_status (Live num)))) ∙ ap (λ (x : State). with_places x (Some layers.Lfh) (change_found (is_hand_at n b) (with_status (Live num)))) state1)

  touch2 : (l : Layer) → may_touch (caller_view m n) l ≡ true → may_touch (caller_view m2 n) l ≡ true
  touch2 layers.Lfh h = refl
  touch2 layers.Vs h = h
  touch2 layers.Back h = h
  touch2 layers.Large h = h

  -- behind it others had entries
  module _ (k : Configuration) (ag : AgreesFor n k m2) (w : IsWith b (hands k.state n) (hands m1.state n)) (ent_k : is_entered k.state.gate n ≡ true) (beg_k : is_some (k.now.calls n).call ≡ true) (dem_k : k.now.demand ≡ Nothing) where
    hands_k : hands k.state n ≡ p1 ∷ []
    hands_k = left_one b (hands k.state n) q p1 (subst (IsWith b (hands k.state n)) hands1 w) old.behind

    hand_k : hand_at k.state n a ≡ Some p1
    hand_k =
        let e : has_address a p1 ≡ true = found_passes (has_address a) (places_of m.state p.layer) p old.there in
        ap (find (has_address a)) hands_k ∙ rw e refl

    touch_k : (l : Layer) → may_touch (caller_view m n) l ≡ true → may_touch (caller_view k n) l ≡ true
    touch_k layers.Lfh h = refl
    touch_k layers.Vs h = ag.locks whats.Vs ∙ h
    touch_k layers.Back h = ag.locks whats.Back ∙ h
    touch_k layers.Large h = ag.locks whats.Large ∙ h

    pub drop_may : may_prepare s k n drop_it ≡ true
    drop_may = prepares s k n drop_it refl (ap (λ (o : Option Place). not (is_of_lfh o)) hand_k ∙ ap not old.behind)
        (and_from (meets_demand k.state.back.area (entry n drop_it) k.now.demand && (false || is_some (k.now.calls n).call)) _
        (and_from (meets_demand k.state.back.area (entry n drop_it) k.now.demand) (false || is_some (k.now.calls n).call) (ap (meets_demand k.state.back.area (entry n drop_it)) dem_k) beg_k)
        (and_from (is_entered k.state.gate n) _ ent_k (ap (λ (o : Option Place). for_some o (λ x. may_touch (caller_view k n) x.layer)) hand_k ∙ touch_k p.layer old.touch)))

    ---- The Drop

    abbrev pub k1 : Configuration
    k1 = after s k (entry n drop_it)

    abbrev dropped : List Place → List Place
    dropped ps = remove_found (is_hand_at n a) ps

    state_k1 : k1.state ≡ with_places k.state (Some p.layer) dropped
    state_k1 = ap (λ (o : Option Place). with_places k.state (layer_of o) dropped) hand_k

    pub demand_k1 : k1.now.demand ≡ unspan_of n (Some p1)
    demand_k1 = ap (unspan_of n) hand_k

    -- what n holds behind the front end, by the layer of the old block
    abbrev IsGoneBy : Layer → State → Type 0
    IsGoneBy l x =
        (holds m.state.gate n whats.Vs ≡ true → x.vs ≡ (with_places m.state (Some l) gone).vs)
        × (holds m.state.gate n whats.Back ≡ true → x.back ≡ (with_places m.state (Some l) gone).back)
        × (holds m.state.gate n whats.Large ≡ true → x.large ≡ (with_places m.state (Some l) gone).large)
        × (hands x n ≡ [])

    vs_k : (l : Layer) → p.layer ≡ l → holds m.state.gate n whats.Vs ≡ true → k.state.vs ≡ (with_places m.state (Some l) taken).vs
    vs_k l e h = ag.vs h ∙ (ap (λ (x : State). x.vs) state2 ∙ (λ i. (with_places m.state (Some (e i)) taken).vs))

    back_k : (l : Layer) → p.layer ≡ l → holds m.state.gate n whats.Back ≡ true → k.state.back ≡ (with_places m.state (Some l) taken).back
    back_k l e h = ag.back h ∙ (ap (λ (x : State). x.back) state2 ∙ (λ i. (with_places m.state (Some (e i)) taken).back))

    large_k : (l : Layer) → p.layer ≡ l → holds m.state.gate n whats.Large ≡ true → k.state.large ≡ (with_places m.state (Some l) taken).large
    large_k l e h = ag.large h ∙ (ap (λ (x : State). x.large) state2 ∙ (λ i. (with_places m.state (Some (e i)) taken).large))

    in_vs : (l : Layer) → p.layer ≡ l → in_hand n k.state.vs.places ≡ in_hand n (with_places m.state (Some l) taken).vs.places
    in_vs l e = ag.hands layers.Vs ∙ (ap (λ (x : State). in_hand n x.vs.places) state2 ∙ (λ i. in_hand n (with_places m.state (Some (e i)) taken).vs.places))

    in_back : (l : Layer) → p.layer ≡ l → in_hand n k.state.back.places ≡ in_hand n (with_places m.state (Some l) taken).back.places
    in_back l e = ag.hands layers.Back ∙ (ap (λ (x : State). in_hand n x.back.places) state2 ∙ (λ i. in_hand n (with_places m.state (Some (e i)) taken).back.places))

    in_large : (l : Layer) → p.layer ≡ l → in_hand n k.state.large ≡ in_hand n (with_places m.state (Some l) taken).large
    in_large l e = ag.hands layers.Large ∙ (ap (λ (x : State). in_hand n x.large) state2 ∙ (λ i. in_hand n (with_places m.state (Some (e i)) taken).large))

    there_by : (l : Layer) → p.layer ≡ l → find (has_address a) (places_of m.state l) ≡ Some p
    there_by l e = subst (λ (x : Layer). find (has_address a) (places_of m.state x) ≡ Some p) e old.there

    touch_by : (l : Layer) → p.layer ≡ l → may_touch (caller_view m n) l ≡ true
    touch_by l e = subst (λ (x : Layer). may_touch (caller_view m n) x ≡ true) e old.touch

    abbrev f : List Place
    f = in_hand n k.state.lfh

    by_layer : (l : Layer) → p.layer ≡ l → is_layer l layers.Lfh ≡ false → IsGoneBy l (with_places k.state (Some l) dropped)
    by_layer layers.Lfh e not_front = absurd (true≢false not_front)
    by_layer layers.Vs e not_front =
        let there = there_by layers.Vs e in let held : holds m.state.gate n whats.Vs ≡ true = touch_by layers.Vs e in
        let same = vs_k layers.Vs e held in
        let lists : dropped k.state.vs.places ≡ gone m.state.vs.places = ap (λ (v : VsPart). dropped v.places) same ∙ taken_dropped n a m.state.vs.places p there live in
        let v = in_vs layers.Vs e ∙ taken_hand n a m.state.vs.places p there live hand.vs in
        let b2 = in_back layers.Vs e ∙ hand.back in let l2 = in_large layers.Vs e ∙ hand.large in
        let all : ((f ++ p1 ∷ []) ++ []) ++ [] ≡ p1 ∷ [] = sym (λ i. ((f ++ v i) ++ b2 i) ++ l2 i) ∙ hands_k in
        let none = front_none f p1 (sym (append-nil ((f ++ p1 ∷ []) ++ []) ∙ append-nil (f ++ p1 ∷ [])) ∙ all) in
        let left = ap (in_hand n) lists ∙ none_left n (has_address a) m.state.vs.places hand.vs in (
          λ h. (λ i. record { places = lists i; active = (same i).active; served = (same i).served }),
          λ h. back_k layers.Vs e h,
          λ h. large_k layers.Vs e h,
          (λ i. none i ++ left i ++ b2 i ++ l2 i),
        )
    by_layer layers.Back e not_front =
        let there = there_by layers.Back e in let held : holds m.state.gate n whats.Back ≡ true = touch_by layers.Back e in
        let same = back_k layers.Back e held in
        let lists : dropped k.state.back.places ≡ gone m.state.back.places = ap (λ (v : BackPart). dropped v.places) same ∙ taken_dropped n a m.state.back.places p there live in
        let v = in_vs layers.Back e ∙ hand.vs in
        let b2 = in_back layers.Back e ∙ taken_hand n a m.state.back.places p there live hand.back in let l2 = in_large layers.Back e ∙ hand.large in
        let all : ((f ++ []) ++ p1 ∷ []) ++ [] ≡ p1 ∷ [] = sym (λ i. ((f ++ v i) ++ b2 i) ++ l2 i) ∙ hands_k in
        let none = front_none f p1 (sym (append-nil ((f ++ []) ++ p1 ∷ []) ∙ ap (λ (ps : List Place). ps ++ p1 ∷ []) (append-nil f)) ∙ all) in
        let left = ap (in_hand n) lists ∙ none_left n (has_address a) m.state.back.places hand.back in (
          λ h. vs_k layers.Back e h,
          λ h. (λ i. record { area = (same i).area; places = lists i }),
          λ h. large_k layers.Back e h,
          (λ i. none i ++ v i ++ left i ++ l2 i),
        )
    by_layer layers.Large e not_front =
        let there = there_by layers.Large e in let held : holds m.state.gate n whats.Large ≡ true = touch_by layers.Large e in
        let same = large_k layers.Large e held in
        let lists : dropped k.state.large ≡ gone m.state.large = ap dropped same ∙ taken_dropped n a m.state.large p there live in
        let v = in_vs layers.Large e ∙ hand.vs in
        let b2 = in_back layers.Large e ∙ hand.back in let l2 = in_large layers.Large e ∙ taken_hand n a m.state.large p there live hand.large in
        let all : ((f ++ []) ++ []) ++ p1 ∷ [] ≡ p1 ∷ [] = sym (λ i. ((f ++ v i) ++ b2 i) ++ l2 i) ∙ hands_k in
        let none = front_none f p1 (sym (ap (λ (ps : List Place). ps ++ p1 ∷ []) (append-nil (f ++ []) ∙ append-nil f)) ∙ all) in
        let left = ap (in_hand n) lists ∙ none_left n (has_address a) m.state.large hand.large in (
          λ h. vs_k layers.Large e h,
          λ h. back_k layers.Large e h,
          λ h. lists,
          (λ i. none i ++ v i ++ b2 i ++ left i),
        )

    pub gone_from : IsGoneFrom n a p.layer m k1
    gone_from =
        let x = subst (IsGoneBy p.layer) (sym state_k1) (by_layer p.layer refl old.behind) in
        record {
          locks = ag.locks;
          vs = x.0;
          spans = λ h. ag.spans h ∙ ap (λ (y : State). vs_spans y.back.area) state2;
          back = x.1;
          large = x.2;
          hands = x.3;
        }
