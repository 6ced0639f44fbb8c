-- A new place is put in front of the places of its layer, in hand: the old block is as it was.
use Rattle.std.proofs.Common.{◌≡◌, ℕ, Bool, true, false, List, [], ◌∷◌, ◌++◌, None, refl, sym, ap, ◌∙◌, subst, eq-eqb, inl, inr}
use Rattle.std.specs.Prelude.{cond}
use Rattle.std.specs.List.{find}
use Rattle.std.specs.Option.{option_or}
use Rattle.std.proofs.lemmas.Bool.{cases_Bool, eqb-true, ne_eqb, true≢false}
use Rattle.std.proofs.lemmas.List.{append-nil}
use Rattle.std.proofs.lemmas.List.Folds.{find-append}
use Rattle.heap_model.specs.declared.Layer.{Layer}
use Rattle.heap_model.specs.declared.Layer.TheVariants as layers
use Rattle.heap_model.specs.declared.What.TheVariants as whats
use Rattle.heap_model.specs.State.{Setting, State, GateAndLocks, Place, Live, InHand, is_layer, is_in_hand_of, address, has_address, in_hand, hands, places_of, all_places, holds, guarded, exclusive_places}
use Rattle.heap_model.specs.CallState.{Configuration, caller_view}
use Rattle.heap_model.specs.Legal.{may_touch}
use Rattle.heap_soundness.specs.Sound.{IsOneOf}
use Rattle.heap_soundness.specs.Invariant.{Keeps}
use Rattle.heap_soundness.proofs.Addresses.{one_address}
use Rattle.heap_soundness.proofs.Lists.{found_in, found_passes}
use Rattle.heap_soundness.proofs.Whole.{all_disjoint, all_addresses}
use Rattle.call_laws.proofs.Within.{among_all}
use Rattle.call_parts.specs.Entries.{holding}
use Rattle.call_parts.proofs.Handing.{new_place}
use Rattle.call_parts.proofs.VsBlocks.{has_nothing}
use Rattle.move_parts.specs.Moves.{IsHeld, IsTaken}

-- the place is in front of those of its layer, and the gate and the locks are as they were
pub record IsPut (q : Place) (m k : State) : Type 0 where
  pub gate : k.gate ≡ m.gate
  pub lists : (l : Layer) → places_of k l ≡ cond (is_layer l q.layer) (q ∷ places_of m l) (places_of m l)

---- What is in hand

-- the new place is in hand in front of what was
pub put_front : (c : ℕ) (l : Layer) (start granules : ℕ) (m k : State) → IsPut (new_place c l start granules) m k → (j : Layer) → in_hand c (places_of k j) ≡ holding (new_place c l start granules) j ++ in_hand c (places_of m j)
put_front c l start granules m k x j = ap (in_hand c) (x.lists j) ∙ by (is_layer j l)
  where
    by : (f : Bool) → in_hand c (cond f (new_place c l start granules ∷ places_of m j) (places_of m j)) ≡ cond f (new_place c l start granules ∷ []) [] ++ in_hand c (places_of m j)
    by true = let e = eq-eqb c c refl in rw e refl
    by false = refl

module _ (c : ℕ) (l : Layer) (start granules : ℕ) (m k : State) (x : IsPut (new_place c l start granules) m k) (none : hands m c ≡ []) where
  abbrev q : Place
  q = new_place c l start granules

  nothing : (j : Layer) → in_hand c (places_of m j) ≡ []
  nothing layers.Lfh = (has_nothing m c none).lfh
  nothing layers.Vs = (has_nothing m c none).vs
  nothing layers.Back = (has_nothing m c none).back
  nothing layers.Large = (has_nothing m c none).large

  pub put_hand : (j : Layer) → in_hand c (places_of k j) ≡ holding q j
  put_hand j = put_front c l start granules m k x j ∙ (ap (λ (ps : List Place). holding q j ++ ps) (nothing j) ∙ append-nil (holding q j))

  ---- The old block

  module _ (a : ℕ) (other : has_address a q ≡ false) where
    same_find : (j : Layer) → find (has_address a) (places_of k j) ≡ find (has_address a) (places_of m j)
    same_find j = ap (find (has_address a)) (x.lists j) ∙ by (is_layer j l)
      where
        by : (f : Bool) → find (has_address a) (cond f (q ∷ places_of m j) (places_of m j)) ≡ find (has_address a) (places_of m j)
        by true = rw other refl
        by false = refl

    no_hand : (j : Layer) → find (has_address a) (in_hand c (places_of k j)) ≡ None
    no_hand j = ap (find (has_address a)) (put_hand j) ∙ by (is_layer j l)
      where
        by : (f : Bool) → find (has_address a) (cond f (q ∷ []) []) ≡ None
        by true = rw other refl
        by false = refl

    two_finds : (t : Place → Bool) (xs ys zs ws : List Place) → find t xs ≡ find t zs → find t ys ≡ find t ws → find t (xs ++ ys) ≡ find t (zs ++ ws)
    two_finds t xs ys zs ws e f = find-append t xs ys ∙ ((λ i. option_or (e i) (f i)) ∙ sym (find-append t zs ws))

    guarded_find : (g h : Bool) (xs ys : List Place) → g ≡ h → find (has_address a) xs ≡ find (has_address a) ys → find (has_address a) (guarded xs g) ≡ find (has_address a) (guarded ys h)
    guarded_find g h xs ys e f = ap (λ (b : Bool). find (has_address a) (guarded xs b)) e ∙ by h
      where
        by : (b : Bool) → find (has_address a) (guarded xs b) ≡ find (has_address a) (guarded ys b)
        by true = f
        by false = refl

    hands_find : find (has_address a) (hands k c) ≡ find (has_address a) (hands m c)
    hands_find =
        let t = has_address a in
        two_finds t (in_hand c k.lfh ++ in_hand c k.vs.places ++ in_hand c k.back.places) (in_hand c k.large) (in_hand c m.lfh ++ in_hand c m.vs.places ++ in_hand c m.back.places) (in_hand c m.large)
        (two_finds t (in_hand c k.lfh ++ in_hand c k.vs.places) (in_hand c k.back.places) (in_hand c m.lfh ++ in_hand c m.vs.places) (in_hand c m.back.places)
        (two_finds t (in_hand c k.lfh) (in_hand c k.vs.places) (in_hand c m.lfh) (in_hand c m.vs.places) (one layers.Lfh) (one layers.Vs)) (one layers.Back)) (one layers.Large)
      where
        one : (j : Layer) → find (has_address a) (in_hand c (places_of k j)) ≡ find (has_address a) (in_hand c (places_of m j))
        one j = no_hand j ∙ sym (ap (find (has_address a)) (nothing j))

    exclusive_find : find (has_address a) (exclusive_places k c) ≡ find (has_address a) (exclusive_places m c)
    exclusive_find =
        let t = has_address a in
        let v = guarded_find (holds k.gate c whats.Vs) (holds m.gate c whats.Vs) k.vs.places m.vs.places (ap (λ (f : GateAndLocks). holds f c whats.Vs) x.gate) (same_find layers.Vs) in
        let b = guarded_find (holds k.gate c whats.Back) (holds m.gate c whats.Back) k.back.places m.back.places (ap (λ (f : GateAndLocks). holds f c whats.Back) x.gate) (same_find layers.Back) in
        let g = guarded_find (holds k.gate c whats.Large) (holds m.gate c whats.Large) k.large m.large (ap (λ (f : GateAndLocks). holds f c whats.Large) x.gate) (same_find layers.Large) in
        let kv = guarded k.vs.places (holds k.gate c whats.Vs) in let mv = guarded m.vs.places (holds m.gate c whats.Vs) in
        let kb = guarded k.back.places (holds k.gate c whats.Back) in let mb = guarded m.back.places (holds m.gate c whats.Back) in
        let kl = guarded k.large (holds k.gate c whats.Large) in let ml = guarded m.large (holds m.gate c whats.Large) in
        two_finds t (hands k c ++ kv ++ kb) kl (hands m c ++ mv ++ mb) ml (two_finds t (hands k c ++ kv) kb (hands m c ++ mv) mb (two_finds t (hands k c) kv (hands m c) mv hands_find v) b) g

-- it is found as it was
module _ (c : ℕ) (l : Layer) (start granules : ℕ) (m k : Configuration) (x : IsPut (new_place c l start granules) m.state k.state) (none : hands m.state c ≡ []) (a size : ℕ) (p : Place) (old : IsHeld m c a p size) (apart : a ≡ address (new_place c l start granules) → ⊥) where
  other : has_address a (new_place c l start granules) ≡ false
  other = ne_eqb (address (new_place c l start granules)) a (λ e. apart (sym e))

  touch_put : (j : Layer) → may_touch (caller_view m c) j ≡ true → may_touch (caller_view k c) j ≡ true
  touch_put layers.Lfh h = refl
  touch_put layers.Vs h = ap (λ (f : GateAndLocks). holds f c whats.Vs) x.gate ∙ h
  touch_put layers.Back h = ap (λ (f : GateAndLocks). holds f c whats.Back) x.gate ∙ h
  touch_put layers.Large h = ap (λ (f : GateAndLocks). holds f c whats.Large) x.gate ∙ h

  pub held_put : IsHeld k c a p size
  held_put = record {
    first = exclusive_find c l start granules m.state k.state x none a other ∙ old.first;
    there = same_find c l start granules m.state k.state x none a other p.layer ∙ old.there;
    live = old.live;
    behind = old.behind;
    touch = touch_put p.layer old.touch;
  }

---- In a sound configuration the two have two addresses

in_front : (f : Bool) (y q : Place) (ps qs : List Place) → qs ≡ cond f (q ∷ ps) ps → IsOneOf y ps → IsOneOf y qs
in_front true y q ps qs e i = subst (IsOneOf y) (sym e) (inr i)
in_front false y q ps qs e i = subst (IsOneOf y) (sym e) i

at_front : (f : Bool) (q : Place) (ps qs : List Place) → f ≡ true → qs ≡ cond f (q ∷ ps) ps → IsOneOf q qs
at_front true q ps qs h e = subst (IsOneOf q) (sym e) (inl refl)
at_front false q ps qs h e = absurd (true≢false (sym h))

same_layer : (j : Layer) → is_layer j j ≡ true
same_layer layers.Lfh = refl
same_layer layers.Vs = refl
same_layer layers.Back = refl
same_layer layers.Large = refl

pub two_apart : (s : Setting) (m k : Configuration) (w : Keeps s k) (c : ℕ) (l : Layer) (start granules : ℕ) → IsPut (new_place c l start granules) m.state k.state → (a size : ℕ) (p : Place) → IsHeld m c a p size → a ≡ address (new_place c l start granules) → ⊥
two_apart s m k w c l start granules x a size p old e =
    let q = new_place c l start granules in
    let ip = in_front (is_layer p.layer l) p q (places_of m.state p.layer) (places_of k.state p.layer) (x.lists p.layer) (found_in (has_address a) (places_of m.state p.layer) p old.there) in
    let iq = at_front (is_layer l l) q (places_of m.state l) (places_of k.state l) (same_layer l) (x.lists l) in
    let at : address p ≡ a = eqb-true (address p) a (found_passes (has_address a) (places_of m.state p.layer) p old.there) in
    let same : p ≡ q = one_address (all_places k.state) p q (all_disjoint s k w) (all_addresses s k w) (among_all k.state p.layer p ip) (among_all k.state l q iq) (at ∙ e) in
    let bad : Live size ≡ InHand c = sym old.live ∙ ap (λ (y : Place). y.status) same in
    let no : ⊥ = cc in no

---- .. so have a new place and one that was taken

pub in_one : (c : ℕ) (p : Place) (ps : List Place) → in_hand c ps ≡ p ∷ [] → IsOneOf p ps
in_one c p [] e = let no : ⊥ = cc in absurd no
in_one c p (x ∷ xs) e = elim (cases_Bool (is_in_hand_of c x.status)) [
  | inl h ↦ let f : x ∷ in_hand c xs ≡ p ∷ [] = rw h at e in let same : x ≡ p = cc in inl same
  | inr h ↦ inr (in_one c p xs (rw h at e))
]

pub taken_apart : (s : Setting) (m k : Configuration) (w : Keeps s k) (c : ℕ) (l : Layer) (start granules : ℕ) → IsPut (new_place c l start granules) m.state k.state → is_layer l layers.Lfh ≡ false → (a : ℕ) (p : Place) → IsTaken m c a p → a ≡ address (new_place c l start granules) → ⊥
taken_apart s m k w c l start granules x other_layer a p old e =
    let q = new_place c l start granules in
    let front : in_hand c m.state.lfh ≡ p ∷ [] = old.hand layers.Lfh ∙ ap (λ (j : Layer). cond (is_layer layers.Lfh j) (p ∷ []) []) old.front in
    let ip = in_front (is_layer layers.Lfh l) p q m.state.lfh k.state.lfh (x.lists layers.Lfh) (in_one c p m.state.lfh front) in
    let iq = at_front (is_layer l l) q (places_of m.state l) (places_of k.state l) (same_layer l) (x.lists l) in
    let same : p ≡ q = one_address (all_places k.state) p q (all_disjoint s k w) (all_addresses s k w) (among_all k.state layers.Lfh p ip) (among_all k.state l q iq) (old.at ∙ e) in
    let both : l ≡ layers.Lfh = ap (λ (y : Place). y.layer) (sym same) ∙ old.front in
    true≢false (ap (λ (j : Layer). is_layer j layers.Lfh) (sym both) ∙ other_layer)
