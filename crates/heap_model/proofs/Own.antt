-- What a caller knows after an act of its own, it knows from what it knew.
use Rattle.std.proofs.Common.{◌≡◌, ℕ, ◌+◌, Bool, true, false, ◌&&◌, not, cond, List, [], ◌∷◌, Option, Some, None, refl, sym, ap, ◌∙◌, subst, eqb, inl, inr}
use Rattle.std.specs.Prelude.{is_some}
use Rattle.std.specs.List.{find}
use Rattle.std.proofs.lemmas.Bool.{cases_Bool, and_parts, eq-eqb, false≢true, true≢false}
use Rattle.heap_model.specs.declared.Act.{Act}
use Rattle.heap_model.specs.declared.Act.TheVariants as acts
use Rattle.heap_model.specs.declared.Layer.{Layer}
use Rattle.heap_model.specs.declared.Layer.TheVariants as layers
use Rattle.heap_model.specs.declared.What.{What}
use Rattle.heap_model.specs.declared.What.TheVariants as whats
use Rattle.heap_model.specs.State.{State, BackPart, VsPart, GateAndLocks, Setting, Place, Live, InHand, updated, is_layer, is_among, is_caller, holds, places_of, in_hand, is_in_hand_of, is_live_at, is_hand_at, has_address, exclusive_places, place_at, hand_at, add_place, change_found, remove_found}
use Rattle.heap_model.specs.Ranges.{vs_spans}
use Rattle.heap_model.specs.Stay.{for_some}
use Rattle.heap_model.specs.CallState.{CallState, SpanHistory, Configuration, caller_view}
use Rattle.heap_model.specs.Search.{asked_bucket, begins_at}
use Rattle.heap_model.specs.Legal.{may, after, state_after, call_after, span_history_after, demand_after, unspan_of, with_holder, on, layer_of, with_status, resize_place, area_with, may_touch, is_lock_or_compact, served_by, with_span, with_area}
use Rattle.heap_model.specs.Agreement.{AgreesFor, is_locked, is_locked_at, reveals_nothing}
use Rattle.heap_model.proofs.ListLemmas.{for_some_parts, is_among-without}
use Rattle.heap_model.proofs.Others.{IsOpen, area_other, open_resized, span_locks, unspan_locks}
use Rattle.heap_model.proofs.Stable.{same_hand_at, locked_place_at, find-gate}

both_hold : (x y : Bool) → x ≡ true → y ≡ true → (x && y) ≡ true
both_hold true y e f = f
both_hold false y e f = absurd (false≢true e)

off_left : (x y : Bool) → x ≡ false → (x && y) ≡ false
off_left true y e = absurd (true≢false e)
off_left false y e = refl

off_right : (x y : Bool) → y ≡ false → (x && y) ≡ false
off_right true y e = e
off_right false y e = refl

-- the places in hand after one of them is given, or dropped
in_hand-changed : (c a size : ℕ) (xs : List Place) → in_hand c (change_found (is_hand_at c a) (with_status (Live size)) xs) ≡ remove_found (has_address a) (in_hand c xs)
in_hand-changed c a size [] = refl
in_hand-changed c a size (x ∷ xs) = elim (cases_Bool (is_in_hand_of c x.status)) [
  | inr t ↦ let off = off_right (has_address a x) (is_in_hand_of c x.status) t in rw (off, t) (in_hand-changed c a size xs)
  | inl t ↦ elim (cases_Bool (has_address a x)) [
    | inl e ↦ let is = both_hold (has_address a x) (is_in_hand_of c x.status) e t in rw (is, t, e) refl
    | inr e ↦ let off = off_left (has_address a x) (is_in_hand_of c x.status) e in rw (off, t, e) (ap (λ (ys : List Place). x ∷ ys) (in_hand-changed c a size xs))
  ]
]

in_hand-removed : (c a : ℕ) (xs : List Place) → in_hand c (remove_found (is_hand_at c a) xs) ≡ remove_found (has_address a) (in_hand c xs)
in_hand-removed c a [] = refl
in_hand-removed c a (x ∷ xs) = elim (cases_Bool (is_in_hand_of c x.status)) [
  | inr t ↦ let off = off_right (has_address a x) (is_in_hand_of c x.status) t in rw (off, t) (in_hand-removed c a xs)
  | inl t ↦ elim (cases_Bool (has_address a x)) [
    | inl e ↦ let is = both_hold (has_address a x) (is_in_hand_of c x.status) e t in rw (is, t, e) refl
    | inr e ↦ let off = off_left (has_address a x) (is_in_hand_of c x.status) e in rw (off, t, e) (ap (λ (ys : List Place). x ∷ ys) (in_hand-removed c a xs))
  ]
]

layer_same : (l l' : Layer) → is_layer l l' ≡ true → l ≡ l'
layer_same layers.Lfh layers.Lfh e = refl
layer_same layers.Vs layers.Vs e = refl
layer_same layers.Back layers.Back e = refl
layer_same layers.Large layers.Large e = refl
layer_same layers.Lfh _ e = absurd (false≢true e)
layer_same layers.Vs _ e = absurd (false≢true e)
layer_same layers.Back _ e = absurd (false≢true e)
layer_same layers.Large _ e = absurd (false≢true e)

-- the places in hand of one layer, after a change of the layer that is meant
on_hands : (c : ℕ) (l : Layer) (f : List Place → List Place) (xs ys : List Place) (o : Option Layer) → in_hand c xs ≡ in_hand c ys → (o ≡ Some l → in_hand c (f xs) ≡ in_hand c (f ys)) → in_hand c (on l f xs o) ≡ in_hand c (on l f ys o)
on_hands c l f xs ys None e g = e
on_hands c l f xs ys (Some k) e g = elim (cases_Bool (is_layer l k)) [
  | inl q ↦ let h = g (ap Some (sym (layer_same l k q))) in rw q h
  | inr q ↦ rw q e
]

holds_less : (f : GateAndLocks) (what w : What) (x : ℕ) → holds (with_holder f what None) x w ≡ true → holds f x w ≡ true
holds_less f whats.Lfh whats.Lfh x h = absurd (false≢true h)
holds_less f whats.Vs whats.Vs x h = absurd (false≢true h)
holds_less f whats.Back whats.Back x h = absurd (false≢true h)
holds_less f whats.Large whats.Large x h = absurd (false≢true h)
holds_less f whats.Gate _ x h = h
holds_less f whats.Lfh _ x h = h
holds_less f whats.Vs _ x h = h
holds_less f whats.Back _ x h = h
holds_less f whats.Large _ x h = h

given_same : (f g : GateAndLocks) (what w : What) (c : ℕ) → holds f c w ≡ holds g c w → holds (with_holder f what None) c w ≡ holds (with_holder g what None) c w
given_same f g whats.Lfh whats.Lfh c e = refl
given_same f g whats.Vs whats.Vs c e = refl
given_same f g whats.Back whats.Back c e = refl
given_same f g whats.Large whats.Large c e = refl
given_same f g whats.Gate _ c e = e
given_same f g whats.Lfh _ c e = e
given_same f g whats.Vs _ c e = e
given_same f g whats.Back _ c e = e
given_same f g whats.Large _ c e = e

layer_number_not_lfh : (l : Layer) → not (is_layer l layers.Lfh) ≡ true → l ≡ layers.Lfh → ⊥
layer_number_not_lfh layers.Lfh h e = false≢true h
layer_number_not_lfh layers.Vs h e = absurd (let z : ⊥ = cc in z)
layer_number_not_lfh layers.Back h e = absurd (let z : ⊥ = cc in z)
layer_number_not_lfh layers.Large h e = absurd (let z : ⊥ = cc in z)

module _ (s : Setting) (c : ℕ) (m n : Configuration) (r : AgreesFor c m n) where
  abbrev next_m : Act → State
  next_m act = state_after m.state (m.now.calls c) c act

  abbrev next_n : Act → State
  next_n act = state_after n.state (n.now.calls c) c act

  hand_same : (a : ℕ) → hand_at m.state c a ≡ hand_at n.state c a
  hand_same = same_hand_at s c m n r

  locked_same : (a : ℕ) → is_locked_at n c a ≡ true → place_at m.state c a ≡ place_at n.state c a
  locked_same = locked_place_at s c m n r

  bucket_same : asked_bucket (m.now.calls c) ≡ asked_bucket (n.now.calls c)
  bucket_same = ap asked_bucket r.call

  -- the layers whose lock c holds
  places_locked : (l : Layer) → may_touch (caller_view n c) l ≡ true → (l ≡ layers.Lfh → ⊥) → places_of m.state l ≡ places_of n.state l
  places_locked layers.Lfh h e = absurd (e refl)
  places_locked layers.Vs h e = ap (λ (v : VsPart). v.places) (r.vs h)
  places_locked layers.Back h e = ap (λ (b : BackPart). b.places) (r.back h)
  places_locked layers.Large h e = r.large h

  -- the place that is locked, in n
  locked_place : (a : ℕ) → is_locked_at n c a ≡ true → (p : Place) × (place_at n.state c a ≡ Some p) × (is_locked (caller_view n c) p ≡ true)
  locked_place a h =
      let q = for_some_parts (find (has_address a) (exclusive_places n.state c)) (is_locked (caller_view n c)) h in
      (q.0, found_of q.0 q.1, q.2)
    where
      found_of : (p : Place) → find (has_address a) (exclusive_places n.state c) ≡ Some p → place_at n.state c a ≡ Some p
      found_of p e = find-gate (has_address a) (exclusive_places n.state c) _ (ap is_some e) ∙ e

  -- a change of the layer of a place that is locked
  hands_locked : (a : ℕ) (f : List Place → List Place) → is_locked_at n c a ≡ true → (l : Layer) → in_hand c (on l f (places_of m.state l) (layer_of (place_at m.state c a))) ≡ in_hand c (on l f (places_of n.state l) (layer_of (place_at n.state c a)))
  hands_locked a f h l =
      let q = locked_place a h in
      let t = and_parts (may_touch (caller_view n c) q.0.layer) _ q.2 in
      ap (λ (o : Option Place). in_hand c (on l f (places_of m.state l) (layer_of o))) (locked_same a h)
      ∙ on_hands c l f (places_of m.state l) (places_of n.state l) (layer_of (place_at n.state c a)) (r.hands l)
      (λ e. ap (λ (ps : List Place). in_hand c (f ps)) (places_locked l (touch q.0 q.1 t.0 e) (λ z. layer_number_not_lfh q.0.layer t.1 (same q.0 q.1 e ∙ z))))
    where
      same : (p : Place) → place_at n.state c a ≡ Some p → layer_of (place_at n.state c a) ≡ Some l → p.layer ≡ l
      same p e f = let g : Some p.layer ≡ Some l = sym (ap layer_of e) ∙ f in cc

      touch : (p : Place) → place_at n.state c a ≡ Some p → may_touch (caller_view n c) p.layer ≡ true → layer_of (place_at n.state c a) ≡ Some l → may_touch (caller_view n c) l ≡ true
      touch p e t f = subst (λ (x : Layer). may_touch (caller_view n c) x ≡ true) (same p e f) t

  hands_given : (a : ℕ) (f : List Place → List Place) → ((xs : List Place) → in_hand c (f xs) ≡ remove_found (has_address a) (in_hand c xs)) → (l : Layer) → in_hand c (on l f (places_of m.state l) (layer_of (hand_at m.state c a))) ≡ in_hand c (on l f (places_of n.state l) (layer_of (hand_at n.state c a)))
  hands_given a f g l =
      ap (λ (o : Option Place). in_hand c (on l f (places_of m.state l) (layer_of o))) (hand_same a)
      ∙ on_hands c l f (places_of m.state l) (places_of n.state l) (layer_of (hand_at n.state c a)) (r.hands l) (λ e. g (places_of m.state l) ∙ (ap (remove_found (has_address a)) (r.hands l) ∙ sym (g (places_of n.state l))))

  hands_own : (act : Act) → reveals_nothing n c act ≡ true → (l : Layer) → in_hand c (places_of (next_m act) l) ≡ in_hand c (places_of (next_n act) l)
  hands_own (acts.Place start granules layer) t l = placed l
    where
      all : (l : Layer) → in_hand c (on l (add_place (record { start = start; granules = granules; layer = layer; status = InHand c })) (places_of m.state l) (Some layer)) ≡ in_hand c (on l (add_place (record { start = start; granules = granules; layer = layer; status = InHand c })) (places_of n.state l) (Some layer))
      all l = on_hands c l (add_place (record { start = start; granules = granules; layer = layer; status = InHand c })) (places_of m.state l) (places_of n.state l) (Some layer) (r.hands l)
          (λ e. let q = eq-eqb c c refl in rw q (ap (λ (ps : List Place). record { start = start; granules = granules; layer = layer; status = InHand c } ∷ ps) (r.hands l)))

      placed : (l : Layer) → in_hand c (places_of (next_m (acts.Place start granules layer)) l) ≡ in_hand c (places_of (next_n (acts.Place start granules layer)) l)
      placed layers.Lfh = all layers.Lfh
      placed layers.Vs = all layers.Vs
      placed layers.Back = all layers.Back
      placed layers.Large = all layers.Large
  hands_own (acts.Give a size) t l = given l
    where
      given : (l : Layer) → in_hand c (places_of (next_m (acts.Give a size)) l) ≡ in_hand c (places_of (next_n (acts.Give a size)) l)
      given layers.Lfh = hands_given a (change_found (is_hand_at c a) (with_status (Live size))) (in_hand-changed c a size) layers.Lfh
      given layers.Vs = hands_given a (change_found (is_hand_at c a) (with_status (Live size))) (in_hand-changed c a size) layers.Vs
      given layers.Back = hands_given a (change_found (is_hand_at c a) (with_status (Live size))) (in_hand-changed c a size) layers.Back
      given layers.Large = hands_given a (change_found (is_hand_at c a) (with_status (Live size))) (in_hand-changed c a size) layers.Large
  hands_own (acts.Drop a) t l = dropped l
    where
      dropped : (l : Layer) → in_hand c (places_of (next_m (acts.Drop a)) l) ≡ in_hand c (places_of (next_n (acts.Drop a)) l)
      dropped layers.Lfh = hands_given a (remove_found (is_hand_at c a)) (in_hand-removed c a) layers.Lfh
      dropped layers.Vs = hands_given a (remove_found (is_hand_at c a)) (in_hand-removed c a) layers.Vs
      dropped layers.Back = hands_given a (remove_found (is_hand_at c a)) (in_hand-removed c a) layers.Back
      dropped layers.Large = hands_given a (remove_found (is_hand_at c a)) (in_hand-removed c a) layers.Large
  hands_own (acts.Take a size) t l = taken l
    where
      taken : (l : Layer) → in_hand c (places_of (next_m (acts.Take a size)) l) ≡ in_hand c (places_of (next_n (acts.Take a size)) l)
      taken layers.Lfh = hands_locked a (change_found (is_live_at a) (with_status (InHand c))) t layers.Lfh
      taken layers.Vs = hands_locked a (change_found (is_live_at a) (with_status (InHand c))) t layers.Vs
      taken layers.Back = hands_locked a (change_found (is_live_at a) (with_status (InHand c))) t layers.Back
      taken layers.Large = hands_locked a (change_found (is_live_at a) (with_status (InHand c))) t layers.Large
  hands_own (acts.Resize a granules size) t l = resized l
    where
      resized : (l : Layer) → in_hand c (places_of (next_m (acts.Resize a granules size)) l) ≡ in_hand c (places_of (next_n (acts.Resize a granules size)) l)
      resized layers.Lfh = hands_locked a (change_found (is_live_at a) (resize_place granules size)) t layers.Lfh
      resized layers.Vs = hands_locked a (change_found (is_live_at a) (resize_place granules size)) t layers.Vs
      resized layers.Back = hands_locked a (change_found (is_live_at a) (resize_place granules size)) t layers.Back
      resized layers.Large = hands_locked a (change_found (is_live_at a) (resize_place granules size)) t layers.Large
  hands_own (acts.TakeLock what) t l = absurd (false≢true t)
  hands_own acts.Lock t l = absurd (false≢true t)
  hands_own (acts.Blocked whats.Gate word) t layers.Lfh = r.hands layers.Lfh
  hands_own (acts.Blocked whats.Gate word) t layers.Vs = r.hands layers.Vs
  hands_own (acts.Blocked whats.Gate word) t layers.Back = r.hands layers.Back
  hands_own (acts.Blocked whats.Gate word) t layers.Large = r.hands layers.Large
  hands_own _ t layers.Lfh = r.hands layers.Lfh
  hands_own _ t layers.Vs = r.hands layers.Vs
  hands_own _ t layers.Back = r.hands layers.Back
  hands_own _ t layers.Large = r.hands layers.Large

  -- the groups, each from itself
  abbrev vs_placed : VsPart → (List Place → List Place) → Option Place → VsPart
  vs_placed v f o = record { places = on layers.Vs f v.places (layer_of o); active = v.active; served = v.served }

  vs_from : (f : List Place → List Place) (o o' : Option Place) → o ≡ o' → m.state.vs ≡ n.state.vs → vs_placed m.state.vs f o ≡ vs_placed n.state.vs f o'
  vs_from f o o' e g = ap (vs_placed m.state.vs f) e ∙ ap (λ (v : VsPart). vs_placed v f o') g

  vs_own : (act : Act) → reveals_nothing n c act ≡ true → m.state.vs ≡ n.state.vs → (next_m act).vs ≡ (next_n act).vs
  vs_own (acts.Place start granules layers.Vs) t g =
      let p : Place = record { start = start; granules = granules; layer = layers.Vs; status = InHand c } in
      ap (λ (b : Option ℕ). record { places = add_place p m.state.vs.places; active = m.state.vs.active; served = served_by b m.state.vs.served layers.Vs }) bucket_same
      ∙ ap (λ (v : VsPart). record { places = add_place p v.places; active = v.active; served = served_by (asked_bucket (n.now.calls c)) v.served layers.Vs }) g
  vs_own (acts.Place start granules layers.Lfh) t g = g
  vs_own (acts.Place start granules layers.Back) t g = g
  vs_own (acts.Place start granules layers.Large) t g = g
  vs_own (acts.Give a size) t g = vs_from (change_found (is_hand_at c a) (with_status (Live size))) _ _ (hand_same a) g
  vs_own (acts.Take a size) t g = vs_from (change_found (is_live_at a) (with_status (InHand c))) _ _ (locked_same a t) g
  vs_own (acts.Drop a) t g = vs_from (remove_found (is_hand_at c a)) _ _ (hand_same a) g
  vs_own (acts.Resize a granules size) t g = vs_from (change_found (is_live_at a) (resize_place granules size)) _ _ (locked_same a t) g
  vs_own (acts.Active bucket) t g = ap (λ (v : VsPart). record { places = v.places; active = updated v.active bucket true; served = v.served }) g
  vs_own (acts.Blocked whats.Gate word) t g = g
  vs_own _ t g = g

  list_from : (l : Layer) (f : List Place → List Place) (xs ys : List Place) (o o' : Option Place) → o ≡ o' → xs ≡ ys → on l f xs (layer_of o) ≡ on l f ys (layer_of o')
  list_from l f xs ys o o' e g = ap (λ (x : Option Place). on l f xs (layer_of x)) e ∙ ap (λ (zs : List Place). on l f zs (layer_of o')) g

  large_own : (act : Act) → reveals_nothing n c act ≡ true → m.state.large ≡ n.state.large → (next_m act).large ≡ (next_n act).large
  large_own (acts.Place start granules layers.Large) t g = ap (add_place (record { start = start; granules = granules; layer = layers.Large; status = InHand c })) g
  large_own (acts.Place start granules layers.Lfh) t g = g
  large_own (acts.Place start granules layers.Back) t g = g
  large_own (acts.Place start granules layers.Vs) t g = g
  large_own (acts.Give a size) t g = list_from layers.Large (change_found (is_hand_at c a) (with_status (Live size))) m.state.large n.state.large _ _ (hand_same a) g
  large_own (acts.Take a size) t g = list_from layers.Large (change_found (is_live_at a) (with_status (InHand c))) m.state.large n.state.large _ _ (locked_same a t) g
  large_own (acts.Drop a) t g = list_from layers.Large (remove_found (is_hand_at c a)) m.state.large n.state.large _ _ (hand_same a) g
  large_own (acts.Resize a granules size) t g = list_from layers.Large (change_found (is_live_at a) (resize_place granules size)) m.state.large n.state.large _ _ (locked_same a t) g
  large_own (acts.Blocked whats.Gate word) t g = g
  large_own _ t g = g

  lfh_own : (act : Act) → reveals_nothing n c act ≡ true → m.state.lfh ≡ n.state.lfh → (next_m act).lfh ≡ (next_n act).lfh
  lfh_own (acts.Place start granules layers.Lfh) t g = ap (add_place (record { start = start; granules = granules; layer = layers.Lfh; status = InHand c })) g
  lfh_own (acts.Place start granules layers.Large) t g = g
  lfh_own (acts.Place start granules layers.Back) t g = g
  lfh_own (acts.Place start granules layers.Vs) t g = g
  lfh_own (acts.Give a size) t g = list_from layers.Lfh (change_found (is_hand_at c a) (with_status (Live size))) m.state.lfh n.state.lfh _ _ (hand_same a) g
  lfh_own (acts.Take a size) t g = list_from layers.Lfh (change_found (is_live_at a) (with_status (InHand c))) m.state.lfh n.state.lfh _ _ (locked_same a t) g
  lfh_own (acts.Drop a) t g = list_from layers.Lfh (remove_found (is_hand_at c a)) m.state.lfh n.state.lfh _ _ (hand_same a) g
  lfh_own (acts.Resize a granules size) t g = list_from layers.Lfh (change_found (is_live_at a) (resize_place granules size)) m.state.lfh n.state.lfh _ _ (locked_same a t) g
  lfh_own (acts.Blocked whats.Gate word) t g = g
  lfh_own _ t g = g

  words_own : (act : Act) → m.state.words ≡ n.state.words → (next_m act).words ≡ (next_n act).words
  words_own (acts.Store w v) g = ap (λ (f : ℕ → ℕ). updated f w v) g
  words_own (acts.Blocked whats.Gate word) g = g
  words_own _ g = g

  abbrev back_placed : BackPart → (List Place → List Place) → Option Place → BackPart
  back_placed b f o = record { area = b.area; places = on layers.Back f b.places (layer_of o) }

  back_from : (f : List Place → List Place) (o o' : Option Place) → o ≡ o' → m.state.back ≡ n.state.back → back_placed m.state.back f o ≡ back_placed n.state.back f o'
  back_from f o o' e g = ap (back_placed m.state.back f) e ∙ ap (λ (b : BackPart). back_placed b f o') g

  back_own : (act : Act) → reveals_nothing n c act ≡ true → m.state.back ≡ n.state.back → (next_m act).back ≡ (next_n act).back
  back_own (acts.Reserve segment) t g = ap (λ (b : BackPart). with_area b (record { reserved = b.area.reserved + 1; committed = b.area.committed; spans = b.area.spans })) g
  back_own (acts.Span first pages kind bucket slot) t g = ap (λ (b : BackPart). with_area b (with_span b.area (record { first = first; pages = pages; kind = kind; bucket = bucket; slot = slot }))) g
  back_own (acts.Unspan first) t g = ap (λ (b : BackPart). with_area b (record { reserved = b.area.reserved; committed = b.area.committed; spans = remove_found (begins_at first) b.area.spans })) g
  back_own (acts.Decommit page) t g = ap (λ (b : BackPart). with_area b (record { reserved = b.area.reserved; committed = updated b.area.committed page false; spans = b.area.spans })) g
  back_own (acts.Place start granules layers.Back) t g = ap (λ (b : BackPart). record { area = b.area; places = add_place (record { start = start; granules = granules; layer = layers.Back; status = InHand c }) b.places }) g
  back_own (acts.Place start granules layers.Large) t g = g
  back_own (acts.Place start granules layers.Lfh) t g = g
  back_own (acts.Place start granules layers.Vs) t g = g
  back_own (acts.Give a size) t g = back_from (change_found (is_hand_at c a) (with_status (Live size))) _ _ (hand_same a) g
  back_own (acts.Take a size) t g = back_from (change_found (is_live_at a) (with_status (InHand c))) _ _ (locked_same a t) g
  back_own (acts.Drop a) t g = back_from (remove_found (is_hand_at c a)) _ _ (hand_same a) g
  back_own (acts.Resize a granules size) t g =
      ap (λ (o : Option Place). record { area = area_with m.state.back.area granules o; places = on layers.Back (change_found (is_live_at a) (resize_place granules size)) m.state.back.places (layer_of o) }) (locked_same a t)
      ∙ ap (λ (b : BackPart). record { area = area_with b.area granules (place_at n.state c a); places = on layers.Back (change_found (is_live_at a) (resize_place granules size)) b.places (layer_of (place_at n.state c a)) }) g
  back_own (acts.Blocked whats.Gate word) t g = g
  back_own _ t g = g

  span_history_own : (act : Act) → m.state.back ≡ n.state.back → m.now.span_history ≡ n.now.span_history →
      span_history_after m.state.back.area m.now.span_history c (caller_view m c).back act ≡ span_history_after n.state.back.area n.now.span_history c (caller_view n c).back act
  span_history_own act g e =
      ap (λ (b : BackPart). span_history_after b.area m.now.span_history c (caller_view m c).back act) g
      ∙ ap (λ (x : SpanHistory). span_history_after n.state.back.area x c (caller_view m c).back act) e
      ∙ ap (λ (x : Bool). span_history_after n.state.back.area n.now.span_history c x act) (r.locks whats.Back)

  -- the spans of VS, under Vs alone
  spans_back : m.state.back ≡ n.state.back → (act : Act) → reveals_nothing n c act ≡ true → vs_spans (next_m act).back.area ≡ vs_spans (next_n act).back.area
  spans_back g act t = ap (λ (b : BackPart). vs_spans b.area) (back_own act t g)

  back_of : (caller_view m c).back ≡ true → m.state.back ≡ n.state.back
  back_of h = r.back (sym (r.locks whats.Back) ∙ h)

  spans_own : (act : Act) → may s m c act ≡ true → reveals_nothing n c act ≡ true → vs_spans m.state.back.area ≡ vs_spans n.state.back.area → vs_spans (next_m act).back.area ≡ vs_spans (next_n act).back.area
  spans_own (acts.Reserve segment) h t g = g
  spans_own (acts.Decommit page) h t g = g
  spans_own (acts.Span first pages kind bucket slot) h t g = spans_back (back_of (span_locks s m c (record { first = first; pages = pages; kind = kind; bucket = bucket; slot = slot }) h).1) (acts.Span first pages kind bucket slot) t
  spans_own (acts.Unspan first) h t g = spans_back (back_of (unspan_locks s m c first h).0) (acts.Unspan first) t
  spans_own (acts.Resize a granules size) h t g = elim (cases_Bool (caller_view m c).back) [
    | inl e ↦ spans_back (back_of e) (acts.Resize a granules size) t
    | inr e ↦
        let o = open_resized s m.state c (caller_view m c) a granules size h in
        let o' : IsOpen (caller_view m c) (place_at n.state c a) = subst (λ (x : Option Place). IsOpen (caller_view m c) x) (locked_same a t) o in
        ap vs_spans (area_other (caller_view m c) m.state.back.area granules (place_at m.state c a) o e)
        ∙ (g ∙ sym (ap vs_spans (area_other (caller_view m c) n.state.back.area granules (place_at n.state c a) o' e)))
  ]
  spans_own (acts.Place start granules layers.Lfh) h t g = g
  spans_own (acts.Place start granules layers.Vs) h t g = g
  spans_own (acts.Place start granules layers.Back) h t g = g
  spans_own (acts.Place start granules layers.Large) h t g = g
  spans_own (acts.Blocked whats.Gate word) h t g = g
  spans_own _ h t g = g

  active_own : (act : Act) → (b : ℕ) → (next_n act).vs.active b ≡ true → (next_m act).vs.active b ≡ true
  active_own (acts.Active bucket) b h = elim (cases_Bool (eqb b bucket)) [ inl e ↦ rw e refl | inr e ↦ rw e (r.active b (rw e at h)) ]
  active_own (acts.Blocked whats.Gate word) b h = r.active b h
  active_own _ b h = r.active b h

  pub call_own : (act : Act) → updated m.now.calls c (call_after s c (m.now.calls c) act) c ≡ updated n.now.calls c (call_after s c (n.now.calls c) act) c
  call_own act = let e = eq-eqb c c refl in rw e (ap (λ (k : CallState). call_after s c k act) r.call)

  -- the gate and the locks
  counted_blocked : (b : Bool) → is_among c (cond b m.state.gate.counted (c ∷ m.state.gate.counted)) ≡ is_among c (cond b n.state.gate.counted (c ∷ n.state.gate.counted))
  counted_blocked true = r.counted
  counted_blocked false = let e = eq-eqb c c refl in rw e refl

  turning_blocked : (b : Bool) → is_among c (cond b m.state.gate.turning (c ∷ m.state.gate.turning)) ≡ is_among c (cond b n.state.gate.turning (c ∷ n.state.gate.turning))
  turning_blocked true = r.turning
  turning_blocked false = let e = eq-eqb c c refl in rw e refl

  counted_own : (act : Act) → is_among c (next_m act).gate.counted ≡ is_among c (next_n act).gate.counted
  counted_own acts.Enter = let e = eq-eqb c c refl in rw e refl
  counted_own acts.Leave = is_among-without c m.state.gate.counted ∙ sym (is_among-without c n.state.gate.counted)
  counted_own (acts.Blocked whats.Gate word) =
      ap (λ (k : CallState). is_among c (cond (for_some k.call is_lock_or_compact) m.state.gate.counted (c ∷ m.state.gate.counted))) r.call ∙ counted_blocked (for_some (n.now.calls c).call is_lock_or_compact)
  counted_own _ = r.counted

  turning_own : (act : Act) → is_among c (next_m act).gate.turning ≡ is_among c (next_n act).gate.turning
  turning_own acts.Leave = is_among-without c m.state.gate.turning ∙ sym (is_among-without c n.state.gate.turning)
  turning_own (acts.Blocked whats.Gate word) =
      ap (λ (k : CallState). is_among c (cond (for_some k.call is_lock_or_compact) m.state.gate.turning (c ∷ m.state.gate.turning))) r.call ∙ turning_blocked (for_some (n.now.calls c).call is_lock_or_compact)
  turning_own _ = r.turning

  owner_own : (act : Act) → is_caller c (next_m act).gate.owner ≡ is_caller c (next_n act).gate.owner
  owner_own acts.Lock = refl
  owner_own acts.Unlock = refl
  owner_own (acts.Blocked whats.Gate word) = r.owner
  owner_own _ = r.owner

  locks_own : (act : Act) → reveals_nothing n c act ≡ true → (w : What) → holds (next_m act).gate c w ≡ holds (next_n act).gate c w
  locks_own (acts.TakeLock what) t w = absurd (false≢true t)
  locks_own (acts.GiveLock what) t w = given_same m.state.gate n.state.gate what w c (r.locks w)
  locks_own (acts.Blocked whats.Gate word) t w = r.locks w
  locks_own _ t w = r.locks w

  -- what c holds after the act it held before
  held_before : (act : Act) → reveals_nothing n c act ≡ true → (w : What) → holds (next_n act).gate c w ≡ true → holds n.state.gate c w ≡ true
  held_before (acts.TakeLock what) t w h = absurd (false≢true t)
  held_before (acts.GiveLock what) t w h = holds_less n.state.gate what w c h
  held_before (acts.Blocked whats.Gate word) t w h = h
  held_before _ t w h = h

  owned_before : (act : Act) → reveals_nothing n c act ≡ true → is_caller c (next_n act).gate.owner ≡ true → is_caller c n.state.gate.owner ≡ true
  owned_before acts.Lock t h = absurd (false≢true t)
  owned_before acts.Unlock t h = absurd (false≢true h)
  owned_before (acts.Blocked whats.Gate word) t h = h
  owned_before _ t h = h

  -- After an act of c that is told, what c alone decides is the same in both.
  pub act_agrees : (act : Act) → may s m c act ≡ true → reveals_nothing n c act ≡ true → AgreesFor c (after s m (record { caller = c; act = act })) (after s n (record { caller = c; act = act }))
  act_agrees act h t = record {
    counted = counted_own act;
    turning = turning_own act;
    owner = owner_own act;
    locks = locks_own act t;
    call = call_own act;
    hands = hands_own act t;
    active = active_own act;
    vs = λ k. vs_own act t (r.vs (held_before act t whats.Vs k));
    spans = λ k. spans_own act h t (r.spans (held_before act t whats.Vs k));
    back = λ k. back_own act t (r.back (held_before act t whats.Back k));
    span_history = λ k. span_history_own act (r.back (held_before act t whats.Back k)) (r.span_history (held_before act t whats.Back k));
    large = λ k. large_own act t (r.large (held_before act t whats.Large k));
    owned = λ k.
        let same = r.owned (owned_before act t k) in
        record {
          back = back_own act t same.back;
          vs = vs_own act t same.vs;
          lfh = lfh_own act t same.lfh;
          large = large_own act t same.large;
          words = words_own act same.words;
          span_history = span_history_own act same.back same.span_history;
        };
  }

  -- .. and so is what has to follow at once.
  pub demand_same : (act : Act) → demand_after m.state c act ≡ demand_after n.state c act
  demand_same (acts.Drop a) = ap (unspan_of c) (hand_same a)
  demand_same _ = refl
