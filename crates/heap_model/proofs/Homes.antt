-- The list of each layer has its places; so the place that a row finds is the one that its effect changes.
use Rattle.std.proofs.Common.{◌≡◌, ℕ, Bool, true, false, ◌&&◌, List, [], ◌∷◌, ◌++◌, Option, Some, None, refl, sym, ap, subst, inl, inr, ◌⊎◌}
use Rattle.std.specs.List.{find, AllByRecursion}
use Rattle.std.proofs.lemmas.Bool.{cases_Bool, and_parts, and_from, both_ways, false≢true}
use Rattle.heap_model.specs.declared.Act.{Act}
use Rattle.heap_model.specs.declared.Act.TheVariants as acts
use Rattle.heap_model.specs.declared.Layer.{Layer}
use Rattle.heap_model.specs.declared.Layer.TheVariants as layers
use Rattle.heap_model.specs.declared.What.TheVariants as whats
use Rattle.heap_model.specs.State.{State, Place, Live, InHand, is_layer, places_of, in_hand, hands, guarded, exclusive_places, all_places, has_address, hand_at, place_at, is_live, is_in_hand_of, is_live_at, is_hand_at, holds, change_found, remove_found}
use Rattle.heap_model.specs.CallState.{CallState}
use Rattle.heap_model.specs.Legal.{state_after, on, layer_of, with_status, resize_place}
use Rattle.heap_model.specs.Agreement.{HasHomes}

abbrev pub AreOf : Layer → List Place → Type 0
AreOf l ps = AllByRecursion (λ p. p.layer ≡ l) ps

pub all_changed : (P : Place → Type 0) (test : Place → Bool) (f : Place → Place) (ps : List Place) → ((p : Place) → find test ps ≡ Some p → P p → P (f p)) → AllByRecursion P ps → AllByRecursion P (change_found test f ps)
all_changed P test f [] g a = a
all_changed P test f (p ∷ ps) g a = elim (cases_Bool (test p)) [
  | inl e ↦ rw e (g p (rw e refl) a.0, a.1)
  | inr e ↦ rw e (a.0, all_changed P test f ps (λ q h. g q (rw e h)) a.1)
]

pub all_removed : (P : Place → Type 0) (test : Place → Bool) (ps : List Place) → AllByRecursion P ps → AllByRecursion P (remove_found test ps)
all_removed P test [] a = a
all_removed P test (p ∷ ps) a = elim (cases_Bool (test p)) [ inl e ↦ rw e a.1 | inr e ↦ rw e (a.0, all_removed P test ps a.1) ]

pub all_on : (P : Place → Type 0) (l : Layer) (f : List Place → List Place) (ps : List Place) (o : Option Layer) → (o ≡ Some l → AllByRecursion P (f ps)) → AllByRecursion P ps → AllByRecursion P (on l f ps o)
all_on P l f ps None g a = a
all_on P l f ps (Some k) g a = elim (cases_Bool (is_layer l k)) [
  | inl e ↦ rw e (g (ap Some (sym (same l k e))))
  | inr e ↦ rw e a
]
  where
    same : (l k : Layer) → is_layer l k ≡ true → l ≡ k
    same layers.Lfh layers.Lfh e = refl
    same layers.Vs layers.Vs e = refl
    same layers.Back layers.Back e = refl
    same layers.Large layers.Large e = refl
    same layers.Lfh _ e = absurd (false≢true e)
    same layers.Vs _ e = absurd (false≢true e)
    same layers.Back _ e = absurd (false≢true e)
    same layers.Large _ e = absurd (false≢true e)

-- each act leaves the places at home
pub homes_act : (st : State) (k : CallState) (c : ℕ) (act : Act) → HasHomes st → HasHomes (state_after st k c act)
homes_act st k c (acts.Place start granules layers.Lfh) h = record { lfh = (refl, h.lfh); vs = h.vs; back = h.back; large = h.large }
homes_act st k c (acts.Place start granules layers.Vs) h = record { lfh = h.lfh; vs = (refl, h.vs); back = h.back; large = h.large }
homes_act st k c (acts.Place start granules layers.Back) h = record { lfh = h.lfh; vs = h.vs; back = (refl, h.back); large = h.large }
homes_act st k c (acts.Place start granules layers.Large) h = record { lfh = h.lfh; vs = h.vs; back = h.back; large = (refl, h.large) }
homes_act st k c (acts.Give a size) h = record { lfh = one layers.Lfh st.lfh h.lfh; vs = one layers.Vs st.vs.places h.vs; back = one layers.Back st.back.places h.back; large = one layers.Large st.large h.large }
  where
    one : (l : Layer) (ps : List Place) → AreOf l ps → AreOf l (on l (change_found (is_hand_at c a) (with_status (Live size))) ps (layer_of (hand_at st c a)))
    one l ps x = all_on (λ p. p.layer ≡ l) l (change_found (is_hand_at c a) (with_status (Live size))) ps (layer_of (hand_at st c a)) (λ _. all_changed (λ p. p.layer ≡ l) (is_hand_at c a) (with_status (Live size)) ps (λ p e q. q) x) x
homes_act st k c (acts.Take a size) h = record { lfh = one layers.Lfh st.lfh h.lfh; vs = one layers.Vs st.vs.places h.vs; back = one layers.Back st.back.places h.back; large = one layers.Large st.large h.large }
  where
    one : (l : Layer) (ps : List Place) → AreOf l ps → AreOf l (on l (change_found (is_live_at a) (with_status (InHand c))) ps (layer_of (place_at st c a)))
    one l ps x = all_on (λ p. p.layer ≡ l) l (change_found (is_live_at a) (with_status (InHand c))) ps (layer_of (place_at st c a)) (λ _. all_changed (λ p. p.layer ≡ l) (is_live_at a) (with_status (InHand c)) ps (λ p e q. q) x) x
homes_act st k c (acts.Drop a) h = record { lfh = one layers.Lfh st.lfh h.lfh; vs = one layers.Vs st.vs.places h.vs; back = one layers.Back st.back.places h.back; large = one layers.Large st.large h.large }
  where
    one : (l : Layer) (ps : List Place) → AreOf l ps → AreOf l (on l (remove_found (is_hand_at c a)) ps (layer_of (hand_at st c a)))
    one l ps x = all_on (λ p. p.layer ≡ l) l (remove_found (is_hand_at c a)) ps (layer_of (hand_at st c a)) (λ _. all_removed (λ p. p.layer ≡ l) (is_hand_at c a) ps x) x
homes_act st k c (acts.Resize a granules size) h = record { lfh = one layers.Lfh st.lfh h.lfh; vs = one layers.Vs st.vs.places h.vs; back = one layers.Back st.back.places h.back; large = one layers.Large st.large h.large }
  where
    one : (l : Layer) (ps : List Place) → AreOf l ps → AreOf l (on l (change_found (is_live_at a) (resize_place granules size)) ps (layer_of (place_at st c a)))
    one l ps x = all_on (λ p. p.layer ≡ l) l (change_found (is_live_at a) (resize_place granules size)) ps (layer_of (place_at st c a)) (λ _. all_changed (λ p. p.layer ≡ l) (is_live_at a) (resize_place granules size) ps (λ p e q. q) x) x
homes_act st k c (acts.Blocked whats.Gate word) h = record { lfh = h.lfh; vs = h.vs; back = h.back; large = h.large }
homes_act st k c _ h = record { lfh = h.lfh; vs = h.vs; back = h.back; large = h.large }

---- The place that is found is the one that changes

find_cases : (t : Place → Bool) (xs ys : List Place) (p : Place) → find t (xs ++ ys) ≡ Some p → (find t xs ≡ Some p) ⊎ (find t ys ≡ Some p)
find_cases t [] ys p h = inr h
find_cases t (x ∷ xs) ys p h = elim (cases_Bool (t x)) [
  | inl e ↦ inl (rw e (rw e at h))
  | inr e ↦ elim (find_cases t xs ys p (rw e at h)) [ inl f ↦ inl (rw e f) | inr f ↦ inr f ]
]

find_guarded : (t : Place → Bool) (xs : List Place) (b : Bool) (p : Place) → find t (guarded xs b) ≡ Some p → find t xs ≡ Some p
find_guarded t xs true p h = h
find_guarded t xs false p h = absurd (let z : ⊥ = cc in z)

find_in_hand : (c a : ℕ) (xs : List Place) (p : Place) → find (has_address a) (in_hand c xs) ≡ Some p → find (is_hand_at c a) xs ≡ Some p
find_in_hand c a [] p h = h
find_in_hand c a (x ∷ xs) p h = elim (cases_Bool (is_in_hand_of c x.status)) [
  | inr e ↦ let off = off_right (has_address a x) (is_in_hand_of c x.status) e in rw off (find_in_hand c a xs p (rw e at h))
  | inl e ↦ elim (cases_Bool (has_address a x)) [
    | inl f ↦ let is = and_from (has_address a x) (is_in_hand_of c x.status) f e in rw is (rw (e, f) at h)
    | inr f ↦ let off = off_left (has_address a x) (is_in_hand_of c x.status) f in rw off (find_in_hand c a xs p (rw (e, f) at h))
  ]
]
  where
    off_right : (x y : Bool) → y ≡ false → (x && y) ≡ false
    off_right true y e = e
    off_right false y e = refl

    off_left : (x y : Bool) → x ≡ false → (x && y) ≡ false
    off_left true y e = absurd (both_ways true e refl)
    off_left false y e = refl

find_live : (a : ℕ) (xs : List Place) (p : Place) → is_live p.status ≡ true → find (has_address a) xs ≡ Some p → find (is_live_at a) xs ≡ Some p
find_live a [] p l h = h
find_live a (x ∷ xs) p l h = elim (cases_Bool (has_address a x)) [
  | inl f ↦
      let g : Some x ≡ Some p = (rw f at h) in
      let same : x ≡ p = cc in
      let live : is_live x.status ≡ true = subst (λ (y : Place). is_live y.status ≡ true) (sym same) l in
      let is = and_from (has_address a x) (is_live x.status) f live in rw is g
  | inr f ↦ let off = off_left (has_address a x) (is_live x.status) f in rw off (find_live a xs p l (rw f at h))
]
  where
    off_left : (x y : Bool) → x ≡ false → (x && y) ≡ false
    off_left true y e = absurd (both_ways true e refl)
    off_left false y e = refl

found_of : (t : Place → Bool) (l : Layer) (xs : List Place) (p : Place) → AreOf l xs → find t xs ≡ Some p → p.layer ≡ l
found_of t l [] p a h = absurd (let z : ⊥ = cc in z)
found_of t l (x ∷ xs) p a h = elim (cases_Bool (t x)) [
  | inl e ↦ let g : Some x ≡ Some p = (rw e at h) in let same : x ≡ p = cc in subst (λ (y : Place). y.layer ≡ l) same a.0
  | inr e ↦ found_of t l xs p a.1 (rw e at h)
]

found_passes : (t : Place → Bool) (xs : List Place) (p : Place) → find t xs ≡ Some p → t p ≡ true
found_passes t [] p h = absurd (let z : ⊥ = cc in z)
found_passes t (x ∷ xs) p h = elim (cases_Bool (t x)) [
  | inl e ↦ let g : Some x ≡ Some p = (rw e at h) in let same : x ≡ p = cc in subst (λ (y : Place). t y ≡ true) same e
  | inr e ↦ found_passes t xs p (rw e at h)
]

module _ (st : State) (homes : HasHomes st) (c a : ℕ) (p : Place) where
  at_home : (t : Place → Bool) (l : Layer) → AreOf l (places_of st l) → find t (places_of st l) ≡ Some p → find t (places_of st p.layer) ≡ Some p
  at_home t l h e = subst (λ (x : Layer). find t (places_of st x) ≡ Some p) (sym (found_of t l (places_of st l) p h e)) e

  in_hands : find (has_address a) (hands st c) ≡ Some p → find (is_hand_at c a) (places_of st p.layer) ≡ Some p
  in_hands h = elim (find_cases (has_address a) (in_hand c st.lfh ++ in_hand c st.vs.places ++ in_hand c st.back.places) (in_hand c st.large) p h) [
    | inr e ↦ at_home (is_hand_at c a) layers.Large homes.large (find_in_hand c a st.large p e)
    | inl e ↦ elim (find_cases (has_address a) (in_hand c st.lfh ++ in_hand c st.vs.places) (in_hand c st.back.places) p e) [
      | inr f ↦ at_home (is_hand_at c a) layers.Back homes.back (find_in_hand c a st.back.places p f)
      | inl f ↦ elim (find_cases (has_address a) (in_hand c st.lfh) (in_hand c st.vs.places) p f) [
        | inl g ↦ at_home (is_hand_at c a) layers.Lfh homes.lfh (find_in_hand c a st.lfh p g)
        | inr g ↦ at_home (is_hand_at c a) layers.Vs homes.vs (find_in_hand c a st.vs.places p g)
      ]
    ]
  ]

  -- the place that is in hand there is the first such place of its layer
  pub hand_found : hand_at st c a ≡ Some p → find (is_hand_at c a) (places_of st p.layer) ≡ Some p
  hand_found h = in_hands h

  -- .. and so is a live place
  pub place_found : is_live p.status ≡ true → place_at st c a ≡ Some p → find (is_live_at a) (places_of st p.layer) ≡ Some p
  place_found l h = elim (find_cases (has_address a) (exclusive_places st c) (all_places st) p h) [ inl e ↦ in_exclusive e | inr e ↦ in_all e ]
    where
      in_all : find (has_address a) (all_places st) ≡ Some p → find (is_live_at a) (places_of st p.layer) ≡ Some p
      in_all h = elim (find_cases (has_address a) (st.lfh ++ st.vs.places ++ st.back.places) st.large p h) [
        | inr e ↦ at_home (is_live_at a) layers.Large homes.large (find_live a st.large p l e)
        | inl e ↦ elim (find_cases (has_address a) (st.lfh ++ st.vs.places) st.back.places p e) [
          | inr f ↦ at_home (is_live_at a) layers.Back homes.back (find_live a st.back.places p l f)
          | inl f ↦ elim (find_cases (has_address a) st.lfh st.vs.places p f) [
            | inl g ↦ at_home (is_live_at a) layers.Lfh homes.lfh (find_live a st.lfh p l g)
            | inr g ↦ at_home (is_live_at a) layers.Vs homes.vs (find_live a st.vs.places p l g)
          ]
        ]
      ]

      not_hand : find (has_address a) (hands st c) ≡ Some p → ⊥
      not_hand e = no p.status (and_parts (has_address a p) (is_in_hand_of c p.status) (found_passes (is_hand_at c a) (places_of st p.layer) p (in_hands e))).1 l
        where
          no : (t : Rattle.heap_model.specs.State.Status) → is_in_hand_of c t ≡ true → is_live t ≡ true → ⊥
          no (Live size) x y = false≢true x
          no (InHand d) x y = false≢true y

      in_exclusive : find (has_address a) (exclusive_places st c) ≡ Some p → find (is_live_at a) (places_of st p.layer) ≡ Some p
      in_exclusive h = elim (find_cases (has_address a) (hands st c ++ guarded st.vs.places (holds st.gate c whats.Vs) ++ guarded st.back.places (holds st.gate c whats.Back)) (guarded st.large (holds st.gate c whats.Large)) p h) [
        | inr e ↦ at_home (is_live_at a) layers.Large homes.large (find_live a st.large p l (find_guarded (has_address a) st.large _ p e))
        | inl e ↦ elim (find_cases (has_address a) (hands st c ++ guarded st.vs.places (holds st.gate c whats.Vs)) (guarded st.back.places (holds st.gate c whats.Back)) p e) [
          | inr f ↦ at_home (is_live_at a) layers.Back homes.back (find_live a st.back.places p l (find_guarded (has_address a) st.back.places _ p f))
          | inl f ↦ elim (find_cases (has_address a) (hands st c) (guarded st.vs.places (holds st.gate c whats.Vs)) p f) [
            | inl g ↦ absurd (not_hand g)
            | inr g ↦ at_home (is_live_at a) layers.Vs homes.vs (find_live a st.vs.places p l (find_guarded (has_address a) st.vs.places _ p g))
          ]
        ]
      ]
