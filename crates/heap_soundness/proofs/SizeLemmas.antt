-- Each live block suits its place.
use Rattle.std.proofs.Common.{◌≡◌, ℕ, ◌+◌, ◌*◌, ◌-◌, ◌<◌, ◌≤◌, true, ◌&&◌, ◌||◌, not, List, Some, refl, sym, ap, ◌∙◌, subst, arith, eqb, leb, ltb, inl, inr, ◌⊎◌}
use Rattle.std.specs.List.{find, AllByRecursion}
use Rattle.std.proofs.lemmas.Bool.{cases_Bool, and_parts, or_cases, eqb-true, leb-true, ltb-true, false≢true, eqb-false}
use Rattle.heap_model.specs.declared.Act.{Act}
use Rattle.heap_model.specs.declared.Act.TheVariants as acts
use Rattle.heap_model.specs.declared.Layer.{Layer}
use Rattle.heap_model.specs.declared.Layer.TheVariants as layers
use Rattle.heap_model.specs.declared.What.TheVariants as whats
use Rattle.heap_model.specs.Geometry.{route_of, is_paged, is_huge, units_of, pages_of}
use Rattle.heap_model.specs.State.{State, Setting, Place, Live, InHand, places_of, hand_at, place_at, is_hand_at, is_live_at, is_layer, is_live, room, change_found, remove_found}
use Rattle.heap_model.specs.Ranges.{taken_of}
use Rattle.heap_model.specs.Stay.{lets_stay, lets_stay_in, reach, resized, resized_in}
use Rattle.heap_model.specs.CallState.{Configuration, caller_view, CallerView}
use Rattle.heap_model.specs.Legal.{may, state_after, on, layer_of, with_status, resize_place, suits, suits_in, may_touch, is_resized}
use Rattle.heap_model.specs.Agreement.{HasHomes}
use Rattle.heap_model.proofs.ListLemmas.{for_some_parts}
use Rattle.heap_model.proofs.Homes.{all_changed, all_removed, all_on, hand_found, place_found}
use Rattle.heap_soundness.specs.Sound.{SuitsSize, HasSoundSize, HasSoundSizes}

-- a block of the size suits a place of so many granules
suits_size : (size granules : ℕ) (l : Layer) → suits_in size granules l ≡ true → SuitsSize l granules size
suits_size size granules layers.Lfh h = leb-true size 16368 h
suits_size size granules layers.Vs h =
    let p = and_parts (leb size 131072) (eqb granules (units_of size) || eqb granules (units_of size + 1)) h in
    (leb-true size 131072 p.0, either (or_cases (eqb granules (units_of size)) (eqb granules (units_of size + 1)) p.1))
  where
    either : (eqb granules (units_of size) ≡ true) ⊎ (eqb granules (units_of size + 1) ≡ true) → (granules ≡ units_of size) ⊎ (granules ≡ units_of size + 1)
    either (inl e) = inl (eqb-true granules (units_of size) e)
    either (inr e) = inr (eqb-true granules (units_of size + 1) e)
suits_size size granules layers.Back h = let p = and_parts (is_paged (route_of size)) (eqb granules (256 * pages_of size)) h in (p.0, eqb-true granules (256 * pages_of size) p.1)
suits_size size granules layers.Large h = let p = and_parts (is_huge (route_of size)) (eqb granules (256 * pages_of size)) h in (p.0, eqb-true granules (256 * pages_of size) p.1)

given_sound : (size : ℕ) (p : Place) → suits size p ≡ true → HasSoundSize (with_status (Live size) p) (Live size)
given_sound size p h =
    let q = and_parts (leb size (room p)) (suits_in size p.granules p.layer) h in
    (leb-true size (room p) q.0, suits_size size p.granules p.layer q.1)

taken_suits : (k all : ℕ) → k ≤ all → (taken_of k all ≡ k) ⊎ (taken_of k all ≡ k + 1)
taken_suits k all h = elim (cases_Bool (ltb (all - k) 2)) [
  | inl e ↦ let l = ltb-true (all - k) 2 e in rw e (one l)
  | inr e ↦ rw e (inl refl)
]
  where
    one : all - k < 2 → (all ≡ k) ⊎ (all ≡ k + 1)
    one l = elim (cases_Bool (eqb all k)) [ inl f ↦ inl (eqb-true all k f) | inr f ↦ inr (let g = eqb-false all k f in omega arith) ]

vs_room : (size granules : ℕ) → units_of size ≤ granules → size ≤ 16 * granules - 16
vs_room size granules h = omega arith

page_room : (size : ℕ) → size ≤ 16 * (256 * pages_of size)
page_room size = omega arith

resized_sound : (s : Setting) (st : State) (k : CallerView) (granules size : ℕ) (p : Place) → is_resized s st k granules size p ≡ true → HasSoundSize (resize_place granules size p) (Live size)
resized_sound s st k granules size p h =
    let q = and_parts _ (eqb granules (resized s.limits st p size)) h in
    let r = and_parts _ (lets_stay s.limits st p size) q.0 in
    let t = and_parts _ (is_live p.status) r.0 in
    let u = and_parts (may_touch k p.layer) (not (is_layer p.layer layers.Lfh)) t.0 in
    by_layer p.layer u.1 (eqb-true granules (resized s.limits st p size) q.1) r.1
  where
    by_layer : (l : Layer) → not (is_layer l layers.Lfh) ≡ true → granules ≡ resized_in s.limits st p size l → lets_stay_in s.limits st p size l ≡ true →
        (size ≤ room (record { start = p.start; granules = granules; layer = l; status = Live size })) × SuitsSize l granules size
    by_layer layers.Lfh n e h = absurd (false≢true n)
    by_layer layers.Vs n e h =
        let q = and_parts (leb size 131072) (leb (units_of size) (reach s.limits st p)) h in
        let w = taken_suits (units_of size) (reach s.limits st p) (leb-true (units_of size) (reach s.limits st p) q.1) in
        let v = either w in
        (vs_room size granules (least v), (leb-true size 131072 q.0, v))
      where
        either : (taken_of (units_of size) (reach s.limits st p) ≡ units_of size) ⊎ (taken_of (units_of size) (reach s.limits st p) ≡ units_of size + 1) → (granules ≡ units_of size) ⊎ (granules ≡ units_of size + 1)
        either (inl f) = inl (e ∙ f)
        either (inr f) = inr (e ∙ f)

        least : (granules ≡ units_of size) ⊎ (granules ≡ units_of size + 1) → units_of size ≤ granules
        least (inl f) = omega (arith, f)
        least (inr f) = omega (arith, f)
    by_layer layers.Back n e h = (subst (λ (g : ℕ). size ≤ 16 * g) (sym e) (page_room size), ((and_parts (is_paged (route_of size)) _ h).0, e))
    by_layer layers.Large n e h = (subst (λ (g : ℕ). size ≤ 16 * g) (sym e) (page_room size), ((and_parts (is_huge (route_of size)) _ h).0, e))

abbrev AreSound : List Place → Type 0
AreSound ps = AllByRecursion (λ p. HasSoundSize p p.status) ps

pub sizes_act : (s : Setting) (m : Configuration) (c : ℕ) (act : Act) → may s m c act ≡ true → HasHomes m.state → HasSoundSizes m.state → HasSoundSizes (state_after m.state (m.now.calls c) c act)
sizes_act s m c (acts.Place start granules layers.Lfh) h w z = record { lfh = (tt, z.lfh); vs = z.vs; back = z.back; large = z.large }
sizes_act s m c (acts.Place start granules layers.Vs) h w z = record { lfh = z.lfh; vs = (tt, z.vs); back = z.back; large = z.large }
sizes_act s m c (acts.Place start granules layers.Back) h w z = record { lfh = z.lfh; vs = z.vs; back = (tt, z.back); large = z.large }
sizes_act s m c (acts.Place start granules layers.Large) h w z = record { lfh = z.lfh; vs = z.vs; back = z.back; large = (tt, z.large) }
sizes_act s m c (acts.Give a size) h w z = record { lfh = one layers.Lfh z.lfh; vs = one layers.Vs z.vs; back = one layers.Back z.back; large = one layers.Large z.large }
  where
    one : (l : Layer) → AreSound (places_of m.state l) → AreSound (on l (change_found (is_hand_at c a) (with_status (Live size))) (places_of m.state l) (layer_of (hand_at m.state c a)))
    one l x =
        let q = for_some_parts (hand_at m.state c a) (λ p. may_touch (caller_view m c) p.layer && suits size p) (and_parts (caller_view m c).entered _ h).1 in
        all_on (λ p. HasSoundSize p p.status) l (change_found (is_hand_at c a) (with_status (Live size))) (places_of m.state l) (layer_of (hand_at m.state c a))
        (λ e. all_changed (λ p. HasSoundSize p p.status) (is_hand_at c a) (with_status (Live size)) (places_of m.state l) (λ p f old. changed q.0 q.1 (and_parts (may_touch (caller_view m c) q.0.layer) (suits size q.0) q.2).1 e p f) x) x
      where
        changed : (q : Place) → hand_at m.state c a ≡ Some q → suits size q ≡ true → layer_of (hand_at m.state c a) ≡ Some l → (p : Place) → find (is_hand_at c a) (places_of m.state l) ≡ Some p → HasSoundSize (with_status (Live size) p) (Live size)
        changed q is ok e p f =
            let lay : Some q.layer ≡ Some l = sym (ap layer_of is) ∙ e in
            let same : q.layer ≡ l = cc in
            let g : find (is_hand_at c a) (places_of m.state l) ≡ Some q = subst (λ (x : Layer). find (is_hand_at c a) (places_of m.state x) ≡ Some q) same (hand_found m.state w c a q is) in
            let pq : Some q ≡ Some p = sym g ∙ f in
            let eq : q ≡ p = cc in
            subst (λ (y : Place). HasSoundSize (with_status (Live size) y) (Live size)) eq (given_sound size q ok)
sizes_act s m c (acts.Take a size) h w z = record { lfh = one layers.Lfh z.lfh; vs = one layers.Vs z.vs; back = one layers.Back z.back; large = one layers.Large z.large }
  where
    one : (l : Layer) → AreSound (places_of m.state l) → AreSound (on l (change_found (is_live_at a) (with_status (InHand c))) (places_of m.state l) (layer_of (place_at m.state c a)))
    one l x = all_on (λ p. HasSoundSize p p.status) l (change_found (is_live_at a) (with_status (InHand c))) (places_of m.state l) (layer_of (place_at m.state c a))
        (λ e. all_changed (λ p. HasSoundSize p p.status) (is_live_at a) (with_status (InHand c)) (places_of m.state l) (λ p f old. tt) x) x
sizes_act s m c (acts.Drop a) h w z = record { lfh = one layers.Lfh z.lfh; vs = one layers.Vs z.vs; back = one layers.Back z.back; large = one layers.Large z.large }
  where
    one : (l : Layer) → AreSound (places_of m.state l) → AreSound (on l (remove_found (is_hand_at c a)) (places_of m.state l) (layer_of (hand_at m.state c a)))
    one l x = all_on (λ p. HasSoundSize p p.status) l (remove_found (is_hand_at c a)) (places_of m.state l) (layer_of (hand_at m.state c a))
        (λ e. all_removed (λ p. HasSoundSize p p.status) (is_hand_at c a) (places_of m.state l) x) x
sizes_act s m c (acts.Resize a granules size) h w z = record { lfh = one layers.Lfh z.lfh; vs = one layers.Vs z.vs; back = one layers.Back z.back; large = one layers.Large z.large }
  where
    one : (l : Layer) → AreSound (places_of m.state l) → AreSound (on l (change_found (is_live_at a) (resize_place granules size)) (places_of m.state l) (layer_of (place_at m.state c a)))
    one l x =
        let q = for_some_parts (place_at m.state c a) (is_resized s m.state (caller_view m c) granules size) (and_parts (caller_view m c).entered _ h).1 in
        all_on (λ p. HasSoundSize p p.status) l (change_found (is_live_at a) (resize_place granules size)) (places_of m.state l) (layer_of (place_at m.state c a))
        (λ e. all_changed (λ p. HasSoundSize p p.status) (is_live_at a) (resize_place granules size) (places_of m.state l) (λ p f old. changed q.0 q.1 q.2 e p f) x) x
      where
        alive : (q : Place) → is_resized s m.state (caller_view m c) granules size q ≡ true → is_live q.status ≡ true
        alive q ok = (and_parts _ (is_live q.status) (and_parts _ (lets_stay s.limits m.state q size) (and_parts _ (eqb granules (resized s.limits m.state q size)) ok).0).0).1

        changed : (q : Place) → place_at m.state c a ≡ Some q → is_resized s m.state (caller_view m c) granules size q ≡ true → layer_of (place_at m.state c a) ≡ Some l → (p : Place) → find (is_live_at a) (places_of m.state l) ≡ Some p → HasSoundSize (resize_place granules size p) (Live size)
        changed q is ok e p f =
            let lay : Some q.layer ≡ Some l = sym (ap layer_of is) ∙ e in
            let same : q.layer ≡ l = cc in
            let g : find (is_live_at a) (places_of m.state l) ≡ Some q = subst (λ (x : Layer). find (is_live_at a) (places_of m.state x) ≡ Some q) same (place_found m.state w c a q (alive q ok) is) in
            let pq : Some q ≡ Some p = sym g ∙ f in
            let eq : q ≡ p = cc in
            subst (λ (y : Place). HasSoundSize (resize_place granules size y) (Live size)) eq (resized_sound s m.state (caller_view m c) granules size q ok)
sizes_act s m c (acts.Blocked whats.Gate word) h w z = record { lfh = z.lfh; vs = z.vs; back = z.back; large = z.large }
sizes_act s m c _ h w z = record { lfh = z.lfh; vs = z.vs; back = z.back; large = z.large }
