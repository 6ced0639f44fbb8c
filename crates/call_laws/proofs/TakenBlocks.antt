-- A block that is taken and dropped at once, by any caller.
use Rattle.std.proofs.Common.{◌≡◌, ℕ, true, ◌&&◌, List, [], ◌∷◌, ◌++◌, Some, refl, sym, ap, subst, ◌∙◌, inl, inr}
use Rattle.std.specs.List.{find}
use Rattle.std.proofs.lemmas.Bool.{cases_Bool, and_from, and_parts, eq-eqb, eqb-true}
use Rattle.heap_model.specs.declared.Act.TheVariants as acts
use Rattle.heap_model.specs.declared.Call.{Call}
use Rattle.heap_model.specs.declared.Entry.{Entry}
use Rattle.heap_model.specs.declared.Layer.{Layer}
use Rattle.heap_model.specs.declared.Layer.TheVariants as layers
use Rattle.heap_model.specs.State.{Setting, State, Place, Live, InHand, address, has_address, is_live, is_live_at, is_hand_at, change_found, remove_found, places_of, all_places}
use Rattle.heap_model.specs.CallState.{Configuration, CallerView, caller_view}
use Rattle.heap_model.specs.Legal.{may_follow, after, may_touch, with_places, with_status}
use Rattle.heap_model.specs.History.{may_all_follow, first_configuration, configuration_of}
use Rattle.heap_soundness.specs.Sound.{IsOneOf}
use Rattle.heap_soundness.specs.Invariant.{Keeps}
use Rattle.heap_soundness.proofs.Lists.{found_passes, found_in, find_some}
use Rattle.heap_soundness.proofs.Spans.{changed_in}
use Rattle.heap_soundness.proofs.Addresses.{one_address}
use Rattle.heap_soundness.proofs.Whole.{all_disjoint, all_addresses}
use Rattle.serial_laws.specs.BackCalls.{area_without}
use Rattle.serial_laws.proofs.Turns.{configuration-append, follow-append}
use Rattle.call_laws.specs.Within.{by_caller, IsReached, IsWithin, LeadsTo}
use Rattle.call_laws.specs.Blocks.{IsOpenTo}
use Rattle.call_laws.specs.Spans.{Freeing, FreeingBack}
use Rattle.call_laws.proofs.Within.{keeps, among_all}
use Rattle.call_laws.proofs.Blocks.{taking, dropping}
use Rattle.call_laws.proofs.Spans.{two_follow, dropping_back}

---- One entry further

pub reached_after : (s : Setting) (m : Configuration) (e : Entry) → IsReached s m → may_follow s m e ≡ true → IsReached s (after s m e)
reached_after s m e r l = record {
  valid = r.valid;
  entries = r.entries ++ e ∷ [];
  legal =
      follow-append s first_configuration r.entries (e ∷ [])
      ∙ and_from (may_all_follow s first_configuration r.entries) (may_follow s (configuration_of s r.entries) e && true) r.legal
      (and_from (may_follow s (configuration_of s r.entries) e) true (subst (λ (k : Configuration). may_follow s k e ≡ true) r.leads l) refl);
  leads = ap (λ (k : Configuration). after s k e) r.leads ∙ sym (configuration-append s first_configuration r.entries (e ∷ []));
}

---- Lists

-- a live place that is taken and dropped is gone, where none of its address is in hand
pub drop_taken : (c a : ℕ) (ps : List Place) → ((q : Place) → IsOneOf q ps → has_address a q ≡ true → is_live q.status ≡ true) →
    remove_found (is_hand_at c a) (change_found (is_live_at a) (with_status (InHand c)) ps) ≡ remove_found (is_live_at a) ps
drop_taken c a [] h = refl
drop_taken c a (q ∷ ps) h = elim (cases_Bool (has_address a q)) [
  | inl e ↦ let l = h q (inl refl) e in let z = eq-eqb c c refl in rw (e, l) (rw (e, z) refl)
  | inr e ↦ rw (e, e) (ap (λ (l : List Place). q ∷ l) (drop_taken c a ps (λ p i. h p (inr i))))
]

-- the places of a layer, changed
pub places_changed : (st : State) (l : Layer) (f : List Place → List Place) → places_of (with_places st (Some l) f) l ≡ f (places_of st l)
places_changed st layers.Lfh f = refl
places_changed st layers.Vs f = refl
places_changed st layers.Back f = refl
places_changed st layers.Large f = refl

changed_twice : (st : State) (l : Layer) (f g h : List Place → List Place) → g (f (places_of st l)) ≡ h (places_of st l) → with_places (with_places st (Some l) f) (Some l) g ≡ with_places st (Some l) h
changed_twice st layers.Lfh f g h e = ap (λ (ps : List Place). record st { lfh = ps }) e
changed_twice st layers.Vs f g h e = ap (λ (ps : List Place). record st { vs = record { places = ps; active = st.vs.active; served = st.vs.served } }) e
changed_twice st layers.Back f g h e = ap (λ (ps : List Place). record st { back = record { area = st.back.area; places = ps } }) e
changed_twice st layers.Large f g h e = ap (λ (ps : List Place). record st { large = ps }) e

touch_same : (k j : CallerView) (l : Layer) → k.vs ≡ j.vs → k.back ≡ j.back → k.large ≡ j.large → may_touch k l ≡ may_touch j l
touch_same k j layers.Lfh v b g = refl
touch_same k j layers.Vs v b g = v
touch_same k j layers.Back v b g = b
touch_same k j layers.Large v b g = g

---- A free

module _ (s : Setting) (m : Configuration) (c : ℕ) (call : Call) (p : Place) (size : ℕ) (r : IsReached s m) (w : IsWithin m c call) (o : IsOpenTo m c p) (live : p.status ≡ Live size) where
  abbrev a : ℕ
  a = address p

  k : Keeps s m
  k = keeps s m r

  abbrev m1 : Configuration
  m1 = after s m (by_caller c (acts.Take a size))

  abbrev taken : Place
  taken = with_status (InHand c) p

  take : LeadsTo s m c call (acts.Take a size) (with_places m.state (Some p.layer) (change_found (is_live_at a) (with_status (InHand c))))
  take = taking s m c call p size r w o live

  same : (q : Place) → IsOneOf q (places_of m.state p.layer) → has_address a q ≡ true → q ≡ p
  same q i h = one_address (all_places m.state) q p (all_disjoint s m k) (all_addresses s m k) (among_all m.state p.layer q i) (among_all m.state p.layer p o.there) (eqb-true (address q) a h)

  all_live : (q : Place) → IsOneOf q (places_of m.state p.layer) → has_address a q ≡ true → is_live q.status ≡ true
  all_live q i h = ap (λ (x : Place). is_live x.status) (same q i h) ∙ ap is_live live

  found : find (is_live_at a) (places_of m.state p.layer) ≡ Some p
  found =
      let f = find_some (is_live_at a) (places_of m.state p.layer) p o.there (and_from (has_address a p) (is_live p.status) (eq-eqb a a refl) (ap is_live live)) in
      let i = found_in (is_live_at a) (places_of m.state p.layer) f.0 f.1 in
      let h = (and_parts (has_address a f.0) (is_live f.0.status) (found_passes (is_live_at a) (places_of m.state p.layer) f.0 f.1)).0 in
      f.1 ∙ ap Some (same f.0 i h)

  pub there1 : IsOneOf taken (places_of m1.state p.layer)
  there1 =
      subst (λ (st : State). IsOneOf taken (places_of st p.layer)) (sym take.state)
      (subst (IsOneOf taken) (sym (places_changed m.state p.layer (change_found (is_live_at a) (with_status (InHand c)))))
      (changed_in (is_live_at a) (with_status (InHand c)) p (places_of m.state p.layer) found))

  reached1 : IsReached s m1
  reached1 = reached_after s m (by_caller c (acts.Take a size)) r take.may

  open1 : IsOpenTo m1 c taken
  open1 = record { there = there1; open_to = touch_same (caller_view m1 c) (caller_view m c) p.layer refl refl refl ∙ o.open_to }

pub freeing : Freeing
freeing s m c call p size r w o live not_back =
    let t = take s m c call p size r w o live in
    let k1 = m1 s m c call p size r w o live in
    let q = taken s m c call p size r w o live in
    let d = dropping s k1 c call q (reached1 s m c call p size r w o live) t.within (open1 s m c call p size r w o live) refl not_back in
    record {
      may = two_follow s m c (acts.Take (address p) size) (acts.Drop (address p)) t.may d.may;
      state =
          d.state
          ∙ (ap (λ (st : State). with_places st (Some p.layer) (remove_found (is_hand_at c (address p)))) t.state
          ∙ changed_twice m.state p.layer (change_found (is_live_at (address p)) (with_status (InHand c))) (remove_found (is_hand_at c (address p))) (remove_found (is_live_at (address p)))
          (drop_taken c (address p) (places_of m.state p.layer) (all_live s m c call p size r w o live)));
      within = d.within;
    }

pub freeing_back : FreeingBack
freeing_back s m c call a granules size r w back i =
    let p : Place = record { start = a; granules = granules; layer = layers.Back; status = Live size } in
    let o : IsOpenTo m c p = record { there = i; open_to = back } in
    let t = take s m c call p size r w o refl in
    let k1 = m1 s m c call p size r w o refl in
    let d = dropping_back s k1 c call a granules (reached1 s m c call p size r w o refl) t.within back (there1 s m c call p size r w o refl) in
    record {
      may = and_from (may_follow s m (by_caller c (acts.Take a size))) _ t.may d.may;
      state =
          d.state
          ∙ (ap (λ (st : State). record st { back = record { area = area_without st.back.area a; places = remove_found (is_hand_at c a) st.back.places } }) t.state
          ∙ ap (λ (ps : List Place). record m.state { back = record { area = area_without m.state.back.area a; places = ps } })
          (drop_taken c a m.state.back.places (all_live s m c call p size r w o refl)));
      within = d.within;
    }
