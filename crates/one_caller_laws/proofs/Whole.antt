-- Where caller 0 alone has come, each span of the variable-size layer and of the back end has a place, unless its lock is held.
use Rattle.std.proofs.Common.{◌≡◌, ◌⊎◌, ℕ, ◌/◌, Bool, true, false, ◌&&◌, List, [], ◌∷◌, Option, Some, None, refl, sym, ap, ◌∙◌, subst, inl, inr}
use Rattle.std.specs.List.{find, list_all}
use Rattle.std.proofs.lemmas.Bool.{cases_Bool, and_parts, false≢true}
use Rattle.heap_model.specs.declared.Act.{Act}
use Rattle.heap_model.specs.declared.Act.TheVariants as acts
use Rattle.heap_model.specs.declared.Kind.{Kind}
use Rattle.heap_model.specs.declared.Kind.TheVariants as kinds
use Rattle.heap_model.specs.declared.Layer.{Layer}
use Rattle.heap_model.specs.declared.Layer.TheVariants as layers
use Rattle.heap_model.specs.declared.What.TheVariants as whats
use Rattle.heap_model.specs.State.{Setting, State, Span, Place, Status, is_kind, is_layer, holds, hand_at, place_at, is_hand_at, is_live_at, Live, InHand, insert_span, change_found, remove_found}
use Rattle.heap_model.specs.Ranges.{gaps, is_of_kind}
use Rattle.heap_model.specs.Stay.{for_some}
use Rattle.heap_model.specs.CallState.{Configuration, CallerView, caller_view, is_inside}
use Rattle.heap_model.specs.Search.{request_of, span_at, begins_at}
use Rattle.heap_model.specs.Legal.{may, may_follow, after, state_after, lies_in, has_place, are_used, leaves_whole, may_span_for, may_unspan_of, is_unused, may_touch, is_resized, with_status, with_places, resize_place, on, layer_of, area_with, is_back_at, with_pages}
use Rattle.heap_model.specs.History.{first_configuration}
use Rattle.heap_model.specs.Alone.{by_zero, configuration_by, may_all_come}
use Rattle.heap_model.proofs.GateSound.{row_of}
use Rattle.heap_model.proofs.ListLemmas.{for_some_parts, filter-insert_span, filter-remove_found, filter-change_found}
use Rattle.heap_model.proofs.Others.{touch_resized}
use Rattle.heap_soundness.proofs.RowLemmas.{span_row}
use Rattle.heap_soundness.proofs.Enums.{kind_is}
use Rattle.serial_laws.proofs.Places.{any_changed, all_weaker}

-- each of these spans has its place, or its lock is held
pub record IsGuarded (st : State) : Type 0 where
  pub vs : (holds st.gate 0 whats.Vs ≡ true) ⊎ (are_used 4096 kinds.Vs st.vs.places st.back.area.spans ≡ true)
  pub back : (holds st.gate 0 whats.Back ≡ true) ⊎ (are_used 4096 kinds.Back st.back.places st.back.area.spans ≡ true)

-- a place keeps its bytes where its status changes
pub used_restatused : (kind : Kind) (t : Place → Bool) (status : Status) (ps : List Place) (xs : List Span) → are_used 4096 kind ps xs ≡ true → are_used 4096 kind (change_found t (with_status status) ps) xs ≡ true
used_restatused kind t status ps xs h =
    all_weaker (is_of_kind kind) (has_place 4096 ps) (has_place 4096 (change_found t (with_status status) ps)) xs (λ y e. any_changed (lies_in 4096 y) t (with_status status) ps (λ p. refl) ∙ e) h

pub used_on : (kind : Kind) (l : Layer) (t : Place → Bool) (status : Status) (ps : List Place) (xs : List Span) (o : Option Layer) → are_used 4096 kind ps xs ≡ true → are_used 4096 kind (on l (change_found t (with_status status)) ps o) xs ≡ true
used_on kind l t status ps xs None h = h
used_on kind l t status ps xs (Some k) h = elim (cases_Bool (is_layer l k)) [
  | inl e ↦ rw e (used_restatused kind t status ps xs h)
  | inr e ↦ rw e h
]

-- spans of other kinds do not matter
pub used_inserted : (kind : Kind) (ps : List Place) (x : Span) (xs : List Span) → is_kind x.kind kind ≡ false → are_used 4096 kind ps xs ≡ true → are_used 4096 kind ps (insert_span x xs) ≡ true
used_inserted kind ps x xs e h = ap (list_all (has_place 4096 ps)) (filter-insert_span (is_of_kind kind) x xs e) ∙ h

pub used_removed : (kind : Kind) (ps : List Place) (first : ℕ) (xs : List Span) → ((x : Span) → find (begins_at first) xs ≡ Some x → is_kind x.kind kind ≡ false) → are_used 4096 kind ps xs ≡ true → are_used 4096 kind ps (remove_found (begins_at first) xs) ≡ true
used_removed kind ps first xs e h = ap (list_all (has_place 4096 ps)) (filter-remove_found (is_of_kind kind) (begins_at first) xs e) ∙ h

used_resized : (ps : List Place) (first pages : ℕ) (xs : List Span) → are_used 4096 kinds.Vs ps xs ≡ true → are_used 4096 kinds.Vs ps (change_found (is_back_at first) (with_pages pages) xs) ≡ true
used_resized ps first pages xs h =
    ap (list_all (has_place 4096 ps)) (filter-change_found (is_of_kind kinds.Vs) (is_back_at first) (with_pages pages) xs (λ x e.
    let k = kind_is x.kind kinds.Back (and_parts (begins_at first x) (is_kind x.kind kinds.Back) e).1 in
    (rw k refl, rw k refl)))
    ∙ h

module _ (s : Setting) (m : Configuration) (g : IsGuarded m.state) where
  abbrev st : State
  st = m.state

  abbrev k : CallerView
  k = caller_view m 0

  span_guarded : (first pages : ℕ) (kind : Kind) (bucket slot : ℕ) → may s m 0 (acts.Span first pages kind bucket slot) ≡ true → IsGuarded (state_after st (m.now.calls 0) 0 (acts.Span first pages kind bucket slot))
  span_guarded first pages kind bucket slot h =
      let r = span_row s st.back.area (gaps st) 0 k (request_of s m 0) (record { first = first; pages = pages; kind = kind; bucket = bucket; slot = slot }) h in
      record { vs = by_kind kind r.owner; back = inl r.holds }
    where
      by_kind : (kind : Kind) → may_span_for s st.back.area (gaps st) 0 k (request_of s m 0) pages bucket kind ≡ true →
          (holds st.gate 0 whats.Vs ≡ true) ⊎ (are_used 4096 kinds.Vs st.vs.places (insert_span (record { first = first; pages = pages; kind = kind; bucket = bucket; slot = slot }) st.back.area.spans) ≡ true)
      by_kind kinds.Vs o = inl (and_parts k.vs _ o).0
      by_kind kinds.Lfh o = elim g.vs [ inl v ↦ inl v | inr u ↦ inr (used_inserted kinds.Vs st.vs.places (record { first = first; pages = pages; kind = kinds.Lfh; bucket = bucket; slot = slot }) st.back.area.spans refl u) ]
      by_kind kinds.Back o = elim g.vs [ inl v ↦ inl v | inr u ↦ inr (used_inserted kinds.Vs st.vs.places (record { first = first; pages = pages; kind = kinds.Back; bucket = bucket; slot = slot }) st.back.area.spans refl u) ]
      by_kind kinds.Header o = absurd (false≢true o)
      by_kind kinds.Free o = absurd (false≢true o)

  unspan_guarded : (first : ℕ) → may s m 0 (acts.Unspan first) ≡ true → IsGuarded (state_after st (m.now.calls 0) 0 (acts.Unspan first))
  unspan_guarded first h =
      let r = and_parts k.back (for_some (span_at st.back.area first) (is_unused st k)) h in
      let x = for_some_parts (span_at st.back.area first) (is_unused st k) r.1 in
      record { vs = by_kind x.0 x.1 x.0.kind refl (and_parts (may_unspan_of k x.0.kind) _ x.2).0; back = inl r.0 }
    where
      by_kind : (x : Span) → span_at st.back.area first ≡ Some x → (kind : Kind) → x.kind ≡ kind → may_unspan_of k x.kind ≡ true →
          (holds st.gate 0 whats.Vs ≡ true) ⊎ (are_used 4096 kinds.Vs st.vs.places (remove_found (begins_at first) st.back.area.spans) ≡ true)
      by_kind x found kinds.Vs e u = inl (and_parts (is_inside k) k.vs (rw e at u)).1
      by_kind x found kind e u = elim (cases_Bool (is_kind kind kinds.Vs)) [
        | inl v ↦ let w : x.kind ≡ kinds.Vs = e ∙ kind_is kind kinds.Vs v in inl (and_parts (is_inside k) k.vs (rw w at u)).1
        | inr v ↦ elim g.vs [
          | inl w ↦ inl w
          | inr w ↦ inr (used_removed kinds.Vs st.vs.places first st.back.area.spans (λ y f.
              let same : x ≡ y = cc (found, f) in subst (λ (z : Span). is_kind z.kind kinds.Vs ≡ false) same (ap (λ (q : Kind). is_kind q kinds.Vs) e ∙ v)) w)
        ]
      ]

  place_guarded : (start granules : ℕ) (l : Layer) → may s m 0 (acts.Place start granules l) ≡ true → IsGuarded (state_after st (m.now.calls 0) 0 (acts.Place start granules l))
  place_guarded start granules layers.Vs h = record { vs = inl (and_parts k.entered k.vs (and_parts (k.entered && k.vs) _ h).0).1; back = g.back }
  place_guarded start granules layers.Lfh h = record { vs = g.vs; back = g.back }
  place_guarded start granules layers.Back h = record { vs = g.vs; back = inl (and_parts k.entered k.back (and_parts (k.entered && k.back) _ h).0).1 }
  place_guarded start granules layers.Large h = record { vs = g.vs; back = g.back }

  restatused_guarded : (t : Place → Bool) (status : Status) (o : Option Layer) → IsGuarded (with_places st o (change_found t (with_status status)))
  restatused_guarded t status o = record {
    vs = elim g.vs [ inl v ↦ inl v | inr u ↦ inr (used_on kinds.Vs layers.Vs t status st.vs.places st.back.area.spans o u) ];
    back = elim g.back [ inl v ↦ inl v | inr u ↦ inr (used_on kinds.Back layers.Back t status st.back.places st.back.area.spans o u) ];
  }

  drop_guarded : (a : ℕ) → may s m 0 (acts.Drop a) ≡ true → IsGuarded (state_after st (m.now.calls 0) 0 (acts.Drop a))
  drop_guarded a h =
      let r = and_parts k.entered (for_some (hand_at st 0 a) (λ p. may_touch k p.layer)) h in
      let p = for_some_parts (hand_at st 0 a) (λ p. may_touch k p.layer) r.1 in
      subst (λ (o : Option Place). IsGuarded (with_places st (layer_of o) (remove_found (is_hand_at 0 a)))) (sym p.1) (by_layer p.0.layer p.2)
    where
      by_layer : (l : Layer) → may_touch k l ≡ true → IsGuarded (with_places st (Some l) (remove_found (is_hand_at 0 a)))
      by_layer layers.Lfh t = record { vs = g.vs; back = g.back }
      by_layer layers.Vs t = record { vs = inl t; back = g.back }
      by_layer layers.Back t = record { vs = g.vs; back = inl t }
      by_layer layers.Large t = record { vs = g.vs; back = g.back }

  resize_guarded : (a granules size : ℕ) → may s m 0 (acts.Resize a granules size) ≡ true → IsGuarded (state_after st (m.now.calls 0) 0 (acts.Resize a granules size))
  resize_guarded a granules size h =
      let r = and_parts k.entered (for_some (place_at st 0 a) (is_resized s st k granules size)) h in
      let p = for_some_parts (place_at st 0 a) (is_resized s st k granules size) r.1 in
      let t = touch_resized s st k granules size p.0 p.2 in
      subst (λ (o : Option Place). IsGuarded (made o)) (sym p.1) (by_layer p.0 p.0.layer refl t)
    where
      made : Option Place → State
      made o =
          let next = with_places st (layer_of o) (change_found (is_live_at a) (resize_place granules size)) in
          record next { back = record { area = area_with st.back.area granules o; places = next.back.places } }

      by_layer : (p : Place) (l : Layer) → p.layer ≡ l → may_touch k p.layer ≡ true → IsGuarded (made (Some p))
      by_layer p layers.Lfh e t = rw e (record { vs = g.vs; back = g.back })
      by_layer p layers.Vs e t = let v : holds st.gate 0 whats.Vs ≡ true = rw e at t in rw e (record { vs = inl v; back = g.back })
      by_layer p layers.Back e t =
          let b : holds st.gate 0 whats.Back ≡ true = rw e at t in
          rw e (record { vs = elim g.vs [ inl v ↦ inl v | inr u ↦ inr (used_resized st.vs.places (p.start / 4096) (granules / 256) st.back.area.spans u) ]; back = inl b })
      by_layer p layers.Large e t = rw e (record { vs = g.vs; back = g.back })

  pub guarded_act : (act : Act) → may s m 0 act ≡ true → IsGuarded (state_after st (m.now.calls 0) 0 act)
  guarded_act (acts.TakeLock whats.Gate) h = g
  guarded_act (acts.TakeLock whats.Lfh) h = record { vs = g.vs; back = g.back }
  guarded_act (acts.TakeLock whats.Vs) h = record { vs = inl refl; back = g.back }
  guarded_act (acts.TakeLock whats.Back) h = record { vs = g.vs; back = inl refl }
  guarded_act (acts.TakeLock whats.Large) h = record { vs = g.vs; back = g.back }
  guarded_act (acts.GiveLock whats.Gate) h = g
  guarded_act (acts.GiveLock whats.Lfh) h = record { vs = g.vs; back = g.back }
  guarded_act (acts.GiveLock whats.Vs) h = record { vs = inr (and_parts _ (leaves_whole st whats.Vs) h).1; back = g.back }
  guarded_act (acts.GiveLock whats.Back) h = record { vs = g.vs; back = inr (and_parts _ (leaves_whole st whats.Back) h).1 }
  guarded_act (acts.GiveLock whats.Large) h = record { vs = g.vs; back = g.back }
  guarded_act (acts.Blocked whats.Gate word) h = record { vs = g.vs; back = g.back }
  guarded_act (acts.Blocked whats.Lfh word) h = g
  guarded_act (acts.Blocked whats.Vs word) h = g
  guarded_act (acts.Blocked whats.Back word) h = g
  guarded_act (acts.Blocked whats.Large word) h = g
  guarded_act (acts.Span first pages kind bucket slot) h = span_guarded first pages kind bucket slot h
  guarded_act (acts.Unspan first) h = unspan_guarded first h
  guarded_act (acts.Place start granules l) h = place_guarded start granules l h
  guarded_act (acts.Give a size) h = restatused_guarded (is_hand_at 0 a) (Live size) (layer_of (hand_at st 0 a))
  guarded_act (acts.Take a size) h = restatused_guarded (is_live_at a) (InHand 0) (layer_of (place_at st 0 a))
  guarded_act (acts.Drop a) h = drop_guarded a h
  guarded_act (acts.Resize a granules size) h = resize_guarded a granules size h
  guarded_act _ h = record { vs = g.vs; back = g.back }

pub guarded_through : (s : Setting) (m : Configuration) (rest : List Act) → may_all_come s m rest ≡ true → IsGuarded m.state → IsGuarded (configuration_by s m rest).state
guarded_through s m [] h g = g
guarded_through s m (act ∷ rest) h g =
    let p = and_parts (may_follow s m (by_zero act)) (may_all_come s (after s m (by_zero act)) rest) h in
    guarded_through s (after s m (by_zero act)) rest p.1 (guarded_act s m g act (row_of s m (by_zero act) p.0))

pub guarded_from_first : (s : Setting) (rest : List Act) → may_all_come s first_configuration rest ≡ true → IsGuarded (configuration_by s first_configuration rest).state
guarded_from_first s rest h = guarded_through s first_configuration rest h (record { vs = inr refl; back = inr refl })
