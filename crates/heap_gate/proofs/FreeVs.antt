-- While nobody holds the lock of VS each of its spans has a place: who gives it back leaves it so, and nobody else changes places or spans of VS.
use Rattle.std.proofs.Common.{◌≡◌, ℕ, ◌/◌, Bool, true, false, not, ◌&&◌, List, [], ◌∷◌, ◌++◌, Option, Some, None, refl, sym, ap, ◌∙◌, subst, append_assoc, inl, inr}
use Rattle.std.specs.Prelude.{is_none}
use Rattle.std.specs.List.{find, list_all}
use Rattle.std.proofs.lemmas.Bool.{and_parts, cases_Bool, both_ways, false≢true}
use Rattle.heap_model.specs.declared.Act.{Act}
use Rattle.heap_model.specs.declared.Act.TheVariants as acts
use Rattle.heap_model.specs.declared.Entry.{Entry}
use Rattle.heap_model.specs.declared.Kind.{Kind}
use Rattle.heap_model.specs.declared.Kind.TheVariants as kinds
use Rattle.heap_model.specs.declared.Layer.{Layer}
use Rattle.heap_model.specs.declared.Layer.TheVariants as layers
use Rattle.heap_model.specs.declared.What.{What}
use Rattle.heap_model.specs.declared.What.TheVariants as whats
use Rattle.heap_model.specs.Geometry.{page_bytes}
use Rattle.heap_model.specs.State.{State, Setting, Span, Place, Live, InHand, is_kind, is_layer, is_caller, change_found, remove_found, place_at, hand_at, is_hand_at, is_live_at, is_live_of}
use Rattle.heap_model.specs.CallState.{Configuration, CallerView, caller_view, is_inside}
use Rattle.heap_model.specs.Ranges.{is_of_kind, vs_spans, gaps}
use Rattle.heap_model.specs.Stay.{for_some}
use Rattle.heap_model.specs.Search.{begins_at, span_at, request_of}
use Rattle.heap_model.specs.Legal.{may, may_follow, after, on, layer_of, area_with, is_back_at, with_pages, may_touch, may_span_for, may_unspan_of, is_unused, has_place, places_in, with_status, resize_place, suits, leaves_whole}
use Rattle.heap_model.specs.History.{configuration_after, configuration_of, first_configuration, may_all_follow}
use Rattle.heap_model.proofs.GateSound.{row_of}
use Rattle.heap_model.proofs.ListLemmas.{filter-insert_span, filter-change_found, filter-remove_found, for_some_parts}
use Rattle.heap_model.proofs.Others.{open_resized, span_locks, unspan_locks, place_vs_locks}
use Rattle.claim_rule.specs.declared.views.View.{View}
use Rattle.claim_rule.specs.Entries.{IsSettingOf, entry}
use Rattle.claim_rule.specs.Plays.{Goes}
use Rattle.claim_rule.proofs.Lists.{after-append, follow_parts, legal_parts}

---- What changes places or spans of VS needs its lock

-- a place that the caller may touch without the lock is of another layer
untouched : (k : CallerView) (o : Option Place) (f : List Place → List Place) (ps : List Place) → k.vs ≡ false → for_some o (λ p. may_touch k p.layer) ≡ true → on layers.Vs f ps (layer_of o) ≡ ps
untouched k None f ps e h = refl
untouched k (Some p) f ps e h = of_layer p.layer h
  where
    of_layer : (l : Layer) → may_touch k l ≡ true → on layers.Vs f ps (Some l) ≡ ps
    of_layer layers.Vs h = absurd (both_ways k.vs e h)
    of_layer layers.Lfh h = refl
    of_layer layers.Back h = refl
    of_layer layers.Large h = refl

may_be_touched : (k : CallerView) (o : Option Place) (test : Place → Bool) → for_some o (λ p. may_touch k p.layer && test p) ≡ true → for_some o (λ p. may_touch k p.layer) ≡ true
may_be_touched k None test h = h
may_be_touched k (Some p) test h = (and_parts (may_touch k p.layer) (test p) h).0

module _ (s : Setting) (m : Configuration) (c : ℕ) (free : (caller_view m c).vs ≡ false) where
  abbrev k : CallerView
  k = caller_view m c

  abbrev st : State
  st = m.state

  abbrev next : Act → State
  next act = (after s m (entry c act)).state

  places_stay : (act : Act) → may s m c act ≡ true → (next act).vs.places ≡ st.vs.places
  places_stay (acts.Place start granules layers.Vs) h = absurd (both_ways k.vs free (place_vs_locks s m c start granules h).1)
  places_stay (acts.Place start granules layers.Lfh) h = refl
  places_stay (acts.Place start granules layers.Back) h = refl
  places_stay (acts.Place start granules layers.Large) h = refl
  places_stay (acts.Give a size) h = untouched k (hand_at st c a) (change_found (is_hand_at c a) (with_status (Live size))) st.vs.places free (may_be_touched k (hand_at st c a) (suits size) (and_parts k.entered _ h).1)
  places_stay (acts.Take a size) h = untouched k (place_at st c a) (change_found (is_live_at a) (with_status (InHand c))) st.vs.places free (may_be_touched k (place_at st c a) (λ p. is_live_of size p.status) (and_parts k.entered _ h).1)
  places_stay (acts.Drop a) h = untouched k (hand_at st c a) (remove_found (is_hand_at c a)) st.vs.places free (and_parts k.entered _ h).1
  places_stay (acts.Resize a granules size) h = untouched k (place_at st c a) (change_found (is_live_at a) (resize_place granules size)) st.vs.places free (open_resized s st c k a granules size h)
  places_stay (acts.Blocked whats.Gate word) h = refl
  places_stay (acts.Blocked whats.Lfh word) h = refl
  places_stay (acts.Blocked whats.Vs word) h = refl
  places_stay (acts.Blocked whats.Back word) h = refl
  places_stay (acts.Blocked whats.Large word) h = refl
  places_stay _ h = refl

  made_of_others : (x : Span) (kind : Kind) → may_span_for s st.back.area (gaps st) c k (request_of s m c) x.pages x.bucket kind ≡ true → is_kind kind kinds.Vs ≡ false
  made_of_others x kinds.Vs h = absurd (both_ways k.vs free (and_parts k.vs _ h).0)
  made_of_others x kinds.Back h = refl
  made_of_others x kinds.Lfh h = refl
  made_of_others x kinds.Header h = refl
  made_of_others x kinds.Free h = refl

  gone_of_others : (kind : Kind) → may_unspan_of k kind ≡ true → is_kind kind kinds.Vs ≡ false
  gone_of_others kinds.Vs h = absurd (both_ways k.vs free (and_parts (is_inside k) k.vs h).1)
  gone_of_others kinds.Back h = refl
  gone_of_others kinds.Lfh h = refl
  gone_of_others kinds.Header h = refl
  gone_of_others kinds.Free h = refl

  back_is_no_vs : (kind : Kind) → is_kind kind kinds.Back ≡ true → is_kind kind kinds.Vs ≡ false
  back_is_no_vs kinds.Back h = refl
  back_is_no_vs kinds.Vs h = absurd (false≢true h)
  back_is_no_vs kinds.Lfh h = absurd (false≢true h)
  back_is_no_vs kinds.Header h = absurd (false≢true h)
  back_is_no_vs kinds.Free h = absurd (false≢true h)

  resized : (granules : ℕ) (o : Option Place) → vs_spans (area_with st.back.area granules o) ≡ vs_spans st.back.area
  resized granules None = refl
  resized granules (Some p) = elim (cases_Bool (is_layer p.layer layers.Back)) [
    | inl e ↦ rw e (filter-change_found (is_of_kind kinds.Vs) (is_back_at (p.start / 4096)) (with_pages (granules / 256)) st.back.area.spans (λ x h. let z = back_is_no_vs x.kind (and_parts (begins_at (p.start / 4096) x) (is_kind x.kind kinds.Back) h).1 in (z, z)))
    | inr e ↦ rw e refl
  ]

  spans_stay : (act : Act) → may s m c act ≡ true → vs_spans (next act).back.area ≡ vs_spans st.back.area
  spans_stay (acts.Span first pages kind bucket slot) h =
      let x : Span = record { first = first; pages = pages; kind = kind; bucket = bucket; slot = slot } in
      filter-insert_span (is_of_kind kinds.Vs) x st.back.area.spans (made_of_others x kind (span_locks s m c x h).2)
  spans_stay (acts.Unspan first) h = filter-remove_found (is_of_kind kinds.Vs) (begins_at first) st.back.area.spans (λ x f. gone x f (for_some_parts (span_at st.back.area first) (is_unused st k) (unspan_locks s m c first h).1))
    where
      gone : (x : Span) → find (begins_at first) st.back.area.spans ≡ Some x → (y : Span) × (find (begins_at first) st.back.area.spans ≡ Some y) × (is_unused st k y ≡ true) → is_kind x.kind kinds.Vs ≡ false
      gone x f w =
          let same : Some w.0 ≡ Some x = sym w.1 ∙ f in
          let here_is : w.0 ≡ x = cc in
          subst (λ (y : Span). is_kind y.kind kinds.Vs ≡ false) here_is (gone_of_others w.0.kind (and_parts (may_unspan_of k w.0.kind) (not (has_place 4096 (places_in st w.0.kind) w.0)) w.2).0)
  spans_stay (acts.Resize a granules size) h = resized granules (place_at st c a)
  spans_stay (acts.Place start granules layers.Back) h = refl
  spans_stay (acts.Place start granules layers.Lfh) h = refl
  spans_stay (acts.Place start granules layers.Vs) h = refl
  spans_stay (acts.Place start granules layers.Large) h = refl
  spans_stay (acts.Blocked whats.Gate word) h = refl
  spans_stay (acts.Blocked whats.Lfh word) h = refl
  spans_stay (acts.Blocked whats.Vs word) h = refl
  spans_stay (acts.Blocked whats.Back word) h = refl
  spans_stay (acts.Blocked whats.Large word) h = refl
  spans_stay _ h = refl

  pub whole_stays : (act : Act) → may s m c act ≡ true → leaves_whole (next act) whats.Vs ≡ leaves_whole st whats.Vs
  whole_stays act h = λ j. list_all (has_place page_bytes (places_stay act h j)) (spans_stay act h j)

---- Who holds it

-- no act but these gives the lock a holder, or takes it from one
lock_stays : (s : Setting) (m : Configuration) (c : ℕ) (act : Act) → ((what : What) → act ≡ acts.TakeLock what → ⊥) → ((what : What) → act ≡ acts.GiveLock what → ⊥) → (after s m (entry c act)).state.gate.locks ≡ m.state.gate.locks
lock_stays s m c (acts.TakeLock what) h g = absurd (h what refl)
lock_stays s m c (acts.GiveLock what) h g = absurd (g what refl)
lock_stays s m c (acts.Blocked whats.Gate word) h g = refl
lock_stays s m c (acts.Blocked whats.Lfh word) h g = refl
lock_stays s m c (acts.Blocked whats.Vs word) h g = refl
lock_stays s m c (acts.Blocked whats.Back word) h g = refl
lock_stays s m c (acts.Blocked whats.Large word) h g = refl
lock_stays s m c _ h g = refl

abbrev pub IsWhole : Configuration → Type 0
IsWhole m = m.state.gate.locks.vs ≡ None → leaves_whole m.state whats.Vs ≡ true

not_held : (m : Configuration) (c : ℕ) → m.state.gate.locks.vs ≡ None → (caller_view m c).vs ≡ false
not_held m c e = ap (is_caller c) e

whole_act : (s : Setting) (m : Configuration) (c : ℕ) (act : Act) → may s m c act ≡ true → IsWhole m → IsWhole (after s m (entry c act))
whole_act s m c (acts.GiveLock whats.Vs) h w e = (and_parts ((caller_view m c).vs && is_inside (caller_view m c)) (leaves_whole m.state whats.Vs) h).1
whole_act s m c (acts.TakeLock whats.Vs) h w e = absurd (let no : ⊥ = cc in no)
whole_act s m c (acts.GiveLock whats.Gate) h w e = w e
whole_act s m c (acts.GiveLock whats.Lfh) h w e = w e
whole_act s m c (acts.GiveLock whats.Back) h w e = w e
whole_act s m c (acts.GiveLock whats.Large) h w e = w e
whole_act s m c (acts.TakeLock whats.Gate) h w e = w e
whole_act s m c (acts.TakeLock whats.Lfh) h w e = w e
whole_act s m c (acts.TakeLock whats.Back) h w e = w e
whole_act s m c (acts.TakeLock whats.Large) h w e = w e
whole_act s m c act h w e =
    let free = sym (ap (λ (l : Rattle.heap_model.specs.State.Locks). l.vs) (lock_stays s m c act (λ what z. cc z) (λ what z. cc z))) ∙ e in
    whole_stays s m c (not_held m c free) act h ∙ w free

whole_through : (s : Setting) (m : Configuration) (es : List Entry) → may_all_follow s m es ≡ true → IsWhole m → IsWhole (configuration_after s m es)
whole_through s m [] h w = w
whole_through s m (e ∷ es) h w =
    let p = and_parts (may_follow s m e) (may_all_follow s (after s m e) es) h in
    whole_through s (after s m e) es p.1 (whole_act s m e.caller e.act (row_of s m e p.0) w)

-- .. in each legal history
pub free_is_whole : (s : Setting) (es : List Entry) → may_all_follow s first_configuration es ≡ true → IsWhole (configuration_of s es)
free_is_whole s es h = whole_through s first_configuration es h (λ _. refl)

-- Who takes the lock finds it so.
pub taken_whole : (n : ℕ) (v w : View) (es : List Entry) → Goes n v w es (entry n (acts.TakeLock whats.Vs) ∷ []) → (s : Setting) → IsSettingOf w.opening w.roll s → leaves_whole (configuration_of s w.seen).state whats.Vs ≡ true
taken_whole n v w es g s q =
    let take : List Entry = entry n (acts.TakeLock whats.Vs) ∷ [] in
    let xs : List Entry = (v.seen ++ g.between) ++ es in
    let is : w.seen ≡ xs ++ take = g.seen ∙ sym (append_assoc (v.seen ++ g.between) es take) in
    let all = (legal_parts s w.seen (g.legal s q)).0 in
    let p = follow_parts s first_configuration xs take (subst (λ (l : List Entry). may_all_follow s first_configuration l ≡ true) is all) in
    let m : Configuration = configuration_of s xs in
    let row : may s m n (acts.TakeLock whats.Vs) ≡ true = row_of s m (entry n (acts.TakeLock whats.Vs)) (and_parts (may_follow s m (entry n (acts.TakeLock whats.Vs))) true p.1).0 in
    let none : m.state.gate.locks.vs ≡ None = is_none_of m.state.gate.locks.vs (and_parts (is_none m.state.gate.locks.vs) (is_inside (caller_view m n)) row).0 in
    ap (λ (k : Configuration). leaves_whole k.state whats.Vs) (ap (configuration_of s) is ∙ after-append s first_configuration xs take) ∙ free_is_whole s xs p.0 none
  where
    is_none_of : (o : Option ℕ) → is_none o ≡ true → o ≡ None
    is_none_of None h = refl
    is_none_of (Some x) h = absurd (false≢true h)
