-- A block of the back end is taken and dropped, with its span, by the holder of the locks of VS and of the back end.
use Rattle.std.proofs.Common.{◌≡◌, ◌<◌, arith, inl, inr, ℕ, ◌*◌, ◌/◌, ◌==◌, Bool, true, false, not, ◌&&◌, List, [], ◌∷◌, ◌++◌, Option, Some, None, refl, sym, ap, ◌∙◌, subst, eq-eqb}
use Rattle.std.specs.Prelude.{is_some}
use Rattle.std.specs.List.{find, list_any}
use Rattle.std.proofs.lemmas.Bool.{cases_Bool, and_from, and_parts, or_left, eqb-true}
use Rattle.heap_model.specs.declared.Act.{Act}
use Rattle.heap_model.specs.declared.Act.TheVariants as acts
use Rattle.heap_model.specs.declared.Call.{Call}
use Rattle.heap_model.specs.declared.Kind.{Kind}
use Rattle.heap_model.specs.declared.Kind.TheVariants as kinds
use Rattle.heap_model.specs.declared.Layer.TheVariants as layers
use Rattle.heap_model.specs.Geometry.{page_bytes}
use Rattle.heap_model.specs.Search.{span_at, begins_at}
use Rattle.claim_rule.specs.Shown.{lfh_spans}
use Rattle.serial_laws.specs.BackCalls.{area_without}
use Rattle.heap_model.specs.declared.Opening.{Opening}
use Rattle.heap_model.specs.declared.What.TheVariants as whats
use Rattle.heap_model.specs.State.{Setting, State, Span, Place, Live, InHand, hands, in_hand, hand_at, holds, is_entered, has_address, is_live_at, is_hand_at, exclusive_places, change_found, remove_found}
use Rattle.heap_model.specs.Stay.{for_some}
use Rattle.heap_model.specs.CallState.{Configuration, CallState, Nothing, caller_view}
use Rattle.heap_model.specs.Legal.{after, call_after, may_touch, with_places, with_status, layer_of, unspan_of, may_unspan_of, is_unused, has_place, places_in, leaves_whole}
use Rattle.heap_model.specs.History.{configuration_after}
use Rattle.claim_rule.specs.Entries.{entry, is_of_lfh, may_prepare, are_prepared}
use Rattle.serial_laws.proofs.Allocate.{empty_parts}
use Rattle.call_laws.specs.Within.{by_all}
use Rattle.call_laws.proofs.Within.{updated_here}
use Rattle.heap_gate.specs.Token.{Token, Always, now, IsStanding, is_out}
use Rattle.heap_gate.specs.Calls.{HasRested}
use Rattle.call_parts.specs.Entries.{with_all}
use Rattle.call_parts.proofs.Tokens.{now_all, prepares, one_prepared}
use Rattle.paged_calls.proofs.Taken.{take, drop, taken, live_one, in_hand_after, dropped, none_left}
use Rattle.paged_calls.proofs.Found.{there, may_take}
use Rattle.std.specs.Prelude.{option_map}
use Rattle.std.specs.List.{list_all}
use Rattle.heap_model.specs.declared.Run.{Run}
use Rattle.heap_model.specs.State.{BackPart, guarded, is_kind}
use Rattle.heap_model.specs.declared.Entry.{Entry}
use Rattle.claim_rule.specs.Entries.{IsSettingOf, setting_of}
use Rattle.claim_rule.specs.Places.{vs_slot, back_slot}
use Rattle.claim_rule.proofs.Advance.{some_setting}
use Rattle.claim_rule.proofs.Lists.{setting_less}
use Rattle.heap_gate.specs.Calls.{Runs, HasGiven}
use Rattle.call_parts.specs.Entries.{HasEnded}
use Rattle.call_parts.proofs.Tokens.{ended_given, ended_then}
use Rattle.heap_model.specs.Backend.{in_span}
use Rattle.heap_model.specs.Ranges.{vs_spans, is_of_kind}
use Rattle.heap_model.specs.Layers.{StandsForVs, StandsForBack, sorted_vs}
use Rattle.heap_model.proofs.ListLemmas.{filter-remove_found}
use Rattle.heap_soundness.proofs.Lists.{found_passes}
use Rattle.look_steps.specs.Denials.{MayDeny}
use Rattle.serial_laws.proofs.Found.{find_front}
use Rattle.page_ranges.specs.Spans.{span_of}
use Rattle.vs_layer.specs.Kept.{VsKept, block_at}
use Rattle.vs_layer.specs.Standing as vss
use Rattle.vs_layer.proofs.Told.{block_is}
use Rattle.backend_fit.specs.Effects.{place_of, without_span, part_without}
use Rattle.backend_fit.specs.Kept.{Kept, spans_of, is_block_at, Becomes}
use Rattle.backend_fit.specs.Kept as backs
use Rattle.backend_fit.specs.Laws.{FillsSpan}
use Rattle.backend_fit.specs.Sound.{IsSound}
use Rattle.backend_fit.proofs.Told.{spans_used, place_at_address, fills}
use Rattle.call_parts.specs.Calls.{HoldsBoth}
use Rattle.paged_calls.specs.Blocks.{block_size}
use Rattle.paged_calls.proofs.Found.{none_live, may_size}

-- what is left then
pub record IsDropped (m k : Configuration) (c a : ℕ) : Type 0 where
  pub area : k.state.back.area ≡ area_without m.state.back.area a
  pub places : k.state.back.places ≡ remove_found (has_address a) m.state.back.places
  pub vs : k.state.vs ≡ m.state.vs
  pub hands : hands k.state c ≡ []
  pub demand : k.now.demand ≡ Nothing

module _ (s : Setting) (m : Configuration) (c a granules size : ℕ) (found : find (has_address a) m.state.back.places ≡ Some (live_one c a a granules size layers.Back))
    (first : find (has_address a) (exclusive_places m.state c) ≡ Some (live_one c a a granules size layers.Back)) (none : hands m.state c ≡ []) (ent : is_entered m.state.gate c ≡ true) (beg : is_some (m.now.calls c).call ≡ true) (dem : m.now.demand ≡ Nothing)
    (held : holds m.state.gate c whats.Back ≡ true)
    (x : Span) (spanned : span_at m.state.back.area (a / 4096) ≡ Some x) (kind : x.kind ≡ kinds.Back) (alone : has_place page_bytes (remove_found (has_address a) m.state.back.places) x ≡ false) (apart : list_any (begins_at (a / 4096)) (lfh_spans m.state.back.area) ≡ false) where
  abbrev p : Place
  p = live_one c a a granules size layers.Back

  abbrev m1 : Configuration
  m1 = after s m (entry c (acts.Take a size))

  abbrev k1 : Configuration
  k1 = record { state = with_places m.state (Some layers.Back) (change_found (is_live_at a) (with_status (InHand c))); now = m1.now }

  is1 : m1 ≡ k1
  is1 = ap (λ (o : Option Place). record { state = with_places m.state (layer_of o) (change_found (is_live_at a) (with_status (InHand c))); now = m1.now }) (there s m c a size p first refl held refl ent beg dem)

  one : (in_hand c m.state.lfh ++ in_hand c m.state.vs.places ++ in_hand c m.state.back.places ≡ []) × (in_hand c m.state.large ≡ [])
  one = empty_parts (in_hand c m.state.lfh ++ in_hand c m.state.vs.places ++ in_hand c m.state.back.places) (in_hand c m.state.large) none

  two : (in_hand c m.state.lfh ++ in_hand c m.state.vs.places ≡ []) × (in_hand c m.state.back.places ≡ [])
  two = empty_parts (in_hand c m.state.lfh ++ in_hand c m.state.vs.places) (in_hand c m.state.back.places) one.0

  three : (in_hand c m.state.lfh ≡ []) × (in_hand c m.state.vs.places ≡ [])
  three = empty_parts (in_hand c m.state.lfh) (in_hand c m.state.vs.places) two.0

  hand : hand_at k1.state c a ≡ Some (taken c a a granules size layers.Back)
  hand =
      let e = eq-eqb a a refl in
      let k = in_hand_after c a a granules size layers.Back m.state.back.places e two.1 found in
      let all : hands k1.state c ≡ taken c a a granules size layers.Back ∷ [] = (λ j. three.0 j ++ three.1 j ++ k j ++ one.1 j) in
      ap (find (has_address a)) all ∙ rw e refl

  drop_ok : may_prepare s m1 c (acts.Drop a) ≡ true
  drop_ok = subst (λ (k : Configuration). may_prepare s k c (acts.Drop a) ≡ true) (sym is1)
      (prepares s k1 c (acts.Drop a) refl (ap (λ (o : Option Place). not (is_of_lfh o)) hand)
      (and_from true (is_some (k1.now.calls c).call && _) refl
      (and_from (is_some (k1.now.calls c).call) _ (ap (λ (x : CallState). is_some x.call) (updated_here m.now.calls c (call_after s c (m.now.calls c) (acts.Take a size))) ∙ beg)
      (and_from (is_entered m.state.gate c) _ ent (ap (λ (o : Option Place). for_some o (λ q. may_touch (caller_view k1 c) q.layer)) hand ∙ held)))))

  gone : drop c a (take c a m.state.back.places) ≡ remove_found (has_address a) m.state.back.places
  gone = let e = eq-eqb a a refl in dropped c a a granules size layers.Back (has_address a) m.state.back.places e e (λ (q : Place) z. z) two.1 found

  abbrev k2 : Configuration
  k2 = record {
    state = with_places k1.state (Some layers.Back) (remove_found (is_hand_at c a));
    now = record { calls = (after s k1 (entry c (acts.Drop a))).now.calls; disturbed = (after s k1 (entry c (acts.Drop a))).now.disturbed; span_history = (after s k1 (entry c (acts.Drop a))).now.span_history; demand = unspan_of c (Some (taken c a a granules size layers.Back)) };
  }

  is2 : after s m1 (entry c (acts.Drop a)) ≡ k2
  is2 = ap (λ (k : Configuration). after s k (entry c (acts.Drop a))) is1
      ∙ ap (λ (o : Option Place). record { state = with_places k1.state (layer_of o) (remove_found (is_hand_at c a)); now = record { calls = (after s k1 (entry c (acts.Drop a))).now.calls; disturbed = (after s k1 (entry c (acts.Drop a))).now.disturbed; span_history = (after s k1 (entry c (acts.Drop a))).now.span_history; demand = unspan_of c o } }) hand

  abbrev unspan : Act
  unspan = acts.Unspan (a / 4096)

  begun2 : is_some (k2.now.calls c).call ≡ true
  begun2 = ap (λ (x : CallState). is_some x.call) (updated_here k1.now.calls c (call_after s c (k1.now.calls c) (acts.Drop a))) ∙ (ap (λ (x : CallState). is_some x.call) (updated_here m.now.calls c (call_after s c (m.now.calls c) (acts.Take a size))) ∙ beg)

  unused_row : (may_unspan_of (caller_view k2 c) x.kind && not (has_place page_bytes (places_in k2.state x.kind) x)) ≡ true
  unused_row = ap (λ (kd : Kind). may_unspan_of (caller_view k2 c) kd && not (has_place page_bytes (places_in k2.state kd) x)) kind
      ∙ and_from (may_unspan_of (caller_view k2 c) kinds.Back) _ (or_left (caller_view m c).entered (caller_view m c).owns ent) (ap not (ap (λ (ps : List Place). has_place page_bytes ps x) gone ∙ alone))

  unspan_ok : may_prepare s (after s m1 (entry c (acts.Drop a))) c unspan ≡ true
  unspan_ok = subst (λ (k : Configuration). may_prepare s k c unspan ≡ true) (sym is2)
      (prepares s k2 c unspan refl (ap not apart)
      (and_from (((c == c) && (a / 4096 == a / 4096)) && is_some (k2.now.calls c).call) _
      (and_from ((c == c) && (a / 4096 == a / 4096)) (is_some (k2.now.calls c).call) (and_from (c == c) (a / 4096 == a / 4096) (eq-eqb c c refl) (eq-eqb (a / 4096) (a / 4096) refl)) begun2)
      (and_from (caller_view m c).back _ held (ap (λ (o : Option Span). for_some o (is_unused k2.state (caller_view k2 c))) spanned ∙ unused_row))))

  pub all_prepared : are_prepared s m c (by_all c (acts.Take a size ∷ acts.Drop a ∷ unspan ∷ [])) ≡ true
  all_prepared = one_prepared s m c (acts.Take a size) (by_all c (acts.Drop a ∷ unspan ∷ [])) (may_take s m c a size p first refl held refl ent beg dem)
      (one_prepared s m1 c (acts.Drop a) (by_all c (unspan ∷ [])) drop_ok (one_prepared s (after s m1 (entry c (acts.Drop a))) c unspan [] unspan_ok refl))

  pub all_dropped : IsDropped m (after s (after s m1 (entry c (acts.Drop a))) (entry c unspan)) c a
  all_dropped = subst (λ (k : Configuration). IsDropped m (after s k (entry c unspan)) c a) (sym is2) (record {
    area = refl;
    places = gone;
    vs = refl;
    hands = let k : in_hand c (drop c a (take c a m.state.back.places)) ≡ [] = ap (in_hand c) gone ∙ none_left c (has_address a) m.state.back.places two.1 in (λ j. three.0 j ++ three.1 j ++ k j ++ one.1 j);
    demand = refl;
  })

---- What is found

find_behind : (t : Place → Bool) (xs ys : List Place) → find t xs ≡ None → find t (xs ++ ys) ≡ find t ys
find_behind t [] ys e = refl
find_behind t (x ∷ xs) ys e = elim (cases_Bool (t x)) [
  | inl h ↦ let bad : Some x ≡ None = rw h at e in absurd (let no : ⊥ = cc in no)
  | inr h ↦ rw h (find_behind t xs ys (rw h at e))
]

-- VS stands where its part and its spans do
pub vs_stands : (o : Opening) (m k : State) (vs : VsKept) → StandsForVs o m (vss.layer_of vs) → k.vs ≡ m.vs → vs_spans k.back.area ≡ vs_spans m.back.area → StandsForVs o k (vss.layer_of vs)
vs_stands o m k vs t e f = record { lock = t.lock; limits = t.limits; key = t.key; part = t.part ∙ ap sorted_vs (sym e); spans = t.spans ∙ sym f }

pub vs_used : (m k : State) → k.vs ≡ m.vs → vs_spans k.back.area ≡ vs_spans m.back.area → leaves_whole m whats.Vs ≡ true → leaves_whole k whats.Vs ≡ true
vs_used m k e f h = (λ j. list_all (has_place page_bytes ((e j).places)) (f j)) ∙ h

module _ (k : Token) (call : Call) (vs : VsKept) (back : Kept) (h : HoldsBoth k call vs back) (st : IsStanding k) (sound : IsSound back) (addr : ℕ) (not_vs : block_at vs addr ≡ None) where
  pub back_held : Always k (λ s. holds (now s k).state.gate k.number whats.Back ≡ true)
  back_held s q = (st s q).locks whats.Back ∙ ap (is_out whats.Back) h.serving.out_is

  pub vs_held : Always k (λ s. holds (now s k).state.gate k.number whats.Vs ≡ true)
  vs_held s q = (st s q).locks whats.Vs ∙ ap (is_out whats.Vs) h.serving.out_is

  pub vs_none : Always k (λ s. find (has_address addr) (now s k).state.vs.places ≡ None)
  vs_none s q = sym (block_is k.opening (now s k).state vs (h.tells_vs s q) addr) ∙ not_vs

  exclusive_is : Always k (λ s. exclusive_places (now s k).state k.number ≡ ((now s k).state.vs.places ++ (now s k).state.back.places) ++ [])
  exclusive_is s q =
      let a = st s q in let m = now s k in let l = a.locks whats.Large ∙ ap (is_out whats.Large) h.serving.out_is in
      (λ j. a.hands h.serving.free j ++ guarded m.state.vs.places (vs_held s q j) ++ guarded m.state.back.places (back_held s q j) ++ guarded m.state.large (l j))

  begun_now : Always k (λ s. is_some ((now s k).now.calls k.number).call ≡ true)
  begun_now s q = ap is_some ((st s q).call ∙ h.serving.call_is)

  ---- None

  pub back_none : find (is_block_at addr) (spans_of back) ≡ None → addr / 4096 < 256 * k.opening.limits.segments → Always k (λ s. list_any (in_span (addr / 4096)) (lfh_spans (now s k).state.back.area) ≡ false) → Always k (λ s. MayDeny k.opening.limits (now s k) k.number addr)
  back_none none below front s q =
      let a = st s q in
      record {
        begun = begun_now s q;
        inside = a.entered ∙ h.serving.inside;
        lfh = inr (inl (back_held s q, front s q));
        vs = inr (inr (inl (vs_held s q, none_live addr (now s k).state.vs.places (vs_none s q))));
        back = inr (inl (back_held s q, none_live addr (now s k).state.back.places (place_at_address k.opening (now s k).state back (h.tells_back s q) sound addr ∙ ap (option_map place_of) none)));
        large = inl (inr (inl below));
      }

  pub back_tells : Always k (λ s. (leaves_whole (now s k).state whats.Back ≡ true) × StandsForBack k.opening (now s k).state (backs.layer_of back))
  back_tells s q = (spans_used k.opening (now s k).state back (h.tells_back s q), h.tells_back s q)

  ---- A block

  module _ (r : Run) (f : find (is_block_at addr) (spans_of back) ≡ Some r) where
    at : 4096 * r.first ≡ addr
    at = eqb-true (4096 * r.first) addr (and_parts _ _ (found_passes (is_block_at addr) (spans_of back) r f)).1

    abbrev the_one : Place
    the_one = live_one k.number addr addr (256 * r.pages) (block_size r) layers.Back

    is_one : place_of r ≡ the_one
    is_one = λ i. record { start = at i; granules = 256 * r.pages; layer = layers.Back; status = Live (block_size r) }

    found_now : Always k (λ s. find (has_address addr) (now s k).state.back.places ≡ Some the_one)
    found_now s q = place_at_address k.opening (now s k).state back (h.tells_back s q) sound addr ∙ (ap (option_map place_of) f ∙ ap Some is_one)

    exclusive_now : Always k (λ s. find (has_address addr) (exclusive_places (now s k).state k.number) ≡ Some the_one)
    exclusive_now s q =
        let m = now s k in
        ap (find (has_address addr)) (exclusive_is s q)
        ∙ find_front (has_address addr) (m.state.vs.places ++ m.state.back.places) [] the_one (find_behind (has_address addr) m.state.vs.places m.state.back.places (vs_none s q) ∙ found_now s q)

    pub back_sized_may : Always k (λ s. may_prepare s (now s k) k.number (acts.Sized addr (block_size r)) ≡ true)
    back_sized_may s q = let a = st s q in may_size s (now s k) k.number addr (block_size r) the_one (exclusive_now s q) refl (back_held s q) refl (a.entered ∙ h.serving.inside) (begun_now s q) (a.demand h.serving.whole)

    abbrev list : List Act
    list = acts.Take addr (block_size r) ∷ acts.Drop addr ∷ acts.Unspan (addr / 4096) ∷ []

    pub fills_now : Always k (λ s. FillsSpan (now s k).state addr r)
    fills_now s q = fills k.opening (now s k).state back (h.tells_back s q) sound addr r f

    pub back_drop_may : Always k (λ s. are_prepared s (now s k) k.number (by_all k.number list) ≡ true)
    back_drop_may s q =
        let a = st s q in let x = fills_now s q in
        all_prepared s (now s k) k.number addr (256 * r.pages) (block_size r) (found_now s q) (exclusive_now s q) (a.hands h.serving.free) (a.entered ∙ h.serving.inside) (begun_now s q) (a.demand h.serving.whole) (back_held s q) (span_of r) x.span x.kind x.alone x.apart

    abbrev pub back_dropped : Token
    back_dropped = with_all k list

    dropped_now : Always k (λ s. IsDropped (now s k) (now s back_dropped) k.number addr)
    dropped_now s q =
        let a = st s q in let x = fills_now s q in
        subst (λ (m : Configuration). IsDropped (now s k) m k.number addr) (sym (now_all s k list))
        (all_dropped s (now s k) k.number addr (256 * r.pages) (block_size r) (found_now s q) (exclusive_now s q) (a.hands h.serving.free) (a.entered ∙ h.serving.inside) (begun_now s q) (a.demand h.serving.whole) (back_held s q) (span_of r) x.span x.kind x.alone x.apart)

    pub back_drop_rests : Always back_dropped (λ s. HasRested (now s back_dropped) back_dropped.number)
    back_drop_rests s q = let x = dropped_now s q in record { hands = x.hands; demand = x.demand }

    page : addr / 4096 ≡ r.first
    page = let e = at in omega (arith, e)

    pub first_page : addr / 4096 ≡ r.first
    first_page = page

    pub back_drop_tells : (new : Kept) → Becomes back new (λ b. part_without b r.first) → Always back_dropped (λ s. StandsForBack k.opening (now s back_dropped).state (backs.layer_of new))
    back_drop_tells new becomes s q =
        let x = dropped_now s q in let m = now s k in
        let area : (now s back_dropped).state.back.area ≡ without_span m.state.back.area r.first = x.area ∙ ap (without_span m.state.back.area) page in
        let places : (now s back_dropped).state.back.places ≡ remove_found (has_address (4096 * r.first)) m.state.back.places = x.places ∙ ap (λ (y : ℕ). remove_found (has_address y) m.state.back.places) (sym at) in
        becomes k.opening m.state (now s back_dropped).state (h.tells_back s q) (λ i. record { area = area i; places = places i })

    same_spans : Always k (λ s. vs_spans (now s back_dropped).state.back.area ≡ vs_spans (now s k).state.back.area)
    same_spans s q =
        let x = dropped_now s q in let y = fills_now s q in let m = now s k in
        ap vs_spans x.area ∙ filter-remove_found (is_of_kind kinds.Vs) (begins_at (addr / 4096)) m.state.back.area.spans (λ z e.
        let same : Some z ≡ Some (span_of r) = sym e ∙ y.span in let is : z ≡ span_of r = cc in
        ap (is_of_kind kinds.Vs) is ∙ ap (λ (kd : Kind). is_kind kd kinds.Vs) y.kind)

    pub back_drop_vs : Always back_dropped (λ s. StandsForVs k.opening (now s back_dropped).state (vss.layer_of vs))
    back_drop_vs s q = vs_stands k.opening (now s k).state (now s back_dropped).state vs (h.tells_vs s q) (dropped_now s q).vs (same_spans s q)

    pub back_drop_used : Always k (λ s. leaves_whole (now s k).state whats.Vs ≡ true) → Always back_dropped (λ s. leaves_whole (now s back_dropped).state whats.Vs ≡ true)
    back_drop_used u s q = vs_used (now s k).state (now s back_dropped).state (dropped_now s q).vs (same_spans s q) (u s q)

    pub back_span : span_at (backs.area_of back) r.first ≡ Some (span_of r)
    back_span =
        let s = setting_of k.opening k.roll in let q = some_setting k.opening k.roll in
        (λ i. find (begins_at (sym page i)) ((ap (λ (b : BackPart). b.area.spans) (h.tells_back s q).part) i)) ∙ (fills_now s q).span

---- Behind the step that gives the lock of the back end back

pub given_vs : (a b : Token) (es : List Entry) (vs : VsKept) → Runs a b es
    → ((s : Setting) → ((configuration_after s (now s a) es).state.vs ≡ (now s a).state.vs) × ((configuration_after s (now s a) es).state.back.area ≡ (now s a).state.back.area) × (holds (configuration_after s (now s a) es).state.gate a.number whats.Vs ≡ holds (now s a).state.gate a.number whats.Vs))
    → Always a (λ s. holds (now s a).state.gate a.number whats.Vs ≡ true) → Always a (λ s. leaves_whole (now s a).state whats.Vs ≡ true) → Always a (λ s. StandsForVs a.opening (now s a).state (vss.layer_of vs))
    → Always b (λ s. (leaves_whole (now s b).state whats.Vs ≡ true) × StandsForVs b.opening (now s b).state (vss.layer_of vs))
given_vs a b es vs r same held used tells s q =
    let qa = setting_less a.opening a.roll b.roll s r.does.roll (subst (λ (o : Opening). IsSettingOf o b.roll s) r.does.opening q) in
    let x = r.agrees s q in let y = same s in let hold = y.2 ∙ held s qa in
    let e = x.vs hold ∙ y.0 in let f = x.spans hold ∙ ap vs_spans y.1 in
    let t = vs_stands a.opening (now s a).state (now s b).state vs (tells s qa) e f in
    (vs_used (now s a).state (now s b).state e f (used s qa), subst (λ (o : Opening). StandsForVs o (now s b).state (vss.layer_of vs)) (sym r.does.opening) t)

-- both locks are given back
pub both_given : (a b c : Token) (first : List Act) → HasGiven a b whats.Back (by_all a.number first) → HasGiven b c whats.Vs (entry b.number (acts.GiveLock whats.Vs) ∷ []) → a.out ≡ back_slot ∷ vs_slot ∷ [] → a.free ≡ true
    → HasEnded a c (first ++ acts.GiveLock whats.Vs ∷ []) []
both_given a b c first x y out free =
    let one = ended_given a b whats.Back (vs_slot ∷ []) first x out free in
    ended_then a b c first (acts.GiveLock whats.Vs ∷ []) [] one.added (ended_given b c whats.Vs [] (acts.GiveLock whats.Vs ∷ []) y one.out_is one.free)
