-- The end of a move of a block of the back end: its span goes with it.
use Rattle.std.proofs.Common.{◌≡◌, ℕ, ◌*◌, ◌/◌, ◌==◌, true, false, not, ◌&&◌, ◌||◌, List, [], ◌∷◌, ◌++◌, length, Option, Some, refl, sym, ap, ◌∙◌, subst, arith, eq-eqb, inr}
use Rattle.std.specs.Prelude.{IsSome, is_some}
use Rattle.std.specs.List.{find, list_any}
use Rattle.std.proofs.lemmas.Bool.{and_from, and_parts, or_left, eqb-true}
use Rattle.heap_model.specs.declared.Act.{Act}
use Rattle.heap_model.specs.declared.Act.TheVariants as acts
use Rattle.heap_model.specs.declared.Call.{Call}
use Rattle.heap_model.specs.declared.Kind.{Kind}
use Rattle.heap_model.specs.declared.Kind.TheVariants as kinds
use Rattle.heap_model.specs.declared.Layer.{Layer}
use Rattle.heap_model.specs.declared.Layer.TheVariants as layers
use Rattle.heap_model.specs.declared.Opening.{Opening}
use Rattle.heap_model.specs.declared.Run.{Run}
use Rattle.heap_model.specs.declared.What.TheVariants as whats
use Rattle.heap_model.specs.CallState.{Configuration, UnspanBy, caller_view}
use Rattle.heap_model.specs.Legal.{after, may_touch, may_unspan_of, is_unused, has_place, places_in, meets_demand, unspan_of, with_places}
use Rattle.heap_model.specs.Layers.{StandsForBack}
use Rattle.heap_model.specs.Ranges.{vs_spans, is_of_kind}
use Rattle.heap_model.specs.Search.{span_at, begins_at}
use Rattle.heap_model.specs.State.{Setting, State, BackPart, Span, Place, InHand, is_kind, has_address, hands, holds, is_entered, places_of, remove_found}
use Rattle.heap_model.specs.Stay.{for_some}
use Rattle.heap_model.proofs.ListLemmas.{filter-remove_found}
use Rattle.heap_soundness.proofs.Lists.{found_passes}
use Rattle.claim_rule.specs.Entries.{IsSettingOf, setting_of, entry, may_prepare}
use Rattle.claim_rule.specs.Shown.{lfh_spans}
use Rattle.claim_rule.proofs.Advance.{some_setting}
use Rattle.page_ranges.specs.Spans.{span_of}
use Rattle.backend_fit.specs.Effects.{without_span, part_without}
use Rattle.backend_fit.specs.Kept.{Kept, area_of, spans_of, is_block_at, Becomes}
use Rattle.backend_fit.specs.Kept as backs
use Rattle.backend_fit.specs.Laws.{FillsSpan}
use Rattle.backend_fit.specs.Sound.{IsSound}
use Rattle.backend_fit.proofs.Told.{place_at_address, fills}
use Rattle.heap_gate.specs.Calls.{HasRested, rested, with_prepared}
use Rattle.heap_gate.specs.Token.{Token, Always, now, IsStanding}
use Rattle.call_parts.specs.Entries.{HasAdded}
use Rattle.call_parts.proofs.Joining.{setting_before}
use Rattle.call_parts.proofs.Tokens.{now_more, prepares, added_one, added_rested, added_then}
use Rattle.move_parts.specs.Moves.{TellsBack}
use Rattle.move_parts.proofs.Backed.{IsRun, run_of}
use Rattle.move_to_front.specs.Halfway.{IsHalfwayOver, HasSwappedOver}
use Rattle.move_to_front.specs.Ends.{HasChangedOver, EndsBack}
use Rattle.move_to_front.proofs.Ended.{before}
use Rattle.move_to_front.proofs.Tells.{vs_later}

module _ (c e : Token) (call : Call) (addr size b n : ℕ) (p q : Place) (out : List ℕ) (h : IsHalfwayOver c call addr size p b n q out) (st : IsStanding c) (x : HasSwappedOver c e addr size p b n) (se : IsStanding e) (is_back : p.layer ≡ layers.Back) (back : Kept) (w : TellsBack c back)
    (sound : IsSound back) where
  there : Always c (λ s. find (has_address addr) (now s c).state.back.places ≡ Some p)
  there s z = subst (λ (l : Layer). find (has_address addr) (places_of (now s c).state l) ≡ Some p) is_back (h.old s z).there

  run_is : IsRun back addr p
  run_is =
      let s = setting_of c.opening c.roll in let z = some_setting c.opening c.roll in
      run_of back addr p (find (is_block_at addr) (spans_of back)) refl (sym (place_at_address c.opening (now s c).state back (w s z) sound addr) ∙ there s z)

  abbrev r : Run
  r = run_is.run

  starts : 4096 * r.first ≡ addr
  starts = eqb-true (4096 * r.first) addr (and_parts _ _ (found_passes (is_block_at addr) (spans_of back) r run_is.found)).1

  page : addr / 4096 ≡ r.first
  page = let k = starts in omega (arith, k)

  fills_now : Always c (λ s. FillsSpan (now s c).state addr r)
  fills_now s z = fills c.opening (now s c).state back (w s z) sound addr r run_is.found

  pub back_span : IsSome (span_at (area_of back) (addr / 4096))
  back_span =
      let s = setting_of c.opening c.roll in let z = some_setting c.opening c.roll in
      let k : span_at (area_of back) (addr / 4096) ≡ Some (span_of r) = (λ i. find (begins_at (addr / 4096)) ((ap (λ (y : BackPart). y.area.spans) (w s z).part) i)) ∙ (fills_now s z).span in
      subst IsSome (sym k) refl

  abbrev unspan : Act
  unspan = acts.Unspan (addr / 4096)

  held : Always c (λ s. holds (now s c).state.gate c.number whats.Back ≡ true)
  held s z = subst (λ (l : Layer). may_touch (caller_view (now s c) c.number) l ≡ true) is_back (h.old s z).touch

  at_c : (s : Setting) → IsSettingOf e.opening e.roll s → IsSettingOf c.opening c.roll s
  at_c s z = before c e call addr size b n p q out h st x s z

  -- what is left of the back end
  back_is : (s : Setting) → IsSettingOf e.opening e.roll s → (now s e).state.back ≡ (with_places (now s c).state (Some layers.Back) (remove_found (has_address addr))).back
  back_is s z = (x.gone s z).back (held s (at_c s z)) ∙ ap (λ (l : Layer). (with_places (now s c).state (Some l) (remove_found (has_address addr))).back) is_back

  demand_is : (s : Setting) → IsSettingOf e.opening e.roll s → (now s e).now.demand ≡ UnspanBy c.number (addr / 4096)
  demand_is s z =
      let at : p.start ≡ addr = ap (λ (y : Place). y.start) (sym run_is.is) ∙ starts in
      x.demand s z ∙ (ap (λ (l : Layer). unspan_of c.number (Some (record { start = p.start; granules = p.granules; layer = l; status = InHand c.number }))) is_back ∙ ap (λ (y : ℕ). UnspanBy c.number (y / 4096)) at)

  module _ (s : Setting) (z : IsSettingOf e.opening e.roll s) where
    abbrev k : Configuration
    k = now s e

    number : e.number ≡ c.number
    number = x.added.goes.number

    inside : is_entered k.state.gate c.number ≡ true
    inside = subst (λ (m : ℕ). is_entered k.state.gate m ≡ true) number ((se s z).entered ∙ (x.added.steady.inside ∙ h.inside))

    begun : is_some (k.now.calls c.number).call ≡ true
    begun = subst (λ (m : ℕ). is_some (k.now.calls m).call ≡ true) number (ap is_some ((se s z).call ∙ (x.added.steady.call ∙ h.call_is)))

    k_held : (caller_view k c.number).back ≡ true
    k_held = (x.gone s z).locks whats.Back ∙ held s (at_c s z)

    abbrev left : State
    left = with_places (now s c).state (Some layers.Back) (remove_found (has_address addr))

    kinds_row : (kd : Kind) → kd ≡ kinds.Back → has_place 4096 left.back.places (span_of r) ≡ false → (may_unspan_of (caller_view k c.number) kd && not (has_place 4096 (places_in k.state kd) (span_of r))) ≡ true
    kinds_row kd is none =
        ap (λ (y : Kind). may_unspan_of (caller_view k c.number) y && not (has_place 4096 (places_in k.state y) (span_of r))) is
        ∙ and_from (may_unspan_of (caller_view k c.number) kinds.Back) _ (or_left (caller_view k c.number).entered (caller_view k c.number).owns inside)
        ((λ i. not (has_place 4096 (back_is s z i).places (span_of r))) ∙ ap not none)

    unspan_row : (k.state.back.area.spans ≡ (now s c).state.back.area.spans) → may_prepare s k c.number unspan ≡ true
    unspan_row same =
        let f = fills_now s (at_c s z) in
        let found : span_at k.state.back.area (addr / 4096) ≡ Some (span_of r) = (λ i. find (begins_at (addr / 4096)) (same i)) ∙ f.span in
        prepares s k c.number unspan refl ((λ i. not (list_any (begins_at (addr / 4096)) (lfh_spans (back_is s z i).area))) ∙ ap not f.apart)
        (and_from (meets_demand k.state.back.area (entry c.number unspan) k.now.demand && (false || is_some (k.now.calls c.number).call)) _
        (and_from (meets_demand k.state.back.area (entry c.number unspan) k.now.demand) (false || is_some (k.now.calls c.number).call)
        (ap (meets_demand k.state.back.area (entry c.number unspan)) (demand_is s z) ∙ and_from (c.number == c.number) ((addr / 4096) == (addr / 4096)) (eq-eqb c.number c.number refl) (eq-eqb (addr / 4096) (addr / 4096) refl)) begun)
        (and_from (caller_view k c.number).back _ k_held (ap (λ (o : Option Span). for_some o (is_unused k.state (caller_view k c.number))) found ∙ kinds_row (span_of r).kind f.kind f.alone)))

    pub unspan_may : may_prepare s k e.number unspan ≡ true
    unspan_may = subst (λ (m : ℕ). may_prepare s k m unspan ≡ true) (sym number) (unspan_row (ap (λ (y : BackPart). y.area.spans) (back_is s z)))

  pub unspan_ok : Always e (λ s. may_prepare s (now s e) e.number (acts.Unspan (addr / 4096)) ≡ true)
  unspan_ok s z = unspan_may s z

  ---- Behind it

  abbrev d1 : Token
  d1 = with_prepared e unspan

  now_1 : (s : Setting) → now s d1 ≡ after s (now s e) (entry e.number unspan)
  now_1 s = now_more s e unspan

  pub unspan_rest : Always (with_prepared e (acts.Unspan (addr / 4096))) (λ s. HasRested (now s (with_prepared e (acts.Unspan (addr / 4096)))) (with_prepared e (acts.Unspan (addr / 4096))).number)
  unspan_rest s z = subst (λ (m : Configuration). HasRested m e.number) (sym (now_1 s)) (record {
    hands = subst (λ (m : ℕ). hands (now s e).state m ≡ []) (sym x.added.goes.number) (x.gone s z).hands;
    demand = refl;
  })

  module _ (d : Token) (is : d ≡ rested (with_prepared e (acts.Unspan (addr / 4096)))) (more : Kept) (becomes : Becomes back more (λ y. part_without y (addr / 4096))) where
    abbrev four : List Act
    four = acts.Take addr size ∷ acts.Give b n ∷ acts.Drop addr ∷ unspan ∷ []

    added : HasAdded c d four
    added = subst (λ (t : Token). HasAdded c t four) (sym is)
        (added_then c e (rested d1) (acts.Take addr size ∷ acts.Give b n ∷ acts.Drop addr ∷ []) (unspan ∷ []) x.added (added_then e d1 (rested d1) (unspan ∷ []) [] (added_one e unspan refl) (added_rested d1)))

    at_c' : (s : Setting) → IsSettingOf d.opening d.roll s → IsSettingOf c.opening c.roll s
    at_c' s z = setting_before c d four added.goes s z

    at_e : (s : Setting) → IsSettingOf d.opening d.roll s → IsSettingOf e.opening e.roll s
    at_e s z = subst (λ (t : Token). IsSettingOf t.opening t.roll s) is z

    now_d : (s : Setting) → (now s d).state ≡ record (now s e).state { back = record { area = record (now s e).state.back.area { spans = remove_found (begins_at (addr / 4096)) (now s e).state.back.area.spans }; places = (now s e).state.back.places } }
    now_d s = ap (λ (t : Token). (now s t).state) is ∙ ap (λ (m : Configuration). m.state) (now_1 s)

    back_d : (s : Setting) → IsSettingOf d.opening d.roll s → (now s d).state.back ≡ part_without (now s c).state.back (addr / 4096)
    back_d s z =
        let y = at_e s z in
        ap (λ (m : State). m.back) (now_d s)
        ∙ ((λ i. record { area = without_span (back_is s y i).area (addr / 4096); places = (back_is s y i).places })
        ∙ (λ i. record { area = without_span (now s c).state.back.area (addr / 4096); places = remove_found (has_address (sym at_page i)) (now s c).state.back.places }))
      where
        at_page : 4096 * (addr / 4096) ≡ addr
        at_page = let k = starts in omega (arith, k)

    spans_d : (s : Setting) → IsSettingOf d.opening d.roll s → vs_spans (now s d).state.back.area ≡ vs_spans (now s c).state.back.area
    spans_d s z =
        let y = at_c' s z in
        ap (λ (m : BackPart). vs_spans m.area) (back_d s z)
        ∙ filter-remove_found (is_of_kind kinds.Vs) (begins_at (addr / 4096)) (now s c).state.back.area.spans (λ u f.
        let found : Some u ≡ Some (span_of r) = sym f ∙ (fills_now s y).span in let same : u ≡ span_of r = cc (found) in
        ap (is_of_kind kinds.Vs) same ∙ ap (λ (kd : Kind). is_kind kd kinds.Vs) (fills_now s y).kind)

    changed : HasChangedOver c d addr size b n
    changed =
        let few = ap (λ (t : Token). length t.prepared) is in let all = ap (λ (l : List Rattle.heap_model.specs.declared.Entry.Entry). length (l ++ entry e.number unspan ∷ [])) x.prepared in
        record {
          last = unspan ∷ [];
          last_is = inr (addr / 4096, refl);
          added = added;
          out_is = ap (λ (t : Token). t.out) is ∙ x.out_is;
          whole = ap (λ (t : Token). t.whole) is;
          free = ap (λ (t : Token). t.free) is;
          pending = ap (λ (t : Token). t.pending) is ∙ x.pending;
          few = omega (arith, few, all);
        }

    pub ends_back : EndsBack c d addr size b n more
    ends_back = record {
      changed = changed;
      back = λ s z. subst (λ (o : Opening). StandsForBack o (now s d).state (backs.layer_of more)) (sym added.goes.opening) (becomes c.opening (now s c).state (now s d).state (w s (at_c' s z)) (back_d s z));
      vs = λ o vs v. vs_later c d added.goes.opening at_c' vs (λ s z.
          let y = at_c' s z in
          let vs_held : holds (now s c).state.gate c.number whats.Vs ≡ true = (st s y).locks whats.Vs ∙ o in (
            ap (λ (m : State). m.vs) (now_d s) ∙ ((x.gone s (at_e s z)).vs vs_held ∙ ap (λ (l : Layer). (with_places (now s c).state (Some l) (remove_found (has_address addr))).vs) is_back),
            spans_d s z,
          )) v;
    }
