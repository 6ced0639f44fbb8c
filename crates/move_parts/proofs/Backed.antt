-- The end of a move of a block of the back end: its span goes with it.
use Rattle.std.proofs.Common.{◌≡◌, ℕ, ◌*◌, ◌/◌, ◌==◌, true, false, not, ◌&&◌, ◌||◌, List, [], ◌∷◌, length, Option, Some, None, refl, sym, ap, ◌∙◌, subst, arith, eq-eqb, inr}
use Rattle.std.specs.Prelude.{IsSome, is_some, option_map}
use Rattle.std.specs.List.{find, list_any}
use Rattle.std.proofs.lemmas.Bool.{and_from, and_parts, or_left, eqb-true}
use Rattle.heap_model.specs.declared.Act.{Act}
use Rattle.heap_model.specs.declared.Act.TheVariants as acts
use Rattle.heap_model.specs.declared.Call.{Call}
use Rattle.heap_model.specs.declared.Kind.{Kind}
use Rattle.heap_model.specs.declared.Kind.TheVariants as kinds
use Rattle.heap_model.specs.declared.Layer.{Layer}
use Rattle.heap_model.specs.declared.Layer.TheVariants as layers
use Rattle.heap_model.specs.declared.Opening.{Opening}
use Rattle.heap_model.specs.declared.Run.{Run}
use Rattle.heap_model.specs.CallState.{Configuration, caller_view}
use Rattle.heap_model.specs.Legal.{after, may_unspan_of, is_unused, has_place, places_in, meets_demand, unspan_of, with_places}
use Rattle.heap_model.specs.Layers.{StandsForVs, StandsForBack}
use Rattle.heap_model.specs.Ranges.{vs_spans, is_of_kind}
use Rattle.heap_model.specs.Search.{span_at, begins_at}
use Rattle.heap_model.specs.State.{Setting, State, BackPart, Span, Place, InHand, is_kind, has_address, places_of, remove_found}
use Rattle.heap_model.specs.Stay.{for_some}
use Rattle.heap_model.proofs.ListLemmas.{filter-remove_found}
use Rattle.heap_soundness.proofs.Lists.{found_passes}
use Rattle.claim_rule.specs.Entries.{IsSettingOf, setting_of, entry, may_prepare, are_prepared}
use Rattle.claim_rule.proofs.Advance.{some_setting}
use Rattle.call_laws.specs.Within.{by_all}
use Rattle.page_ranges.specs.Spans.{span_of}
use Rattle.backend_fit.specs.Effects.{place_of, without_span, part_without}
use Rattle.backend_fit.specs.Kept.{Kept, area_of, spans_of, is_block_at, Becomes}
use Rattle.backend_fit.specs.Kept as backs
use Rattle.backend_fit.specs.Laws.{FillsSpan}
use Rattle.backend_fit.specs.Sound.{IsSound}
use Rattle.backend_fit.proofs.Told.{place_at_address, fills}
use Rattle.vs_layer.specs.Standing as vss
use Rattle.heap_gate.specs.Calls.{HasRested, rested}
use Rattle.heap_gate.specs.Token.{Token, Always, now, IsStanding}
use Rattle.call_parts.specs.Entries.{HasAdded, with_all}
use Rattle.call_parts.proofs.Joining.{setting_before}
use Rattle.call_parts.proofs.Tokens.{now_all, prepares, one_prepared, added_all, added_rested, added_then, length_all}
use Rattle.move_parts.specs.Moves.{IsHalfway, with_given, WillTellBack}
use Rattle.move_parts.specs.Places.{HasChanged, EndsBack}
use Rattle.move_parts.proofs.Ended.{vs_stands, vs_used, large_stands}
use Rattle.move_parts.proofs.Halfway.{given_held_now, gone_then, then_may, then_is, then_state, then_hands, then_demand, then_begun}

-- the run of the block
pub record IsRun (back : Kept) (addr : ℕ) (p : Place) : Type 0 where
  pub run : Run
  pub found : find (is_block_at addr) (spans_of back) ≡ Some run
  pub is : place_of run ≡ p

pub run_of : (back : Kept) (addr : ℕ) (p : Place) (o : Option Run) → find (is_block_at addr) (spans_of back) ≡ o → option_map place_of o ≡ Some p → IsRun back addr p
run_of back addr p (Some r) f e = record { run = r; found = f; is = (let same : place_of r ≡ p = cc in same) }
run_of back addr p None f e = absurd (let no : ⊥ = cc in no)

module _ (c : Token) (call : Call) (addr size b n : ℕ) (p q : Place) (out : List ℕ) (h : IsHalfway c call addr size p b n q out) (st : IsStanding c) (is_back : p.layer ≡ layers.Back) (back : Kept) (w : WillTellBack c q n back) (sound : IsSound back) where
  abbrev g : Setting → State
  g s = with_given (now s c).state c.number q n

  there : Always c (λ s. find (has_address addr) (g s).back.places ≡ Some p)
  there s x = subst (λ (l : Layer). find (has_address addr) (places_of (g s) l) ≡ Some p) is_back (given_held_now c call addr size b n p q out h st s x)

  pub run_is : IsRun back addr p
  run_is =
      let s = setting_of c.opening c.roll in let x = some_setting c.opening c.roll in
      run_of back addr p (find (is_block_at addr) (spans_of back)) refl (sym (place_at_address c.opening (g s) back (w s x) sound addr) ∙ there s x)

  abbrev r : Run
  r = run_is.run

  starts : 4096 * r.first ≡ addr
  starts = eqb-true (4096 * r.first) addr (and_parts _ _ (found_passes (is_block_at addr) (spans_of back) r run_is.found)).1

  page : addr / 4096 ≡ r.first
  page = let e = starts in omega (arith, e)

  fills_now : Always c (λ s. FillsSpan (g s) addr r)
  fills_now s x = fills c.opening (g s) back (w s x) sound addr r run_is.found

  pub back_span : IsSome (span_at (area_of back) (addr / 4096))
  back_span =
      let s = setting_of c.opening c.roll in let x = some_setting c.opening c.roll in
      let e : span_at (area_of back) (addr / 4096) ≡ Some (span_of r) = (λ i. find (begins_at (addr / 4096)) ((ap (λ (y : BackPart). y.area.spans) (w s x).part) i)) ∙ (fills_now s x).span in
      subst IsSome (sym e) refl

  abbrev unspan : Act
  unspan = acts.Unspan (addr / 4096)

  abbrev pub four : List Act
  four = acts.Take addr size ∷ acts.Give b n ∷ acts.Drop addr ∷ unspan ∷ []

  module _ (s : Setting) (x : IsSettingOf c.opening c.roll s) where
    abbrev k : Configuration
    k = gone_then c call addr size b n p q out h st s x

    -- what is left of the back end
    abbrev left : State
    left = with_places (g s) (Some layers.Back) (remove_found (has_address addr))

    k_state : k.state ≡ left
    k_state = then_state c call addr size b n p q out h st s x ∙ ap (λ (l : Layer). with_places (g s) (Some l) (remove_found (has_address addr))) is_back

    k_demand : k.now.demand ≡ Rattle.heap_model.specs.CallState.UnspanBy c.number (addr / 4096)
    k_demand =
        let e : p.start ≡ addr = ap (λ (y : Place). y.start) (sym run_is.is) ∙ starts in
        then_demand c call addr size b n p q out h st s x
        ∙ (ap (λ (l : Layer). unspan_of c.number (Some (record { start = p.start; granules = p.granules; layer = l; status = InHand c.number }))) is_back ∙ ap (λ (y : ℕ). Rattle.heap_model.specs.CallState.UnspanBy c.number (y / 4096)) e)

    inside : (caller_view k c.number).entered ≡ true
    inside = (st s x).entered ∙ h.new.inside

    held : (caller_view k c.number).back ≡ true
    held = touch p.layer is_back (h.old s x).touch
      where
        touch : (l : Layer) → l ≡ layers.Back → Rattle.heap_model.specs.Legal.may_touch (caller_view (now s c) c.number) l ≡ true → (caller_view (now s c) c.number).back ≡ true
        touch l e t = subst (λ (y : Layer). Rattle.heap_model.specs.Legal.may_touch (caller_view (now s c) c.number) y ≡ true) e t

    unused_row : (may_unspan_of (caller_view k c.number) (span_of r).kind && not (has_place 4096 (places_in left (span_of r).kind) (span_of r))) ≡ true
    unused_row = ap (λ (kd : Kind). may_unspan_of (caller_view k c.number) kd && not (has_place 4096 (places_in left kd) (span_of r))) (fills_now s x).kind
        ∙ and_from (may_unspan_of (caller_view k c.number) kinds.Back) _ (or_left (caller_view k c.number).entered (caller_view k c.number).owns inside) (ap not (fills_now s x).alone)

    unspan_ok : may_prepare s k c.number unspan ≡ true
    unspan_ok =
        prepares s k c.number unspan refl (ap (λ (y : State). not (list_any (begins_at (addr / 4096)) (Rattle.claim_rule.specs.Shown.lfh_spans y.back.area))) k_state ∙ ap not (fills_now s x).apart)
        (and_from (meets_demand k.state.back.area (entry c.number unspan) k.now.demand && (false || is_some (k.now.calls c.number).call)) _
        (and_from (meets_demand k.state.back.area (entry c.number unspan) k.now.demand) (false || is_some (k.now.calls c.number).call)
        (ap (meets_demand k.state.back.area (entry c.number unspan)) k_demand ∙ and_from (c.number == c.number) (addr / 4096 == addr / 4096) (eq-eqb c.number c.number refl) (eq-eqb (addr / 4096) (addr / 4096) refl)) (then_begun c call addr size b n p q out h st s x))
        (and_from (caller_view k c.number).back _ held
        (ap (λ (y : State). for_some (span_at y.back.area (addr / 4096)) (is_unused y (caller_view k c.number))) k_state
        ∙ (ap (λ (o : Option Span). for_some o (is_unused left (caller_view k c.number))) (fills_now s x).span ∙ unused_row))))

    pub four_may : are_prepared s (now s c) c.number (by_all c.number four) ≡ true
    four_may = then_may c call addr size b n p q out h st s x (unspan ∷ []) (one_prepared s k c.number unspan [] unspan_ok refl)

    abbrev last : Configuration
    last = after s k (entry c.number unspan)

    four_is : now s (with_all c four) ≡ last
    four_is = now_all s c four ∙ then_is c call addr size b n p q out h st s x (unspan ∷ [])

    pub four_rest : HasRested (now s (with_all c four)) c.number
    four_rest = subst (λ (y : Configuration). HasRested y c.number) (sym four_is) (record { hands = then_hands c call addr size b n p q out h st s x; demand = refl })

    last_back : last.state.back ≡ part_without (g s).back r.first
    last_back = (λ i. record { area = without_span (k_state i).back.area (page i); places = (k_state i).back.places }) ∙ (λ i. record { area = without_span (g s).back.area r.first; places = remove_found (has_address (sym starts i)) (g s).back.places })

    last_vs : last.state.vs ≡ (g s).vs
    last_vs = ap (λ (y : State). y.vs) k_state

    last_large : last.state.large ≡ (g s).large
    last_large = ap (λ (y : State). y.large) k_state

    last_spans : vs_spans last.state.back.area ≡ vs_spans (g s).back.area
    last_spans =
        ap (λ (y : State). vs_spans (without_span y.back.area (addr / 4096))) k_state
        ∙ filter-remove_found (is_of_kind kinds.Vs) (begins_at (addr / 4096)) (g s).back.area.spans (λ z e.
        let found : Some z ≡ Some (span_of r) = sym e ∙ (fills_now s x).span in let is : z ≡ span_of r = cc in
        ap (is_of_kind kinds.Vs) is ∙ ap (λ (kd : Kind). is_kind kd kinds.Vs) (fills_now s x).kind)

    pub four_tells : ((now s (with_all c four)).state.back ≡ part_without (g s).back r.first) × ((now s (with_all c four)).state.vs ≡ (g s).vs) × ((now s (with_all c four)).state.large ≡ (g s).large) × (vs_spans (now s (with_all c four)).state.back.area ≡ vs_spans (g s).back.area)
    four_tells = (
      ap (λ (y : Configuration). y.state.back) four_is ∙ last_back,
      ap (λ (y : Configuration). y.state.vs) four_is ∙ last_vs,
      ap (λ (y : Configuration). y.state.large) four_is ∙ last_large,
      ap (λ (y : Configuration). vs_spans y.state.back.area) four_is ∙ last_spans,
    )

  module _ (d : Token) (e : d ≡ rested (with_all c four)) (more : Kept) (becomes : Becomes back more (λ y. part_without y (addr / 4096))) where
    added : HasAdded c d four
    added = subst (λ (t : Token). HasAdded c t four) (sym e) (added_then c (with_all c four) (rested (with_all c four)) four [] (added_all c four refl) (added_rested (with_all c four)))

    before : (s : Setting) → IsSettingOf d.opening d.roll s → IsSettingOf c.opening c.roll s
    before s x = setting_before c d four added.goes s x

    now_is : (s : Setting) → now s d ≡ now s (with_all c four)
    now_is s = ap (now s) e

    same_opening : d.opening ≡ c.opening
    same_opening = added.goes.opening

    pub changed : HasChanged c d addr size b n
    changed =
        let few = ap (λ (t : Token). length t.prepared) e in let all = length_all c four in
        record {
          last = unspan ∷ [];
          last_is = inr (addr / 4096, refl);
          added = added;
          out_is = ap (λ (t : Token). t.out) e;
          whole = ap (λ (t : Token). t.whole) e;
          free = ap (λ (t : Token). t.free) e;
          pending = ap (λ (t : Token). t.pending) e;
          few = omega (arith, few, all);
        }

    pub ends_back : EndsBack c d addr size b n q more
    ends_back = record {
      changed = changed;
      back = λ s x.
          let y = before s x in
          subst (λ (o : Opening). StandsForBack o (now s d).state (backs.layer_of more)) (sym same_opening)
          (becomes c.opening (g s) (now s d).state (w s y) (ap (λ (m : Configuration). m.state.back) (now_is s) ∙ ((four_tells s y).0 ∙ ap (part_without (g s).back) (sym page))));
      vs = λ vs v. record {
        tells = λ s x.
            let y = before s x in let z = four_tells s y in
            subst (λ (o : Opening). StandsForVs o (now s d).state (vss.layer_of vs)) (sym same_opening)
            (vs_stands c.opening (g s) (now s d).state vs (v s y).1 (ap (λ (m : Configuration). m.state.vs) (now_is s) ∙ z.1) (ap (λ (m : Configuration). vs_spans m.state.back.area) (now_is s) ∙ z.3));
        used = λ s x.
            let y = before s x in let z = four_tells s y in
            vs_used (g s) (now s d).state (ap (λ (m : Configuration). m.state.vs) (now_is s) ∙ z.1) (ap (λ (m : Configuration). vs_spans m.state.back.area) (now_is s) ∙ z.3) (v s y).0;
      };
      large = λ large v s x.
          let y = before s x in
          subst (λ (o : Opening). Rattle.heap_model.specs.Layers.StandsForLarge o (now s d).state (Rattle.large_blocks.specs.Table.layer_of large)) (sym same_opening)
          (large_stands c.opening (g s) (now s d).state large (v s y) (ap (λ (m : Configuration). m.state.large) (now_is s) ∙ (four_tells s y).2));
    }
