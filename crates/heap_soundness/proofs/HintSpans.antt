-- Each hint names an LFH span of its bucket and its slot.
use Rattle.std.proofs.Common.{◌≡◌, ℕ, ◌/◌, Bool, true, false, List, Option, Some, None, refl, sym, ap, ◌∙◌, eqb, inl, inr}
use Rattle.std.specs.List.{find}
use Rattle.std.proofs.lemmas.Bool.{cases_Bool, and_parts, and_right, eqb-true, eqb-false, ne_eqb}
use Rattle.heap_model.specs.declared.Act.{Act}
use Rattle.heap_model.specs.declared.Act.TheVariants as acts
use Rattle.heap_model.specs.declared.Kind.{Kind}
use Rattle.heap_model.specs.declared.Kind.TheVariants as kinds
use Rattle.heap_model.specs.declared.Layer.TheVariants as layers
use Rattle.heap_model.specs.declared.What.TheVariants as whats
use Rattle.heap_model.specs.State.{Setting, Area, Span, Place, is_kind, is_layer, updated, place_at}
use Rattle.heap_model.specs.Stay.{is_some_of}
use Rattle.heap_model.specs.CallState.{SpanHistory, Configuration, caller_view}
use Rattle.heap_model.specs.Backend.{in_span}
use Rattle.heap_model.specs.Search.{begins_at}
use Rattle.heap_model.specs.Legal.{state_after, span_history_after, put_hint, put_maker, hints_with, forget_hint, is_lfh_over, area_with, is_back_at, with_pages}
use Rattle.heap_soundness.specs.Sound.{IsOneOf, IsHintOf, HintsNameSpans}
use Rattle.heap_soundness.proofs.Lists.{found_in, found_passes}
use Rattle.heap_soundness.proofs.Enums.{kind_is}
use Rattle.heap_soundness.proofs.Spans.{in_inserted, in_removed, in_changed}

module _ (a : Area) (r : SpanHistory) (h : HintsNameSpans a r) where
  -- the spans that hints name are still there
  still : (xs : List Span) → ((x : Span) → x.kind ≡ kinds.Lfh → IsOneOf x a.spans → IsOneOf x xs) → (b t head : ℕ) → r.hints b t ≡ Some head → IsHintOf xs b t head
  still xs f b t head e = let k = h b t head e in record { span = k.span; there = f k.span k.kind k.there; kind = k.kind; bucket = k.bucket; slot = k.slot; begins = k.begins }

  placed : (o : Option Span) → ((x : Span) → o ≡ Some x → IsOneOf x a.spans × (x.kind ≡ kinds.Lfh)) → (b t head : ℕ) → hints_with r.hints o b t ≡ Some head → IsHintOf a.spans b t head
  placed None f b t head e = h b t head e
  placed (Some x) f b t head e = elim (cases_Bool (eqb b x.bucket)) [
    | inr n ↦ h b t head (rw n at e)
    | inl n ↦ of_bucket n (rw n at e)
  ]
    where
      of_bucket : eqb b x.bucket ≡ true → updated (r.hints x.bucket) x.slot (Some x.first) t ≡ Some head → IsHintOf a.spans b t head
      of_bucket n e = elim (cases_Bool (eqb t x.slot)) [
        | inl q ↦
            let g : Some x.first ≡ Some head = (rw q at e) in
            let k = f x refl in
            record { span = x; there = k.0; kind = k.1; bucket = sym (eqb-true b x.bucket n); slot = sym (eqb-true t x.slot q); begins = (let same : x.first ≡ head = cc in same) }
        | inr q ↦ h b t head (ap (λ (i : ℕ). r.hints i t) (eqb-true b x.bucket n) ∙ (rw q at e))
      ]

  put : (start : ℕ) (back : Bool) (b t head : ℕ) → (put_hint a r start back).hints b t ≡ Some head → IsHintOf a.spans b t head
  put start false b t head e = h b t head e
  put start true b t head e = placed (find (is_lfh_over start) a.spans) (λ x f. (found_in (is_lfh_over start) a.spans x f, kind_is x.kind kinds.Lfh (and_parts (is_kind x.kind kinds.Lfh) (in_span (start / 4096) x) (found_passes (is_lfh_over start) a.spans x f)).0)) b t head e

  maker_hints : (c first : ℕ) (kind : Kind) → (put_maker r c first kind).hints ≡ r.hints
  maker_hints c first kinds.Lfh = refl
  maker_hints c first kinds.Vs = refl
  maker_hints c first kinds.Back = refl
  maker_hints c first kinds.Header = refl
  maker_hints c first kinds.Free = refl

  forgotten : (first : ℕ) (xs : List Span) → ((x : Span) → (x.first ≡ first → ⊥) → IsOneOf x a.spans → IsOneOf x xs) → (b t head : ℕ) → forget_hint first r.hints b t ≡ Some head → IsHintOf xs b t head
  forgotten first xs f b t head e = elim (cases_Bool (is_some_of (r.hints b t) first)) [
    | inl n ↦ let g : None ≡ Some head = (rw n at e) in absurd (let z : ⊥ = cc in z)
    | inr n ↦
        let g : r.hints b t ≡ Some head = (rw n at e) in
        let k = h b t head g in
        let other : eqb head first ≡ false = sym (ap (λ (o : Option ℕ). is_some_of o first) g) ∙ n in
        record { span = k.span; there = f k.span (λ q. eqb-false head first other (sym k.begins ∙ q)) k.there; kind = k.kind; bucket = k.bucket; slot = k.slot; begins = k.begins }
  ]

pub hints_act : (s : Setting) (m : Configuration) (c : ℕ) (act : Act) → HintsNameSpans m.state.back.area m.now.span_history →
    HintsNameSpans (state_after m.state (m.now.calls c) c act).back.area (span_history_after m.state.back.area m.now.span_history c (caller_view m c).back act)
hints_act s m c (acts.Span first pages kind bucket slot) h = λ b t head e.
    still m.state.back.area m.now.span_history h _ (λ x k i. in_inserted (record { first = first; pages = pages; kind = kind; bucket = bucket; slot = slot }) x m.state.back.area.spans i) b t head
    (sym (ap (λ (f : ℕ → ℕ → Option ℕ). f b t) (maker_hints m.state.back.area m.now.span_history h c first kind)) ∙ e)
hints_act s m c (acts.Unspan first) h = forgotten m.state.back.area m.now.span_history h first _ (λ x ne i. in_removed (begins_at first) x m.state.back.area.spans (ne_eqb x.first first ne) i)
hints_act s m c (acts.Place start granules layers.Lfh) h = put m.state.back.area m.now.span_history h start (caller_view m c).back
hints_act s m c (acts.Place start granules layers.Vs) h = h
hints_act s m c (acts.Place start granules layers.Back) h = h
hints_act s m c (acts.Place start granules layers.Large) h = h
hints_act s m c (acts.GiveLock whats.Back) h = h
hints_act s m c (acts.GiveLock whats.Gate) h = h
hints_act s m c (acts.GiveLock whats.Lfh) h = h
hints_act s m c (acts.GiveLock whats.Vs) h = h
hints_act s m c (acts.GiveLock whats.Large) h = h
hints_act s m c (acts.Resize a granules size) h = resized (place_at m.state c a)
  where
    resized : (o : Option Place) → HintsNameSpans (area_with m.state.back.area granules o) m.now.span_history
    resized None = h
    resized (Some p) = elim (cases_Bool (is_layer p.layer layers.Back)) [
      | inr e ↦ rw e h
      | inl e ↦ rw e (still m.state.back.area m.now.span_history h _ (λ x k i. in_changed (is_back_at (p.start / 4096)) (with_pages (granules / 256)) x m.state.back.area.spans (and_right (begins_at (p.start / 4096) x) (is_kind x.kind kinds.Back) (ap (λ (j : Kind). is_kind j kinds.Back) k)) i))
    ]
hints_act s m c (acts.Blocked whats.Gate word) h = h
hints_act s m c _ h = h
