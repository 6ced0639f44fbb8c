-- Each subsegment has the pages of its bucket, in each legal history, whatever slots its callers have.
use Rattle.std.proofs.Common.{◌≡◌, ℕ, ◌/◌, true, false, ◌&&◌, List, [], ◌∷◌, Option, Some, None, refl, sym, ap, ◌∙◌, eqb, inl, inr}
use Rattle.std.specs.List.{AllByRecursion}
use Rattle.std.proofs.lemmas.Bool.{cases_Bool, and_parts, eqb-true, false≢true}
use Rattle.heap_model.specs.declared.Act.{Act}
use Rattle.heap_model.specs.declared.Act.TheVariants as acts
use Rattle.heap_model.specs.declared.Entry.{Entry}
use Rattle.heap_model.specs.declared.Kind.{Kind}
use Rattle.heap_model.specs.declared.Kind.TheVariants as kinds
use Rattle.heap_model.specs.declared.Layer.TheVariants as layers
use Rattle.heap_model.specs.declared.What.TheVariants as whats
use Rattle.heap_model.specs.Buckets.{bucket_pages}
use Rattle.heap_model.specs.State.{State, Setting, Span, Place, is_kind, is_layer, place_at}
use Rattle.heap_model.specs.Ranges.{gaps}
use Rattle.heap_model.specs.CallState.{Configuration, caller_view}
use Rattle.heap_model.specs.Search.{request_of, begins_at, search_key_of, is_spent}
use Rattle.heap_model.specs.Legal.{may, may_follow, after, state_after, area_with, is_back_at, with_pages}
use Rattle.heap_model.specs.History.{configuration_after, configuration_of, first_configuration, may_all_follow}
use Rattle.heap_model.proofs.GateSound.{row_of}
use Rattle.heap_model.proofs.ListLemmas.{for_some_parts}
use Rattle.heap_soundness.specs.Sound.{IsOneOf}
use Rattle.heap_soundness.proofs.Lists.{all_at, all_removed, all_changed}
use Rattle.heap_soundness.proofs.Enums.{kind_is}
use Rattle.heap_soundness.proofs.RowLemmas.{span_row}
use Rattle.heap_soundness.proofs.Spans.{all_inserted}

-- a subsegment has the pages of its bucket
abbrev HasItsPages : Span → Type 0
HasItsPages x = x.kind ≡ kinds.Lfh → x.pages ≡ bucket_pages x.bucket

abbrev HaveTheirPages : State → Type 0
HaveTheirPages st = AllByRecursion HasItsPages st.back.area.spans

not_lfh : {A : Type 0} (k : Kind) → is_kind k kinds.Lfh ≡ false → k ≡ kinds.Lfh → A
not_lfh k f e = absurd (false≢true (sym f ∙ ap (λ (x : Kind). is_kind x kinds.Lfh) e))

pages_act : (s : Setting) (m : Configuration) (c : ℕ) (act : Act) → may s m c act ≡ true → HaveTheirPages m.state → HaveTheirPages (state_after m.state (m.now.calls c) c act)
pages_act s m c (acts.Span first pages kind bucket slot) h a = all_inserted HasItsPages (record { first = first; pages = pages; kind = kind; bucket = bucket; slot = slot }) m.state.back.area.spans (made kind h) a
  where
    made : (kind : Kind) → may s m c (acts.Span first pages kind bucket slot) ≡ true → HasItsPages (record { first = first; pages = pages; kind = kind; bucket = bucket; slot = slot })
    made kinds.Lfh h = λ _.
        let r = span_row s m.state.back.area (gaps m.state) c (caller_view m c) (request_of s m c) (record { first = first; pages = pages; kind = kinds.Lfh; bucket = bucket; slot = slot }) h in
        let q = for_some_parts (request_of s m c).search (λ b. eqb bucket b && is_spent m.state.back.area (caller_view m c) (search_key_of s c (m.now.calls c) b) && eqb pages (bucket_pages b)) r.owner in
        let t = and_parts (eqb bucket q.0 && is_spent m.state.back.area (caller_view m c) (search_key_of s c (m.now.calls c) q.0)) (eqb pages (bucket_pages q.0)) q.2 in
        let is : bucket ≡ q.0 = eqb-true bucket q.0 (and_parts (eqb bucket q.0) _ t.0).0 in
        eqb-true pages (bucket_pages q.0) t.1 ∙ ap bucket_pages (sym is)
    made kinds.Vs h = not_lfh kinds.Vs refl
    made kinds.Back h = not_lfh kinds.Back refl
    made kinds.Header h = not_lfh kinds.Header refl
    made kinds.Free h = not_lfh kinds.Free refl
pages_act s m c (acts.Unspan first) h a = all_removed HasItsPages (begins_at first) m.state.back.area.spans a
pages_act s m c (acts.Resize addr granules size) h a = resized (place_at m.state c addr)
  where
    resized : (o : Option Place) → AllByRecursion HasItsPages (area_with m.state.back.area granules o).spans
    resized None = a
    resized (Some p) = elim (cases_Bool (is_layer p.layer layers.Back)) [
      | inr e ↦ rw e a
      | inl e ↦ rw e (all_changed HasItsPages (is_back_at (p.start / 4096)) (with_pages (granules / 256)) m.state.back.area.spans
          (λ x f old. let k = kind_is x.kind kinds.Back (and_parts (begins_at (p.start / 4096) x) (is_kind x.kind kinds.Back) f).1 in λ l. not_lfh x.kind (ap (λ (y : Kind). is_kind y kinds.Lfh) k) l) a)
    ]
pages_act s m c (acts.Place start granules layers.Lfh) h a = a
pages_act s m c (acts.Place start granules layers.Vs) h a = a
pages_act s m c (acts.Place start granules layers.Back) h a = a
pages_act s m c (acts.Place start granules layers.Large) h a = a
pages_act s m c (acts.Blocked whats.Gate word) h a = a
pages_act s m c _ h a = a

pages_through : (s : Setting) (m : Configuration) (es : List Entry) → may_all_follow s m es ≡ true → HaveTheirPages m.state → HaveTheirPages (configuration_after s m es).state
pages_through s m [] h a = a
pages_through s m (e ∷ es) h a =
    let p = and_parts (may_follow s m e) (may_all_follow s (after s m e) es) h in
    pages_through s (after s m e) es p.1 (pages_act s m e.caller e.act (row_of s m e p.0) a)

-- behind a legal history
pub bucket_pages_at : (s : Setting) (es : List Entry) → may_all_follow s first_configuration es ≡ true → (x : Span) → IsOneOf x (configuration_of s es).state.back.area.spans → x.kind ≡ kinds.Lfh → x.pages ≡ bucket_pages x.bucket
bucket_pages_at s es h x i k = all_at HasItsPages x (configuration_of s es).state.back.area.spans (pages_through s first_configuration es h tt) i k
