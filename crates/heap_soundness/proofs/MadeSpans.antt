-- The callers that have begun, and what the spans that they make keep to.
use Rattle.std.proofs.Common.{◌≡◌, ℕ, ◌+◌, ◌-◌, ◌*◌, ◌/◌, ◌<◌, ◌≤◌, Bool, true, false, ◌&&◌, ◌||◌, max, Option, Some, None, refl, sym, ap, ◌∙◌, subst, arith, eqb, leb, ltb, inl, inr, ◌⊎◌}
use Rattle.std.specs.Prelude.{is_some, is_none, option_and_then}
use Rattle.std.specs.List.{AllByRecursion}
use Rattle.std.proofs.lemmas.Bool.{cases_Bool, cases_eq, and_parts, eqb-true, leb-true, leb-false, ltb-true, false≢true}
use Rattle.heap_model.specs.declared.Act.{Act}
use Rattle.heap_model.specs.declared.Act.TheVariants as acts
use Rattle.heap_model.specs.declared.Entry.{Entry}
use Rattle.heap_model.specs.declared.Kind.{Kind}
use Rattle.heap_model.specs.declared.Kind.TheVariants as kinds
use Rattle.heap_model.specs.declared.Layer.{Layer}
use Rattle.heap_model.specs.declared.Layer.TheVariants as layers
use Rattle.heap_model.specs.declared.What.TheVariants as whats
use Rattle.heap_model.specs.Geometry.{route_of, is_paged, units_of, pages_of, span_pages_of}
use Rattle.heap_model.specs.Buckets.{bucket_of, bucket_pages}
use Rattle.heap_model.specs.State.{State, Setting, IsValidSetting, Span, Place, updated, is_kind, is_layer, place_at}
use Rattle.heap_model.specs.Ranges.{gaps, vs_place}
use Rattle.heap_model.specs.Stay.{lets_stay, lets_stay_in, resized, resized_in}
use Rattle.heap_model.specs.CallState.{CallState, Configuration, caller_view}
use Rattle.heap_model.specs.Search.{request_of, begins_at, searched, sought, asked, search_key_of, is_spent}
use Rattle.heap_model.specs.Legal.{may, may_follow, after, state_after, call_after, is_begin, area_with, is_back_at, with_pages, is_resized}
use Rattle.heap_model.proofs.GateSound.{row_of}
use Rattle.heap_model.proofs.ListLemmas.{for_some_parts, put_other}
use Rattle.heap_soundness.specs.Sound.{IsOneOf, IsSoundLfh, IsSoundSpan, HasSoundKinds}
use Rattle.heap_soundness.specs.Invariant.{HaveBegun}
use Rattle.heap_soundness.proofs.Lists.{all_at, all_removed, all_changed, all_weaker}
use Rattle.heap_soundness.proofs.Enums.{kind_is, layer_is}
use Rattle.heap_soundness.proofs.Spans.{all_inserted}
use Rattle.heap_soundness.proofs.RowLemmas.{span_row, paged_pages}

---- Who has begun a call is a caller of the limits

-- the caller of an entry that may follow
pub caller_below : (s : Setting) (m : Configuration) (e : Entry) → may_follow s m e ≡ true → HaveBegun s m → e.caller < s.limits.callers
caller_below s m e h w = by_act e.act h
  where
    by_act : (act : Act) → may_follow s m (record { caller = e.caller; act = act }) ≡ true → e.caller < s.limits.callers
    by_act (acts.Begin call) h = ltb-true e.caller s.limits.callers (and_parts (ltb e.caller s.limits.callers) _ (and_parts _ _ (and_parts _ _ (row_of s m (record { caller = e.caller; act = acts.Begin call }) h)).0).0).0
    by_act act h = elim (cases_Bool (is_begin act)) [
      | inl b ↦ begin_below act b h
      | inr b ↦ w e.caller (begun act b (and_parts _ (is_begin act || is_some (m.now.calls e.caller).call) (and_parts _ (may s m e.caller act) h).0).1)
    ]
      where
        begin_below : (act : Act) → is_begin act ≡ true → may_follow s m (record { caller = e.caller; act = act }) ≡ true → e.caller < s.limits.callers
        begin_below (acts.Begin call) b h = ltb-true e.caller s.limits.callers (and_parts (ltb e.caller s.limits.callers) _ (and_parts _ _ (and_parts _ _ (row_of s m (record { caller = e.caller; act = acts.Begin call }) h)).0).0).0
        begin_below _ b h = absurd (false≢true b)

        begun : (act : Act) → is_begin act ≡ false → (is_begin act || is_some (m.now.calls e.caller).call) ≡ true → is_some (m.now.calls e.caller).call ≡ true
        begun act b h = rw b at h

pub begun_after : (s : Setting) (m : Configuration) (e : Entry) → may_follow s m e ≡ true → HaveBegun s m → HaveBegun s (after s m e)
begun_after s m e h w c k = elim (cases_eq e.caller c) [
  | inl q ↦ subst (λ (x : ℕ). x < s.limits.callers) q (caller_below s m e h w)
  | inr q ↦ w c (sym (ap (λ (x : CallState). is_some x.call) (put_other m.now.calls e.caller c (call_after s e.caller (m.now.calls e.caller) e.act) q)) ∙ k)
]

---- Each LFH span is sound

bucket_range : (n b : ℕ) → bucket_of n ≡ Some b → (1 ≤ b) × (b ≤ 128)
bucket_range n b h = elim (cases_Bool (leb (max 1 n) 1024)) [
  | inl e ↦ let l = leb-true (max 1 n) 1024 e in let g : Some ((max 1 n + 16 - 1) / 16) ≡ Some b = (rw e at h) in let f : (max 1 n + 16 - 1) / 16 ≡ b = cc in (omega arith, omega arith)
  | inr e ↦ let k = leb-false (max 1 n) 1024 e in elim (cases_Bool (leb (max 1 n) 2048)) [
    | inl e2 ↦ let l = leb-true (max 1 n) 2048 e2 in let g : Some (64 + (max 1 n - 1024 + 64 - 1) / 64) ≡ Some b = (rw (e, e2) at h) in let f : 64 + (max 1 n - 1024 + 64 - 1) / 64 ≡ b = cc in (omega arith, omega arith)
    | inr e2 ↦ let k2 = leb-false (max 1 n) 2048 e2 in elim (cases_Bool (leb (max 1 n) 4096)) [
      | inl e3 ↦ let l = leb-true (max 1 n) 4096 e3 in let g : Some (80 + (max 1 n - 2048 + 128 - 1) / 128) ≡ Some b = (rw (e, e2, e3) at h) in let f : 80 + (max 1 n - 2048 + 128 - 1) / 128 ≡ b = cc in (omega arith, omega arith)
      | inr e3 ↦ let k3 = leb-false (max 1 n) 4096 e3 in elim (cases_Bool (leb (max 1 n) 8192)) [
        | inl e4 ↦ let l = leb-true (max 1 n) 8192 e4 in let g : Some (96 + (max 1 n - 4096 + 256 - 1) / 256) ≡ Some b = (rw (e, e2, e3, e4) at h) in let f : 96 + (max 1 n - 4096 + 256 - 1) / 256 ≡ b = cc in (omega arith, omega arith)
        | inr e4 ↦ let k4 = leb-false (max 1 n) 8192 e4 in elim (cases_Bool (leb (max 1 n) 16368)) [
          | inl e5 ↦ let l = leb-true (max 1 n) 16368 e5 in let g : Some (112 + (max 1 n - 8192 + 512 - 1) / 512) ≡ Some b = (rw (e, e2, e3, e4, e5) at h) in let f : 112 + (max 1 n - 8192 + 512 - 1) / 512 ≡ b = cc in (omega arith, omega arith)
          | inr e5 ↦ let g : None ≡ Some b = (rw (e, e2, e3, e4, e5) at h) in absurd (let z : ⊥ = cc in z)
        ]
      ]
    ]
  ]
]

-- the bucket of a search is one, and active
pub search_is : (active : ℕ → Bool) (o : Option ℕ) (b : ℕ) → searched active o ≡ Some b → (o ≡ Some b) × (active b ≡ true)
search_is active None b h = absurd (let z : ⊥ = cc in z)
search_is active (Some x) b h = elim (cases_Bool (active x)) [
  | inl e ↦ let g : Some x ≡ Some b = (rw e at h) in let same : x ≡ b = cc in (g, subst (λ (y : ℕ). active y ≡ true) same e)
  | inr e ↦ let g : None ≡ Some b = (rw e at h) in absurd (let z : ⊥ = cc in z)
]

pub bucket_is : (o : Option ℕ) (b : ℕ) → option_and_then bucket_of o ≡ Some b → (1 ≤ b) × (b ≤ 128)
bucket_is None b h = absurd (let z : ⊥ = cc in z)
bucket_is (Some n) b h = bucket_range n b h

-- a span of LFH, where each span keeps to its kind
pub lfh_span : (s : Setting) (st : State) (x : Span) → HasSoundKinds s st → IsOneOf x st.back.area.spans → x.kind ≡ kinds.Lfh → IsSoundLfh s st.vs.active x
lfh_span s st x h i k = subst (IsSoundSpan s st.vs.active x) k (all_at (λ x. IsSoundSpan s st.vs.active x x.kind) x st.back.area.spans h i)

span_pages : (n pages : ℕ) → pages ≡ span_pages_of n → 16 ≤ pages
span_pages n pages e = omega arith

-- one bucket more that is active
more_active : (s : Setting) (active : ℕ → Bool) (bucket : ℕ) (x : Span) (k : Kind) → IsSoundSpan s active x k → IsSoundSpan s (updated active bucket true) x k
more_active s active bucket x kinds.Vs h = h
more_active s active bucket x kinds.Back h = h
more_active s active bucket x kinds.Header h = h
more_active s active bucket x kinds.Free h = h
more_active s active bucket x kinds.Lfh h = record { bucket = h.bucket; pages = h.pages; slot = h.slot; active = elim (cases_Bool (eqb x.bucket bucket)) [ inl f ↦ rw f refl | inr f ↦ let e = h.active in rw f e ] }

pub kinds_act : (s : Setting) (m : Configuration) (c : ℕ) (act : Act) → IsValidSetting s → c < s.limits.callers → may s m c act ≡ true → HasSoundKinds s m.state → HasSoundKinds s (state_after m.state (m.now.calls c) c act)
kinds_act s m c (acts.Span first pages kind bucket slot) g l h a = all_inserted (λ x. IsSoundSpan s m.state.vs.active x x.kind) (record { first = first; pages = pages; kind = kind; bucket = bucket; slot = slot }) m.state.back.area.spans (made kind h) a
  where
    made : (kind : Kind) → may s m c (acts.Span first pages kind bucket slot) ≡ true → IsSoundSpan s m.state.vs.active (record { first = first; pages = pages; kind = kind; bucket = bucket; slot = slot }) kind
    made kinds.Lfh h =
        let r = span_row s m.state.back.area (gaps m.state) c (caller_view m c) (request_of s m c) (record { first = first; pages = pages; kind = kinds.Lfh; bucket = bucket; slot = slot }) h in
        let q = for_some_parts (request_of s m c).search (λ b. eqb bucket b && is_spent m.state.back.area (caller_view m c) (search_key_of s c (m.now.calls c) b) && eqb pages (bucket_pages b)) r.owner in
        let t = and_parts (eqb bucket q.0 && is_spent m.state.back.area (caller_view m c) (search_key_of s c (m.now.calls c) q.0)) (eqb pages (bucket_pages q.0)) q.2 in
        let is : bucket ≡ q.0 = eqb-true bucket q.0 (and_parts (eqb bucket q.0) _ t.0).0 in
        let w = search_is m.state.vs.active (option_and_then bucket_of (sought s m.state c (m.now.calls c))) q.0 q.1 in
        let range = bucket_is (sought s m.state c (m.now.calls c)) q.0 w.0 in
        let at : slot ≡ s.slot c = eqb-true slot (s.slot c) r.names in
        record {
          bucket = subst (λ (x : ℕ). (1 ≤ x) × (x ≤ 128)) (sym is) range;
          pages = eqb-true pages (bucket_pages q.0) t.1 ∙ ap bucket_pages (sym is);
          slot = subst (λ (x : ℕ). x < s.limits.slots) (sym at) (g.slot c l);
          active = subst (λ (x : ℕ). m.state.vs.active x ≡ true) (sym is) w.1;
        }
    made kinds.Vs h =
        let r = span_row s m.state.back.area (gaps m.state) c (caller_view m c) (request_of s m c) (record { first = first; pages = pages; kind = kinds.Vs; bucket = bucket; slot = slot }) h in
        let n = and_parts (eqb bucket 0) (eqb slot 0) r.names in
        let q = for_some_parts (asked (m.now.calls c)) (λ n. is_none (vs_place (gaps m.state) (units_of n)) && eqb pages (span_pages_of n)) (and_parts (caller_view m c).vs _ r.owner).1 in
        (span_pages q.0 pages (eqb-true pages (span_pages_of q.0) (and_parts (is_none (vs_place (gaps m.state) (units_of q.0))) (eqb pages (span_pages_of q.0)) q.2).1), eqb-true bucket 0 n.0, eqb-true slot 0 n.1)
    made kinds.Back h =
        let r = span_row s m.state.back.area (gaps m.state) c (caller_view m c) (request_of s m c) (record { first = first; pages = pages; kind = kinds.Back; bucket = bucket; slot = slot }) h in
        let n = and_parts (eqb bucket 0) (eqb slot 0) r.names in
        let q = for_some_parts (request_of s m c).size (λ n. is_paged (route_of n) && eqb pages (pages_of n)) r.owner in
        let t = and_parts (is_paged (route_of q.0)) (eqb pages (pages_of q.0)) q.2 in
        let e = sym (eqb-true pages (pages_of q.0) t.1) in
        let b = paged_pages q.0 t.0 in
        (subst (λ (x : ℕ). 33 ≤ x) e b.0, subst (λ (x : ℕ). x ≤ 127) e b.1, eqb-true bucket 0 n.0, eqb-true slot 0 n.1)
    made kinds.Header h = absurd (false≢true (span_row s m.state.back.area (gaps m.state) c (caller_view m c) (request_of s m c) (record { first = first; pages = pages; kind = kinds.Header; bucket = bucket; slot = slot }) h).owner)
    made kinds.Free h = absurd (false≢true (span_row s m.state.back.area (gaps m.state) c (caller_view m c) (request_of s m c) (record { first = first; pages = pages; kind = kinds.Free; bucket = bucket; slot = slot }) h).owner)
kinds_act s m c (acts.Unspan first) g l h a = all_removed (λ x. IsSoundSpan s m.state.vs.active x x.kind) (begins_at first) m.state.back.area.spans a
kinds_act s m c (acts.Resize addr granules size) g l h a =
    let q = for_some_parts (place_at m.state c addr) (is_resized s m.state (caller_view m c) granules size) (and_parts (caller_view m c).entered _ h).1 in
    subst (λ (o : Option Place). AllByRecursion (λ x. IsSoundSpan s m.state.vs.active x x.kind) (area_with m.state.back.area granules o).spans) (sym q.1) (by_layer q.0 q.2 (cases_Bool (is_layer q.0.layer layers.Back)))
  where
    -- the pages of a block that stays in the back end
    pages : (p : Place) → is_resized s m.state (caller_view m c) granules size p ≡ true → p.layer ≡ layers.Back → (33 ≤ granules / 256) × (granules / 256 ≤ 127)
    pages p row e =
        let p1 = and_parts _ (eqb granules (resized s.limits m.state p size)) row in
        let stays : lets_stay_in s.limits m.state p size layers.Back ≡ true = subst (λ (k : Layer). lets_stay_in s.limits m.state p size k ≡ true) e (and_parts _ (lets_stay s.limits m.state p size) p1.0).1 in
        let n : granules ≡ 256 * pages_of size = eqb-true granules (resized s.limits m.state p size) p1.1 ∙ ap (resized_in s.limits m.state p size) e in
        let b = paged_pages size (and_parts (is_paged (route_of size)) _ stays).0 in
        let b0 = b.0 in
        let b1 = b.1 in
        between (pages_of size) n b0 b1
      where
        between : (k : ℕ) → granules ≡ 256 * k → 33 ≤ k → k ≤ 127 → (33 ≤ granules / 256) × (granules / 256 ≤ 127)
        between k n l h = (omega arith, omega arith)

    by_layer : (p : Place) → is_resized s m.state (caller_view m c) granules size p ≡ true → (is_layer p.layer layers.Back ≡ true) ⊎ (is_layer p.layer layers.Back ≡ false) → AllByRecursion (λ x. IsSoundSpan s m.state.vs.active x x.kind) (area_with m.state.back.area granules (Some p)).spans
    by_layer p row (inr e) = rw e a
    by_layer p row (inl e) =
        let b = pages p row (sym (layer_is p.layer layers.Back e)) in
        rw e (all_changed (λ x. IsSoundSpan s m.state.vs.active x x.kind) (is_back_at (p.start / 4096)) (with_pages (granules / 256)) m.state.back.area.spans
        (λ x f old. let k = kind_is x.kind kinds.Back (and_parts (begins_at (p.start / 4096) x) (is_kind x.kind kinds.Back) f).1 in let o = subst (IsSoundSpan s m.state.vs.active x) k old in subst (IsSoundSpan s m.state.vs.active (with_pages (granules / 256) x)) (sym k) (b.0, b.1, o.2, o.3)) a)
kinds_act s m c (acts.Active bucket) g l h a = all_weaker (λ x. IsSoundSpan s m.state.vs.active x x.kind) (λ x. IsSoundSpan s (updated m.state.vs.active bucket true) x x.kind) m.state.back.area.spans (λ x i f. more_active s m.state.vs.active bucket x x.kind f) a
kinds_act s m c (acts.Place start granules layers.Lfh) g l h a = a
kinds_act s m c (acts.Place start granules layers.Vs) g l h a = a
kinds_act s m c (acts.Place start granules layers.Back) g l h a = a
kinds_act s m c (acts.Place start granules layers.Large) g l h a = a
kinds_act s m c (acts.Blocked whats.Gate word) g l h a = a
kinds_act s m c _ g l h a = a
