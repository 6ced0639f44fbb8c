-- A subsegment that a list shows tagged is found behind the list, and no maker of it is remembered.
use Rattle.std.proofs.Common.{◌≡◌, ℕ, ◌+◌, ◌-◌, ◌*◌, ◌/◌, ◌<◌, ◌≤◌, Bool, true, false, not, ◌&&◌, List, [], ◌∷◌, ◌++◌, Option, Some, None, refl, sym, ap, ◌∙◌, subst, arith, eqb, leb, ltb, inl, inr}
use Rattle.std.specs.Prelude.{filter, nat_lt}
use Rattle.std.specs.List.{find, list_any}
use Rattle.std.proofs.lemmas.Bool.{cases_Bool, and_parts, or_parts, both_ways, not-true, eqb-false, ne_eqb, leb-true, ltb-true, false≢true, and_from, le-leb, lt-ltb}
use Rattle.heap_model.specs.declared.Act.{Act}
use Rattle.heap_model.specs.declared.Act.TheVariants as acts
use Rattle.heap_model.specs.declared.Entry.{Entry}
use Rattle.heap_model.specs.declared.Kind.{Kind}
use Rattle.heap_model.specs.declared.Kind.TheVariants as kinds
use Rattle.heap_model.specs.declared.Layer.TheVariants as layers
use Rattle.heap_model.specs.declared.What.TheVariants as whats
use Rattle.heap_model.specs.State.{Setting, Area, Place, Span, is_kind, is_layer, is_among, is_caller, is_entered, insert_span, remove_found, place_at}
use Rattle.heap_model.specs.Backend.{in_span, is_free}
use Rattle.heap_model.specs.Ranges.{is_of_kind, gaps}
use Rattle.heap_model.specs.CallState.{Configuration, SpanHistory, caller_view}
use Rattle.heap_model.specs.Search.{begins_at, span_at, request_of}
use Rattle.heap_model.specs.Legal.{may, may_follow, after, state_after, span_history_after, put_hint, area_with, is_back_at, with_pages, is_unused, may_unspan_of, has_place, places_in}
use Rattle.heap_model.specs.History.{configuration_after, configuration_of, first_configuration, may_all_follow, own}
use Rattle.heap_model.specs.Agreement.{GateIsSound}
use Rattle.heap_model.proofs.GateSound.{row_of, gate_sound_act}
use Rattle.heap_model.proofs.ListLemmas.{for_some_parts, put_other, filter-insert_span, filter-change_found, filter-remove_found}
use Rattle.heap_model.proofs.Others.{act_other, unspan_locks}
use Rattle.heap_soundness.specs.Sound.{IsOneOf}
use Rattle.heap_soundness.proofs.BackendLemmas.{back_place_free, usable_of, outside_of}
use Rattle.heap_soundness.proofs.Lists.{any_in, found_in, found_passes}
use Rattle.heap_soundness.proofs.Reserved.{act_below}
use Rattle.heap_soundness.proofs.RowLemmas.{span_row, span_not_empty}
use Rattle.claim_rule.specs.Entries.{entry}
use Rattle.claim_rule.specs.Shown.{lfh_spans}
use Rattle.claim_rule.proofs.Lists.{after-append, follow_parts}
use Rattle.step_parts.proofs.BlockWords.{in_lfh}
use Rattle.address_calls.specs.Tagged.{leaves_span, all_leave_span, IsTaggedIn, HasTagged}

---- What is found among spans that come and go

-- a test that a new span does not pass finds what it found
skip : (test keep : Span → Bool) (x : Span) (ys : List Span) → test x ≡ false → find test (filter keep (insert_span x ys)) ≡ find test (filter keep ys)
skip test keep x [] h = elim (cases_Bool (keep x)) [ inl e ↦ rw (e, h) refl | inr e ↦ rw e refl ]
skip test keep x (y ∷ ys) h = elim (cases_Bool (nat_lt x.first y.first)) [
  | inl f ↦ elim (cases_Bool (keep x)) [ inl e ↦ rw (f, e, h) refl | inr e ↦ rw (f, e) refl ]
  | inr f ↦ elim (cases_Bool (keep y)) [
    | inl e ↦ elim (cases_Bool (test y)) [ inl g ↦ rw (f, e, g) refl | inr g ↦ rw (f, e, g) (skip test keep x ys h) ]
    | inr e ↦ rw (f, e) (skip test keep x ys h)
  ]
]

-- .. and finds the new one where it alone passes
new_found : (test keep : Span → Bool) (x : Span) (ys : List Span) → test x ≡ true → keep x ≡ true → list_any test ys ≡ false → find test (filter keep (insert_span x ys)) ≡ Some x
new_found test keep x [] t k n = rw (k, t) refl
new_found test keep x (y ∷ ys) t k n =
    let p = or_parts (test y) (list_any test ys) n in
    let u = p.0 in
    elim (cases_Bool (nat_lt x.first y.first)) [
      | inl f ↦ rw (f, k, t) refl
      | inr f ↦ elim (cases_Bool (keep y)) [ inl e ↦ rw (f, e, u) (new_found test keep x ys t k p.1) | inr e ↦ rw (f, e) (new_found test keep x ys t k p.1) ]
    ]

-- what is found stays so where another goes
still_found : (test keep gone : Span → Bool) (x : Span) (ys : List Span) → gone x ≡ false → find test (filter keep ys) ≡ Some x → find test (filter keep (remove_found gone ys)) ≡ Some x
still_found test keep gone x [] g h = h
still_found test keep gone x (y ∷ ys) g h = elim (cases_Bool (gone y)) [
  | inl d ↦ elim (cases_Bool (keep y)) [
    | inl k ↦ elim (cases_Bool (test y)) [
      | inl t ↦
          let e : Some y ≡ Some x = (rw (k, t) at h) in
          let same : y ≡ x = cc in
          absurd (both_ways (gone y) (subst (λ (z : Span). gone z ≡ false) (sym same) g) d)
      | inr t ↦ rw d (rw (k, t) at h)
    ]
    | inr k ↦ rw d (rw k at h)
  ]
  | inr d ↦ elim (cases_Bool (keep y)) [
    | inl k ↦ elim (cases_Bool (test y)) [ inl t ↦ rw (d, k, t) (rw (k, t) at h) | inr t ↦ rw (d, k, t) (still_found test keep gone x ys g (rw (k, t) at h)) ]
    | inr k ↦ rw (d, k) (still_found test keep gone x ys g (rw k at h))
  ]
]

not_lfh_if_back : (kind : Kind) → is_kind kind kinds.Back ≡ true → is_kind kind kinds.Lfh ≡ false
not_lfh_if_back kinds.Back h = refl
not_lfh_if_back kinds.Vs h = refl
not_lfh_if_back kinds.Header h = refl
not_lfh_if_back kinds.Free h = refl
not_lfh_if_back kinds.Lfh h = absurd (false≢true h)

resized_spans : (a : Area) (granules : ℕ) (o : Option Place) → lfh_spans (area_with a granules o) ≡ lfh_spans a
resized_spans a granules None = refl
resized_spans a granules (Some p) = elim (cases_Bool (is_layer p.layer layers.Back)) [
  | inl e ↦ rw e (filter-change_found (is_of_kind kinds.Lfh) (is_back_at (p.start / 4096)) (with_pages (granules / 256)) a.spans (λ x h. let k = not_lfh_if_back x.kind (and_parts (begins_at (p.start / 4096) x) (is_kind x.kind kinds.Back) h).1 in (k, k)))
  | inr e ↦ rw e refl
]

hint_makers : (a : Area) (r : SpanHistory) (start : ℕ) (back : Bool) → (put_hint a r start back).makers ≡ r.makers
hint_makers a r start true = refl
hint_makers a r start false = refl

---- One entry

module _ (s : Setting) (m : Configuration) (c : ℕ) where
  -- where a span is made its pages are free
  free_page : (x : Span) → may s m c (acts.Span x.first x.pages x.kind x.bucket x.slot) ≡ true → (page : ℕ) → in_span page x ≡ true → is_free m.state.back.area page ≡ true
  free_page x h page e =
      let r = span_row s m.state.back.area (gaps m.state) c (caller_view m c) (request_of s m c) x h in
      let p = and_parts (leb x.first page) (ltb page (x.first + x.pages)) e in
      let low = leb-true x.first page p.0 in
      let high = ltb-true page (x.first + x.pages) p.1 in
      let is : x.first + (page - x.first) ≡ page = omega arith in
      subst (λ (n : ℕ). is_free m.state.back.area n ≡ true) is (back_place_free m.state.back.area s.limits.segments x.pages x.first r.place r.reserved (page - x.first) (omega arith))

  module _ (page : ℕ) (x : Span) (f : find (in_span page) (lfh_spans m.state.back.area) ≡ Some x) where
    there : IsOneOf x m.state.back.area.spans
    there = (in_lfh m.state.back.area.spans x (found_in (in_span page) (lfh_spans m.state.back.area) x f)).0

    passes : in_span page x ≡ true
    passes = found_passes (in_span page) (lfh_spans m.state.back.area) x f

    -- a span that is made has no unit of the one that is there
    no_unit : (y : Span) → may s m c (acts.Span y.first y.pages y.kind y.bucket y.slot) ≡ true → (u : ℕ) → in_span u x ≡ true → in_span u y ≡ false
    no_unit y h u e = elim (cases_Bool (in_span u y)) [
      | inl g ↦ absurd (both_ways (list_any (in_span u) m.state.back.area.spans) (outside_of m.state.back.area u (free_page y h u g)) (any_in (in_span u) m.state.back.area.spans x there e))
      | inr g ↦ g
    ]

    -- .. so it begins elsewhere
    begins_else : (y : Span) → may s m c (acts.Span y.first y.pages y.kind y.bucket y.slot) ≡ true → y.first ≡ x.first → ⊥
    begins_else y h e =
        let r = span_row s m.state.back.area (gaps m.state) c (caller_view m c) (request_of s m c) y h in
        let some = span_not_empty s m.state.back.area (gaps m.state) c (caller_view m c) (request_of s m c) y.pages y.bucket y.kind r.owner in
        let p = and_parts (leb x.first page) (ltb page (x.first + x.pages)) passes in
        let low = leb-true x.first page p.0 in
        let high = ltb-true page (x.first + x.pages) p.1 in
        let mine : in_span x.first x ≡ true = and_from (leb x.first x.first) (ltb x.first (x.first + x.pages)) (le-leb x.first x.first (omega arith)) (lt-ltb x.first (x.first + x.pages) (omega arith)) in
        let its : in_span x.first y ≡ true = and_from (leb y.first x.first) (ltb x.first (y.first + y.pages)) (le-leb y.first x.first (omega (arith, e))) (lt-ltb x.first (y.first + y.pages) (omega (arith, e, some))) in
        both_ways (in_span x.first y) (no_unit y h x.first mine) its

    -- the subsegment is found behind an act that does not end it
    found_act : (act : Act) → may s m c act ≡ true → ((first : ℕ) → act ≡ acts.Unspan first → find (in_span page) (filter (is_of_kind kinds.Lfh) (remove_found (begins_at first) m.state.back.area.spans)) ≡ Some x)
        → find (in_span page) (lfh_spans (state_after m.state (m.now.calls c) c act).back.area) ≡ Some x
    found_act (acts.Span first pages kind b t) h goes = of_kind kind h
      where
        of_kind : (kind : Kind) → may s m c (acts.Span first pages kind b t) ≡ true → find (in_span page) (filter (is_of_kind kinds.Lfh) (insert_span (record { first = first; pages = pages; kind = kind; bucket = b; slot = t }) m.state.back.area.spans)) ≡ Some x
        of_kind kinds.Lfh h =
            let y : Span = record { first = first; pages = pages; kind = kinds.Lfh; bucket = b; slot = t } in
            skip (in_span page) (is_of_kind kinds.Lfh) y m.state.back.area.spans (no_unit y h page passes) ∙ f
        of_kind kinds.Vs h = ap (find (in_span page)) (filter-insert_span (is_of_kind kinds.Lfh) (record { first = first; pages = pages; kind = kinds.Vs; bucket = b; slot = t }) m.state.back.area.spans refl) ∙ f
        of_kind kinds.Back h = ap (find (in_span page)) (filter-insert_span (is_of_kind kinds.Lfh) (record { first = first; pages = pages; kind = kinds.Back; bucket = b; slot = t }) m.state.back.area.spans refl) ∙ f
        of_kind kinds.Header h = ap (find (in_span page)) (filter-insert_span (is_of_kind kinds.Lfh) (record { first = first; pages = pages; kind = kinds.Header; bucket = b; slot = t }) m.state.back.area.spans refl) ∙ f
        of_kind kinds.Free h = ap (find (in_span page)) (filter-insert_span (is_of_kind kinds.Lfh) (record { first = first; pages = pages; kind = kinds.Free; bucket = b; slot = t }) m.state.back.area.spans refl) ∙ f
    found_act (acts.Unspan first) h goes = goes first refl
    found_act (acts.Resize a granules size) h goes = ap (find (in_span page)) (resized_spans m.state.back.area granules (place_at m.state c a)) ∙ f
    found_act (acts.Place start granules layers.Lfh) h goes = f
    found_act (acts.Place start granules layers.Vs) h goes = f
    found_act (acts.Place start granules layers.Back) h goes = f
    found_act (acts.Place start granules layers.Large) h goes = f
    found_act (acts.Blocked whats.Gate word) h goes = f
    found_act _ h goes = f

    -- .. and no maker of it is remembered where none was
    given_act : (act : Act) → may s m c act ≡ true → m.now.span_history.makers x.first ≡ None → (span_history_after m.state.back.area m.now.span_history c (caller_view m c).back act).makers x.first ≡ None
    given_act (acts.GiveLock whats.Back) h n = refl
    given_act (acts.GiveLock whats.Gate) h n = n
    given_act (acts.GiveLock whats.Lfh) h n = n
    given_act (acts.GiveLock whats.Vs) h n = n
    given_act (acts.GiveLock whats.Large) h n = n
    given_act (acts.Span first pages kinds.Lfh b t) h n = put_other m.now.span_history.makers first x.first (Some c) (begins_else (record { first = first; pages = pages; kind = kinds.Lfh; bucket = b; slot = t }) h) ∙ n
    given_act (acts.Span first pages kinds.Vs b t) h n = n
    given_act (acts.Span first pages kinds.Back b t) h n = n
    given_act (acts.Span first pages kinds.Header b t) h n = n
    given_act (acts.Span first pages kinds.Free b t) h n = n
    given_act (acts.Unspan first) h n = elim (cases_Bool (eqb x.first first)) [ inl e ↦ rw e refl | inr e ↦ rw e n ]
    given_act (acts.Place start granules layers.Lfh) h n = ap (λ (g : ℕ → Option ℕ). g x.first) (hint_makers m.state.back.area m.now.span_history start (caller_view m c).back) ∙ n
    given_act (acts.Place start granules layers.Vs) h n = n
    given_act (acts.Place start granules layers.Back) h n = n
    given_act (acts.Place start granules layers.Large) h n = n
    given_act (acts.Blocked whats.Gate word) h n = n
    given_act _ h n = n

    -- an act that ends another span
    ends_other : (act : Act) → leaves_span x.first act ≡ true → (first : ℕ) → act ≡ acts.Unspan first → find (in_span page) (filter (is_of_kind kinds.Lfh) (remove_found (begins_at first) m.state.back.area.spans)) ≡ Some x
    ends_other act l first e =
        let k : not (eqb first x.first) ≡ true = subst (λ (z : Act). leaves_span x.first z ≡ true) e l in
        let ne = eqb-false first x.first (not-true _ k) in
        still_found (in_span page) (is_of_kind kinds.Lfh) (begins_at first) x m.state.back.area.spans (ne_eqb x.first first (λ i. ne (sym i))) f

    -- while somebody is inside, no subsegment is ended
    ends_none : (n : ℕ) → GateIsSound m.state.gate → is_entered m.state.gate n ≡ true → (act : Act) → may s m c act ≡ true → (first : ℕ) → act ≡ acts.Unspan first
        → find (in_span page) (filter (is_of_kind kinds.Lfh) (remove_found (begins_at first) m.state.back.area.spans)) ≡ Some x
    ends_none n g inside act h first e =
        let w = for_some_parts (span_at m.state.back.area first) (is_unused m.state (caller_view m c)) (unspan_locks s m c first (subst (λ (z : Act). may s m c z ≡ true) e h)).1 in
        let other = not_lfh w.0.kind (and_parts (may_unspan_of (caller_view m c) w.0.kind) (not (has_place 4096 (places_in m.state w.0.kind) w.0)) w.2).0 in
        ap (find (in_span page)) (filter-remove_found (is_of_kind kinds.Lfh) (begins_at first) m.state.back.area.spans (λ z k. one z (sym w.1 ∙ k) other)) ∙ f
      where
        -- the owner, not entered, is alone
        not_alone : is_caller c m.state.gate.owner ≡ true → is_entered m.state.gate c ≡ false → ⊥
        not_alone o k = both_ways (is_entered m.state.gate c) k (subst (λ (y : ℕ). is_entered m.state.gate y ≡ true) (g.alone c n o inside) inside)

        not_lfh : (kind : Kind) → may_unspan_of (caller_view m c) kind ≡ true → is_kind kind kinds.Lfh ≡ false
        not_lfh kinds.Lfh k =
            let p = and_parts _ (not (caller_view m c).entered) k in
            absurd (not_alone (and_parts _ (caller_view m c).owns p.0).1 (not-true (caller_view m c).entered p.1))
        not_lfh kinds.Vs k = refl
        not_lfh kinds.Back k = refl
        not_lfh kinds.Header k = refl
        not_lfh kinds.Free k = refl

        one : {y : Span} (z : Span) → Some y ≡ Some z → is_kind y.kind kinds.Lfh ≡ false → is_of_kind kinds.Lfh z ≡ false
        one {y = y} z k o = let same : y ≡ z = cc in subst (λ (v : Span). is_of_kind kinds.Lfh v ≡ false) same o

---- Lists of entries

found_through : (s : Setting) (m : Configuration) (es : List Entry) (page : ℕ) (x : Span) → may_all_follow s m es ≡ true → all_leave_span x.first es ≡ true → find (in_span page) (lfh_spans m.state.back.area) ≡ Some x
    → find (in_span page) (lfh_spans (configuration_after s m es).state.back.area) ≡ Some x
found_through s m [] page x l k f = f
found_through s m (e ∷ es) page x l k f =
    let p = and_parts (may_follow s m e) (may_all_follow s (after s m e) es) l in
    let q = and_parts (leaves_span x.first e.act) (all_leave_span x.first es) k in
    found_through s (after s m e) es page x p.1 q.1 (found_act s m e.caller page x f e.act (row_of s m e p.0) (ends_other s m e.caller page x f e.act q.0))

-- behind entries that do not end it
pub tagged_through : (s : Setting) (m : Configuration) (es : List Entry) (page : ℕ) (x : Span) → may_all_follow s m es ≡ true → all_leave_span x.first es ≡ true → HasTagged m page x → HasTagged (configuration_after s m es) page x
tagged_through s m [] page x l k t = t
tagged_through s m (e ∷ es) page x l k t =
    let p = and_parts (may_follow s m e) (may_all_follow s (after s m e) es) l in
    let q = and_parts (leaves_span x.first e.act) (all_leave_span x.first es) k in
    let r = row_of s m e p.0 in
    tagged_through s (after s m e) es page x p.1 q.1 (record { found = found_act s m e.caller page x t.found e.act r (ends_other s m e.caller page x t.found e.act q.0); given = given_act s m e.caller page x t.found e.act r t.given })

-- .. or that others made while n is inside
pub tagged_stays : (s : Setting) (m : Configuration) (n : ℕ) (es : List Entry) (page : ℕ) (x : Span) → GateIsSound m.state.gate → is_entered m.state.gate n ≡ true → may_all_follow s m es ≡ true → own n es ≡ [] → HasTagged m page x
    → HasTagged (configuration_after s m es) page x
tagged_stays s m n [] page x g i l o t = t
tagged_stays s m n (e ∷ es) page x g i l o t = elim (cases_Bool (eqb e.caller n)) [
  | inl f ↦ let z : e ∷ own n es ≡ [] = (rw f at o) in absurd (let no : ⊥ = cc in no)
  | inr f ↦
      let p = and_parts (may_follow s m e) (may_all_follow s (after s m e) es) l in
      let r = row_of s m e p.0 in
      let a = act_other s m e.caller n e.act (eqb-false e.caller n f) r g in
      let inside : is_entered (after s m e).state.gate n ≡ is_entered m.state.gate n = both a.counted a.turning in
      tagged_stays s (after s m e) n es page x (gate_sound_act s m e.caller e.act r g) (inside ∙ i) p.1 (rw f at o)
      (record { found = found_act s m e.caller page x t.found e.act r (ends_none s m e.caller page x t.found n g i e.act r); given = given_act s m e.caller page x t.found e.act r t.given })
]
  where
    both : is_among n (after s m e).state.gate.counted ≡ is_among n m.state.gate.counted → is_among n (after s m e).state.gate.turning ≡ is_among n m.state.gate.turning → is_entered (after s m e).state.gate n ≡ is_entered m.state.gate n
    both a b = ap (λ z. z && not (is_among n (after s m e).state.gate.turning)) a ∙ ap (λ z. is_among n m.state.gate.counted && not z) b

-- no more segments are reserved than there are
reserved_through : (s : Setting) (m : Configuration) (es : List Entry) → may_all_follow s m es ≡ true → m.state.back.area.reserved ≤ s.limits.segments → (configuration_after s m es).state.back.area.reserved ≤ s.limits.segments
reserved_through s m [] l k = k
reserved_through s m (e ∷ es) l k =
    let p = and_parts (may_follow s m e) (may_all_follow s (after s m e) es) l in
    reserved_through s (after s m e) es p.1 (act_below s m e.caller e.act (row_of s m e p.0) k)

---- The list of a caller

module _ (s : Setting) (list : List Entry) (x : Span) (page : ℕ) (l : may_all_follow s first_configuration list ≡ true) (h : IsTaggedIn x list) (has : in_span page x ≡ true) where
  abbrev makes : Entry
  makes = entry h.maker (acts.Span x.first x.pages kinds.Lfh x.bucket x.slot)

  abbrev gives : Entry
  gives = entry h.maker (acts.GiveLock whats.Back)

  abbrev rest : List Entry
  rest = makes ∷ (h.under ++ gives ∷ h.behind)

  abbrev first : Configuration
  first = configuration_of s h.before

  parts : (may_all_follow s first_configuration h.before ≡ true) × (may_all_follow s first rest ≡ true)
  parts = follow_parts s first_configuration h.before rest (ap (may_all_follow s first_configuration) (sym h.list_is) ∙ l)

  follows : (may_follow s first makes ≡ true) × (may_all_follow s (after s first makes) (h.under ++ gives ∷ h.behind) ≡ true)
  follows = and_parts (may_follow s first makes) (may_all_follow s (after s first makes) (h.under ++ gives ∷ h.behind)) parts.1

  is_free_there : is_free first.state.back.area page ≡ true
  is_free_there = free_page s first h.maker (record x { kind = kinds.Lfh }) (row_of s first makes follows.0) page has

  -- the page lies in the segments
  pub in_segments : page < 256 * s.limits.segments
  in_segments =
      let few = reserved_through s first_configuration h.before parts.0 (omega arith) in
      let u = usable_of first.state.back.area page is_free_there in
      let low = ltb-true (page / 256) first.state.back.area.reserved (and_parts (ltb (page / 256) first.state.back.area.reserved) _ u).0 in
      omega (arith, few, low)

  is_lfh : (k : Kind) → x.kind ≡ k → record x { kind = k } ≡ x
  is_lfh k e = ap (λ (z : Kind). record x { kind = z }) (sym e)

  pub tagged_behind : HasTagged (configuration_of s list) page x
  tagged_behind =
      let m1 : Configuration = after s first makes in
      let f1 : find (in_span page) (lfh_spans m1.state.back.area) ≡ Some x = new_found (in_span page) (is_of_kind kinds.Lfh) (record x { kind = kinds.Lfh }) first.state.back.area.spans has refl (outside_of first.state.back.area page is_free_there)
      ∙ ap Some (is_lfh kinds.Lfh h.lfh) in
      let p2 = follow_parts s m1 h.under (gives ∷ h.behind) follows.1 in
      let m2 : Configuration = configuration_after s m1 h.under in
      let f2 = found_through s m1 h.under page x p2.0 h.under_stays f1 in
      let p3 = and_parts (may_follow s m2 gives) (may_all_follow s (after s m2 gives) h.behind) p2.1 in
      let t = tagged_through s (after s m2 gives) h.behind page x p3.1 h.behind_stays (record { found = f2; given = refl }) in
      let is : configuration_after s (after s m2 gives) h.behind ≡ configuration_of s list =
      sym (after-append s m1 h.under (gives ∷ h.behind)) ∙ (sym (after-append s first_configuration h.before rest) ∙ ap (configuration_of s) (sym h.list_is)) in
      subst (λ (m : Configuration). HasTagged m page x) is t
