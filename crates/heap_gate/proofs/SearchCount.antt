-- How many searches a caller has made is told by its own entries.
use Rattle.std.proofs.Common.{◌≡◌, ℕ, ◌+◌, ◌==◌, Bool, true, false, ◌&&◌, ◌||◌, not, List, [], ◌∷◌, ◌++◌, Option, Some, None, refl, sym, ap, ◌∙◌, subst, eq-eqb, ne_eqb, inl, inr}
use Rattle.std.specs.Prelude.{option_and_then}
use Rattle.std.proofs.lemmas.Bool.{cases_Bool, and_parts, eqb-true, eqb-false, false≢true, true≢false}
use Rattle.heap_model.specs.declared.Act.{Act}
use Rattle.heap_model.specs.declared.Act.TheVariants as acts
use Rattle.heap_model.specs.declared.Entry.{Entry}
use Rattle.heap_model.specs.declared.Kind.{Kind}
use Rattle.heap_model.specs.declared.Kind.TheVariants as kinds
use Rattle.heap_model.specs.Buckets.{bucket_of}
use Rattle.heap_model.specs.State.{Setting, Area, updated}
use Rattle.heap_model.specs.Stay.{is_some_of}
use Rattle.heap_model.specs.CallState.{Stage, NotBegun, AtHint, FirstPass, SecondPass, Search, CallState, Configuration, CallerView, caller_view}
use Rattle.heap_model.specs.Search.{SearchKey, search_key_of, asked_bucket, sought, searched, request_of, is_spent, all_read_at, last_read, head_of, has_not_begun, after_pick, after_saw, onto_span_at, after_lost, after_own_span, after_no_span, after_no_hint}
use Rattle.heap_model.specs.Legal.{may, may_follow, after, searched_once, call_after, step_search, with_search, after_span}
use Rattle.heap_model.specs.History.{configuration_after, configuration_of, first_configuration, may_all_follow, own}
use Rattle.heap_model.proofs.GateSound.{row_of}
use Rattle.heap_model.proofs.ListLemmas.{for_some_parts}
use Rattle.heap_soundness.proofs.Picks.{sought_asked}
use Rattle.claim_rule.specs.Entries.{entry, are_prepared, may_prepare, is_by}
use Rattle.claim_rule.proofs.Lists.{own_by}
use Rattle.heap_gate.specs.Token.{SearchMarks, count, search_mark, search_marks_from, search_marks}
use Rattle.heap_gate.proofs.Tokens.{marks-append, no_marks}

-- the call state has what the entries say; before its first reading a search has read and lost nothing
pub record IsCounted (c : CallState) (k : SearchMarks) : Type 0 where
  pub made : c.searches ≡ k.made
  pub stage : has_not_begun c.search.stage ≡ not k.begun
  pub fresh : has_not_begun c.search.stage ≡ true → (c.search.read ≡ []) × (c.search.lost ≡ 0)

same : (c d : CallState) (k : SearchMarks) → d.searches ≡ c.searches → d.search ≡ c.search → IsCounted c k → IsCounted d k
same c d k e f h = record {
  made = e ∙ h.made;
  stage = ap (λ (x : Search). has_not_begun x.stage) f ∙ h.stage;
  fresh = λ y. let r = h.fresh (ap (λ (x : Search). has_not_begun x.stage) (sym f) ∙ y) in (ap (λ (x : Search). x.read) f ∙ r.0, ap (λ (x : Search). x.lost) f ∙ r.1);
}

once : (g : Stage) (b : Bool) → has_not_begun g ≡ not b → searched_once g ≡ count b
once NotBegun false e = refl
once NotBegun true e = absurd (true≢false e)
once AtHint true e = refl
once AtHint false e = absurd (false≢true e)
once FirstPass true e = refl
once FirstPass false e = absurd (false≢true e)
once SecondPass true e = refl
once SecondPass false e = absurd (false≢true e)

-- the request of a search is the bucket that the call asks
search_asks : (active : ℕ → Bool) (o : Option ℕ) (b : ℕ) → searched active o ≡ Some b → o ≡ Some b
search_asks active None b e = absurd (let z : ⊥ = cc in z)
search_asks active (Some x) b e = elim (cases_Bool (active x)) [
  | inl t ↦ let g : Some x ≡ Some b = rw t at e in g
  | inr t ↦ let g : None ≡ Some b = rw t at e in absurd (let z : ⊥ = cc (g) in z)
]

asks : (s : Setting) (m : Configuration) (n b : ℕ) → (request_of s m n).search ≡ Some b → asked_bucket (m.now.calls n) ≡ Some b
asks s m n b e = sought_asked s m.state n (m.now.calls n) b (search_asks m.state.vs.active (option_and_then bucket_of (sought s m.state n (m.now.calls n))) b e)

---- Stages

stage_picked : (g : SearchKey) (f : Search) (word : ℕ) (o : Option ℕ) → (after_pick g f word o).stage ≡ f.stage
stage_picked g f word (Some i) = refl
stage_picked g f word None = refl

stage_onto : (f : Search) (head : ℕ) (g : Stage) (e : Bool) → f.stage ≡ g → has_not_begun (onto_span_at f head g e).stage ≡ false
stage_onto f head NotBegun e q = refl
stage_onto f head AtHint true q = refl
stage_onto f head FirstPass true q = ap has_not_begun q
stage_onto f head SecondPass true q = ap has_not_begun q
stage_onto f head AtHint false q = ap has_not_begun q
stage_onto f head FirstPass false q = ap has_not_begun q
stage_onto f head SecondPass false q = ap has_not_begun q

stage_saw : (g : SearchKey) (f : Search) (head word bits : ℕ) → has_not_begun (after_saw g f head word bits).stage ≡ false
stage_saw g f head word bits = ap has_not_begun (stage_picked g _ word _) ∙ stage_onto f head f.stage f.ended refl

-- a search that has not begun is not spent
not_spent : (a : Area) (v : CallerView) (g : SearchKey) → v.call.search.lost ≡ 0 → has_not_begun v.call.search.stage ≡ true → is_spent a v g ≡ true → ⊥
not_spent a v g lost fresh h = go v.call.search.stage refl
  where
    none : (v.call.search.lost == 8) ≡ false
    none = ap (λ (x : ℕ). x == 8) lost

    go : (x : Stage) → v.call.search.stage ≡ x → ⊥
    go NotBegun e =
        let r : ((v.call.search.lost == 8) || (v.call.search.ended && all_read_at a v g v.call.search.stage)) ≡ true = (and_parts v.back _ h).1 in
        let r1 : (v.call.search.ended && all_read_at a v g v.call.search.stage) ≡ true = ap (λ (b : Bool). b || (v.call.search.ended && all_read_at a v g v.call.search.stage)) (sym none) ∙ r in
        false≢true (ap (all_read_at a v g) (sym e) ∙ (and_parts v.call.search.ended _ r1).1)
    go AtHint e = false≢true (sym (ap has_not_begun e) ∙ fresh)
    go FirstPass e = false≢true (sym (ap has_not_begun e) ∙ fresh)
    go SecondPass e = false≢true (sym (ap has_not_begun e) ∙ fresh)

begun_of : (c : CallState) (k : SearchMarks) → IsCounted c k → has_not_begun c.search.stage ≡ false → k.begun ≡ true
begun_of c k h e = go k.begun (sym h.stage ∙ e)
  where
    go : (b : Bool) → not b ≡ false → b ≡ true
    go true x = refl
    go false x = absurd (true≢false x)

---- One entry of the caller

module _ (s : Setting) (m : Configuration) (n : ℕ) (k : SearchMarks) (h : IsCounted (m.now.calls n) k) where
  abbrev c : CallState
  c = m.now.calls n

  abbrev v : CallerView
  v = caller_view m n

  stepped : (f : SearchKey → Search → Search) (b : ℕ) → asked_bucket c ≡ Some b → step_search s n c f (asked_bucket c) ≡ with_search c (f (search_key_of s n c b) c.search)
  stepped f b e = ap (step_search s n c f) e

  -- behind a step of the search that has begun then
  begins : (d : CallState) → d.searches ≡ c.searches → has_not_begun d.search.stage ≡ false → IsCounted d (record { made = k.made; begun = true })
  begins d e st = record { made = e ∙ h.made; stage = st; fresh = λ y. absurd (false≢true (sym st ∙ y)) }

  had_begun : (a : Area) (g : SearchKey) → is_spent a v g ≡ true → has_not_begun c.search.stage ≡ false
  had_begun a g sp = go (has_not_begun c.search.stage) refl
    where
      go : (b : Bool) → has_not_begun c.search.stage ≡ b → has_not_begun c.search.stage ≡ false
      go false e = e
      go true e = absurd (not_spent a v g (h.fresh e).1 e sp)

  -- .. which had begun before
  goes_on : (d : CallState) → d.searches ≡ c.searches → has_not_begun d.search.stage ≡ false → k.begun ≡ true → IsCounted d k
  goes_on d e st b = record { made = e ∙ h.made; stage = st ∙ sym (ap not b); fresh = λ y. absurd (false≢true (sym st ∙ y)) }

  spans : (first pages bucket slot : ℕ) (kind : Kind) → may s m n (acts.Span first pages kind bucket slot) ≡ true → IsCounted (after_span s n c first kind) k
  spans first pages bucket slot kinds.Header r = h
  spans first pages bucket slot kinds.Free r = h
  spans first pages bucket slot kinds.Vs r = h
  spans first pages bucket slot kinds.Back r = h
  spans first pages bucket slot kinds.Lfh r =
      let p = for_some_parts (request_of s m n).search _ (and_parts _ _ r).1 in
      let sp = (and_parts _ _ (and_parts _ _ p.2).0).1 in
      let st = had_begun m.state.back.area (search_key_of s n c p.0) sp in
      subst (λ (x : CallState). IsCounted x k) (sym (stepped (λ g f. after_own_span g f first) p.0 (asks s m n p.0 p.1)))
      (goes_on (with_search c (after_own_span (search_key_of s n c p.0) c.search first)) refl st (begun_of c k h st))

  pub counts : (act : Act) → may s m n act ≡ true → IsCounted (call_after s n c act) (search_mark k act)
  counts (acts.Begin call) r = record { made = (λ j. h.made j + once c.search.stage k.begun h.stage j); stage = refl; fresh = λ _. (refl, refl) }
  counts (acts.Span first pages kind bucket slot) r = spans first pages bucket slot kind r
  counts (acts.Saw head word bits) r =
      let p = for_some_parts (request_of s m n).search _ (and_parts v.entered _ r).1 in
      subst (λ (x : CallState). IsCounted x (record { made = k.made; begun = true })) (sym (stepped (λ g f. after_saw g f head word bits) p.0 (asks s m n p.0 p.1)))
      (begins (with_search c (after_saw (search_key_of s n c p.0) c.search head word bits)) refl (stage_saw (search_key_of s n c p.0) c.search head word bits))
  counts (acts.NoHint bucket slot) r =
      let p = for_some_parts (request_of s m n).search _ (and_parts v.entered _ r).1 in
      subst (λ (x : CallState). IsCounted x (record { made = k.made; begun = true })) (sym (stepped (λ g f. after_no_hint f) p.0 (asks s m n p.0 p.1)))
      (begins (with_search c (after_no_hint c.search)) refl refl)
  counts (acts.Lost head index) r =
      let p = for_some_parts (request_of s m n).search _ (and_parts v.entered _ r).1 in
      let read = (and_parts (is_some_of c.search.picked index) (is_some_of (last_read c.search) head) (and_parts _ _ p.2).0).1 in
      let st : has_not_begun c.search.stage ≡ false = lost_began head read (has_not_begun c.search.stage) refl in
      subst (λ (x : CallState). IsCounted x k) (sym (stepped (λ g f. after_lost f) p.0 (asks s m n p.0 p.1)))
      (goes_on (with_search c (after_lost c.search)) refl st (begun_of c k h st))
    where
      lost_began : (head : ℕ) → is_some_of (last_read c.search) head ≡ true → (b : Bool) → has_not_begun c.search.stage ≡ b → has_not_begun c.search.stage ≡ false
      lost_began head read false e = e
      lost_began head read true e = absurd (false≢true (ap (λ (l : List ℕ). is_some_of (head_of l) head) (sym (h.fresh e).0) ∙ read))
  counts (acts.NoSpan bucket) r =
      let p = for_some_parts (request_of s m n).search _ (and_parts v.entered _ r).1 in
      let served = (and_parts _ _ p.2).1 in
      let sp = (and_parts _ _ (and_parts _ _ served).0).1 in
      let st = had_begun m.state.back.area (search_key_of s n c p.0) sp in
      subst (λ (x : CallState). IsCounted (record x { no_span = true }) k) (sym (stepped (λ g f. after_no_span f) p.0 (asks s m n p.0 p.1)))
      (goes_on (record (with_search c (after_no_span c.search)) { no_span = true }) refl refl (begun_of c k h st))
  counts acts.Enter r = same c (record c { entered = true }) k refl refl h
  counts (acts.Place start granules layer) r = same c (record c { placed = true }) k refl refl h
  counts (acts.Take a size) r = same c (record c { taken = true }) k refl refl h
  counts _ r = h

---- A list of entries

updated_here : {A : Type 0} (f : ℕ → A) (at n : ℕ) (x : A) → at ≡ n → updated f at x n ≡ x
updated_here f at n x q = let e = eq-eqb n at (sym q) in rw e refl

updated_there : {A : Type 0} (f : ℕ → A) (at n : ℕ) (x : A) → (at ≡ n → ⊥) → updated f at x n ≡ f n
updated_there f at n x q = let e = ne_eqb n at (λ y. q (sym y)) in rw e refl

pub counted_after : (s : Setting) (n : ℕ) (m : Configuration) (k : SearchMarks) (es : List Entry) → may_all_follow s m es ≡ true → IsCounted (m.now.calls n) k → IsCounted ((configuration_after s m es).now.calls n) (search_marks_from k (own n es))
counted_after s n m k [] f h = h
counted_after s n m k (e ∷ es) f h =
    let p = and_parts (may_follow s m e) (may_all_follow s (after s m e) es) f in
    elim (cases_Bool (e.caller == n)) [
      | inl t ↦
          let q : e.caller ≡ n = eqb-true e.caller n t in
          let row : may s m n e.act ≡ true = subst (λ (x : ℕ). may s m x e.act ≡ true) q (row_of s m e p.0) in
          let here : (after s m e).now.calls n ≡ call_after s n (m.now.calls n) e.act = updated_here m.now.calls e.caller n (call_after s e.caller (m.now.calls e.caller) e.act) q ∙ ap (λ (x : ℕ). call_after s x (m.now.calls x) e.act) q in
          let next = subst (λ (c : CallState). IsCounted c (search_mark k e.act)) (sym here) (counts s m n k h e.act row) in
          rw t (counted_after s n (after s m e) (search_mark k e.act) es p.1 next)
      | inr t ↦
          let there : (after s m e).now.calls n ≡ m.now.calls n = updated_there m.now.calls e.caller n (call_after s e.caller (m.now.calls e.caller) e.act) (eqb-false e.caller n t) in
          rw t (counted_after s n (after s m e) k es p.1 (subst (λ (c : CallState). IsCounted c k) (sym there) h))
    ]

follows_prepared : (s : Setting) (n : ℕ) (m : Configuration) (es : List Entry) → are_prepared s m n es ≡ true → (may_all_follow s m es ≡ true) × (is_by n es ≡ true)
follows_prepared s n m [] h = (refl, refl)
follows_prepared s n m (e ∷ es) h =
    let p = and_parts ((e.caller == n) && may_prepare s m n e.act) (are_prepared s (after s m e) n es) h in
    let a = and_parts (e.caller == n) (may_prepare s m n e.act) p.0 in
    let row : may_follow s m (entry n e.act) ≡ true = (and_parts _ (may_follow s m (entry n e.act)) a.1).1 in
    let f : may_follow s m e ≡ true = subst (λ (x : ℕ). may_follow s m (entry x e.act) ≡ true) (sym (eqb-true e.caller n a.0)) row in
    let rest = follows_prepared s n (after s m e) es p.1 in
    (Rattle.std.proofs.lemmas.Bool.and_from (may_follow s m e) (may_all_follow s (after s m e) es) f rest.0, Rattle.std.proofs.lemmas.Bool.and_from (e.caller == n) (is_by n es) a.0 rest.1)

-- how many searches a caller has made is what its own entries say, the prepared ones included
pub searches_are : (s : Setting) (n : ℕ) (seen es : List Entry) → may_all_follow s first_configuration seen ≡ true → are_prepared s (configuration_of s seen) n es ≡ true
    → ((configuration_after s (configuration_of s seen) es).now.calls n).searches ≡ (search_marks (own n seen ++ es)).made
searches_are s n seen es f h =
    let p = follows_prepared s n (configuration_of s seen) es h in
    let a = counted_after s n first_configuration no_marks seen f (record { made = refl; stage = refl; fresh = λ _. (refl, refl) }) in
    let b = counted_after s n (configuration_of s seen) (search_marks (own n seen)) es p.0 a in
    b.made ∙ (ap (λ (l : List Entry). (search_marks_from (search_marks (own n seen)) l).made) (own_by n es p.1) ∙ ap (λ (k : SearchMarks). k.made) (sym (marks-append no_marks (own n seen) es)))
