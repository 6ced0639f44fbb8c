-- A pass that reads subsegments in the order of their pages.
use Rattle.std.proofs.Common.{◌≡◌, inl, inr, ℕ, ◌+◌, ◌<◌, ◌≤◌, ◌==◌, Bool, true, false, not, ◌&&◌, ◌||◌, length, Option, Some, None, refl, sym, ap, ◌∙◌, subst, arith, eq-eqb, ne_eqb}
use Rattle.std.specs.Prelude.{nat_lt, is_none}
use Rattle.std.proofs.lemmas.Bool.{and_from, or_left, or_right, lt-ltb, le-ltb, cases_lt, cases_eq, false≢true}
use Rattle.heap_model.specs.declared.What.TheVariants as whats
use Rattle.heap_model.specs.Stay.{is_some_of}
use Rattle.heap_model.specs.State.{Area, BackPart, Setting, Span, holds}
use Rattle.heap_model.specs.CallState.{CallerView, Search, Stage, NotBegun, AtHint, FirstPass, SecondPass, SpanHistory, caller_view}
use Rattle.heap_model.specs.Search.{SearchKey, spans_of, is_span_of, is_read, next_span, may_pass, may_see, may_see_at, first_word, has_not_begun, begins_span}
use Rattle.heap_soundness.specs.Sound.{IsOneOf}
use Rattle.lane_scan.specs.Matches.{IsFirstMatch, NoneMatches}
use Rattle.page_ranges.specs.Words.{runs_of}
use Rattle.page_ranges.specs.Ranges.{IsWhole}
use Rattle.claim_rule.specs.Entries.{IsSettingOf}
use Rattle.backend_fit.specs.Kept.{Kept, area_of}
use Rattle.heap_gate.specs.Token.{Token, now, Always}
use Rattle.lfh_claims.specs.Search.{own_slot}
use Rattle.lfh_claims.specs.Stays.{HasRead}
use Rattle.lfh_search.specs.declared.course.Course.{Course}
use Rattle.lfh_search.specs.Descriptors.{head_mask, head_mark}
use Rattle.lfh_search.specs.Standing.{key, dried, stage_onto, read_onto}
use Rattle.step_parts.specs.Seen.{IsSeen}
use Rattle.step_parts.proofs.Tags.{seen_in_area}
use Rattle.heap_soundness.proofs.GapRuns.{filtered_cases}
use Rattle.lfh_search.specs.Results.{MayBegin}
use Rattle.lfh_search.specs.Readings.{CanRead}
use Rattle.lfh_search.specs.Passes.{as_pass, as_pass_at, IsOfPass, IsPassing}
use Rattle.lfh_search.proofs.Readings.{seen_by}
use Rattle.lfh_search.proofs.Heads.{mine_parts, heads_shown, head_is, mine_rise, first_from}

---- What was read

-- one more was read
read_more : (f : Search) (b head lost : ℕ) (x : Span) → has_not_begun f.stage ≡ false → is_read (as_pass (dried f b head lost)) x ≡ (head == x.first) || is_read (as_pass f) x
read_more f b head lost x h = by f.stage h
  where
    by : (s : Stage) → has_not_begun s ≡ false → is_read (as_pass_at (record { stage = stage_onto s; read = read_onto s head f.read; exhausted = Rattle.heap_model.specs.Buckets.words_in_use b; ended = true; picked = None; lost = lost }) (stage_onto s)) x ≡ (head == x.first) || is_read (as_pass_at f s) x
    by NotBegun e = absurd (false≢true (sym e))
    by AtHint e = refl
    by FirstPass e = refl
    by SecondPass e = refl

-- .. so that those before the next page were
pub read_on : (f : Search) (b head from lost : ℕ) (x : Span) → has_not_begun f.stage ≡ false → from ≤ head → is_read (as_pass f) x ≡ nat_lt x.first from → (from ≤ x.first → head ≤ x.first) → is_read (as_pass (dried f b head lost)) x ≡ nat_lt x.first (head + 1)
read_on f b head from lost x h l e next = read_more f b head lost x h ∙ (ap (λ (y : Bool). (head == x.first) || y) e ∙ elim (cases_eq head x.first) [
  | inl q ↦ let t = eq-eqb head x.first q in rw t (sym (lt-ltb x.first (head + 1) (omega (arith, q))))
  | inr n ↦ let t = ne_eqb head x.first n in rw t (elim (cases_lt x.first from) [
    | inl m ↦ lt-ltb x.first from m ∙ sym (lt-ltb x.first (head + 1) (omega (arith, m, l)))
    | inr m ↦ let g = next m in le-ltb x.first from m ∙ sym (le-ltb x.first (head + 1) (omega (arith, g, n)))
  ])
])

-- .. by a pass
at_stage : (a : Area) (r : SpanHistory) (u : Bool) (v : CallerView) (f : Search) (g : SearchKey) (head word : ℕ) → f.ended ≡ true → has_not_begun f.stage ≡ false
    → begins_span a (record v { call = record v.call { search = f } }) g (as_pass f) head word ≡ true → may_see_at a r u (record v { call = record v.call { search = f } }) g head word f.stage ≡ true
at_stage a r u v f g head word e b h = by f.stage b h
  where
    by : (s : Stage) → has_not_begun s ≡ false → begins_span a (record v { call = record v.call { search = f } }) g (as_pass_at f s) head word ≡ true → may_see_at a r u (record v { call = record v.call { search = f } }) g head word s ≡ true
    by NotBegun b h = absurd (false≢true (sym b))
    by AtHint b h = rw e h
    by FirstPass b h = rw e h
    by SecondPass b h = rw e h

-- .. which may go on
pub may_go : (c : Token) (back : Kept) (course : Course) (f : Search) (from lost : ℕ) → IsPassing c back course f from lost → Always c (λ s. may_pass (caller_view (now s c) c.number) ≡ true)
may_go c back course f from lost z s q = and_from (holds (now s c).state.gate c.number whats.Back) _ (z.hint.held s q) (by f.stage z.of_pass)
  where
    by : (x : Stage) → IsOfPass c x → (not ((now s c).now.calls c.number).no_span || holds (now s c).state.gate c.number whats.Vs) ≡ true
    by SecondPass h = or_right (not ((now s c).now.calls c.number).no_span) _ (h s q)
    by NotBegun h = or_left (not ((now s c).now.calls c.number).no_span) _ (ap not (h s q))
    by AtHint h = or_left (not ((now s c).now.calls c.number).no_span) _ (ap not (h s q))
    by FirstPass h = or_left (not ((now s c).now.calls c.number).no_span) _ (ap not (h s q))

---- The next to be read

module _ (c : Token) (back : Kept) (course : Course) (f : Search) (from lost : ℕ) (z : IsPassing c back course f from lost) (whole : IsWhole back.words) (small : course.bucket < 256) where
  abbrev b : ℕ
  b = course.bucket

  abbrev t : ℕ
  t = own_slot c

  area_is : (s : Setting) → IsSettingOf c.opening c.roll s → (now s c).state.back.area ≡ area_of back
  area_is s q = sym (ap (λ (p : BackPart). p.area) (z.back_is s q).part)

  module _ (page : ℕ) (m : IsFirstMatch back.words head_mask (head_mark b t) from page) where
    pub here : (x : Span) × IsOneOf x (spans_of (area_of back) b t) × (x.first ≡ page)
    here = head_is back.words b t small 0 (length back.words) (runs_of back.words) page whole (omega arith) m.in_range m.matches

    pub not_between : (x : Span) → IsOneOf x (spans_of (area_of back) b t) → from ≤ x.first → page ≤ x.first
    not_between x i l = elim (cases_lt x.first page) [
      | inl n ↦ absurd (m.first x.first l n (heads_shown back.words b t small 0 (length back.words) (runs_of back.words) whole x i).0)
      | inr n ↦ n
    ]

    next_is : next_span (area_of back) (key b t course.draw.value) (as_pass f) ≡ Some page
    next_is = first_from 0 from page (spans_of (area_of back) b t) (λ x. not (is_read (as_pass f) x)) (mine_rise back.words b t small 0 (length back.words) (runs_of back.words) whole) (λ x i. ap not (z.read x i)) m.from not_between here.0 here.1 here.2

  -- the subsegment may be read next
  module _ (page : ℕ) (m : IsFirstMatch back.words head_mask (head_mark b t) from page) where
    begins : MayBegin c b course.draw.value page
    begins s q =
        let k = now s c in
        let v : CallerView = caller_view k c.number in
        let next : is_some_of (next_span k.state.back.area (key b t course.draw.value) (as_pass f)) page ≡ true = ap (λ (a : Area). is_some_of (next_span a (key b t course.draw.value) (as_pass f)) page) (area_is s q) ∙ (ap (λ (o : Option ℕ). is_some_of o page) (next_is page m) ∙ eq-eqb page page refl) in
        let w : CallerView = record v { call = record v.call { search = f } } in
        let e : v ≡ w = seen_by v f (z.searching s q).search in
        let may : may_pass w ≡ true = ap may_pass (sym e) ∙ may_go c back course f from lost z s q in
        let span : begins_span k.state.back.area w (key b t course.draw.value) (as_pass f) page (first_word (key b t course.draw.value)) ≡ true =
        and_from (first_word (key b t course.draw.value) == first_word (key b t course.draw.value) && may_pass w) _ (and_from (first_word (key b t course.draw.value) == first_word (key b t course.draw.value)) _ (eq-eqb (first_word (key b t course.draw.value)) (first_word (key b t course.draw.value)) refl) may) next in
        ap (λ (y : CallerView). may_see k.state.back.area k.now.span_history (k.now.disturbed c.number) y (key b t course.draw.value) page (first_word (key b t course.draw.value))) e
        ∙ and_from (is_none f.picked && nat_lt f.lost 8) _ (and_from (is_none f.picked) _ (ap is_none z.picked) (ap (λ (n : ℕ). nat_lt n 8) z.lost_is ∙ lt-ltb lost 8 z.few))
        (at_stage k.state.back.area k.now.span_history (k.now.disturbed c.number) v f (key b t course.draw.value) page (first_word (key b t course.draw.value)) z.ended z.begun span)

    pub can_read : CanRead c course f page lost
    can_read = record {
      at = record {
        between = record { between = or_right (has_not_begun f.stage) f.ended z.ended; picked = z.picked; few = subst (λ (n : ℕ). n < 8) (sym z.lost_is) z.few };
        few = z.few;
        search = f;
        stands = inl (record { none = refl; lost_is = sym z.lost_is; search = refl; begins = begins });
        searching = z.searching;
        seen = λ s q. seen s q;
        waits = z.waits;
      };
      hint = λ _. z.hint;
    }
      where
        seen : HasRead c page b t
        seen s q =
            let r = here page m in
            let p = mine_parts b t r.0 (filtered_cases (is_span_of b t) r.0 (area_of back).spans r.1).1 in
            let i = (filtered_cases (is_span_of b t) r.0 (area_of back).spans r.1).0 in
            let x = seen_in_area (now s c) r.0 (subst (λ (a : Area). IsOneOf r.0 a.spans) (sym (area_is s q)) i) p.0 in
            subst (λ (y : ℕ × ℕ × ℕ). IsSeen (now s c) y.0 y.1 y.2) (λ j. (r.2 j, p.1 j, p.2 j)) x

  -- all were read
  pub all_read : NoneMatches back.words head_mask (head_mark b t) from (length back.words) → (x : Span) → IsOneOf x (spans_of (area_of back) b t) → x.first < from
  all_read none x i = elim (cases_lt x.first from) [
    | inl n ↦ n
    | inr n ↦ let h = heads_shown back.words b t small 0 (length back.words) (runs_of back.words) whole x i in absurd (none x.first n h.2 h.0)
  ]
