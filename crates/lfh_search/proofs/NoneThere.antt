-- No subsegment is there where the hint is 0 under Back.
use Rattle.std.proofs.Common.{◌≡◌, ℕ, ◌+◌, ◌/◌, ◌%◌, ◌<◌, ◌≤◌, Bool, true, false, not, ◌&&◌, List, [], ◌∷◌, length, Option, Some, None, inl, inr, refl, sym, ap, ◌∙◌, subst, arith, eq-eqb, eqb}
use Rattle.std.specs.Prelude.{unwrap_or, nat_le, nat_lt}
use Rattle.std.specs.List.{AllByRecursion}
use Rattle.std.proofs.lemmas.Bool.{and_from, and_parts, leb-true}
use Rattle.heap_model.specs.declared.Entry.{Entry}
use Rattle.heap_model.specs.declared.Kind.{Kind}
use Rattle.heap_model.specs.declared.Kind.TheVariants as kinds
use Rattle.heap_model.specs.declared.Run.{Run}
use Rattle.heap_model.specs.State.{Setting, Area, BackPart, Span, is_kind}
use Rattle.heap_model.specs.CallState.{Configuration, SpanHistory}
use Rattle.heap_model.specs.Search.{is_span_of, spans_of, first_of, hint_or}
use Rattle.heap_model.specs.Legal.{after}
use Rattle.heap_model.specs.History.{configuration_after, configuration_of, first_configuration}
use Rattle.heap_soundness.specs.Sound.{IsOneOf, HintsNameSpans}
use Rattle.heap_soundness.proofs.HintSpans.{hints_act}
use Rattle.claim_rule.specs.Entries.{setting_of}
use Rattle.claim_rule.specs.Places.{hint_at}
use Rattle.claim_rule.specs.Shown.{hint_word, owed_or}
use Rattle.claim_rule.proofs.Advance.{some_setting}
use Rattle.page_ranges.specs.Words.{runs_of}
use Rattle.page_ranges.specs.Ranges.{AreRuns}
use Rattle.page_ranges.specs.Spans.{is_of_span, span_of, spans_in, is_usable_in, IsUsed}
use Rattle.step_parts.proofs.Filters.{in_filter, into_filter}
use Rattle.backend_fit.specs.Kept.{Kept, area_of}
use Rattle.backend_fit.specs.Sound.{IsSound}
use Rattle.heap_gate.specs.Token.{Token, now, IsStanding}
use Rattle.lfh_claims.specs.Search.{own_slot}
use Rattle.lfh_spans.specs.Hints.{ReadsHint}
use Rattle.lfh_search.specs.declared.course.Course.{Course}
use Rattle.lfh_search.specs.Under.{IsUnder, IsSpentNow}
use Rattle.lfh_search.proofs.Heads.{mine_parts}
use Rattle.lfh_search.proofs.Spent.{pass_spends}
use Rattle.lfh_search.proofs.Entering.{holds_back, said_on, back_of_on, slot_on, searching_on, begins_pass}

-- what is remembered of hints names subsegments, behind each list
hints_through : (s : Setting) (m : Configuration) (es : List Entry) → HintsNameSpans m.state.back.area m.now.span_history → HintsNameSpans (configuration_after s m es).state.back.area (configuration_after s m es).now.span_history
hints_through s m [] h = h
hints_through s m (e ∷ es) h = hints_through s (after s m e) es (hints_act s m e.caller e.act h)

hints_all : (s : Setting) (es : List Entry) → HintsNameSpans (configuration_of s es).state.back.area (configuration_of s es).now.span_history
hints_all s es = hints_through s first_configuration es (λ b t head e. absurd (let z : ⊥ = cc in z))

-- no subsegment begins at a page of a header
low_in : (reserved : ℕ) (words : List ℕ) (from to : ℕ) (rs : List Run) → AllByRecursion (IsUsed reserved) rs → AreRuns words from to rs → (x : Span) → IsOneOf x (spans_in rs) → x.kind ≡ kinds.Lfh → 2 ≤ x.first
low_in reserved words from to [] u a x i k = absurd i
low_in reserved words from to (r ∷ rs) u a x i k = by (is_of_span r.mark.kind) refl i (λ j. low_in reserved words (from + r.pages) to rs u.1 a.2 x j k)
  where
    here : span_of r ≡ x → 2 ≤ r.first
    here f =
        let e : is_usable_in reserved (r.first + 0) ≡ true = u.0 0 a.1.some ∙ ap (λ (y : Kind). not (is_kind y kinds.Header)) (ap (λ (z : Span). z.kind) f ∙ k) in
        let l = leb-true 2 ((r.first + 0) % 256) (and_parts (nat_lt ((r.first + 0) / 256) reserved) (nat_le 2 ((r.first + 0) % 256)) e).1 in
        omega (arith, l)

    by : (y : Bool) → is_of_span r.mark.kind ≡ y → IsOneOf x (spans_in (r ∷ rs)) → (IsOneOf x (spans_in rs) → 2 ≤ x.first) → 2 ≤ x.first
    by true e j more = first (rw e at j)
      where
        first : IsOneOf x (span_of r ∷ spans_in rs) → 2 ≤ x.first
        first (inl f) = subst (λ (z : Span). 2 ≤ z.first) f (here f)
        first (inr m) = more m
    by false e j more = more (rw e at j)

module _ (back : Kept) (sound : IsSound back) (b t : ℕ) where
  not_zero : (x : Span) → IsOneOf x (spans_of (area_of back) b t) → x.first ≡ 0 → ⊥
  not_zero x i e =
      let p = in_filter (is_span_of b t) (area_of back).spans x i in
      let l = low_in (area_of back).reserved back.words 0 (length back.words) (runs_of back.words) sound.used sound.whole x p.0 (mine_parts b t x p.1).0 in
      omega (arith, l, e)

  pub none_there : (r : SpanHistory) → HintsNameSpans (area_of back) r → hint_word (area_of back) r b t ≡ 0 → (x : Span) → IsOneOf x (spans_of (area_of back) b t) → ⊥
  none_there r names e x i = by (r.hints b t) refl e
    where
      lowest : (xs : List Span) → ((y : Span) → IsOneOf y xs → y.first ≡ 0 → ⊥) → IsOneOf x xs → unwrap_or (first_of xs) 0 ≡ 0 → ⊥
      lowest [] never i e = absurd i
      lowest (y ∷ ys) never i e = never y (inl refl) e

      by : (o : Option ℕ) → r.hints b t ≡ o → unwrap_or (hint_or o (first_of (spans_of (area_of back) b t))) 0 ≡ 0 → ⊥
      by None u e = lowest (spans_of (area_of back) b t) not_zero i e
      by (Some head) u e =
          let y = names b t head u in
          not_zero y.span (into_filter (is_span_of b t) (area_of back).spans y.span y.there
          (and_from (is_kind y.span.kind kinds.Lfh && eqb y.span.bucket b) (eqb y.span.slot t)
          (and_from (is_kind y.span.kind kinds.Lfh) (eqb y.span.bucket b) (ap (λ (k : Kind). is_kind k kinds.Lfh) y.kind) (eq-eqb y.span.bucket b y.bucket)) (eq-eqb y.span.slot t y.slot))) (y.begins ∙ e)

-- the search is spent then
pub spent_at_once : (c c1 : Token) (back : Kept) (course : Course) (f : Rattle.heap_model.specs.CallState.Search) (lost : ℕ) (u : IsUnder c back course f lost) (st : IsStanding c) (r : Option ℕ) (h : ReadsHint c c1 course.bucket r)
    → r ≡ None → lost < 8 → IsSound back → IsSpentNow c c1 back course lost lost
spent_at_once c c1 back course f lost u st r h none few sound =
    let held = holds_back c st u.out in
    let is = back_of_on c c1 [] tt h.runs back held u.back_is in
    let s = setting_of c1.opening c1.roll in
    let q = some_setting c1.opening c1.roll in
    let area : (now s c1).state.back.area ≡ area_of back = sym (ap (λ (p : BackPart). p.area) (is s q).part) in
    let seen : configuration_of s c1.seen ≡ now s c1 = ap (configuration_after s (configuration_of s c1.seen)) (sym h.runs.does.prepared) in
    let names : HintsNameSpans (area_of back) (now s c1).now.span_history = subst (λ (a : Area). HintsNameSpans a (now s c1).now.span_history) area
    (subst (λ (m : Configuration). HintsNameSpans m.state.back.area m.now.span_history) seen (hints_all s c1.seen)) in
    let word : hint_word (area_of back) (now s c1).now.span_history course.bucket (own_slot c) ≡ 0 = sym (ap (λ (o : Option ℕ). unwrap_or o 0) (sym none) ∙ (h.word s q
    ∙ (λ j. owed_or (u.paid j) (hint_at course.bucket (own_slot c)) (hint_word (area j) (now s c1).now.span_history course.bucket (own_slot c))))) in
    let slot = slot_on c c1 back course f lost u st r h in
    record {
      its = [];
      are = tt;
      gone = inr (h.runs, h.stands);
      count = omega arith;
      search = f;
      searching = searching_on c c1 back course f lost u st r h;
      lost_is = u.lost_is;
      few = u.few;
      makes = pass_spends c1 back course f 0 lost (begins_pass c c1 back course f lost u st r h few)
          (λ x i. absurd (none_there back sound course.bucket (own_slot c) (now s c1).now.span_history names word x (subst (λ (t : ℕ). IsOneOf x (spans_of (area_of back) course.bucket t)) slot i)));
      back_is = is;
      says = said_on c c1 [] tt h.runs;
      slot = slot;
    }
