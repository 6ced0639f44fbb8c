-- The search of caller 0 by the hint, and by passes.
use Rattle.std.proofs.Common.{◌≡◌, ℕ, zero, suc, ◌<◌, ◌≤◌, true, ◌&&◌, List, [], ◌∷◌, Option, Some, None, option_map, refl, sym, ap, subst, ◌∙◌, arith, ltb}
use Rattle.std.specs.Prelude.{filter}
use Rattle.std.specs.Option.{option_or}
use Rattle.std.specs.List.{find, list_all, AllByRecursion}
use Rattle.std.proofs.lemmas.Bool.{eq-eqb, or_right, agree_below_at, ltb-true}
use Rattle.heap_model.specs.declared.Act.TheVariants as acts
use Rattle.heap_model.specs.Buckets.{words_in_use}
use Rattle.heap_model.specs.State.{Setting, Span, is_another}
use Rattle.heap_model.specs.Stay.{is_some_of}
use Rattle.heap_model.specs.CallState.{Stage, NotBegun, AtHint, FirstPass, SecondPass, Configuration, Search, caller_view}
use Rattle.heap_model.specs.Search.{SearchKey, draw_of, first_word, spans_of, is_span_of, first_of, hint, head_of, may_see, may_miss_hint, has_not_begun, onto_span, begins_at, is_spent}
use Rattle.heap_model.specs.Legal.{after}
use Rattle.heap_model.specs.Alone.{by_zero}
use Rattle.heap_soundness.specs.Sound.{AreInOrder}
use Rattle.heap_soundness.proofs.Lists.{all_from, any_in}
use Rattle.heap_soundness.proofs.GapRuns.{filtered_cases}
use Rattle.search_laws.specs.Reading.{found_of, word_behind, block_found, reads_of, pass_found}
use Rattle.search_laws.specs.Laws.{key_of, search_of, Searches, HintIsDry, HintGives, HintIsRead, HintIsMissed, FirstPassIsRead, SecondPassIsRead}
use Rattle.search_laws.proofs.Steps.{goes_from, leads_here, leads_first, leads_so, search_missed, only_missed, may_be_missed}
use Rattle.search_laws.proofs.Words.{at_words, view_with, key, Here, SpanGives, span_is_read, word_behind_none}
use Rattle.search_laws.proofs.Passes.{found_there, none_read, Before, before_next, pass_on}
use Rattle.search_laws.proofs.Filtered.{filtered_in_order}

pub some_words : (b : ℕ) → 1 ≤ b → b ≤ 128 → 0 < words_in_use b
some_words zero l h = absurd (omega arith)
some_words (suc b) l h = ltb-true 0 (words_in_use (suc b)) (agree_below_at (λ i. ltb 0 (words_in_use (suc i))) (λ i. true) 128 b refl (omega arith))

-- a search that has lost and picked nothing
search_is : (f : Search) (stage : Stage) → f.stage ≡ stage → f.picked ≡ None → f.lost ≡ 0 → f ≡ at_words stage f.read f.exhausted f.ended
search_is f stage e p l =
    ap (λ (t : Stage). record f { stage = t }) e
    ∙ ap (λ (o : Option ℕ). record f { stage = stage; picked = o }) p
    ∙ ap (λ (n : ℕ). record f { stage = stage; picked = None; lost = n }) l

ended_is : (f : Search) (stage : Stage) → f.stage ≡ stage → f.ended ≡ true → f.picked ≡ None → f.lost ≡ 0 → f ≡ at_words stage f.read f.exhausted true
ended_is f stage e n p l = search_is f stage e p l ∙ ap (at_words stage f.read f.exhausted) n

---- The hint

here : (s : Setting) (m : Configuration) (b : ℕ) → Searches s m b → Here s b (draw_of s 0 (m.now.calls 0).searches) m.state m
here s m b h = record { goes = goes_from s b m h; state = refl; draw = refl }

pub hint_is_read : HintIsRead
hint_is_read s m b x h not_begun hinted there =
    leads_so s m (reads_of m.state.lfh g x) (SpanGives AtHint x.first [] (words_in_use b) (block_found m.state.lfh g x)) (HintGives (pass_found m.state.lfh g (x ∷ [])))
    (gives (block_found m.state.lfh g x))
    (span_is_read s b d m.state x AtHint [] m (found_there 0 m.state.back.area.spans x h.in_order (filtered_cases (is_span_of b (s.slot 0)) x m.state.back.area.spans there).0) tt some (here s m b h)
    (ap (λ (q : Search). onto_span q x.first) f) sees)
  where
    d : ℕ
    d = draw_of s 0 (m.now.calls 0).searches

    g : SearchKey
    g = key s b d

    some : 0 < words_in_use b
    some = some_words b h.range.0 h.range.1

    f : search_of m ≡ at_words NotBegun (search_of m).read (search_of m).exhausted (search_of m).ended
    f = search_is (search_of m) NotBegun not_begun h.picked h.lost

    sees : may_see m.state.back.area m.now.span_history (m.now.disturbed 0) (caller_view m 0) g x.first (word_behind g 0) ≡ true
    sees =
        let w = eq-eqb (word_behind g 0) (first_word g) (word_behind_none g some) in
        let i = any_in (begins_at x.first) (spans_of m.state.back.area b (s.slot 0)) x there (eq-eqb x.first x.first refl) in
        let j : is_some_of (hint m.state.back.area m.now.span_history b (s.slot 0)) x.first ≡ true = ap (λ (o : Option ℕ). is_some_of o x.first) hinted ∙ eq-eqb x.first x.first refl in
        let k = or_right (m.now.disturbed 0) _ j in
        subst (λ (q : Search). may_see m.state.back.area m.now.span_history (m.now.disturbed 0) (view_with (caller_view m 0) q) g x.first (word_behind g 0) ≡ true) (sym f)
        (rw (w, i, k) refl)

    gives : (o : Option ℕ) (n : Configuration) → SpanGives AtHint x.first [] (words_in_use b) o n → HintGives (option_or (option_map (found_of x) o) None) n
    gives (Some i) n h = record { picked = h.picked; read = ap (λ (hs : List ℕ). head_of hs) h.read; lost = h.lost; counts = h.counts }
    gives None n h = record { stage = ap (λ (q : Search). q.stage) h; ended = ap (λ (q : Search). q.ended) h; picked = ap (λ (q : Search). q.picked) h; lost = ap (λ (q : Search). q.lost) h }

pub hint_is_missed : HintIsMissed
hint_is_missed s m b h not_begun none =
    let go = goes_from s b m h in
    let f = search_missed s b m go (s.slot 0) in
    let misses : may_miss_hint m.state.back.area m.now.span_history 0 (search_of m) (key_of s m b) ≡ true =
    ap (λ (t : Stage). has_not_begun t && list_all (λ x. is_another 0 (m.now.span_history.makers x.first)) (spans_of m.state.back.area b (s.slot 0))) not_begun
    ∙ ap (λ (xs : List Span). list_all (λ (x : Span). is_another 0 (m.now.span_history.makers x.first)) xs) none in
    leads_first s m (acts.NoHint b (s.slot 0)) [] HintIsDry (may_be_missed s b m go (s.slot 0) refl misses) (only_missed s b m go (s.slot 0))
    (leads_here s (after s m (by_zero (acts.NoHint b (s.slot 0)))) HintIsDry (record {
      stage = ap (λ (q : Search). q.stage) f;
      ended = ap (λ (q : Search). q.ended) f;
      picked = ap (λ (q : Search). q.picked) f ∙ h.picked;
      lost = ap (λ (q : Search). q.lost) f ∙ h.lost;
    }))

---- The passes

-- each span of the bucket and the slot is the one at its page
each_there : (area_spans : List Span) (b t : ℕ) → AreInOrder 0 area_spans → AllByRecursion (λ y. find (begins_at y.first) area_spans ≡ Some y) (filter (is_span_of b t) area_spans)
each_there xs b t a = all_from (λ (y : Span). find (begins_at y.first) xs ≡ Some y) (filter (is_span_of b t) xs) (λ y i. found_there 0 xs y a (filtered_cases (is_span_of b t) y xs i).0)

pub first_pass_is_read : FirstPassIsRead
first_pass_is_read s m b h dry back no_span =
    pass_on s b d m.state FirstPass some spans 0 [] m before (none_read spans) (filtered_in_order (is_span_of b (s.slot 0)) 0 m.state.back.area.spans h.in_order) (each_there m.state.back.area.spans b (s.slot 0) h.in_order)
  where
    d : ℕ
    d = draw_of s 0 (m.now.calls 0).searches

    g : SearchKey
    g = key s b d

    some : 0 < words_in_use b
    some = some_words b h.range.0 h.range.1

    spans : List Span
    spans = spans_of m.state.back.area b (s.slot 0)

    f : search_of m ≡ at_words AtHint (search_of m).read (search_of m).exhausted true
    f = ended_is (search_of m) AtHint dry.stage dry.ended dry.picked dry.lost

    before : Before s b d m.state FirstPass some [] spans m
    before = record {
      passes = record { here = here s m b h; back = back; passing = no_span };
      onto = λ head. ap (λ (q : Search). onto_span q head) f;
      sees = λ head e.
          let w = eq-eqb (word_behind g 0) (first_word g) (word_behind_none g some) in
          let next = ap first_of (none_read spans) ∙ e in
          let i = eq-eqb head head refl in
          subst (λ (q : Search). may_see m.state.back.area m.now.span_history (m.now.disturbed 0) (view_with (caller_view m 0) q) g head (word_behind g 0) ≡ true) (sym f)
          (rw (w, back, no_span, next, i) refl);
      spent = λ e.
          subst (λ (q : Search). is_spent m.state.back.area (view_with (caller_view m 0) q) g ≡ true) (sym f)
          (rw (back, e, no_span) refl);
      picked = h.picked;
      lost = h.lost;
    }

pub second_pass_is_read : SecondPassIsRead
second_pass_is_read s m b h stage read ended back vs no_span =
    let d = draw_of s 0 (m.now.calls 0).searches in
    let some = some_words b h.range.0 h.range.1 in
    let spans = spans_of m.state.back.area b (s.slot 0) in
    let f : search_of m ≡ at_words SecondPass [] (search_of m).exhausted true =
    ended_is (search_of m) SecondPass stage ended h.picked h.lost ∙ ap (λ (rs : List ℕ). at_words SecondPass rs (search_of m).exhausted true) read in
    pass_on s b d m.state SecondPass some spans 0 [] m
    (before_next s b d m.state SecondPass some [] spans (search_of m).exhausted m (record { here = here s m b h; back = back; passing = (no_span, vs) }) f (none_read spans))
    (none_read spans) (filtered_in_order (is_span_of b (s.slot 0)) 0 m.state.back.area.spans h.in_order) (each_there m.state.back.area.spans b (s.slot 0) h.in_order)
