-- A call of caller 0 whose bucket cannot be served: under both locks it has read all spans once more.
use Rattle.std.proofs.Common.{◌≡◌, ℕ, ◌+◌, ◌*◌, Bool, true, List, [], ◌++◌, Option, Some, None, refl, sym, ap, subst, arith}
use Rattle.std.proofs.lemmas.Bool.{eq-eqb}
use Rattle.heap_model.specs.declared.Call.{Call}
use Rattle.heap_model.specs.declared.Act.{Act}
use Rattle.heap_model.specs.declared.Act.TheVariants as acts
use Rattle.heap_model.specs.declared.Reply.{Reply}
use Rattle.heap_model.specs.declared.Reply.TheVariants as replies
use Rattle.heap_model.specs.declared.Kind.TheVariants as kinds
use Rattle.heap_model.specs.declared.What.TheVariants as whats
use Rattle.heap_model.specs.declared.Call.TheVariants as calls
use Rattle.heap_model.specs.Geometry.{units_of, span_pages_of}
use Rattle.heap_model.specs.Buckets.{bucket_of, bucket_pages}
use Rattle.heap_model.specs.Runs.{Run}
use Rattle.heap_model.specs.State.{Setting, BackPart, VsPart, Span, Place, in_hand, updated}
use Rattle.heap_model.specs.Backend.{back_place}
use Rattle.heap_model.specs.Ranges.{gaps_of, vs_spans, vs_place}
use Rattle.heap_model.specs.CallState.{Configuration, CallState, Search, SpanHistory, Nothing, caller_view}
use Rattle.heap_model.specs.Search.{SearchKey, draw_of, spans_of, is_spent, after_no_span}
use Rattle.heap_model.specs.Legal.{after, are_used, may_follow, step_search, with_span, searched_once}
use Rattle.heap_model.specs.Alone.{by_zero, configuration_by}
use Rattle.heap_soundness.specs.Sound.{AreInOrder}
use Rattle.heap_soundness.proofs.MadeSpans.{bucket_is}
use Rattle.serial_laws.specs.OneCall.{searches_of}
use Rattle.serial_laws.specs.BackCalls.{plain}
use Rattle.serial_laws.specs.VsCalls.{vs_span_for}
use Rattle.search_laws.specs.Reading.{Found, pass_found, pass_reads}
use Rattle.search_laws.specs.Laws.{search_of, LeadsTo, PassGives}
use Rattle.search_laws.specs.Falls.{OnlySmall, vs_with}
use Rattle.search_laws.proofs.Words.{key}
use Rattle.search_laws.proofs.Searching.{second_pass_is_read}
use Rattle.search_laws.proofs.Fuller.{is_reserved, spent_counts}
use Rattle.search_laws.proofs.Ends.{as_is, EndsSo, ends_act, ends_acts, pass_silent}
use Rattle.search_laws.proofs.Placing.{asking, back_locked, inside}
use Rattle.search_laws.proofs.Within.{IsDry, entered, locked, pass_then}
use Rattle.search_laws.proofs.VsEnds.{fallen, both_locked, gap_ends, span_ends, refusal_ends}

module _ (s : Setting) (back : BackPart) (vs : VsPart) (lfh large : List Place) (words : ℕ → ℕ) (history : SpanHistory) (n b q : ℕ) (is_bucket : bucket_of n ≡ Some b) (active : vs.active b ≡ true) (in_order : AreInOrder 0 back.area.spans)
    (no_range : back_place back.area s.limits.segments (bucket_pages b) ≡ None) where
  abbrev g : SearchKey
  g = key s b (draw_of s 0 q)

  abbrev spans : List Span
  spans = spans_of back.area b (s.slot 0)

  abbrev start : (ℕ → CallState) → (ℕ → Bool) → Configuration
  start other disturbed = entered s back vs lfh large words history n b q is_bucket active in_order other disturbed

  -- inside under both locks, where no span of the bucket can be made
  abbrev unserved : (ℕ → CallState) → (ℕ → Bool) → Search → Configuration
  unserved other disturbed f = inside both_locked back vs lfh large words other (fallen n q f) disturbed history Nothing

  abbrev IsUnserved : Configuration → Type 0
  IsUnserved m = (is_spent back.area (caller_view m 0) g ≡ true) × (searched_once (search_of m).stage ≡ 1)

  -- from the end of the first pass on
  second : (call : Call) (reply : Reply) (Left : Configuration → Type 0) (other : ℕ → CallState) (disturbed : ℕ → Bool) (f : Search) → pass_found lfh g spans ≡ None →
      PassGives s b None (locked s back vs lfh large words history n b q is_bucket active in_order other disturbed f) →
      ((others : ℕ → CallState) (f : Search) → IsUnserved (unserved others disturbed f) → EndsSo s (unserved others disturbed f) call reply Left) →
      EndsSo s (locked s back vs lfh large words history n b q is_bucket active in_order other disturbed f) call reply Left
  second call reply Left other disturbed f none spent go =
      ends_act s call reply Left m (acts.NoSpan b) refl may
      (subst Ends (sym next)
      (ends_act s call reply Left dropped (acts.TakeLock whats.Vs) refl refl
      (ends_acts s call reply Left (pass_reads lfh g spans) taken (pass_silent lfh g spans) r.legal
      (subst Ends (sym e) (go there.now.calls (search_of there) (unserved_there (subst (PassGives s b None) e r.holds)))))))
    where
      Ends : Configuration → Type 0
      Ends m = EndsSo s m call reply Left

      m : Configuration
      m = inside back_locked back vs lfh large words other (asking n q f) disturbed history Nothing

      may : may_follow s m (by_zero (acts.NoSpan b)) ≡ true
      may = let same = eq-eqb b b refl in let dry = spent.0 in rw (is_bucket, active, same, dry, no_range) refl

      -- no span can be made
      dropped : Configuration
      dropped = inside back_locked back vs lfh large words (updated other 0 (asking n q f)) (fallen n q (after_no_span f)) disturbed history Nothing

      next : after s m (by_zero (acts.NoSpan b)) ≡ dropped
      next = ap (λ (o : Option ℕ). inside back_locked back vs lfh large words (updated other 0 (asking n q f)) (record (step_search s 0 (asking n q f) (λ g f. after_no_span f) o) { no_span = true }) disturbed history Nothing) is_bucket

      taken : Configuration
      taken = after s dropped (by_zero (acts.TakeLock whats.Vs))

      r : LeadsTo s taken (pass_reads lfh g spans) (PassGives s b None)
      r = subst (λ (o : Option Found). LeadsTo s taken (pass_reads lfh g spans) (PassGives s b o)) none
          (second_pass_is_read s taken b (record {
            inside = refl;
            begun = refl;
            bucket = rw (is_bucket, active) refl;
            range = bucket_is (Some n) b is_bucket;
            demand = refl;
            picked = refl;
            lost = spent.2;
            in_order = in_order;
          }) refl refl refl refl refl refl)

      there : Configuration
      there = configuration_by s taken (pass_reads lfh g spans)

      e : there ≡ unserved there.now.calls disturbed (search_of there)
      e = as_is taken there r.only

      unserved_there : PassGives s b None (unserved there.now.calls disturbed (search_of there)) → IsUnserved (unserved there.now.calls disturbed (search_of there))
      unserved_there p = (p.0, spent_counts back.area (caller_view (unserved there.now.calls disturbed (search_of there)) 0) g p.0 p.2)

  module _ (empty : in_hand 0 lfh ++ in_hand 0 vs.places ++ in_hand 0 back.places ++ in_hand 0 large ≡ []) (whole : are_used 4096 kinds.Back back.places back.area.spans ≡ true) (used : are_used 4096 kinds.Vs vs.places back.area.spans ≡ true)
      (old : Configuration) (same_places : old.state.back.places ≡ back.places) (same_large : old.state.large ≡ large) (same_words : old.state.words ≡ words) (same_searches : searches_of old ≡ q)
      (other : ℕ → CallState) (disturbed : ℕ → Bool) (rest : List Act) (dry : IsDry s (start other disturbed) rest) (none : pass_found lfh g spans ≡ None) where
    abbrev call : Call
    call = calls.Alloc n plain

    then_vs : (reply : Reply) (Left : Configuration → Type 0) → ((others : ℕ → CallState) (f : Search) → IsUnserved (unserved others disturbed f) → EndsSo s (unserved others disturbed f) call reply Left) →
        EndsSo s (start other disturbed) call reply Left
    then_vs reply Left go =
        pass_then s back vs lfh large words history n b q is_bucket active in_order call reply Left other disturbed rest None dry none (λ others f spent.
        second call reply Left others disturbed f none spent go)

    pub to_gap : (r : Run) → vs_place (gaps_of (vs_spans back.area) vs.places) (units_of n) ≡ Some r →
        EndsSo s (start other disturbed) call (replies.Address (16 * r.first + 16)) (λ k. OnlySmall old k back.area (vs_with vs r n b) lfh history.hints)
    to_gap r fits =
        then_vs (replies.Address (16 * r.first + 16)) (λ k. OnlySmall old k back.area (vs_with vs r n b) lfh history.hints) (λ others f spent.
        gap_ends s back vs lfh large words history n b q is_bucket active empty whole used no_range old same_places same_large same_words same_searches others f disturbed spent.0 spent.1 r fits)

    pub to_span : (first : ℕ) (r : Run) → vs_place (gaps_of (vs_spans back.area) vs.places) (units_of n) ≡ None → back_place back.area s.limits.segments (span_pages_of n) ≡ Some first →
        vs_place (gaps_of (vs_spans (with_span back.area (vs_span_for first n))) vs.places) (units_of n) ≡ Some r →
        EndsSo s (start other disturbed) call (replies.Address (16 * r.first + 16)) (λ k. OnlySmall old k (with_span back.area (vs_span_for first n)) (vs_with vs r n b) lfh history.hints)
    to_span first r no_gap there_is fits =
        let reserved = is_reserved back.area s.limits.segments b (span_pages_of n) first (omega arith) no_range there_is in
        then_vs (replies.Address (16 * r.first + 16)) (λ k. OnlySmall old k (with_span back.area (vs_span_for first n)) (vs_with vs r n b) lfh history.hints) (λ others f spent.
        span_ends s back vs lfh large words history n b q is_bucket active empty whole used no_range old same_places same_large same_words same_searches others f disturbed spent.0 spent.1 first r no_gap there_is reserved fits)

    pub to_refusal : vs_place (gaps_of (vs_spans back.area) vs.places) (units_of n) ≡ None → back_place back.area s.limits.segments (span_pages_of n) ≡ None →
        EndsSo s (start other disturbed) call replies.NoFit (λ k. OnlySmall old k back.area vs lfh history.hints)
    to_refusal no_gap no_span =
        then_vs replies.NoFit (λ k. OnlySmall old k back.area vs lfh history.hints) (λ others f spent.
        refusal_ends s back vs lfh large words history n b q is_bucket active empty whole used no_range old same_places same_large same_words same_searches others f disturbed spent.0 spent.1 no_gap no_span)
