-- A call of caller 0 from where it is inside, before its search: the hint, the first pass, and a span that is made where they find nothing.
use Rattle.std.proofs.Common.{◌≡◌, ℕ, ◌+◌, ◌/◌, ◌<◌, ◌≤◌, Bool, true, false, ◌||◌, List, [], ◌∷◌, ◌++◌, Option, Some, None, refl, sym, subst, ltb}
use Rattle.std.specs.List.{list_all}
use Rattle.heap_model.specs.declared.Call.{Call}
use Rattle.heap_model.specs.declared.Call.TheVariants as calls
use Rattle.heap_model.specs.declared.Act.{Act}
use Rattle.heap_model.specs.declared.Act.TheVariants as acts
use Rattle.heap_model.specs.declared.Reply.{Reply}
use Rattle.heap_model.specs.declared.Reply.TheVariants as replies
use Rattle.heap_model.specs.declared.Kind.TheVariants as kinds
use Rattle.heap_model.specs.declared.What.TheVariants as whats
use Rattle.heap_model.specs.Buckets.{bucket_of, bucket_pages, block_address}
use Rattle.heap_model.specs.Bits.{starts_at}
use Rattle.heap_model.specs.State.{Setting, BackPart, VsPart, Span, Place, open_locks, in_hand, updated}
use Rattle.heap_model.specs.Backend.{back_place, free_runs}
use Rattle.heap_model.specs.CallState.{Configuration, CallState, Search, not_begun, SpanHistory, Nothing, SpanBy, caller_view}
use Rattle.heap_model.specs.Search.{SearchKey, draw_of, spans_of, hint, own_block}
use Rattle.heap_model.specs.Legal.{after, are_used, with_area, with_span, is_run_of, searched_once}
use Rattle.heap_model.specs.Alone.{at_rest, by_zero, configuration_by}
use Rattle.heap_soundness.specs.Sound.{IsOneOf, AreInOrder}
use Rattle.heap_soundness.proofs.MadeSpans.{bucket_is}
use Rattle.serial_laws.specs.BackCalls.{plain, one_more_reserved}
use Rattle.serial_laws.proofs.Allocate.{reserves}
use Rattle.search_laws.specs.Reading.{Found, found_of, pass_found, reads_of, pass_reads, lfh_block}
use Rattle.search_laws.specs.Laws.{search_of, Searches, LeadsTo, HintIsDry, HintGives, PassGives}
use Rattle.search_laws.specs.Calls.{OnlyLfh, hint_put, lfh_span}
use Rattle.search_laws.proofs.Words.{key}
use Rattle.search_laws.proofs.Searching.{hint_is_read, hint_is_missed, first_pass_is_read}
use Rattle.search_laws.proofs.NewSpan.{ends_span}
use Rattle.search_laws.proofs.Fuller.{spent_counts}
use Rattle.search_laws.proofs.Ends.{is_silent, as_is, EndsSo, EndsFrom, ends_act, ends_acts, span_silent, pass_silent}
use Rattle.search_laws.proofs.Placing.{asking, back_locked, inside}

-- these acts may come, and end the reading of the hint without a block
pub record IsDry (s : Setting) (m : Configuration) (rest : List Act) : Type 0 where
  pub leads : LeadsTo s m rest HintIsDry
  pub silent : list_all is_silent rest ≡ true

module _ (s : Setting) (back : BackPart) (vs : VsPart) (lfh large : List Place) (words : ℕ → ℕ) (history : SpanHistory) (n b q : ℕ) (is_bucket : bucket_of n ≡ Some b) (active : vs.active b ≡ true) (in_order : AreInOrder 0 back.area.spans) where
  abbrev g : SearchKey
  g = key s b (draw_of s 0 q)

  abbrev spans : List Span
  spans = spans_of back.area b (s.slot 0)

  range : (1 ≤ b) × (b ≤ 128)
  range = bucket_is (Some n) b is_bucket

  -- inside, before the search
  abbrev pub entered : (ℕ → CallState) → (ℕ → Bool) → Configuration
  entered other disturbed = inside open_locks back vs lfh large words other (asking n q not_begun) disturbed history Nothing

  pub searches : (other : ℕ → CallState) (disturbed : ℕ → Bool) → Searches s (entered other disturbed) b
  searches other disturbed = record {
    inside = refl;
    begun = refl;
    bucket = rw (is_bucket, active) refl;
    range = range;
    demand = refl;
    picked = refl;
    lost = refl;
    in_order = in_order;
  }

  -- the span of the hint has no free block ..
  pub dry_by_reading : (other : ℕ → CallState) (disturbed : ℕ → Bool) (x : Span) → hint back.area history b (s.slot 0) ≡ Some x.first → IsOneOf x spans → pass_found lfh g (x ∷ []) ≡ None → IsDry s (entered other disturbed) (reads_of lfh g x)
  dry_by_reading other disturbed x hinted there none = record {
    leads =
        subst (λ (o : Option Found). LeadsTo s (entered other disturbed) (reads_of lfh g x) (HintGives o)) none
        (hint_is_read s (entered other disturbed) b x (searches other disturbed) refl hinted there);
    silent = span_silent lfh g x;
  }

  -- .. or there is no span
  pub dry_by_none : (other : ℕ → CallState) (disturbed : ℕ → Bool) → spans ≡ [] → IsDry s (entered other disturbed) (acts.NoHint b (s.slot 0) ∷ [])
  dry_by_none other disturbed none = record { leads = hint_is_missed s (entered other disturbed) b (searches other disturbed) refl none; silent = refl }

  -- inside under the lock of the back end, where the search is this
  abbrev pub locked : (ℕ → CallState) → (ℕ → Bool) → Search → Configuration
  locked other disturbed f = inside back_locked back vs lfh large words other (asking n q f) disturbed history Nothing

  -- what a pass is followed by
  pub pass_then : (call : Call) (reply : Reply) (Left : Configuration → Type 0) (other : ℕ → CallState) (disturbed : ℕ → Bool) (rest : List Act) (o : Option Found) → IsDry s (entered other disturbed) rest → pass_found lfh g spans ≡ o →
      ((others : ℕ → CallState) (f : Search) → PassGives s b o (locked others disturbed f) → EndsSo s (locked others disturbed f) call reply Left) → EndsSo s (entered other disturbed) call reply Left
  pass_then call reply Left other disturbed rest o dry is_found go =
      ends_acts s call reply Left rest (entered other disturbed) dry.silent dry.leads.legal
      (subst Ends (sym (as_is (entered other disturbed) here dry.leads.only))
      (ends_act s call reply Left free (acts.TakeLock whats.Back) refl refl
      (ends_acts s call reply Left (pass_reads lfh g spans) taken (pass_silent lfh g spans) r.legal
      (subst Ends (sym e) (go there.now.calls (search_of there) (subst (PassGives s b o) e r.holds))))))
    where
      Ends : Configuration → Type 0
      Ends m = EndsSo s m call reply Left

      here : Configuration
      here = configuration_by s (entered other disturbed) rest

      free : Configuration
      free = inside open_locks back vs lfh large words here.now.calls (asking n q (search_of here)) disturbed history Nothing

      taken : Configuration
      taken = after s free (by_zero (acts.TakeLock whats.Back))

      holds : HintIsDry taken
      holds = let h = dry.leads.holds in record { stage = h.stage; ended = h.ended; picked = h.picked; lost = h.lost }

      r : LeadsTo s taken (pass_reads lfh g spans) (PassGives s b o)
      r = subst (λ (o : Option Found). LeadsTo s taken (pass_reads lfh g spans) (PassGives s b o)) is_found
          (first_pass_is_read s taken b (record {
            inside = refl;
            begun = refl;
            bucket = rw (is_bucket, active) refl;
            range = range;
            demand = refl;
            picked = holds.picked;
            lost = holds.lost;
            in_order = in_order;
          }) holds refl refl)

      there : Configuration
      there = configuration_by s taken (pass_reads lfh g spans)

      e : there ≡ locked there.now.calls disturbed (search_of there)
      e = as_is taken there r.only

  module _ (empty : in_hand 0 lfh ++ in_hand 0 vs.places ++ in_hand 0 back.places ++ in_hand 0 large ≡ []) (whole : are_used 4096 kinds.Back back.places back.area.spans ≡ true) (used : are_used 4096 kinds.Vs vs.places back.area.spans ≡ true)
      (states : ℕ → CallState) (before : ℕ → Bool) (other : ℕ → CallState) (disturbed : ℕ → Bool) (rest : List Act) (first : ℕ) (dry : IsDry s (entered other disturbed) rest) (none : pass_found lfh g spans ≡ None)
      (clear : starts_at lfh (block_address b first (own_block g)) ≡ false) where
    abbrev old : Configuration
    old = at_rest back vs lfh large words states before history

    abbrev call : Call
    call = calls.Alloc n plain

    abbrev reply : Reply
    reply = replies.Address (block_address b first (own_block g))

    abbrev x : Span
    x = lfh_span first b (s.slot 0)

    abbrev places : List Place
    places = lfh_block b n (found_of x (own_block g)) ∷ lfh

    abbrev hints : ℕ → ℕ → Option ℕ
    hints = hint_put history.hints b (s.slot 0) first

    -- a pass that finds nothing has begun the search
    is_counted : (others : ℕ → CallState) (f : Search) → PassGives s b None (locked others disturbed f) → searched_once f.stage ≡ 1
    is_counted others f spent = spent_counts back.area (caller_view (locked others disturbed f) 0) g spent.0 spent.2

    pub in_span : back_place back.area s.limits.segments (bucket_pages b) ≡ Some first → first / 256 < back.area.reserved → EndsFrom s old (entered other disturbed) call reply (with_span back.area x) places hints (q + 1)
    in_span fits reserved =
        pass_then call reply (λ k. OnlyLfh old k (with_span back.area x) places hints (q + 1)) other disturbed rest None dry none (λ others f spent.
        ends_span s back vs lfh large words n b q first is_bucket active range empty whole used fits reserved g refl old others f disturbed history Nothing refl spent.0 (is_counted others f spent) refl clear refl refl refl refl)

    pub in_next_span : let more = one_more_reserved back.area in back_place more s.limits.segments (bucket_pages b) ≡ Some first → first / 256 < back.area.reserved + 1 → back.area.reserved < s.limits.segments →
        list_all (λ r. is_run_of back.area.reserved r || ltb r.count (bucket_pages b)) (free_runs more) ≡ true → EndsFrom s old (entered other disturbed) call reply (with_span more x) places hints (q + 1)
    in_next_span fits reserved lower only =
        let more = with_area back (one_more_reserved back.area) in
        let Left : Configuration → Type 0 = λ k. OnlyLfh old k (with_span (one_more_reserved back.area) x) places hints (q + 1) in
        pass_then call reply Left other disturbed rest None dry none (λ others f spent.
        ends_act s call reply Left (locked others disturbed f) (acts.Reserve back.area.reserved) refl (reserves s back.area lower)
        (ends_span s more vs lfh large words n b q first is_bucket active range empty whole used fits reserved g refl old (updated others 0 (asking n q f)) f disturbed history (SpanBy 0 back.area.reserved) refl spent.0 (is_counted others f spent) only clear refl refl refl refl))
