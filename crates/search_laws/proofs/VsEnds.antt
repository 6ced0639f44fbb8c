-- Where a bucket cannot be served, its call goes to the variable-size layer, or is refused.
use Rattle.std.proofs.Common.{◌≡◌, ℕ, ◌+◌, ◌*◌, ◌-◌, ◌/◌, ◌<◌, ◌≤◌, Bool, true, false, List, [], ◌∷◌, ◌++◌, Option, Some, None, refl, sym, ap, ◌∙◌, arith, eqb, ◌⊎◌, inl, inr}
use Rattle.std.proofs.lemmas.Bool.{lt-ltb, le-leb, eq-eqb, or_right}
use Rattle.heap_model.specs.declared.Call.{Call}
use Rattle.heap_model.specs.declared.Call.TheVariants as calls
use Rattle.heap_model.specs.declared.Act.TheVariants as acts
use Rattle.heap_model.specs.declared.Reply.TheVariants as replies
use Rattle.heap_model.specs.declared.Kind.TheVariants as kinds
use Rattle.heap_model.specs.declared.Layer.TheVariants as layers
use Rattle.heap_model.specs.declared.What.TheVariants as whats
use Rattle.heap_model.specs.Geometry.{units_of, span_pages_of}
use Rattle.heap_model.specs.Buckets.{bucket_of, bucket_pages}
use Rattle.heap_model.specs.Runs.{Run}
use Rattle.heap_model.specs.State.{Setting, BackPart, VsPart, Place, Locks, in_hand, insert_span}
use Rattle.heap_model.specs.Backend.{back_place}
use Rattle.heap_model.specs.Ranges.{gaps_of, vs_spans, vs_place}
use Rattle.heap_model.specs.CallState.{Configuration, CallState, Search, SpanHistory, Nothing, caller_view}
use Rattle.heap_model.specs.Search.{SearchKey, draw_of, is_spent}
use Rattle.heap_model.specs.Legal.{after, are_used, is_empty, with_span, serve, suits, searched_once}
use Rattle.heap_model.specs.Alone.{by_zero}
use Rattle.serial_laws.specs.OneCall.{searches_of}
use Rattle.serial_laws.specs.BackCalls.{plain}
use Rattle.serial_laws.specs.VsCalls.{vs_block, vs_span_for}
use Rattle.serial_laws.proofs.NewSpan.{lies_in_new_span}
use Rattle.serial_laws.proofs.VsAllocate.{count_is, found, vs_after, others, leaves, used_again, used_with, whole_again, whole_with}
use Rattle.serial_laws.proofs.Allocate.{come}
use Rattle.search_laws.specs.Falls.{OnlySmall, vs_with}
use Rattle.search_laws.proofs.Words.{key}
use Rattle.search_laws.proofs.Blocks.{bucket_fits}
use Rattle.search_laws.proofs.Fuller.{none_with_span, spent_with}
use Rattle.search_laws.proofs.Ends.{EndsSo}
use Rattle.search_laws.proofs.Placing.{inside}

---- Where caller 0 stands

-- its call, for which no span can be made, and of which the search is this
abbrev pub fallen : ℕ → ℕ → Search → CallState
fallen n q f = record { call = Some (calls.Alloc n plain); entered = true; placed = false; taken = false; no_span = true; searches = q; search = f }

abbrev pub both_locked : Locks
both_locked = record { lfh = None; vs = Some 0; back = Some 0; large = None }

---- The place that is given

-- a small block may be there
suits_it : (n : ℕ) (r : Run) → n ≤ 16368 → (r.count ≡ units_of n) ⊎ (r.count ≡ units_of n + 1) → suits n (vs_block r n) ≡ true
suits_it n r h (inl e) =
    let a = le-leb n (16 * r.count - 16) (omega arith) in
    let b = le-leb n 131072 (omega arith) in
    let d = eq-eqb r.count (units_of n) e in
    rw (a, b, d) refl
suits_it n r h (inr e) =
    let a = le-leb n (16 * r.count - 16) (omega arith) in
    let b = le-leb n 131072 (omega arith) in
    let d = eq-eqb r.count (units_of n + 1) e in
    rw (a, b, d) (or_right (eqb r.count (units_of n)) true refl)

---- The acts

module _ (s : Setting) (back : BackPart) (vs : VsPart) (lfh large : List Place) (words : ℕ → ℕ) (history : SpanHistory) (n b q : ℕ) (is_bucket : bucket_of n ≡ Some b) (active : vs.active b ≡ true)
    (none : in_hand 0 lfh ++ in_hand 0 vs.places ++ in_hand 0 back.places ++ in_hand 0 large ≡ []) (whole : are_used 4096 kinds.Back back.places back.area.spans ≡ true) (used : are_used 4096 kinds.Vs vs.places back.area.spans ≡ true)
    (no_range : back_place back.area s.limits.segments (bucket_pages b) ≡ None) (old : Configuration) (same_places : old.state.back.places ≡ back.places) (same_large : old.state.large ≡ large) (same_words : old.state.words ≡ words) (same_searches : searches_of old ≡ q)
    (other : ℕ → CallState) (f : Search) (disturbed : ℕ → Bool) where
  abbrev g : SearchKey
  g = key s b (draw_of s 0 q)

  abbrev call : Call
  call = calls.Alloc n plain

  -- inside under both locks, where no span of the bucket can be made
  abbrev here : Configuration
  here = inside both_locked back vs lfh large words other (fallen n q f) disturbed history Nothing

  module _ (spent : is_spent back.area (caller_view here 0) g ≡ true) (counts : searched_once f.stage ≡ 1) where
    one_more : q + searched_once f.stage ≡ searches_of old + 1
    one_more = ap (λ (k : ℕ). q + k) counts ∙ ap (λ (k : ℕ). k + 1) (sym same_searches)

    pub gap_ends : (r : Run) → vs_place (gaps_of (vs_spans back.area) vs.places) (units_of n) ≡ Some r →
        EndsSo s here call (replies.Address (16 * r.first + 16)) (λ k. OnlySmall old k back.area (vs_with vs r n b) lfh history.hints)
    gap_ends r fits =
        let a0 = acts.Place (16 * r.first) r.count layers.Vs in
        let m1 = after s here (by_zero a0) in
        let a1 = acts.Give (16 * r.first + 16) n in
        let m2 = after s m1 (by_zero a1) in
        let m3 = after s m2 (by_zero (acts.GiveLock whats.Back)) in
        let m4 = after s m3 (by_zero (acts.GiveLock whats.Vs)) in
        let r3 = acts.GiveLock whats.Vs ∷ acts.Leave ∷ [] in
        let r2 = acts.GiveLock whats.Back ∷ r3 in
        let r1 = a1 ∷ r2 in
        let there = found lfh vs.places back.places large r n none in
        let left = leaves lfh vs.places back.places large r n none in
        let again = used_again lfh vs.places back.places large r n none back.area.spans used in
        let kept = whole_again lfh vs.places back.places large r n none back.area.spans whole in
        let size = (bucket_fits n b is_bucket).0 in
        let small = le-leb n 16368 size in
        let e = eq-eqb (16 * r.first) (16 * r.first) refl in
        let d = eq-eqb r.count r.count refl in
        let same = eq-eqb b b refl in
        record {
          rest = a0 ∷ r1;
          legal =
              come s here a0 r1 (rw (small, fits, e, d, is_bucket, active, same, spent, no_range) refl)
              (come s m1 a1 r2 (rw there (suits_it n r size (count_is _ (units_of n) r fits)))
              (come s m2 (acts.GiveLock whats.Back) r3 kept
              (come s m3 (acts.GiveLock whats.Vs) (acts.Leave ∷ []) again
              (come s m4 acts.Leave [] (ap is_empty left) refl))));
          steps = λ depth. refl;
          answered = record { own = refl; shape = (refl, refl) };
          idle = record { outside = refl; holds = refl; hands = left; demand = refl };
          at_rest = record { rest = refl; hands = left; whole = kept; used = again };
          only = record {
            area_is = refl;
            vs_is =
                ap (λ (ps : List Place). record { places = ps; active = vs.active; served = serve (bucket_of n) vs.served }) (vs_after lfh vs.places back.places large r n none)
                ∙ ap (λ (o : Option ℕ). record { places = vs_block r n ∷ vs.places; active = vs.active; served = serve o vs.served }) is_bucket;
            lfh_is = others lfh vs.places back.places large r n none layers.Lfh lfh refl;
            hints_are = refl;
            back = others lfh vs.places back.places large r n none layers.Back back.places refl ∙ sym same_places;
            large = others lfh vs.places back.places large r n none layers.Large large refl ∙ sym same_large;
            words = sym same_words;
            searches = one_more;
          };
        }

    pub span_ends : (first : ℕ) (r : Run) → vs_place (gaps_of (vs_spans back.area) vs.places) (units_of n) ≡ None → back_place back.area s.limits.segments (span_pages_of n) ≡ Some first → first / 256 < back.area.reserved →
        vs_place (gaps_of (vs_spans (with_span back.area (vs_span_for first n))) vs.places) (units_of n) ≡ Some r →
        EndsSo s here call (replies.Address (16 * r.first + 16)) (λ k. OnlySmall old k (with_span back.area (vs_span_for first n)) (vs_with vs r n b) lfh history.hints)
    span_ends first r no_gap there_is reserved fits =
        let x = vs_span_for first n in
        let a0 = acts.Span first (span_pages_of n) kinds.Vs 0 0 in
        let m1 = after s here (by_zero a0) in
        let a1 = acts.Place (16 * r.first) r.count layers.Vs in
        let m2 = after s m1 (by_zero a1) in
        let a2 = acts.Give (16 * r.first + 16) n in
        let m3 = after s m2 (by_zero a2) in
        let m4 = after s m3 (by_zero (acts.GiveLock whats.Back)) in
        let m5 = after s m4 (by_zero (acts.GiveLock whats.Vs)) in
        let r4 = acts.GiveLock whats.Vs ∷ acts.Leave ∷ [] in
        let r3 = acts.GiveLock whats.Back ∷ r4 in
        let r2 = a2 ∷ r3 in
        let r1 = a1 ∷ r2 in
        let spaces = gaps_of (vs_spans (with_span back.area x)) vs.places in
        let lies = lies_in_new_span back.area.spans vs.places first n r no_gap fits in
        let there = found lfh vs.places back.places large r n none in
        let left = leaves lfh vs.places back.places large r n none in
        let again = used_with lfh vs.places back.places large r n none x back.area.spans lies used in
        let kept = whole_again lfh vs.places back.places large r n none (insert_span x back.area.spans) (whole_with back.places first n back.area.spans whole) in
        let size = (bucket_fits n b is_bucket).0 in
        let small = le-leb n 16368 size in
        let at = eq-eqb first first refl in
        let below = lt-ltb (first / 256) back.area.reserved reserved in
        let pages = eq-eqb (span_pages_of n) (span_pages_of n) refl in
        let e = eq-eqb (16 * r.first) (16 * r.first) refl in
        let d = eq-eqb r.count r.count refl in
        let same = eq-eqb b b refl in
        let still_none = none_with_span back.area x s.limits.segments b no_range in
        let still_spent = spent_with back.area x (caller_view here 0) g refl spent in
        record {
          rest = a0 ∷ r1;
          legal =
              come s here a0 r1 (rw (there_is, at, below, no_gap, pages) refl)
              (come s m1 a1 r2 (rw (lies, small, fits, e, d, is_bucket, active, same, still_spent, still_none) refl)
              (come s m2 a2 r3 (rw there (suits_it n r size (count_is spaces (units_of n) r fits)))
              (come s m3 (acts.GiveLock whats.Back) r4 kept
              (come s m4 (acts.GiveLock whats.Vs) (acts.Leave ∷ []) again
              (come s m5 acts.Leave [] (ap is_empty left) refl)))));
          steps = λ depth. refl;
          answered = record { own = refl; shape = (refl, refl) };
          idle = record { outside = refl; holds = refl; hands = left; demand = refl };
          at_rest = record { rest = refl; hands = left; whole = kept; used = again };
          only = record {
            area_is = refl;
            vs_is =
                ap (λ (ps : List Place). record { places = ps; active = vs.active; served = serve (bucket_of n) vs.served }) (vs_after lfh vs.places back.places large r n none)
                ∙ ap (λ (o : Option ℕ). record { places = vs_block r n ∷ vs.places; active = vs.active; served = serve o vs.served }) is_bucket;
            lfh_is = others lfh vs.places back.places large r n none layers.Lfh lfh refl;
            hints_are = refl;
            back = others lfh vs.places back.places large r n none layers.Back back.places refl ∙ sym same_places;
            large = others lfh vs.places back.places large r n none layers.Large large refl ∙ sym same_large;
            words = sym same_words;
            searches = one_more;
          };
        }

    pub refusal_ends : vs_place (gaps_of (vs_spans back.area) vs.places) (units_of n) ≡ None → back_place back.area s.limits.segments (span_pages_of n) ≡ None →
        EndsSo s here call replies.NoFit (λ k. OnlySmall old k back.area vs lfh history.hints)
    refusal_ends no_gap no_span =
        let m1 = after s here (by_zero (acts.NoFit n)) in
        let m2 = after s m1 (by_zero (acts.GiveLock whats.Back)) in
        let m3 = after s m2 (by_zero (acts.GiveLock whats.Vs)) in
        let r2 = acts.GiveLock whats.Vs ∷ acts.Leave ∷ [] in
        let r1 = acts.GiveLock whats.Back ∷ r2 in
        let small = le-leb n 16368 (bucket_fits n b is_bucket).0 in
        let asked = eq-eqb n n refl in
        let same = eq-eqb b b refl in
        record {
          rest = acts.NoFit n ∷ r1;
          legal =
              come s here (acts.NoFit n) r1 (rw (asked, small, no_gap, no_span, is_bucket, active, same, spent, no_range) refl)
              (come s m1 (acts.GiveLock whats.Back) r2 whole
              (come s m2 (acts.GiveLock whats.Vs) (acts.Leave ∷ []) used
              (come s m3 acts.Leave [] (ap is_empty none) refl)));
          steps = λ depth. refl;
          answered = record { own = refl; shape = refl };
          idle = record { outside = refl; holds = refl; hands = none; demand = refl };
          at_rest = record { rest = refl; hands = none; whole = whole; used = used };
          only = record { area_is = refl; vs_is = refl; lfh_is = refl; hints_are = refl; back = sym same_places; large = sym same_large; words = sym same_words; searches = one_more };
        }
