-- An allocation by the variable-size layer, from a configuration at rest.
use Rattle.std.proofs.Common.{◌≡◌, ℕ, ◌+◌, ◌*◌, ◌-◌, ◌/◌, ◌<◌, ◌≤◌, Bool, true, false, ◌&&◌, ◌||◌, not, List, [], ◌∷◌, ◌++◌, Option, Some, None, refl, sym, ap, subst, ◌∙◌, arith, eqb, leb, ltb, option_map, is_none, max, ◌⊎◌, inl, inr}
use Rattle.std.specs.List.{find, list_any, list_all}
use Rattle.std.proofs.lemmas.Bool.{cases_Bool, lt-ltb, lt-leb, le-leb, eq-eqb, or_left, or_right, leb-true, leb-false, ltb-true, eqb-true, eqb-false, false≢true}
use Rattle.heap_model.specs.declared.Call.TheVariants as calls
use Rattle.heap_model.specs.declared.Act.TheVariants as acts
use Rattle.heap_model.specs.declared.Reply.TheVariants as replies
use Rattle.heap_model.specs.declared.Kind.TheVariants as kinds
use Rattle.heap_model.specs.declared.Layer.{Layer}
use Rattle.heap_model.specs.declared.Layer.TheVariants as layers
use Rattle.heap_model.specs.declared.What.TheVariants as whats
use Rattle.heap_model.specs.Geometry.{route_of, is_small, is_variable, units_of, span_pages_of, ceil_div}
use Rattle.heap_model.specs.Buckets.{bucket_of}
use Rattle.heap_model.specs.Runs.{Run, fitting, least}
use Rattle.heap_model.specs.State.{Setting, State, Area, BackPart, VsPart, Span, Place, Live, InHand, has_address, in_hand, hands, is_hand_at, insert_span, change_found}
use Rattle.heap_model.specs.Backend.{back_place, free_runs}
use Rattle.heap_model.specs.Ranges.{is_of_kind, gaps, gaps_of, vs_spans, is_smaller, taken_of, vs_place}
use Rattle.heap_model.specs.Stay.{is_some_of, for_some}
use Rattle.heap_model.specs.CallState.{Configuration, CallState, SpanHistory, CallerView, caller_view}
use Rattle.heap_model.specs.Search.{Request, request_of}
use Rattle.heap_model.specs.Legal.{after, lies_in, has_place, are_used, is_empty, with_status, with_span, on, layer_of, is_run_of, is_vs_place, goes_to_lfh, serve, suits, has_no_vs_range, has_no_range}
use Rattle.heap_model.specs.Alone.{at_rest, by_zero}
use Rattle.heap_model.proofs.ListLemmas.{filter-insert_span}
use Rattle.serial_laws.specs.BackCalls.{plain, one_more_reserved}
use Rattle.serial_laws.specs.VsCalls.{EndsVs, IsForVs, vs_block, vs_span_for, GapAllocationEnds, IsInNewSpan, SpanAllocationEnds, ReservingSpanEnds, VsRefusalEnds}
use Rattle.serial_laws.proofs.Places.{all_inserted, all_weaker}
use Rattle.serial_laws.proofs.NewSpan.{least_fits, lies_in_new_span}
use Rattle.serial_laws.proofs.Allocate.{come, begins, not_searched, four_parts, reserves}

---- The granules that a place takes of a gap

taken_fits : (k all : ℕ) → k ≤ all → (taken_of k all ≡ k) ⊎ (taken_of k all ≡ k + 1)
taken_fits k all h = elim (cases_Bool (ltb (all - k) 2)) [
  | inl e ↦ let l = ltb-true (all - k) 2 e in elim (cases_Bool (eqb all k)) [
    | inl f ↦ rw e (inl (eqb-true all k f))
    | inr f ↦ rw e (inr (let g = eqb-false all k f in omega arith))
  ]
  | inr e ↦ rw e (inl refl)
]

-- a place for k granules has k, or one more
pub count_is : (spaces : List Run) (k : ℕ) (r : Run) → vs_place spaces k ≡ Some r → (r.count ≡ k) ⊎ (r.count ≡ k + 1)
count_is spaces k r h = go (least is_smaller (fitting k spaces)) (λ q. least_fits is_smaller k q spaces) h
  where
    same : (q : Run) → Some (record { first = q.first; count = taken_of k q.count }) ≡ Some r → record { first = q.first; count = taken_of k q.count } ≡ r
    same q e = cc

    go : (o : Option Run) → ((q : Run) → o ≡ Some q → k ≤ q.count) → option_map (λ (q : Run). record { first = q.first; count = taken_of k q.count }) o ≡ Some r → (r.count ≡ k) ⊎ (r.count ≡ k + 1)
    go None f e = absurd (let z : ⊥ = cc in z)
    go (Some q) f e = subst (λ (p : Run). (p.count ≡ k) ⊎ (p.count ≡ k + 1)) (same q e) (taken_fits k q.count (f q refl))

---- What the tests of the acts come to

pub sized : (n : ℕ) → (is_small (route_of n) || is_variable (route_of n)) ≡ true → n ≤ 131072
sized n h = elim (cases_Bool (leb n 131072)) [
  | inl e ↦ leb-true n 131072 e
  | inr e ↦
      let l = leb-false n 131072 e in
      let f : leb n 16368 ≡ false = lt-leb n 16368 (omega arith) in
      elim (cases_Bool (leb n 520192)) [
        | inl g ↦ let k : false ≡ true = rw (f, e, g) at h in absurd (false≢true k)
        | inr g ↦ let k : false ≡ true = rw (f, e, g) at h in absurd (false≢true k)
      ]
]

-- a block of n bytes may be there
suits_it : (n : ℕ) (r : Run) → (is_small (route_of n) || is_variable (route_of n)) ≡ true → (r.count ≡ units_of n) ⊎ (r.count ≡ units_of n + 1) → suits n (vs_block r n) ≡ true
suits_it n r h (inl e) =
    let l = sized n h in
    let a = le-leb n (16 * r.count - 16) (omega arith) in
    let b = le-leb n 131072 l in
    let d = eq-eqb r.count (units_of n) e in
    rw (a, b, d) refl
suits_it n r h (inr e) =
    let l = sized n h in
    let a = le-leb n (16 * r.count - 16) (omega arith) in
    let b = le-leb n 131072 l in
    let d = eq-eqb r.count (units_of n + 1) e in
    rw (a, b, d) (or_right (eqb r.count (units_of n)) true refl)

pub no_other : (o : Option ℕ) (test : ℕ → Bool) → for_some o test ≡ false → not (for_some o (λ b. test b && true)) ≡ true
no_other None test h = refl
no_other (Some b) test h = rw h refl

-- the place may be made there
places_it : (v : VsPart) (spaces : List Run) (n : ℕ) (r : Run) → IsForVs v n → vs_place spaces (units_of n) ≡ Some r →
    ((is_small (route_of n) || is_variable (route_of n)) && is_vs_place spaces n (16 * r.first) r.count && not (for_some (bucket_of n) (λ b. goes_to_lfh v b && true))) ≡ true
places_it v spaces n r f h =
    let a = eq-eqb (16 * r.first) (16 * r.first) refl in
    let b = eq-eqb r.count r.count refl in
    let d = no_other (bucket_of n) (goes_to_lfh v) f.bucket in
    let e = f.size in
    rw (e, h, a, b, d) refl

spans : (s : Setting) (area : Area) (spaces : List Run) (first n : ℕ) → vs_place spaces (units_of n) ≡ None → back_place area s.limits.segments (span_pages_of n) ≡ Some first → first / 256 < area.reserved →
    (is_some_of (back_place area s.limits.segments (span_pages_of n)) first && ltb (first / 256) area.reserved && true && (is_none (vs_place spaces (units_of n)) && eqb (span_pages_of n) (span_pages_of n))) ≡ true
spans s area spaces first n none f l =
    let a = eq-eqb first first refl in
    let b = lt-ltb (first / 256) area.reserved l in
    let d = eq-eqb (span_pages_of n) (span_pages_of n) refl in
    rw (f, a, b, none, d) refl

-- a small size has a bucket
pub has_bucket : (n : ℕ) → leb n 16368 ≡ true → (b : ℕ) × (bucket_of n ≡ Some b)
has_bucket n h =
    let l = leb-true n 16368 h in
    let m = max 1 n in
    elim (cases_Bool (leb m 1024)) [
      | inl e ↦ (ceil_div m 16, rw e refl)
      | inr e ↦ elim (cases_Bool (leb m 2048)) [
        | inl f ↦ (64 + ceil_div (m - 1024) 64, rw (e, f) refl)
        | inr f ↦ elim (cases_Bool (leb m 4096)) [
          | inl g ↦ (80 + ceil_div (m - 2048) 128, rw (e, f, g) refl)
          | inr g ↦ elim (cases_Bool (leb m 8192)) [
            | inl i ↦ (96 + ceil_div (m - 4096) 256, rw (e, f, g, i) refl)
            | inr i ↦ let k = le-leb (max 1 n) 16368 (omega arith) in (112 + ceil_div (m - 8192) 512, rw (e, f, g, i, k) refl)
          ]
        ]
      ]
    ]

-- what a size of this layer is refused by
has_none : (s : Setting) (st : State) (k : CallerView) (q : Request) (n : ℕ) → IsForVs st.vs n → has_no_vs_range s st.back.area (gaps st) k n ≡ true → has_no_range s st 0 k q n (route_of n) ≡ true
has_none s st k q n f h = elim (cases_Bool (leb n 16368)) [
  | inl e ↦
      let b = has_bucket n e in
      let d = b.1 in
      let g : for_some (Some b.0) (goes_to_lfh st.vs) ≡ false = rw d at f.bucket in
      rw (e, h, d, g) refl
  | inr e ↦ elim (cases_Bool (leb n 131072)) [
    | inl g ↦ rw (e, g) h
    | inr g ↦ absurd (let l = sized n f.size in let z = leb-false n 131072 g in omega arith)
  ]
]

---- The place that is made, and given

module _ (lfh vs back large : List Place) (r : Run) (n : ℕ) (none : in_hand 0 lfh ++ in_hand 0 vs ++ in_hand 0 back ++ in_hand 0 large ≡ []) where
  abbrev made : Place
  made = record { start = 16 * r.first; granules = r.count; layer = layers.Vs; status = InHand 0 }

  abbrev give : List Place → List Place
  give ps = change_found (is_hand_at 0 (16 * r.first + 16)) (with_status (Live n)) ps

  -- the place in hand at the Give
  abbrev hand : Option Place
  hand = find (has_address (16 * r.first + 16)) (in_hand 0 lfh ++ in_hand 0 (made ∷ vs) ++ in_hand 0 back ++ in_hand 0 large)

  pub found : hand ≡ Some made
  found =
      let a = (four_parts lfh vs back large none).0 in
      let f = eq-eqb (16 * r.first + 16) (16 * r.first + 16) refl in
      rw (a, f) refl

  pub vs_after : on layers.Vs give (made ∷ vs) (layer_of hand) ≡ vs_block r n ∷ vs
  vs_after = ap (λ (o : Option Place). on layers.Vs give (made ∷ vs) (layer_of o)) found ∙ changed
    where
      changed : give (made ∷ vs) ≡ vs_block r n ∷ vs
      changed = let f = eq-eqb (16 * r.first + 16) (16 * r.first + 16) refl in rw f refl

  -- the places of another layer are as before
  pub others : (l : Layer) (ps : List Place) → on l give ps (Some layers.Vs) ≡ ps → on l give ps (layer_of hand) ≡ ps
  others l ps h = ap (λ (o : Option Place). on l give ps (layer_of o)) found ∙ h

  pub leaves : in_hand 0 (on layers.Lfh give lfh (layer_of hand)) ++ in_hand 0 (on layers.Vs give (made ∷ vs) (layer_of hand)) ++ in_hand 0 (on layers.Back give back (layer_of hand)) ++ in_hand 0 (on layers.Large give large (layer_of hand)) ≡ []
  leaves =
      ap (λ (ps : List Place). in_hand 0 (on layers.Lfh give lfh (layer_of hand)) ++ in_hand 0 ps ++ in_hand 0 (on layers.Back give back (layer_of hand)) ++ in_hand 0 (on layers.Large give large (layer_of hand))) vs_after
      ∙ ap (λ (o : Option Place). in_hand 0 (on layers.Lfh give lfh (layer_of o)) ++ in_hand 0 vs ++ in_hand 0 (on layers.Back give back (layer_of o)) ++ in_hand 0 (on layers.Large give large (layer_of o))) found
      ∙ none

  -- each span of this layer has a place, as one more place changes nothing ..
  pub used_again : (xs : List Span) → are_used 4096 kinds.Vs vs xs ≡ true → are_used 4096 kinds.Vs (on layers.Vs give (made ∷ vs) (layer_of hand)) xs ≡ true
  used_again xs h =
      ap (λ (ps : List Place). are_used 4096 kinds.Vs ps xs) vs_after
      ∙ all_weaker (is_of_kind kinds.Vs) (has_place 4096 vs) (has_place 4096 (vs_block r n ∷ vs)) xs (λ y w. or_right (lies_in 4096 y (vs_block r n)) (list_any (lies_in 4096 y) vs) w) h

  -- .. and it is in the span that is made for it
  pub used_with : (x : Span) (xs : List Span) → lies_in 4096 x (vs_block r n) ≡ true → are_used 4096 kinds.Vs vs xs ≡ true → are_used 4096 kinds.Vs (on layers.Vs give (made ∷ vs) (layer_of hand)) (insert_span x xs) ≡ true
  used_with x xs i h =
      ap (λ (ps : List Place). are_used 4096 kinds.Vs ps (insert_span x xs)) vs_after
      ∙ all_inserted (is_of_kind kinds.Vs) (has_place 4096 vs) (has_place 4096 (vs_block r n ∷ vs)) x xs
      (or_left (lies_in 4096 x (vs_block r n)) (list_any (lies_in 4096 x) vs) i)
      (λ y w. or_right (lies_in 4096 y (vs_block r n)) (list_any (lies_in 4096 y) vs) w) h

  -- the spans of the back end keep their places
  pub whole_again : (xs : List Span) → are_used 4096 kinds.Back back xs ≡ true → are_used 4096 kinds.Back (on layers.Back give back (layer_of hand)) xs ≡ true
  whole_again xs h = ap (λ (ps : List Place). are_used 4096 kinds.Back ps xs) (others layers.Back back refl) ∙ h

-- a span of the other kind changes nothing for them
pub whole_with : (back : List Place) (first n : ℕ) (xs : List Span) → are_used 4096 kinds.Back back xs ≡ true → are_used 4096 kinds.Back back (insert_span (vs_span_for first n) xs) ≡ true
whole_with back first n xs h = ap (λ (ys : List Span). list_all (has_place 4096 back) ys) (filter-insert_span (is_of_kind kinds.Back) (vs_span_for first n) xs refl) ∙ h

---- The calls

module _ (s : Setting) (back : BackPart) (vs : VsPart) (lfh large : List Place) (words : ℕ → ℕ) (states : ℕ → CallState) (disturbed : ℕ → Bool) (history : SpanHistory) (n : ℕ) (room : 0 < s.limits.callers) (empty : hands (at_rest back vs lfh large words states disturbed history).state 0 ≡ []) (whole : are_used 4096 kinds.Back back.places back.area.spans ≡ true) (used : are_used 4096 kinds.Vs vs.places back.area.spans ≡ true) (fits_layer : IsForVs vs n) where
  abbrev start : Configuration
  start = at_rest back vs lfh large words states disturbed history

  in_a_gap : (r : Run) → vs_place (gaps_of (vs_spans back.area) vs.places) (units_of n) ≡ Some r →
      EndsVs s start (calls.Alloc n plain) (replies.Address (16 * r.first + 16)) back.area (vs_block r n ∷ vs.places) (serve (bucket_of n) vs.served)
  in_a_gap r fits =
      let m1 = after s start (by_zero (acts.Begin (calls.Alloc n plain))) in
      let m2 = after s m1 (by_zero acts.Enter) in
      let m3 = after s m2 (by_zero (acts.TakeLock whats.Vs)) in
      let a3 = acts.Place (16 * r.first) r.count layers.Vs in
      let m4 = after s m3 (by_zero a3) in
      let a4 = acts.Give (16 * r.first + 16) n in
      let m5 = after s m4 (by_zero a4) in
      let m6 = after s m5 (by_zero (acts.GiveLock whats.Vs)) in
      let r5 = acts.GiveLock whats.Vs ∷ acts.Leave ∷ [] in
      let r4 = a4 ∷ r5 in
      let r3 = a3 ∷ r4 in
      let r2 = acts.TakeLock whats.Vs ∷ r3 in
      let there = found lfh vs.places back.places large r n empty in
      let left = leaves lfh vs.places back.places large r n empty in
      let again = used_again lfh vs.places back.places large r n empty back.area.spans used in
      record {
        rest = acts.Enter ∷ r2;
        completes = record {
          legal =
              come s start (acts.Begin (calls.Alloc n plain)) (acts.Enter ∷ r2) (begins s _ room empty)
              (come s m1 acts.Enter r2 refl
              (come s m2 (acts.TakeLock whats.Vs) r3 refl
              (come s m3 a3 r4 (places_it vs (gaps_of (vs_spans back.area) vs.places) n r fits_layer fits)
              (come s m4 a4 r5 (rw there (suits_it n r fits_layer.size (count_is _ (units_of n) r fits)))
              (come s m5 (acts.GiveLock whats.Vs) (acts.Leave ∷ []) again
              (come s m6 acts.Leave [] (ap is_empty left) refl))))));
          steps = λ depth. refl;
          answered = record { one = (refl, refl); shape = (refl, refl) };
          idle = record { outside = refl; holds = refl; hands = left; demand = refl };
        };
        at_rest = record { rest = refl; hands = left; whole = whole_again lfh vs.places back.places large r n empty back.area.spans whole; used = again };
        only = record {
          area_is = refl;
          vs_is = ap (λ (ps : List Place). record { places = ps; active = vs.active; served = serve (bucket_of n) vs.served }) (vs_after lfh vs.places back.places large r n empty);
          back = others lfh vs.places back.places large r n empty layers.Back back.places refl;
          lfh = others lfh vs.places back.places large r n empty layers.Lfh lfh refl;
          hints = refl;
          large = others lfh vs.places back.places large r n empty layers.Large large refl;
          words = refl;
          searches = not_searched (states 0);
        };
      }

  in_a_span : (first : ℕ) (r : Run) → IsInNewSpan s start back.area n first r →
      EndsVs s start (calls.Alloc n plain) (replies.Address (16 * r.first + 16)) (with_span back.area (vs_span_for first n)) (vs_block r n ∷ vs.places) (serve (bucket_of n) vs.served)
  in_a_span first r h =
      let m1 = after s start (by_zero (acts.Begin (calls.Alloc n plain))) in
      let m2 = after s m1 (by_zero acts.Enter) in
      let m3 = after s m2 (by_zero (acts.TakeLock whats.Vs)) in
      let m4 = after s m3 (by_zero (acts.TakeLock whats.Back)) in
      let a4 = acts.Span first (span_pages_of n) kinds.Vs 0 0 in
      let m5 = after s m4 (by_zero a4) in
      let a5 = acts.Place (16 * r.first) r.count layers.Vs in
      let m6 = after s m5 (by_zero a5) in
      let a6 = acts.Give (16 * r.first + 16) n in
      let m7 = after s m6 (by_zero a6) in
      let m8 = after s m7 (by_zero (acts.GiveLock whats.Back)) in
      let m9 = after s m8 (by_zero (acts.GiveLock whats.Vs)) in
      let r7 = acts.GiveLock whats.Back ∷ acts.GiveLock whats.Vs ∷ acts.Leave ∷ [] in
      let r6 = a6 ∷ r7 in
      let r5 = a5 ∷ r6 in
      let r4 = a4 ∷ r5 in
      let r3 = acts.TakeLock whats.Back ∷ r4 in
      let r2 = acts.TakeLock whats.Vs ∷ r3 in
      let x = vs_span_for first n in
      let spaces = gaps_of (vs_spans (with_span back.area x)) vs.places in
      let inside = lies_in_new_span back.area.spans vs.places first n r h.none h.fits in
      let there = found lfh vs.places back.places large r n empty in
      let left = leaves lfh vs.places back.places large r n empty in
      let again = used_with lfh vs.places back.places large r n empty x back.area.spans inside used in
      let kept = whole_again lfh vs.places back.places large r n empty (insert_span x back.area.spans) (whole_with back.places first n back.area.spans whole) in
      record {
        rest = acts.Enter ∷ r2;
        completes = record {
          legal =
              come s start (acts.Begin (calls.Alloc n plain)) (acts.Enter ∷ r2) (begins s _ room empty)
              (come s m1 acts.Enter r2 refl
              (come s m2 (acts.TakeLock whats.Vs) r3 refl
              (come s m3 (acts.TakeLock whats.Back) r4 refl
              (come s m4 a4 r5 (spans s back.area (gaps_of (vs_spans back.area) vs.places) first n h.none h.place h.reserved)
              (come s m5 a5 r6 (rw inside (places_it vs spaces n r fits_layer h.fits))
              (come s m6 a6 r7 (rw there (suits_it n r fits_layer.size (count_is spaces (units_of n) r h.fits)))
              (come s m7 (acts.GiveLock whats.Back) (acts.GiveLock whats.Vs ∷ acts.Leave ∷ []) kept
              (come s m8 (acts.GiveLock whats.Vs) (acts.Leave ∷ []) again
              (come s m9 acts.Leave [] (ap is_empty left) refl)))))))));
          steps = λ depth. refl;
          answered = record { one = (refl, refl); shape = (refl, refl) };
          idle = record { outside = refl; holds = refl; hands = left; demand = refl };
        };
        at_rest = record { rest = refl; hands = left; whole = kept; used = again };
        only = record {
          area_is = refl;
          vs_is = ap (λ (ps : List Place). record { places = ps; active = vs.active; served = serve (bucket_of n) vs.served }) (vs_after lfh vs.places back.places large r n empty);
          back = others lfh vs.places back.places large r n empty layers.Back back.places refl;
          lfh = others lfh vs.places back.places large r n empty layers.Lfh lfh refl;
          hints = refl;
          large = others lfh vs.places back.places large r n empty layers.Large large refl;
          words = refl;
          searches = not_searched (states 0);
        };
      }

  -- .. where the segment is reserved first
  in_a_span_next : (first : ℕ) (r : Run) → IsInNewSpan s start (one_more_reserved back.area) n first r → back.area.reserved < s.limits.segments →
      list_all (λ f. is_run_of back.area.reserved f || ltb f.count (span_pages_of n)) (free_runs (one_more_reserved back.area)) ≡ true →
      EndsVs s start (calls.Alloc n plain) (replies.Address (16 * r.first + 16)) (with_span (one_more_reserved back.area) (vs_span_for first n)) (vs_block r n ∷ vs.places) (serve (bucket_of n) vs.served)
  in_a_span_next first r h lower only =
      let more = one_more_reserved back.area in
      let m1 = after s start (by_zero (acts.Begin (calls.Alloc n plain))) in
      let m2 = after s m1 (by_zero acts.Enter) in
      let m3 = after s m2 (by_zero (acts.TakeLock whats.Vs)) in
      let mr = after s m3 (by_zero (acts.TakeLock whats.Back)) in
      let m4 = after s mr (by_zero (acts.Reserve back.area.reserved)) in
      let a4 = acts.Span first (span_pages_of n) kinds.Vs 0 0 in
      let m5 = after s m4 (by_zero a4) in
      let a5 = acts.Place (16 * r.first) r.count layers.Vs in
      let m6 = after s m5 (by_zero a5) in
      let a6 = acts.Give (16 * r.first + 16) n in
      let m7 = after s m6 (by_zero a6) in
      let m8 = after s m7 (by_zero (acts.GiveLock whats.Back)) in
      let m9 = after s m8 (by_zero (acts.GiveLock whats.Vs)) in
      let r7 = acts.GiveLock whats.Back ∷ acts.GiveLock whats.Vs ∷ acts.Leave ∷ [] in
      let r6 = a6 ∷ r7 in
      let r5 = a5 ∷ r6 in
      let r4 = a4 ∷ r5 in
      let rr = acts.Reserve back.area.reserved ∷ r4 in
      let r3 = acts.TakeLock whats.Back ∷ rr in
      let r2 = acts.TakeLock whats.Vs ∷ r3 in
      let x = vs_span_for first n in
      let spaces = gaps_of (vs_spans (with_span more x)) vs.places in
      let inside = lies_in_new_span back.area.spans vs.places first n r h.none h.fits in
      let there = found lfh vs.places back.places large r n empty in
      let left = leaves lfh vs.places back.places large r n empty in
      let again = used_with lfh vs.places back.places large r n empty x back.area.spans inside used in
      let kept = whole_again lfh vs.places back.places large r n empty (insert_span x back.area.spans) (whole_with back.places first n back.area.spans whole) in
      record {
        rest = acts.Enter ∷ r2;
        completes = record {
          legal =
              come s start (acts.Begin (calls.Alloc n plain)) (acts.Enter ∷ r2) (begins s _ room empty)
              (come s m1 acts.Enter r2 refl
              (come s m2 (acts.TakeLock whats.Vs) r3 refl
              (come s m3 (acts.TakeLock whats.Back) rr refl
              (come s mr (acts.Reserve back.area.reserved) r4 (reserves s back.area lower)
              (come s m4 a4 r5 (rw only (spans s more (gaps_of (vs_spans back.area) vs.places) first n h.none h.place h.reserved))
              (come s m5 a5 r6 (rw inside (places_it vs spaces n r fits_layer h.fits))
              (come s m6 a6 r7 (rw there (suits_it n r fits_layer.size (count_is spaces (units_of n) r h.fits)))
              (come s m7 (acts.GiveLock whats.Back) (acts.GiveLock whats.Vs ∷ acts.Leave ∷ []) kept
              (come s m8 (acts.GiveLock whats.Vs) (acts.Leave ∷ []) again
              (come s m9 acts.Leave [] (ap is_empty left) refl))))))))));
          steps = λ depth. refl;
          answered = record { one = (refl, refl); shape = (refl, refl) };
          idle = record { outside = refl; holds = refl; hands = left; demand = refl };
        };
        at_rest = record { rest = refl; hands = left; whole = kept; used = again };
        only = record {
          area_is = refl;
          vs_is = ap (λ (ps : List Place). record { places = ps; active = vs.active; served = serve (bucket_of n) vs.served }) (vs_after lfh vs.places back.places large r n empty);
          back = others lfh vs.places back.places large r n empty layers.Back back.places refl;
          lfh = others lfh vs.places back.places large r n empty layers.Lfh lfh refl;
          hints = refl;
          large = others lfh vs.places back.places large r n empty layers.Large large refl;
          words = refl;
          searches = not_searched (states 0);
        };
      }

  refuses : vs_place (gaps_of (vs_spans back.area) vs.places) (units_of n) ≡ None → back_place back.area s.limits.segments (span_pages_of n) ≡ None →
      EndsVs s start (calls.Alloc n plain) replies.NoFit back.area vs.places vs.served
  refuses none no_range =
      let m1 = after s start (by_zero (acts.Begin (calls.Alloc n plain))) in
      let m2 = after s m1 (by_zero acts.Enter) in
      let m3 = after s m2 (by_zero (acts.TakeLock whats.Vs)) in
      let m4 = after s m3 (by_zero (acts.TakeLock whats.Back)) in
      let m5 = after s m4 (by_zero (acts.NoFit n)) in
      let m6 = after s m5 (by_zero (acts.GiveLock whats.Back)) in
      let m7 = after s m6 (by_zero (acts.GiveLock whats.Vs)) in
      let same = eq-eqb n n refl in
      let no_fit = has_none s m4.state (caller_view m4 0) (request_of s m4 0) n (record { size = fits_layer.size; bucket = fits_layer.bucket }) (rw (none, no_range) refl) in
      let r5 = acts.GiveLock whats.Back ∷ acts.GiveLock whats.Vs ∷ acts.Leave ∷ [] in
      let r4 = acts.NoFit n ∷ r5 in
      let r3 = acts.TakeLock whats.Back ∷ r4 in
      let r2 = acts.TakeLock whats.Vs ∷ r3 in
      record {
        rest = acts.Enter ∷ r2;
        completes = record {
          legal =
              come s start (acts.Begin (calls.Alloc n plain)) (acts.Enter ∷ r2) (begins s _ room empty)
              (come s m1 acts.Enter r2 refl
              (come s m2 (acts.TakeLock whats.Vs) r3 refl
              (come s m3 (acts.TakeLock whats.Back) r4 refl
              (come s m4 (acts.NoFit n) r5 (rw same no_fit)
              (come s m5 (acts.GiveLock whats.Back) (acts.GiveLock whats.Vs ∷ acts.Leave ∷ []) whole
              (come s m6 (acts.GiveLock whats.Vs) (acts.Leave ∷ []) used
              (come s m7 acts.Leave [] (ap is_empty empty) refl)))))));
          steps = λ depth. refl;
          answered = record { one = (refl, refl); shape = refl };
          idle = record { outside = refl; holds = refl; hands = empty; demand = refl };
        };
        at_rest = record { rest = refl; hands = empty; whole = whole; used = used };
        only = record { area_is = refl; vs_is = refl; back = refl; lfh = refl; hints = refl; large = refl; words = refl; searches = not_searched (states 0) };
      }

---- .. from any configuration at rest

pub gap_allocation : GapAllocationEnds
gap_allocation s m n r room q f fits =
    let E : Configuration → Type 0 = λ m. EndsVs s m (calls.Alloc n plain) (replies.Address (16 * r.first + 16)) m.state.back.area (vs_block r n ∷ m.state.vs.places) (serve (bucket_of n) m.state.vs.served) in
    subst E (sym q.rest) (in_a_gap s m.state.back m.state.vs m.state.lfh m.state.large m.state.words m.now.calls m.now.disturbed m.now.span_history n room q.hands q.whole q.used f r fits)

pub span_allocation : SpanAllocationEnds
span_allocation s m n first r room q f h =
    let E : Configuration → Type 0 = λ m. EndsVs s m (calls.Alloc n plain) (replies.Address (16 * r.first + 16)) (with_span m.state.back.area (vs_span_for first n)) (vs_block r n ∷ m.state.vs.places) (serve (bucket_of n) m.state.vs.served) in
    subst E (sym q.rest) (in_a_span s m.state.back m.state.vs m.state.lfh m.state.large m.state.words m.now.calls m.now.disturbed m.now.span_history n room q.hands q.whole q.used f first r
    (record { none = h.none; place = h.place; reserved = h.reserved; fits = h.fits }))

pub reserving_span : ReservingSpanEnds
reserving_span s m n first r room q f h lower only =
    let E : Configuration → Type 0 = λ m. EndsVs s m (calls.Alloc n plain) (replies.Address (16 * r.first + 16)) (with_span (one_more_reserved m.state.back.area) (vs_span_for first n)) (vs_block r n ∷ m.state.vs.places) (serve (bucket_of n) m.state.vs.served) in
    subst E (sym q.rest) (in_a_span_next s m.state.back m.state.vs m.state.lfh m.state.large m.state.words m.now.calls m.now.disturbed m.now.span_history n room q.hands q.whole q.used f first r
    (record { none = h.none; place = h.place; reserved = h.reserved; fits = h.fits }) lower only)

pub vs_refusal : VsRefusalEnds
vs_refusal s m n room q f none no_range =
    let E : Configuration → Type 0 = λ m. EndsVs s m (calls.Alloc n plain) replies.NoFit m.state.back.area m.state.vs.places m.state.vs.served in
    subst E (sym q.rest) (refuses s m.state.back m.state.vs m.state.lfh m.state.large m.state.words m.now.calls m.now.disturbed m.now.span_history n room q.hands q.whole q.used f none no_range)
