-- An allocation by the back end, from a configuration at rest.
use Rattle.std.proofs.Common.{◌≡◌, ℕ, ◌+◌, ◌*◌, ◌/◌, ◌<◌, Bool, true, ◌&&◌, ◌||◌, List, [], ◌∷◌, ◌++◌, Option, Some, None, refl, sym, ap, subst, ◌∙◌, arith, eqb, leb, ltb, inl, inr}
use Rattle.std.specs.List.{find, list_any, list_all}
use Rattle.std.proofs.lemmas.Bool.{cases_Bool, and_from, lt-ltb, le-leb, eq-eqb, or_left, or_right, leb-false, false≢true}
use Rattle.heap_model.specs.declared.Call.TheVariants as calls
use Rattle.heap_model.specs.declared.Act.{Act}
use Rattle.heap_model.specs.declared.Act.TheVariants as acts
use Rattle.heap_model.specs.declared.Reply.TheVariants as replies
use Rattle.heap_model.specs.declared.Kind.TheVariants as kinds
use Rattle.heap_model.specs.declared.Layer.{Layer}
use Rattle.heap_model.specs.declared.Layer.TheVariants as layers
use Rattle.heap_model.specs.declared.What.TheVariants as whats
use Rattle.heap_model.specs.Geometry.{Route, Small, Variable, Paged, Huge, pages_of, route_of, is_paged}
use Rattle.heap_model.specs.State.{Setting, Area, BackPart, VsPart, Span, Place, Live, InHand, has_address, in_hand, hands, is_hand_at, insert_span, change_found}
use Rattle.heap_model.specs.Backend.{back_place, free_runs}
use Rattle.heap_model.specs.Ranges.{is_of_kind}
use Rattle.heap_model.specs.Stay.{is_some_of}
use Rattle.heap_model.specs.CallState.{Configuration, CallState, SpanHistory}
use Rattle.heap_model.specs.Legal.{may_follow, after, lies_in, has_place, are_used, is_empty, with_status, with_span, on, layer_of, is_run_of, searched_once}
use Rattle.heap_model.specs.Alone.{at_rest, by_zero, may_all_come}
use Rattle.heap_model.proofs.ListLemmas.{filter-insert_span}
use Rattle.serial_laws.specs.BackCalls.{plain, block_span, block_place, one_more_reserved, Ends, AllocationEnds, ReservingEnds, RefusalEnds}
use Rattle.serial_laws.proofs.Places.{all_inserted}

---- Rows

pub come : (s : Setting) (m : Configuration) (act : Act) (rest : List Act) → may_follow s m (by_zero act) ≡ true → may_all_come s (after s m (by_zero act)) rest ≡ true → may_all_come s m (act ∷ rest) ≡ true
come s m act rest h k = and_from (may_follow s m (by_zero act)) (may_all_come s (after s m (by_zero act)) rest) h k

pub paged_is : (r : Route) → is_paged r ≡ true → r ≡ Paged
paged_is Small h = absurd (false≢true h)
paged_is Variable h = absurd (false≢true h)
paged_is Paged h = refl
paged_is Huge h = absurd (false≢true h)

paged_above : (n : ℕ) → is_paged (route_of n) ≡ true → 131072 < n
paged_above n h = elim (cases_Bool (leb n 16368)) [
  | inl e ↦ let k = rw e at h in absurd (false≢true k)
  | inr e ↦ elim (cases_Bool (leb n 131072)) [
    | inl f ↦ let k = rw (e, f) at h in absurd (false≢true k)
    | inr f ↦ leb-false n 131072 f
  ]
]

pub begins : (s : Setting) (hs : List Place) → 0 < s.limits.callers → hs ≡ [] → (ltb 0 s.limits.callers && true && true && is_empty hs) ≡ true
begins s hs l h = let k = lt-ltb 0 s.limits.callers l in rw (k, h) refl

pub spans : (s : Setting) (area : Area) (first n : ℕ) → is_paged (route_of n) ≡ true → back_place area s.limits.segments (pages_of n) ≡ Some first → first / 256 < area.reserved →
    (is_some_of (back_place area s.limits.segments (pages_of n)) first && ltb (first / 256) area.reserved && true && (is_paged (route_of n) && eqb (pages_of n) (pages_of n))) ≡ true
spans s area first n p f l =
    let a = eq-eqb first first refl in
    let b = lt-ltb (first / 256) area.reserved l in
    let d = eq-eqb (pages_of n) (pages_of n) refl in
    rw (f, a, b, p, d) refl

pub places_it : (first n : ℕ) → (leb (4096 * first) (4096 * first) && leb (4096 * first + 16 * (256 * pages_of n)) (4096 * (first + pages_of n)) && eqb (256 * pages_of n) (256 * pages_of n) && true && true) ≡ true
places_it first n =
    let a = le-leb (4096 * first) (4096 * first) (omega arith) in
    let b = le-leb (4096 * first + 16 * (256 * pages_of n)) (4096 * (first + pages_of n)) (omega arith) in
    let d = eq-eqb (256 * pages_of n) (256 * pages_of n) refl in
    rw (a, b, d) refl

pub gives : (n : ℕ) → is_paged (route_of n) ≡ true → (leb n (16 * (256 * pages_of n)) && (is_paged (route_of n) && eqb (256 * pages_of n) (256 * pages_of n))) ≡ true
gives n p =
    let a = le-leb n (16 * (256 * pages_of n)) (omega arith) in
    let d = eq-eqb (256 * pages_of n) (256 * pages_of n) refl in
    rw (a, p, d) refl

-- a call that does not search leaves the count that its Begin took over
pub not_searched : (k : CallState) → k.searches + searched_once k.search.stage + 0 ≡ k.searches + searched_once k.search.stage
not_searched k = omega arith

pub reserves : (s : Setting) (area : Area) → area.reserved < s.limits.segments → (eqb area.reserved area.reserved && ltb area.reserved s.limits.segments) ≡ true
reserves s area l =
    let a = eq-eqb area.reserved area.reserved refl in
    let b = lt-ltb area.reserved s.limits.segments l in
    rw (a, b) refl

pub empty_parts : (xs ys : List Place) → xs ++ ys ≡ [] → (xs ≡ []) × (ys ≡ [])
empty_parts [] ys h = (refl, h)
empty_parts (x ∷ xs) ys h = absurd (let z : ⊥ = cc in z)

-- where nothing is in hand, nothing is in any layer
pub four_parts : (lfh vs back large : List Place) → in_hand 0 lfh ++ in_hand 0 vs ++ in_hand 0 back ++ in_hand 0 large ≡ [] →
    (in_hand 0 lfh ≡ []) × (in_hand 0 vs ≡ []) × (in_hand 0 back ≡ []) × (in_hand 0 large ≡ [])
four_parts lfh vs back large none =
    let p = empty_parts (in_hand 0 lfh ++ in_hand 0 vs ++ in_hand 0 back) (in_hand 0 large) none in
    let q = empty_parts (in_hand 0 lfh ++ in_hand 0 vs) (in_hand 0 back) p.0 in
    let r = empty_parts (in_hand 0 lfh) (in_hand 0 vs) q.0 in
    (r.0, r.1, q.1, p.1)

---- The place that is made, and given

module _ (lfh vs back large : List Place) (first n : ℕ) (none : in_hand 0 lfh ++ in_hand 0 vs ++ in_hand 0 back ++ in_hand 0 large ≡ []) where
  abbrev made : Place
  made = record { start = 4096 * first; granules = 256 * pages_of n; layer = layers.Back; status = InHand 0 }

  abbrev give : List Place → List Place
  give ps = change_found (is_hand_at 0 (4096 * first)) (with_status (Live n)) ps

  -- the place in hand at the Give
  abbrev hand : Option Place
  hand = find (has_address (4096 * first)) (in_hand 0 lfh ++ in_hand 0 vs ++ in_hand 0 (made ∷ back) ++ in_hand 0 large)

  pub found : hand ≡ Some made
  found =
      let four = four_parts lfh vs back large none in
      let a = four.0 in let b = four.1 in let d = four.2 in let e = four.3 in
      let f = eq-eqb (4096 * first) (4096 * first) refl in
      rw (a, b, d, e, f) refl

  back_after : on layers.Back give (made ∷ back) (layer_of hand) ≡ block_place first n ∷ back
  back_after = ap (λ (o : Option Place). on layers.Back give (made ∷ back) (layer_of o)) found ∙ changed
    where
      changed : give (made ∷ back) ≡ block_place first n ∷ back
      changed = let f = eq-eqb (4096 * first) (4096 * first) refl in rw f refl

  -- the places of another layer are as before
  others : (l : Layer) (ps : List Place) → on l give ps (Some layers.Back) ≡ ps → on l give ps (layer_of hand) ≡ ps
  others l ps h = ap (λ (o : Option Place). on l give ps (layer_of o)) found ∙ h

  pub leaves : in_hand 0 (on layers.Lfh give lfh (layer_of hand)) ++ in_hand 0 (on layers.Vs give vs (layer_of hand)) ++ in_hand 0 (on layers.Back give (made ∷ back) (layer_of hand)) ++ in_hand 0 (on layers.Large give large (layer_of hand)) ≡ []
  leaves =
      ap (λ (ps : List Place). in_hand 0 (on layers.Lfh give lfh (layer_of hand)) ++ in_hand 0 (on layers.Vs give vs (layer_of hand)) ++ in_hand 0 ps ++ in_hand 0 (on layers.Large give large (layer_of hand))) back_after
      ∙ ap (λ (o : Option Place). in_hand 0 (on layers.Lfh give lfh (layer_of o)) ++ in_hand 0 (on layers.Vs give vs (layer_of o)) ++ in_hand 0 back ++ in_hand 0 (on layers.Large give large (layer_of o))) found
      ∙ none

  pub whole_again : (xs : List Span) → are_used 4096 kinds.Back back xs ≡ true →
      are_used 4096 kinds.Back (on layers.Back give (made ∷ back) (layer_of hand)) (insert_span (block_span first n) xs) ≡ true
  whole_again xs h =
      let x = block_span first n in
      let given = block_place first n in
      ap (λ (ps : List Place). are_used 4096 kinds.Back ps (insert_span x xs)) back_after
      ∙ all_inserted (is_of_kind kinds.Back) (has_place 4096 back) (has_place 4096 (given ∷ back)) x xs
      (or_left (lies_in 4096 x given) (list_any (lies_in 4096 x) back) (and_from (leb (4096 * first) (4096 * first)) (leb (4096 * first + 16 * (256 * pages_of n)) (4096 * (first + pages_of n))) (le-leb _ _ (omega arith)) (le-leb _ _ (omega arith))))
      (λ y w. or_right (lies_in 4096 y given) (list_any (lies_in 4096 y) back) w) h

  -- the spans of the variable-size layer are as before
  used_again : (xs : List Span) → are_used 4096 kinds.Vs vs xs ≡ true →
      are_used 4096 kinds.Vs (on layers.Vs give vs (layer_of hand)) (insert_span (block_span first n) xs) ≡ true
  used_again xs h =
      ap (λ (ps : List Place). are_used 4096 kinds.Vs ps (insert_span (block_span first n) xs)) (others layers.Vs vs refl)
      ∙ ap (λ (ys : List Span). list_all (has_place 4096 vs) ys) (filter-insert_span (is_of_kind kinds.Vs) (block_span first n) xs refl) ∙ h

---- The calls

module _ (s : Setting) (back : BackPart) (vs : VsPart) (lfh large : List Place) (words : ℕ → ℕ) (states : ℕ → CallState) (disturbed : ℕ → Bool) (history : SpanHistory) (n : ℕ) (room : 0 < s.limits.callers) (empty : hands (at_rest back vs lfh large words states disturbed history).state 0 ≡ []) (whole : are_used 4096 kinds.Back back.places back.area.spans ≡ true) (used : are_used 4096 kinds.Vs vs.places back.area.spans ≡ true) (paged : is_paged (route_of n) ≡ true) where
  abbrev start : Configuration
  start = at_rest back vs lfh large words states disturbed history

  allocates : (first : ℕ) → back_place back.area s.limits.segments (pages_of n) ≡ Some first → first / 256 < back.area.reserved →
      Ends s start (calls.Alloc n plain) (replies.Address (4096 * first)) (with_span back.area (block_span first n)) (block_place first n ∷ back.places)
  allocates first fits low =
      let m1 = after s start (by_zero (acts.Begin (calls.Alloc n plain))) in
      let m2 = after s m1 (by_zero acts.Enter) in
      let m3 = after s m2 (by_zero (acts.TakeLock whats.Back)) in
      let a3 = acts.Span first (pages_of n) kinds.Back 0 0 in
      let m4 = after s m3 (by_zero a3) in
      let a4 = acts.Place (4096 * first) (256 * pages_of n) layers.Back in
      let m5 = after s m4 (by_zero a4) in
      let a5 = acts.Give (4096 * first) n in
      let m6 = after s m5 (by_zero a5) in
      let m7 = after s m6 (by_zero (acts.GiveLock whats.Back)) in
      let r6 = acts.GiveLock whats.Back ∷ acts.Leave ∷ [] in
      let r5 = a5 ∷ r6 in
      let r4 = a4 ∷ r5 in
      let r3 = a3 ∷ r4 in
      let r2 = acts.TakeLock whats.Back ∷ r3 in
      let there = found lfh vs.places back.places large first n empty in
      let above : 131072 < n = paged_above n paged in
      let left = leaves lfh vs.places back.places large first n empty in
      let again = whole_again lfh vs.places back.places large first n empty back.area.spans whole in
      let kept = used_again lfh vs.places back.places large first n empty back.area.spans used in
      record {
        rest = acts.Enter ∷ r2;
        completes = record {
          legal =
              come s start (acts.Begin (calls.Alloc n plain)) (acts.Enter ∷ r2) (begins s _ room empty)
              (come s m1 acts.Enter r2 refl
              (come s m2 (acts.TakeLock whats.Back) r3 refl
              (come s m3 a3 r4 (spans s back.area first n paged fits low)
              (come s m4 a4 r5 (places_it first n)
              (come s m5 a5 r6 (rw there (gives n paged))
              (come s m6 (acts.GiveLock whats.Back) (acts.Leave ∷ []) again
              (come s m7 acts.Leave [] (ap is_empty left) refl)))))));
          steps = λ depth. refl;
          answered = record { one = (refl, refl); shape = (refl, refl) };
          idle = record { outside = refl; holds = refl; hands = left; demand = refl };
        };
        at_rest = record { rest = refl; hands = left; whole = again; used = kept };
        only = record {
          area_is = refl;
          places_are = back_after lfh vs.places back.places large first n empty;
          vs = ap (λ (ps : List Place). record { places = ps; active = vs.active; served = vs.served }) (others lfh vs.places back.places large first n empty layers.Vs vs.places refl);
          lfh = others lfh vs.places back.places large first n empty layers.Lfh lfh refl;
          hints = refl;
          large = others lfh vs.places back.places large first n empty layers.Large large refl;
          words = refl;
          searches = not_searched (states 0);
        };
      }

  -- .. where the segment is reserved first
  allocates_next : (first : ℕ) → back_place (one_more_reserved back.area) s.limits.segments (pages_of n) ≡ Some first → first / 256 < back.area.reserved + 1 → back.area.reserved < s.limits.segments →
      list_all (λ r. is_run_of back.area.reserved r || ltb r.count (pages_of n)) (free_runs (one_more_reserved back.area)) ≡ true →
      Ends s start (calls.Alloc n plain) (replies.Address (4096 * first)) (with_span (one_more_reserved back.area) (block_span first n)) (block_place first n ∷ back.places)
  allocates_next first fits low lower only =
      let more = one_more_reserved back.area in
      let m1 = after s start (by_zero (acts.Begin (calls.Alloc n plain))) in
      let m2 = after s m1 (by_zero acts.Enter) in
      let mr = after s m2 (by_zero (acts.TakeLock whats.Back)) in
      let m3 = after s mr (by_zero (acts.Reserve back.area.reserved)) in
      let a3 = acts.Span first (pages_of n) kinds.Back 0 0 in
      let m4 = after s m3 (by_zero a3) in
      let a4 = acts.Place (4096 * first) (256 * pages_of n) layers.Back in
      let m5 = after s m4 (by_zero a4) in
      let a5 = acts.Give (4096 * first) n in
      let m6 = after s m5 (by_zero a5) in
      let m7 = after s m6 (by_zero (acts.GiveLock whats.Back)) in
      let r6 = acts.GiveLock whats.Back ∷ acts.Leave ∷ [] in
      let r5 = a5 ∷ r6 in
      let r4 = a4 ∷ r5 in
      let r3 = a3 ∷ r4 in
      let rr = acts.Reserve back.area.reserved ∷ r3 in
      let r2 = acts.TakeLock whats.Back ∷ rr in
      let there = found lfh vs.places back.places large first n empty in
      let above : 131072 < n = paged_above n paged in
      let left = leaves lfh vs.places back.places large first n empty in
      let again = whole_again lfh vs.places back.places large first n empty back.area.spans whole in
      let kept = used_again lfh vs.places back.places large first n empty back.area.spans used in
      record {
        rest = acts.Enter ∷ r2;
        completes = record {
          legal =
              come s start (acts.Begin (calls.Alloc n plain)) (acts.Enter ∷ r2) (begins s _ room empty)
              (come s m1 acts.Enter r2 refl
              (come s m2 (acts.TakeLock whats.Back) rr refl
              (come s mr (acts.Reserve back.area.reserved) r3 (reserves s back.area lower)
              (come s m3 a3 r4 (rw only (spans s more first n paged fits low))
              (come s m4 a4 r5 (places_it first n)
              (come s m5 a5 r6 (rw there (gives n paged))
              (come s m6 (acts.GiveLock whats.Back) (acts.Leave ∷ []) again
              (come s m7 acts.Leave [] (ap is_empty left) refl))))))));
          steps = λ depth. refl;
          answered = record { one = (refl, refl); shape = (refl, refl) };
          idle = record { outside = refl; holds = refl; hands = left; demand = refl };
        };
        at_rest = record { rest = refl; hands = left; whole = again; used = kept };
        only = record {
          area_is = refl;
          places_are = back_after lfh vs.places back.places large first n empty;
          vs = ap (λ (ps : List Place). record { places = ps; active = vs.active; served = vs.served }) (others lfh vs.places back.places large first n empty layers.Vs vs.places refl);
          lfh = others lfh vs.places back.places large first n empty layers.Lfh lfh refl;
          hints = refl;
          large = others lfh vs.places back.places large first n empty layers.Large large refl;
          words = refl;
          searches = not_searched (states 0);
        };
      }

  refuses : back_place back.area s.limits.segments (pages_of n) ≡ None → Ends s start (calls.Alloc n plain) replies.NoFit back.area back.places
  refuses none =
      let m1 = after s start (by_zero (acts.Begin (calls.Alloc n plain))) in
      let m2 = after s m1 (by_zero acts.Enter) in
      let m3 = after s m2 (by_zero (acts.TakeLock whats.Back)) in
      let m4 = after s m3 (by_zero (acts.NoFit n)) in
      let m5 = after s m4 (by_zero (acts.GiveLock whats.Back)) in
      let r4 = acts.GiveLock whats.Back ∷ acts.Leave ∷ [] in
      let r3 = acts.NoFit n ∷ r4 in
      let r2 = acts.TakeLock whats.Back ∷ r3 in
      let route = paged_is (route_of n) paged in
      let same = eq-eqb n n refl in
      record {
        rest = acts.Enter ∷ r2;
        completes = record {
          legal =
              come s start (acts.Begin (calls.Alloc n plain)) (acts.Enter ∷ r2) (begins s _ room empty)
              (come s m1 acts.Enter r2 refl
              (come s m2 (acts.TakeLock whats.Back) r3 refl
              (come s m3 (acts.NoFit n) r4 (rw (same, route, none) refl)
              (come s m4 (acts.GiveLock whats.Back) (acts.Leave ∷ []) whole
              (come s m5 acts.Leave [] (ap is_empty empty) refl)))));
          steps = λ depth. refl;
          answered = record { one = (refl, refl); shape = refl };
          idle = record { outside = refl; holds = refl; hands = empty; demand = refl };
        };
        at_rest = record { rest = refl; hands = empty; whole = whole; used = used };
        only = record { area_is = refl; places_are = refl; vs = refl; lfh = refl; hints = refl; large = refl; words = refl; searches = not_searched (states 0) };
      }

---- .. from any configuration at rest

pub allocation : AllocationEnds
allocation s m n first room r paged fits low =
    let E : Configuration → Type 0 = λ m. Ends s m (calls.Alloc n plain) (replies.Address (4096 * first)) (with_span m.state.back.area (block_span first n)) (block_place first n ∷ m.state.back.places) in
    subst E (sym r.rest) (allocates s m.state.back m.state.vs m.state.lfh m.state.large m.state.words m.now.calls m.now.disturbed m.now.span_history n room r.hands r.whole r.used paged first fits low)

pub reserving : ReservingEnds
reserving s m n first room r paged fits low lower only =
    let E : Configuration → Type 0 = λ m. Ends s m (calls.Alloc n plain) (replies.Address (4096 * first)) (with_span (one_more_reserved m.state.back.area) (block_span first n)) (block_place first n ∷ m.state.back.places) in
    subst E (sym r.rest) (allocates_next s m.state.back m.state.vs m.state.lfh m.state.large m.state.words m.now.calls m.now.disturbed m.now.span_history n room r.hands r.whole r.used paged first fits low lower only)

pub refusal : RefusalEnds
refusal s m n room r paged none =
    let E : Configuration → Type 0 = λ m. Ends s m (calls.Alloc n plain) replies.NoFit m.state.back.area m.state.back.places in
    subst E (sym r.rest) (refuses s m.state.back m.state.vs m.state.lfh m.state.large m.state.words m.now.calls m.now.disturbed m.now.span_history n room r.hands r.whole r.used paged none)
