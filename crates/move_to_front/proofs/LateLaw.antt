-- Where the front end could not serve a block that moves, a span of VS is made for it: its old block cannot stay still, and the front end cannot serve it still.
use Rattle.std.proofs.Common.{◌≡◌, ℕ, ◌+◌, ◌*◌, ◌/◌, ◌<◌, ◌≤◌, Bool, true, false, not, ◌&&◌, ◌||◌, List, [], ◌∷◌, Option, Some, None, refl, sym, ap, ◌∙◌, arith, eqb, ltb}
use Rattle.std.specs.Prelude.{cond, is_none, is_some, nat_le, option_and_then}
use Rattle.std.proofs.lemmas.Bool.{and_from, and_parts, eq-eqb, lt-ltb, le-leb, false≢true}
use Rattle.heap_model.specs.declared.Act.{Act}
use Rattle.heap_model.specs.declared.Act.TheVariants as acts
use Rattle.heap_model.specs.declared.Call.{Call}
use Rattle.heap_model.specs.declared.Call.TheVariants as calls
use Rattle.heap_model.specs.declared.Flags.{Flags}
use Rattle.heap_model.specs.declared.Kind.TheVariants as kinds
use Rattle.heap_model.specs.declared.Layer.{Layer}
use Rattle.heap_model.specs.declared.Layer.TheVariants as layers
use Rattle.heap_model.specs.Backend.{back_place}
use Rattle.heap_model.specs.Buckets.{bucket_of, bucket_pages}
use Rattle.heap_model.specs.CallState.{Configuration, CallState, Nothing, caller_view}
use Rattle.heap_model.specs.Geometry.{units_of, span_pages_of, route_of, is_paged, is_huge}
use Rattle.heap_model.specs.Legal.{may, may_follow, meets_demand, is_begin, after, lies_in, with_span, cannot_be_served, fits_none, serve}
use Rattle.heap_model.specs.Ranges.{vs_spans, gaps, gaps_of, vs_place}
use Rattle.heap_model.specs.Runs.{Run}
use Rattle.heap_model.specs.Search.{SearchKey, asked, request_for, request_of, search_key_of, is_spent, sought, sought_by, has_to_move}
use Rattle.heap_model.specs.State.{Setting, State, Area, Span, Place, InHand, insert_span, is_live, is_in_hand_of, place_at, exclusive_places, all_places, has_address}
use Rattle.heap_model.specs.Stay.{for_some, is_some_of, lets_stay, run_from}
use Rattle.heap_soundness.specs.Sound.{AreInOrder}
use Rattle.claim_rule.specs.Entries.{entry}
use Rattle.serial_laws.specs.VsCalls.{vs_span_for, vs_block}
use Rattle.serial_laws.proofs.Found.{find_front}
use Rattle.serial_laws.proofs.NewSpan.{lies_in_new_span}
use Rattle.search_laws.proofs.Fuller.{is_reserved, none_with_span, spent_with}
use Rattle.call_laws.specs.Within.{by_all, by_caller, IsWithin, LeadAllTo}
use Rattle.call_laws.specs.Spans.{vs_acts, with_vs_block}
use Rattle.call_laws.proofs.Exclusive.{falling_into_gap}
use Rattle.call_laws.proofs.Places.{asks}
use Rattle.call_laws.proofs.Spans.{call_behind, follows_with, two_follow}
use Rattle.call_laws.proofs.Within.{updated_here, follows}
use Rattle.backend_fit.proofs.Goes.{same_segment}
use Rattle.call_parts.proofs.Tokens.{prepares, one_prepared}
use Rattle.vs_calls.proofs.SpanMay.{SpanLeads, spans_with}
use Rattle.move_parts.proofs.Movers.{IsMine, holds_mine, mine_area}
use Rattle.move_to_front.proofs.RunsBeside.{IsOutside, free_beside}

none_is : {A : Type 0} (o : Option A) → is_none o ≡ true → o ≡ None
none_is None e = refl
none_is (Some y) e = absurd (false≢true e)

not_paged : (n : ℕ) → n ≤ 16368 → (is_paged (route_of n) ≡ false) × (is_huge (route_of n) ≡ false)
not_paged n l = let e = le-leb n 16368 l in (rw e refl, rw e refl)

-- the row of a span of VS
span_row : (en bk vs : Bool) → en ≡ true → bk ≡ true → vs ≡ true → (s : Setting) (a : Area) (spaces : List Run) (first n : ℕ) (o : Option ℕ) → o ≡ Some n → vs_place spaces (units_of n) ≡ None →
    back_place a s.limits.segments (span_pages_of n) ≡ Some first → first / 256 < a.reserved →
    (en && bk && is_some_of (back_place a s.limits.segments (span_pages_of n)) first && ltb (first / 256) a.reserved && true && (vs && for_some o (λ k. is_none (vs_place spaces (units_of k)) && eqb (span_pages_of n) (span_pages_of k)))) ≡ true
span_row en bk vs x y z s a spaces first n o e none f l =
    let e1 = eq-eqb first first refl in
    let e2 = lt-ltb (first / 256) a.reserved l in
    let e3 = eq-eqb (span_pages_of n) (span_pages_of n) refl in
    rw (x, y, z, f, e1, e2) (rw (e, none, e3) refl)

module _ (s : Setting) (m : Configuration) (c addr n b first : ℕ) (r : Run) (flags : Flags) (p : Place) (w : IsWithin m c (calls.Realloc addr n flags)) (vs : (caller_view m c).vs ≡ true) (back : (caller_view m c).back ≡ true)
    (said : (m.now.calls c).no_span ≡ true) (bucket : bucket_of n ≡ Some b) (refused : cannot_be_served s m.state.back.area c (caller_view m c) (request_of s m c) b ≡ true)
    (none : vs_place (gaps m.state) (units_of n) ≡ None) (there : back_place m.state.back.area s.limits.segments (span_pages_of n) ≡ Some first)
    (fits : vs_place (gaps_of (vs_spans (with_span m.state.back.area (vs_span_for first n))) m.state.vs.places) (units_of n) ≡ Some r)
    (few : n ≤ 16368) (old : IsMine m c addr p) (leaves : lets_stay s.limits m.state p n ≡ false) where
  abbrev call : Call
  call = calls.Realloc addr n flags

  abbrev area : Area
  area = m.state.back.area

  abbrev new_span : Span
  new_span = vs_span_for first n

  abbrev own_key : SearchKey
  own_key = search_key_of s c (m.now.calls c) b

  abbrev span : Act
  span = acts.Span first (span_pages_of n) kinds.Vs 0 0

  abbrev place : Act
  place = acts.Place (16 * r.first) r.count layers.Vs

  spent_dry : ((is_some_of (request_of s m c).search b && is_spent area (caller_view m c) own_key) ≡ true) × (fits_none s area (bucket_pages b) ≡ true)
  spent_dry = and_parts (is_some_of (request_of s m c).search b && is_spent area (caller_view m c) own_key) (fits_none s area (bucket_pages b)) refused

  no_pages : back_place area s.limits.segments (bucket_pages b) ≡ None
  no_pages = none_is (back_place area s.limits.segments (bucket_pages b)) spent_dry.1

  pub low : first / 256 < area.reserved
  low = is_reserved area s.limits.segments b (span_pages_of n) first (omega arith) no_pages there

  ---- The span

  span_may : may_follow s m (by_caller c span) ≡ true
  span_may =
      follows s m c call span w
      (span_row (caller_view m c).entered (caller_view m c).back (caller_view m c).vs w.entered back vs s area (gaps m.state) first n (asked (m.now.calls c)) (asks m c call n w refl) none there low)

  module _ (order : AreInOrder 0 area.spans) (outside : p.layer ≡ layers.Vs → IsOutside (p.start / 16 + p.granules) new_span) where
    ---- Behind it

    abbrev later : Configuration
    later = after s m (by_caller c span)

    same_call : later.now.calls c ≡ m.now.calls c
    same_call = updated_here m.now.calls c (m.now.calls c)

    same_view : caller_view later c ≡ caller_view m c
    same_view = ap (λ (k : CallState). record (caller_view m c) { call = k }) same_call

    -- the old block cannot stay still
    leaves_later : lets_stay s.limits later.state p n ≡ false
    leaves_later = by p.layer refl
      where
        by : (l : Layer) → p.layer ≡ l → lets_stay s.limits later.state p n ≡ false
        by layers.Lfh e = (let g = rw e at leaves in rw e g)
        by layers.Vs e =
            let g = rw e at leaves in
            let spans : vs_spans (with_span area new_span) ≡ insert_span new_span (vs_spans area) = spans_with area first n order in
            let same : run_from (gaps_of (vs_spans (with_span area new_span)) m.state.vs.places) (p.start / 16 + p.granules) ≡ run_from (gaps m.state) (p.start / 16 + p.granules) =
            ap (λ (xs : List Span). run_from (gaps_of xs m.state.vs.places) (p.start / 16 + p.granules)) spans ∙ free_beside m.state.vs.places new_span (vs_spans area) (p.start / 16 + p.granules) (outside e) in
            rw e (ap (λ (y : ℕ). nat_le n 131072 && nat_le (units_of n) (p.granules + y)) same ∙ g)
        by layers.Back e = (let z = (not_paged n few).0 in rw (e, z) refl)
        by layers.Large e = (let z = (not_paged n few).1 in rw (e, z) refl)

    there_m : place_at m.state c addr ≡ Some p
    there_m = find_front (has_address addr) (exclusive_places m.state c) (all_places m.state) p old.first

    same_moves : for_some (place_at later.state c addr) (has_to_move s later.state c n) ≡ for_some (place_at m.state c addr) (has_to_move s m.state c n)
    same_moves =
        ap (λ (o : Option Place). for_some o (has_to_move s later.state c n)) there_m
        ∙ (ap (λ (f : Bool). (is_live p.status || is_in_hand_of c p.status) && not f) (leaves_later ∙ sym leaves) ∙ sym (ap (λ (o : Option Place). for_some o (has_to_move s m.state c n)) there_m))

    sought_so : (st : State) → sought s st c (m.now.calls c) ≡ cond (m.now.calls c).placed None (cond (not flags.in_place && for_some (place_at st c addr) (has_to_move s st c n)) (Some n) None)
    sought_so st = ap (λ (o : Option Call). cond (m.now.calls c).placed None (option_and_then (sought_by s st c) o)) w.call_is

    same_sought : sought s later.state c (m.now.calls c) ≡ sought s m.state c (m.now.calls c)
    same_sought = sought_so later.state ∙ (ap (λ (t : Bool). cond (m.now.calls c).placed None (cond (not flags.in_place && t) (Some n) None)) same_moves ∙ sym (sought_so m.state))

    same_request : request_of s later c ≡ request_of s m c
    same_request = ap (request_for m.state.vs.active) (ap (sought s later.state c) same_call ∙ same_sought)

    -- the front end cannot serve the bucket still
    still : cannot_be_served s later.state.back.area c (caller_view later c) (request_of s later c) b ≡ true
    still =
        let p2 = and_parts (is_some_of (request_of s m c).search b) (is_spent area (caller_view m c) own_key) spent_dry.0 in
        let spent = spent_with area new_span (caller_view m c) own_key refl p2.1 in
        let dry = ap is_none (none_with_span area new_span s.limits.segments b no_pages) in
        (λ i. cannot_be_served s (with_span area new_span) c (same_view i) (same_request i) b)
        ∙ and_from (is_some_of (request_of s m c).search b && is_spent (with_span area new_span) (caller_view m c) own_key) (fits_none s (with_span area new_span) (bucket_pages b))
        (and_from (is_some_of (request_of s m c).search b) (is_spent (with_span area new_span) (caller_view m c) own_key) p2.0 spent) dry

    -- .. with nothing that has to follow
    abbrev free : Configuration
    free = record later { now = record later.now { demand = Nothing } }

    late_into_span : LeadAllTo s m c call (vs_acts first n r) (with_vs_block m.state area c first n r)
    late_into_span =
        let call1 = call_behind s m c call span refl w.call_is in
        let placed = falling_into_gap s free c call n b r (record { entered = w.entered; call_is = call1; demand = refl }) vs back (ap (λ (k : CallState). k.no_span) same_call ∙ said) refl bucket still fits in
        let row = (and_parts (meets_demand free.state.back.area (by_caller c place) free.now.demand && (is_begin place || is_some (free.now.calls c).call)) (may s free c place) placed.may).1 in
        let lies : lies_in 4096 (vs_span_for first n) (vs_block r n) ≡ true = lies_in_new_span area.spans m.state.vs.places first n r none fits in
        let meets = and_from (eqb c c) _ (eq-eqb c c refl) (and_from (lies_in 4096 (vs_span_for first n) (vs_block r n)) true lies refl) in
        record {
          may = two_follow s m c span place span_may (follows_with s later c call place call1 meets row);
          state =
              placed.state ∙ ap (λ (o : Option ℕ). record m.state {
                back = record { area = with_span area (vs_span_for first n); places = m.state.back.places };
                vs = record { places = record { start = 16 * r.first; granules = r.count; layer = layers.Vs; status = InHand c } ∷ m.state.vs.places; active = m.state.vs.active; served = serve o m.state.vs.served };
              }) (sym bucket);
          within = record { entered = w.entered; call_is = call_behind s later c call place refl call1; demand = refl };
        }

    -- both entries can be prepared
    pub late_leads : SpanLeads s m c (vs_acts first n r) first n r
    late_leads =
        let l = late_into_span in
        let x = and_parts (may_follow s m (entry c span)) _ l.may in
        let y = and_parts (may_follow s (after s m (entry c span)) (entry c place)) true x.1 in
        let m1 = after s m (entry c span) in
        let old1 = mine_area m m1 m1.state.back.area refl c addr p old in
        record {
          may = one_prepared s m c span (by_all c (place ∷ [])) (prepares s m c span (holds_mine m c addr n flags p w.call_is old) refl x.0)
              (one_prepared s m1 c place [] (prepares s m1 c place (holds_mine m1 c addr n flags p (call_behind s m c call span refl w.call_is) old1) refl y.0) refl);
          state = l.state ∙ ap (λ (y : Area). with_vs_block m.state y c first n r) (sym (same_segment area first low));
        }
