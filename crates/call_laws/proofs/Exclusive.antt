-- What c alone decides of its entries, and the entries of a search.
use Rattle.std.proofs.Common.{◌≡◌, ℕ, ◌*◌, ◌/◌, Bool, true, false, ◌&&◌, ◌||◌, not, List, ◌∷◌, ◌++◌, Option, Some, refl, sym, ap, ◌∙◌, eqb}
use Rattle.std.specs.Prelude.{is_none, option_and_then}
use Rattle.std.specs.List.{find, list_any}
use Rattle.std.proofs.lemmas.Bool.{and_from, eq-eqb, eqb-true, or_right, le-leb, false≢true, true≢false}
use Rattle.heap_model.specs.declared.Act.TheVariants as acts
use Rattle.heap_model.specs.declared.Call.{Call}
use Rattle.heap_model.specs.declared.Layer.{Layer}
use Rattle.heap_model.specs.declared.Layer.TheVariants as layers
use Rattle.heap_model.specs.declared.What.TheVariants as whats
use Rattle.heap_model.specs.Geometry.{route_of, is_small, is_variable, units_of, span_pages_of}
use Rattle.heap_model.specs.Buckets.{bucket_of, block_size, block_address}
use Rattle.heap_model.specs.Runs.{Run}
use Rattle.heap_model.specs.State.{Setting, State, Place, InHand, is_layer, address, has_address, hands, holds, guarded, exclusive_places, places_of, all_places}
use Rattle.heap_model.specs.Ranges.{gaps, vs_place}
use Rattle.heap_model.specs.Stay.{for_some}
use Rattle.heap_model.specs.Bits.{starts_at}
use Rattle.heap_model.specs.CallState.{Configuration, CallerView, caller_view}
use Rattle.heap_model.specs.Search.{request_of, spans_of}
use Rattle.heap_model.specs.Legal.{may_touch, is_picked_in, is_vs_place, may_place_small, goes_to_lfh, cannot_be_served, serve, has_no_vs_range, fits_none}
use Rattle.heap_model.specs.Agreement.{is_locked, is_exclusive_at, moves_exclusive}
use Rattle.heap_soundness.specs.Sound.{IsOneOf}
use Rattle.heap_soundness.specs.Invariant.{Keeps}
use Rattle.heap_soundness.proofs.Lists.{find_some, found_in, found_passes, any_in}
use Rattle.heap_soundness.proofs.Addresses.{one_address, exclusive_in_all}
use Rattle.heap_soundness.proofs.Whole.{all_disjoint, all_addresses}
use Rattle.search_laws.proofs.Blocks.{some_size, bucket_fits}
use Rattle.search_laws.proofs.Placing.{picks_it}
use Rattle.call_laws.specs.Blocks.{IsOpenTo}
use Rattle.call_laws.specs.Alone.{OpenIsLocked, HandIsExclusive, AllocationHoldsOld, ReallocationHoldsOld, PlacingPicked, FallingIntoGap, RefusingSearched}
use Rattle.call_laws.proofs.Within.{leads, keeps, one_in, one_behind, among_all, among_hands}
use Rattle.call_laws.proofs.Places.{asks, refuses}

---- What c alone changes

all_of : (p : Place) (ps : List Place) (b : Bool) → b ≡ true → IsOneOf p ps → IsOneOf p (guarded ps b)
all_of p ps true e i = i
all_of p ps false e i = absurd (false≢true e)

-- a place that is open to c, and of the front end only in hand, is among those that c alone changes
exclusive : (st : State) (c : ℕ) (p : Place) (l : Layer) (k : CallerView) → k.vs ≡ holds st.gate c whats.Vs → k.back ≡ holds st.gate c whats.Back → k.large ≡ holds st.gate c whats.Large → may_touch k l ≡ true →
    (is_layer l layers.Lfh ≡ true → p.status ≡ InHand c) → IsOneOf p (places_of st l) → IsOneOf p (exclusive_places st c)
exclusive st c p layers.Lfh k v b g t h i =
    one_in p (hands st c ++ guarded st.vs.places (holds st.gate c whats.Vs) ++ guarded st.back.places (holds st.gate c whats.Back)) (guarded st.large (holds st.gate c whats.Large))
    (one_in p (hands st c ++ guarded st.vs.places (holds st.gate c whats.Vs)) (guarded st.back.places (holds st.gate c whats.Back))
    (one_in p (hands st c) (guarded st.vs.places (holds st.gate c whats.Vs)) (among_hands st c layers.Lfh p (h refl) i)))
exclusive st c p layers.Vs k v b g t h i =
    one_in p (hands st c ++ guarded st.vs.places (holds st.gate c whats.Vs) ++ guarded st.back.places (holds st.gate c whats.Back)) (guarded st.large (holds st.gate c whats.Large))
    (one_in p (hands st c ++ guarded st.vs.places (holds st.gate c whats.Vs)) (guarded st.back.places (holds st.gate c whats.Back))
    (one_behind p (hands st c) (guarded st.vs.places (holds st.gate c whats.Vs)) (all_of p st.vs.places (holds st.gate c whats.Vs) (sym v ∙ t) i)))
exclusive st c p layers.Back k v b g t h i =
    one_in p (hands st c ++ guarded st.vs.places (holds st.gate c whats.Vs) ++ guarded st.back.places (holds st.gate c whats.Back)) (guarded st.large (holds st.gate c whats.Large))
    (one_behind p (hands st c ++ guarded st.vs.places (holds st.gate c whats.Vs)) (guarded st.back.places (holds st.gate c whats.Back)) (all_of p st.back.places (holds st.gate c whats.Back) (sym b ∙ t) i))
exclusive st c p layers.Large k v b g t h i =
    one_behind p (hands st c ++ guarded st.vs.places (holds st.gate c whats.Vs) ++ guarded st.back.places (holds st.gate c whats.Back)) (guarded st.large (holds st.gate c whats.Large))
    (all_of p st.large (holds st.gate c whats.Large) (sym g ∙ t) i)

found_exclusive : (s : Setting) (m : Configuration) (c : ℕ) (p : Place) → Keeps s m → IsOpenTo m c p → (is_layer p.layer layers.Lfh ≡ true → p.status ≡ InHand c) → find (has_address (address p)) (exclusive_places m.state c) ≡ Some p
found_exclusive s m c p k o h =
    let t = has_address (address p) in
    let ps = exclusive_places m.state c in
    let f = find_some t ps p (exclusive m.state c p p.layer (caller_view m c) refl refl refl o.open_to h o.there) (eq-eqb (address p) (address p) refl) in
    let i = exclusive_in_all m.state c f.0 (found_in t ps f.0 f.1) in
    let e : address f.0 ≡ address p = eqb-true (address f.0) (address p) (found_passes t ps f.0 f.1) in
    f.1 ∙ ap Some (one_address (all_places m.state) f.0 p (all_disjoint s m k) (all_addresses s m k) i (among_all m.state p.layer p o.there) e)

pub open_is_locked : OpenIsLocked
open_is_locked s m c p r o other =
    ap (λ (x : Option Place). for_some x (is_locked (caller_view m c))) (found_exclusive s m c p (keeps s m r) o (λ e. let z : true ≡ false = sym e ∙ other in absurd (true≢false z)))
    ∙ and_from (may_touch (caller_view m c) p.layer) (not (is_layer p.layer layers.Lfh)) o.open_to (ap not other)

exclusive_there : (s : Setting) (m : Configuration) (c : ℕ) (p : Place) → Keeps s m → IsOpenTo m c p → (is_layer p.layer layers.Lfh ≡ true → p.status ≡ InHand c) → is_exclusive_at m c (address p) ≡ true
exclusive_there s m c p k o h = ap (λ (x : Option Place). for_some x (λ q. may_touch (caller_view m c) q.layer)) (found_exclusive s m c p k o h) ∙ o.open_to

pub hand_is_exclusive : HandIsExclusive
hand_is_exclusive s m c p r o e = exclusive_there s m c p (keeps s m r) o (λ l. e)

pub allocation_holds_old : AllocationHoldsOld
allocation_holds_old m c n flags e = or_right (m.now.calls c).placed (for_some (m.now.calls c).call (moves_exclusive m c)) (ap (λ (x : Option Call). for_some x (moves_exclusive m c)) e)

pub reallocation_holds_old : ReallocationHoldsOld
reallocation_holds_old s m c n flags p r e o h =
    or_right (m.now.calls c).placed (for_some (m.now.calls c).call (moves_exclusive m c))
    (ap (λ (x : Option Call). for_some x (moves_exclusive m c)) e ∙ exclusive_there s m c p (keeps s m r) o h)

---- Of a search

pub placing_picked : PlacingPicked
placing_picked s m c call b i x w search low high there picked read clear =
    let start = block_address b x.first i in
    let granules = block_size b / 16 in
    let f = (m.now.calls c).search in
    let any : list_any (is_picked_in b f start granules) (spans_of m.state.back.area b (s.slot c)) ≡ true =
    any_in (is_picked_in b f start granules) (spans_of m.state.back.area b (s.slot c)) x there (picks_it b f x i (some_size b low high) picked read) in
    leads s m c call (acts.Place start granules layers.Lfh) _ w refl
    (and_from ((caller_view m c).entered && not (starts_at m.state.lfh start)) _
    (and_from (caller_view m c).entered (not (starts_at m.state.lfh start)) w.entered (ap not clear))
    (ap (λ (o : Option ℕ). for_some o (λ d. list_any (is_picked_in d f start granules) (spans_of m.state.back.area d (s.slot c)))) search ∙ any))
    refl refl refl

not_served : (g back no_span served : Bool) → back ≡ true → no_span ≡ true → served ≡ true → not (g && not (back && no_span && served)) ≡ true
not_served true back no_span served x y z = rw (x, y, z) refl
not_served false back no_span served x y z = refl

pub falling_into_gap : FallingIntoGap
falling_into_gap s m c call n b r w vs back no_span asked_is bucket served fits =
    let is = asks m c call n w asked_is in
    let q = request_of s m c in
    let small : (is_small (route_of n) || is_variable (route_of n)) ≡ true = let l = le-leb n 16368 (bucket_fits n b bucket).0 in rw l refl in
    leads s m c call (acts.Place (16 * r.first) r.count layers.Vs) _ w refl
    (and_from ((caller_view m c).entered && (caller_view m c).vs) _ (and_from (caller_view m c).entered (caller_view m c).vs w.entered vs)
    (ap (λ (o : Option ℕ). for_some o (λ k. (is_small (route_of k) || is_variable (route_of k)) && is_vs_place (gaps m.state) k (16 * r.first) r.count && may_place_small s m.state.back.area m.state.vs c (caller_view m c) q k)) is
    ∙ and_from ((is_small (route_of n) || is_variable (route_of n)) && is_vs_place (gaps m.state) n (16 * r.first) r.count) (may_place_small s m.state.back.area m.state.vs c (caller_view m c) q n)
    (and_from (is_small (route_of n) || is_variable (route_of n)) (is_vs_place (gaps m.state) n (16 * r.first) r.count) small
    (ap (λ (o : Option Run). for_some o (λ p. eqb (16 * r.first) (16 * p.first) && eqb r.count p.count)) fits
    ∙ and_from (eqb (16 * r.first) (16 * r.first)) (eqb r.count r.count) (eq-eqb (16 * r.first) (16 * r.first) refl) (eq-eqb r.count r.count refl)))
    (ap (λ (o : Option ℕ). not (for_some o (λ d. goes_to_lfh m.state.vs d && not ((caller_view m c).back && (m.now.calls c).no_span && cannot_be_served s m.state.back.area c (caller_view m c) q d)))) bucket
    ∙ not_served (goes_to_lfh m.state.vs b) (caller_view m c).back (m.now.calls c).no_span (cannot_be_served s m.state.back.area c (caller_view m c) q b) back no_span served)))
    (ap (λ (o : Option ℕ). record m.state {
      vs = record {
        places = record { start = 16 * r.first; granules = r.count; layer = layers.Vs; status = InHand c } ∷ m.state.vs.places;
        active = m.state.vs.active;
        served = serve o m.state.vs.served;
      };
    }) (ap (option_and_then bucket_of) is ∙ bucket))
    refl refl

pub refusing_searched : RefusingSearched
refusing_searched s m c call n b w vs back asked_is bucket served no_gap no_span =
    let small = le-leb n 16368 (bucket_fits n b bucket).0 in
    let q = request_of s m c in
    let none : has_no_vs_range s m.state.back.area (gaps m.state) (caller_view m c) n ≡ true =
    and_from ((caller_view m c).vs && (caller_view m c).back && is_none (vs_place (gaps m.state) (units_of n))) (fits_none s m.state.back.area (span_pages_of n))
    (and_from ((caller_view m c).vs && (caller_view m c).back) (is_none (vs_place (gaps m.state) (units_of n))) (and_from (caller_view m c).vs (caller_view m c).back vs back) (ap is_none no_gap)) (ap is_none no_span) in
    let last : (not (goes_to_lfh m.state.vs b) || cannot_be_served s m.state.back.area c (caller_view m c) q b) ≡ true = or_right (not (goes_to_lfh m.state.vs b)) (cannot_be_served s m.state.back.area c (caller_view m c) q b) served in
    refuses s m c call n w asked_is
    (rw small (and_from (has_no_vs_range s m.state.back.area (gaps m.state) (caller_view m c) n) _ none
    (ap (λ (o : Option ℕ). for_some o (λ d. not (goes_to_lfh m.state.vs d) || cannot_be_served s m.state.back.area c (caller_view m c) q d)) bucket ∙ last)))
