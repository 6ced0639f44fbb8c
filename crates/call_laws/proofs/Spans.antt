-- Entries that go together under a lock: a span with its place, the end of a block with its span.
use Rattle.std.proofs.Common.{◌≡◌, ℕ, ◌+◌, ◌*◌, ◌/◌, ◌<◌, Bool, true, false, ◌&&◌, ◌||◌, not, List, ◌∷◌, Option, Some, None, refl, sym, ap, subst, ◌∙◌, inl, inr, eqb, ltb, leb, arith}
use Rattle.std.specs.Prelude.{is_some, is_none, option_and_then}
use Rattle.std.specs.List.{find}
use Rattle.std.proofs.lemmas.Bool.{cases_Bool, and_from, and_parts, eq-eqb, eqb-true, lt-ltb, le-leb, leb-true, or_left, or_right}
use Rattle.heap_model.specs.declared.Act.{Act}
use Rattle.heap_model.specs.declared.Act.TheVariants as acts
use Rattle.heap_model.specs.declared.Call.{Call}
use Rattle.heap_model.specs.declared.Kind.{Kind}
use Rattle.heap_model.specs.declared.Kind.TheVariants as kinds
use Rattle.heap_model.specs.declared.Layer.{Layer}
use Rattle.heap_model.specs.declared.Layer.TheVariants as layers
use Rattle.heap_model.specs.Geometry.{route_of, is_small, is_variable, is_paged, units_of, span_pages_of, pages_of}
use Rattle.heap_model.specs.Buckets.{bucket_of}
use Rattle.heap_model.specs.Runs.{Run}
use Rattle.heap_model.specs.State.{Setting, State, Area, Span, Place, InHand, address, has_address, is_hand_at, is_in_hand_of, remove_found, places_of, all_places, is_entered}
use Rattle.heap_model.specs.Backend.{back_place}
use Rattle.heap_model.specs.Ranges.{gaps, vs_place}
use Rattle.heap_model.specs.Stay.{for_some, is_some_of}
use Rattle.heap_model.specs.CallState.{Configuration, CallState, UnspanBy, caller_view}
use Rattle.heap_model.specs.Search.{asked, asked_by, Request, request_of, span_at, begins_at}
use Rattle.heap_model.specs.Legal.{may, may_follow, after, meets_demand, is_begin, call_after, has_place, lies_in, places_in, may_unspan_of, is_unused, with_places, layer_of, unspan_of, with_span, goes_to_lfh, is_vs_place, may_place_small, serve, may_touch}
use Rattle.heap_soundness.specs.Sound.{IsOneOf, AreApart, AreDisjoint, IsInBack}
use Rattle.heap_soundness.specs.Invariant.{Keeps}
use Rattle.heap_soundness.proofs.Lists.{all_at, found_passes, found_in, find_some, disjoint_front, any_found}
use Rattle.heap_soundness.proofs.Spans.{same_first, removed_from}
use Rattle.heap_soundness.proofs.Addresses.{one_address}
use Rattle.heap_soundness.proofs.Whole.{HasAddress, all_disjoint, all_addresses}
use Rattle.serial_laws.specs.VsCalls.{vs_span_for, vs_block, IsInNewSpan}
use Rattle.serial_laws.proofs.NewSpan.{lies_in_new_span}
use Rattle.call_laws.specs.Within.{by_caller, LeadAllTo}
use Rattle.call_laws.specs.Spans.{AllocationPlaces, ReallocationPlaces, back_acts, with_back_block, vs_acts, with_vs_block, PlacingBack, ReservingBack, DroppingBack, PlacingInSpan, ReservingSpan, EndingSpan}
use Rattle.call_laws.proofs.Goes.{goes_on}
use Rattle.call_laws.proofs.Within.{updated_here, leads, keeps, among_all, hand_is}
use Rattle.call_laws.proofs.Places.{not_front}

pub allocation_places : AllocationPlaces
allocation_places s m c n flags call placed = rw (placed, call) refl

pub reallocation_places : ReallocationPlaces
reallocation_places s m c a n flags p call placed moves found leaves = rw (placed, call) (rw (moves, found) (rw leaves refl))

---- An entry that was demanded

pub follows_with : (s : Setting) (m : Configuration) (c : ℕ) (call : Call) (act : Act) → (m.now.calls c).call ≡ Some call → meets_demand m.state.back.area (by_caller c act) m.now.demand ≡ true → may s m c act ≡ true → may_follow s m (by_caller c act) ≡ true
follows_with s m c call act k d r =
    and_from (meets_demand m.state.back.area (by_caller c act) m.now.demand && (is_begin act || is_some (m.now.calls c).call)) (may s m c act)
    (and_from (meets_demand m.state.back.area (by_caller c act) m.now.demand) (is_begin act || is_some (m.now.calls c).call) d (or_right (is_begin act) (is_some (m.now.calls c).call) (ap is_some k))) r

-- the call goes on behind an entry
pub call_behind : (s : Setting) (m : Configuration) (c : ℕ) (call : Call) (act : Act) → is_begin act ≡ false → (m.now.calls c).call ≡ Some call → ((after s m (by_caller c act)).now.calls c).call ≡ Some call
call_behind s m c call act b k = ap (λ (x : CallState). x.call) (updated_here m.now.calls c (call_after s c (m.now.calls c) act)) ∙ (goes_on s c (m.now.calls c) act b ∙ k)

pub two_follow : (s : Setting) (m : Configuration) (c : ℕ) (x y : Act) → may_follow s m (by_caller c x) ≡ true → may_follow s (after s m (by_caller c x)) (by_caller c y) ≡ true → (may_follow s m (by_caller c x) && (may_follow s (after s m (by_caller c x)) (by_caller c y) && true)) ≡ true
two_follow s m c x y h k =
    and_from (may_follow s m (by_caller c x)) (may_follow s (after s m (by_caller c x)) (by_caller c y) && true) h
    (and_from (may_follow s (after s m (by_caller c x)) (by_caller c y)) true k refl)

-- what c has, where a span may be demanded of it
record IsInside (m : Configuration) (c : ℕ) (call : Call) : Type 0 where
  entered : (caller_view m c).entered ≡ true
  call_is : (m.now.calls c).call ≡ Some call
  back : (caller_view m c).back ≡ true

---- A block of the back end

span_row : (en bk : Bool) → en ≡ true → bk ≡ true → (s : Setting) (a : Area) (first n : ℕ) (o : Option ℕ) → o ≡ Some n → is_paged (route_of n) ≡ true → back_place a s.limits.segments (pages_of n) ≡ Some first → first / 256 < a.reserved →
    (en && bk && is_some_of (back_place a s.limits.segments (pages_of n)) first && ltb (first / 256) a.reserved && true && for_some o (λ k. is_paged (route_of k) && eqb (pages_of n) (pages_of k))) ≡ true
span_row en bk x y s a first n o z p f l =
    let e1 = eq-eqb first first refl in
    let e2 = lt-ltb (first / 256) a.reserved l in
    let e3 = eq-eqb (pages_of n) (pages_of n) refl in
    rw (x, y, z, f, e1, e2, p, e3) refl

meets_it : (first n : ℕ) → (leb (4096 * first) (4096 * first) && leb (4096 * first + 16 * (256 * pages_of n)) (4096 * (first + pages_of n)) && eqb (256 * pages_of n) (256 * pages_of n)) ≡ true
meets_it first n =
    let a = le-leb (4096 * first) (4096 * first) (omega arith) in
    let b = le-leb (4096 * first + 16 * (256 * pages_of n)) (4096 * (first + pages_of n)) (omega arith) in
    let d = eq-eqb (256 * pages_of n) (256 * pages_of n) refl in
    rw (a, b, d) refl

back_block : (s : Setting) (m : Configuration) (c : ℕ) (call : Call) (n first : ℕ) → IsInside m c call → (request_of s m c).size ≡ Some n →
    meets_demand m.state.back.area (by_caller c (acts.Span first (pages_of n) kinds.Back 0 0)) m.now.demand ≡ true →
    is_paged (route_of n) ≡ true → back_place m.state.back.area s.limits.segments (pages_of n) ≡ Some first → first / 256 < m.state.back.area.reserved →
    LeadAllTo s m c call (back_acts first n) (with_back_block m.state m.state.back.area c first n)
back_block s m c call n first h size meets paged fits low =
    let span = acts.Span first (pages_of n) kinds.Back 0 0 in
    let place = acts.Place (4096 * first) (256 * pages_of n) layers.Back in
    let m1 = after s m (by_caller c span) in
    let call1 = call_behind s m c call span refl h.call_is in
    record {
      may =
          two_follow s m c span place
          (follows_with s m c call span h.call_is meets (span_row (caller_view m c).entered (caller_view m c).back h.entered h.back s m.state.back.area first n (request_of s m c).size size paged fits low))
          (follows_with s m1 c call place call1 (and_from (eqb c c) _ (eq-eqb c c refl) (meets_it first n))
          (and_from ((caller_view m c).entered && (caller_view m c).back) true (and_from (caller_view m c).entered (caller_view m c).back h.entered h.back) refl));
      state = refl;
      within = record { entered = h.entered; call_is = call_behind s m1 c call place refl call1; demand = refl };
    }

pub placing_back : PlacingBack
placing_back s m c call n first w back size paged fits low =
    let span = acts.Span first (pages_of n) kinds.Back 0 0 in
    back_block s m c call n first (record { entered = w.entered; call_is = w.call_is; back = back }) size (ap (meets_demand m.state.back.area (by_caller c span)) w.demand) paged fits low

reserve_row : (en bk : Bool) → en ≡ true → bk ≡ true → (reserved segments : ℕ) → reserved < segments → (en && bk && eqb reserved reserved && ltb reserved segments) ≡ true
reserve_row en bk x y reserved segments l =
    let a = eq-eqb reserved reserved refl in
    let b = lt-ltb reserved segments l in
    rw (x, y, a, b) refl

pub reserving_back : ReservingBack
reserving_back s m c call n first w back size lower paged fits low only =
    let reserve = acts.Reserve m.state.back.area.reserved in
    let m0 = after s m (by_caller c reserve) in
    let rest = back_block s m0 c call n first (record { entered = w.entered; call_is = call_behind s m c call reserve refl w.call_is; back = back }) size
    (and_from (eqb c c) _ (eq-eqb c c refl) only) paged fits low in
    record {
      may =
          and_from (may_follow s m (by_caller c reserve)) _
          (follows_with s m c call reserve w.call_is (ap (meets_demand m.state.back.area (by_caller c reserve)) w.demand)
          (reserve_row (caller_view m c).entered (caller_view m c).back w.entered back m.state.back.area.reserved s.limits.segments lower)) rest.may;
      state = rest.state;
      within = rest.within;
    }

---- A block of the variable-size layer in a new span

vs_span_row : (en bk vs : Bool) → en ≡ true → bk ≡ true → vs ≡ true → (s : Setting) (a : Area) (spaces : List Run) (first n : ℕ) (o : Option ℕ) → o ≡ Some n → vs_place spaces (units_of n) ≡ None →
    back_place a s.limits.segments (span_pages_of n) ≡ Some first → first / 256 < a.reserved →
    (en && bk && is_some_of (back_place a s.limits.segments (span_pages_of n)) first && ltb (first / 256) a.reserved && true && (vs && for_some o (λ k. is_none (vs_place spaces (units_of k)) && eqb (span_pages_of n) (span_pages_of k)))) ≡ true
vs_span_row en bk vs x y z s a spaces first n o e none f l =
    let e1 = eq-eqb first first refl in
    let e2 = lt-ltb (first / 256) a.reserved l in
    let e3 = eq-eqb (span_pages_of n) (span_pages_of n) refl in
    rw (x, y, z, f, e1, e2) (rw (e, none, e3) refl)

-- what a VS place needs, in these gaps
pub vs_place_row : (s : Setting) (m : Configuration) (c n : ℕ) (q : Request) (r : Run) → (caller_view m c).entered ≡ true → (caller_view m c).vs ≡ true → asked (m.now.calls c) ≡ Some n →
    (is_small (route_of n) || is_variable (route_of n)) ≡ true → for_some (bucket_of n) (goes_to_lfh m.state.vs) ≡ false → vs_place (gaps m.state) (units_of n) ≡ Some r →
    ((caller_view m c).entered && (caller_view m c).vs && for_some (asked (m.now.calls c)) (λ k. (is_small (route_of k) || is_variable (route_of k)) && is_vs_place (gaps m.state) k (16 * r.first) r.count && may_place_small s m.state.back.area m.state.vs c (caller_view m c) q k)) ≡ true
vs_place_row s m c n q r entered lock is route bucket fits =
    and_from ((caller_view m c).entered && (caller_view m c).vs) _ (and_from (caller_view m c).entered (caller_view m c).vs entered lock)
    (ap (λ (o : Option ℕ). for_some o (λ k. (is_small (route_of k) || is_variable (route_of k)) && is_vs_place (gaps m.state) k (16 * r.first) r.count && may_place_small s m.state.back.area m.state.vs c (caller_view m c) q k)) is
    ∙ and_from ((is_small (route_of n) || is_variable (route_of n)) && is_vs_place (gaps m.state) n (16 * r.first) r.count) (may_place_small s m.state.back.area m.state.vs c (caller_view m c) q n)
    (and_from (is_small (route_of n) || is_variable (route_of n)) (is_vs_place (gaps m.state) n (16 * r.first) r.count) route
    (ap (λ (o : Option Run). for_some o (λ p. eqb (16 * r.first) (16 * p.first) && eqb r.count p.count)) fits
    ∙ and_from (eqb (16 * r.first) (16 * r.first)) (eqb r.count r.count) (eq-eqb (16 * r.first) (16 * r.first) refl) (eq-eqb r.count r.count refl)))
    (not_front (bucket_of n) (goes_to_lfh m.state.vs) _ bucket))

vs_in_span : (s : Setting) (m : Configuration) (c : ℕ) (call : Call) (n first : ℕ) (r : Run) → IsInside m c call → (caller_view m c).vs ≡ true →
    meets_demand m.state.back.area (by_caller c (acts.Span first (span_pages_of n) kinds.Vs 0 0)) m.now.demand ≡ true →
    asked_by call ≡ Some n → (is_small (route_of n) || is_variable (route_of n)) ≡ true → for_some (bucket_of n) (goes_to_lfh m.state.vs) ≡ false →
    IsInNewSpan s m m.state.back.area n first r →
    LeadAllTo s m c call (vs_acts first n r) (with_vs_block m.state m.state.back.area c first n r)
vs_in_span s m c call n first r h vs meets asked_is route bucket into =
    let span = acts.Span first (span_pages_of n) kinds.Vs 0 0 in
    let place = acts.Place (16 * r.first) r.count layers.Vs in
    let m1 = after s m (by_caller c span) in
    let call1 = call_behind s m c call span refl h.call_is in
    let is : asked (m.now.calls c) ≡ Some n = ap (option_and_then asked_by) h.call_is ∙ asked_is in
    let is1 : asked (m1.now.calls c) ≡ Some n = ap (option_and_then asked_by) call1 ∙ asked_is in
    let inside : lies_in 4096 (vs_span_for first n) (vs_block r n) ≡ true = lies_in_new_span m.state.back.area.spans m.state.vs.places first n r into.none into.fits in
    record {
      may =
          two_follow s m c span place
          (follows_with s m c call span h.call_is meets (vs_span_row (caller_view m c).entered (caller_view m c).back (caller_view m c).vs h.entered h.back vs s m.state.back.area (gaps m.state) first n (asked (m.now.calls c)) is into.none into.place into.reserved))
          (follows_with s m1 c call place call1
          (and_from (eqb c c) _ (eq-eqb c c refl) (and_from (lies_in 4096 (vs_span_for first n) (vs_block r n)) true inside refl))
          (vs_place_row s m1 c n (request_of s m1 c) r h.entered vs is1 route bucket into.fits));
      state = ap (λ (o : Option ℕ). record m.state {
        back = record { area = with_span m.state.back.area (vs_span_for first n); places = m.state.back.places };
        vs = record {
          places = record { start = 16 * r.first; granules = r.count; layer = layers.Vs; status = InHand c } ∷ m.state.vs.places;
          active = m.state.vs.active;
          served = serve (option_and_then bucket_of o) m.state.vs.served;
        };
      }) is1;
      within = record { entered = h.entered; call_is = call_behind s m1 c call place refl call1; demand = refl };
    }

pub placing_in_span : PlacingInSpan
placing_in_span s m c call n first r w vs back asked_is route bucket into =
    let span = acts.Span first (span_pages_of n) kinds.Vs 0 0 in
    vs_in_span s m c call n first r (record { entered = w.entered; call_is = w.call_is; back = back }) vs (ap (meets_demand m.state.back.area (by_caller c span)) w.demand) asked_is route bucket into

pub reserving_span : ReservingSpan
reserving_span s m c call n first r w vs back asked_is route bucket into lower only =
    let reserve = acts.Reserve m.state.back.area.reserved in
    let m0 = after s m (by_caller c reserve) in
    let rest = vs_in_span s m0 c call n first r (record { entered = w.entered; call_is = call_behind s m c call reserve refl w.call_is; back = back }) vs
    (and_from (eqb c c) _ (eq-eqb c c refl) only) asked_is route bucket (record { none = into.none; place = into.place; reserved = into.reserved; fits = into.fits }) in
    record {
      may =
          and_from (may_follow s m (by_caller c reserve)) _
          (follows_with s m c call reserve w.call_is (ap (meets_demand m.state.back.area (by_caller c reserve)) w.demand)
          (reserve_row (caller_view m c).entered (caller_view m c).back w.entered back m.state.back.area.reserved s.limits.segments lower)) rest.may;
      state = rest.state;
      within = rest.within;
    }

---- The end of a span

found_span : (s : Setting) (m : Configuration) → Keeps s m → (x : Span) → IsOneOf x m.state.back.area.spans → span_at m.state.back.area x.first ≡ Some x
found_span s m k x i =
    let f = find_some (begins_at x.first) m.state.back.area.spans x i (eq-eqb x.first x.first refl) in
    let e : f.0.first ≡ x.first = eqb-true f.0.first x.first (found_passes (begins_at x.first) m.state.back.area.spans f.0 f.1) in
    f.1 ∙ ap Some (same_first 0 m.state.back.area.spans f.0 x k.heap.spans.in_order (found_in (begins_at x.first) m.state.back.area.spans f.0 f.1) i e)

pub ending_span : EndingSpan
ending_span s m c call x r w vs back i kind none =
    let found = found_span s m (keeps s m r) x i in
    let inside : ((caller_view m c).entered || (caller_view m c).owns) ≡ true = or_left (caller_view m c).entered (caller_view m c).owns w.entered in
    leads s m c call (acts.Unspan x.first) _ w refl
    (and_from (caller_view m c).back _ back
    (ap (λ (o : Option Span). for_some o (is_unused m.state (caller_view m c))) found
    ∙ (ap (λ (d : Kind). may_unspan_of (caller_view m c) d && not (has_place 4096 (places_in m.state d) x)) kind
    ∙ and_from (((caller_view m c).entered || (caller_view m c).owns) && (caller_view m c).vs) (not (has_place 4096 m.state.vs.places x))
    (and_from ((caller_view m c).entered || (caller_view m c).owns) (caller_view m c).vs inside vs) (ap not none))))
    refl refl refl

-- where one of the places of the back end is all of a span, no other lies in it
none_else : (t : Place → Bool) (x : Span) (p : Place) (ps : List Place) → find t ps ≡ Some p → AreDisjoint ps → ((q : Place) → IsOneOf q ps → HasAddress q) → p.start ≡ 4096 * x.first → p.granules ≡ 256 * x.pages →
    has_place 4096 (remove_found t ps) x ≡ false
none_else t x p ps found apart addresses begins whole = elim (cases_Bool (has_place 4096 (remove_found t ps) x)) [
  | inl e ↦
      let f = any_found (lies_in 4096 x) (remove_found t ps) e in
      let q = f.0 in
      let l = and_parts (leb (4096 * x.first) q.start) (leb (q.start + 16 * q.granules) (4096 * (x.first + x.pages))) f.2 in
      let low = leb-true (4096 * x.first) q.start l.0 in
      let high = leb-true (q.start + 16 * q.granules) (4096 * (x.first + x.pages)) l.1 in
      let a = all_at (AreApart p) q (remove_found t ps) (disjoint_front t ps p found apart).0 f.1 in
      let b = addresses q (removed_from t q ps f.1) in
      let bl = b.low in let bh = b.high in
      absurd (elim a [ inl g ↦ omega (arith, g, low, high, bl, bh, begins, whole) | inr g ↦ omega (arith, g, low, high, bl, bh, begins, whole) ])
  | inr e ↦ e
]

module _ (s : Setting) (m : Configuration) (k : Keeps s m) where
  pub address_of_place : (l : Layer) (p : Place) → IsOneOf p (places_of m.state l) → HasAddress p
  address_of_place l p i = all_at HasAddress p (all_places m.state) (all_addresses s m k) (among_all m.state l p i)

  -- the place that such a test finds is the one with its address
  pub found_hand : (c : ℕ) (l : Layer) (p : Place) → IsOneOf p (places_of m.state l) → p.status ≡ InHand c → find (is_hand_at c (address p)) (places_of m.state l) ≡ Some p
  found_hand c l p i e =
      let t = is_hand_at c (address p) in
      let f = find_some t (places_of m.state l) p i (and_from (has_address (address p) p) (is_in_hand_of c p.status) (eq-eqb (address p) (address p) refl) (ap (is_in_hand_of c) e ∙ eq-eqb c c refl)) in
      let j = found_in t (places_of m.state l) f.0 f.1 in
      let a : address f.0 ≡ address p = eqb-true (address f.0) (address p) (and_parts (has_address (address p) f.0) (is_in_hand_of c f.0.status) (found_passes t (places_of m.state l) f.0 f.1)).0 in
      f.1 ∙ ap Some (one_address (all_places m.state) f.0 p (all_disjoint s m k) (all_addresses s m k) (among_all m.state l f.0 j) (among_all m.state l p i) a)

pub dropping_back : DroppingBack
dropping_back s m c call a granules r w back i =
    let p : Place = record { start = a; granules = granules; layer = layers.Back; status = InHand c } in
    let k = keeps s m r in
    let h = all_at (λ q. IsInBack m.state.back.area.spans q.start q.granules) p m.state.back.places k.heap.back.places i in
    let x = h.span in
    let page : a / 4096 ≡ x.first = let b = h.begins in omega (arith, b) in
    let found = hand_is s m k c p i refl in
    let drop = acts.Drop a in
    let unspan = acts.Unspan (a / 4096) in
    let st : State = record m.state { back = record { area = m.state.back.area; places = remove_found (is_hand_at c a) m.state.back.places } } in
    let m1 = after s m (by_caller c drop) in
    let state1 : m1.state ≡ st = ap (λ (o : Option Place). with_places m.state (layer_of o) (remove_found (is_hand_at c a))) found in
    let demand1 : m1.now.demand ≡ UnspanBy c (a / 4096) = ap (unspan_of c) found in
    let call1 = call_behind s m c call drop refl w.call_is in
    let inside : ((caller_view m c).entered || (caller_view m c).owns) ≡ true = or_left (caller_view m c).entered (caller_view m c).owns w.entered in
    let there : span_at m.state.back.area (a / 4096) ≡ Some x = ap (span_at m.state.back.area) page ∙ found_span s m k x h.there in
    let none : has_place 4096 (remove_found (is_hand_at c a) m.state.back.places) x ≡ false =
    none_else (is_hand_at c a) x p m.state.back.places (found_hand s m k c layers.Back p i refl) k.heap.back.disjoint (address_of_place s m k layers.Back) h.begins h.whole in
    let row : may s (record { state = st; now = m1.now }) c unspan ≡ true =
    and_from (caller_view m c).back _ back
    (ap (λ (o : Option Span). for_some o (is_unused st (caller_view (record { state = st; now = m1.now }) c))) there
    ∙ (ap (λ (d : Kind). may_unspan_of (caller_view (record { state = st; now = m1.now }) c) d && not (has_place 4096 (places_in st d) x)) h.kind
    ∙ and_from ((caller_view m c).entered || (caller_view m c).owns) (not (has_place 4096 (remove_found (is_hand_at c a) m.state.back.places) x)) inside (ap not none))) in
    let row1 : may s m1 c unspan ≡ true = subst (λ (z : State). may s (record { state = z; now = m1.now }) c unspan ≡ true) (sym state1) row in
    let meets1 : meets_demand m1.state.back.area (by_caller c unspan) m1.now.demand ≡ true =
    ap (meets_demand m1.state.back.area (by_caller c unspan)) demand1 ∙ and_from (eqb c c) (eqb (a / 4096) (a / 4096)) (eq-eqb c c refl) (eq-eqb (a / 4096) (a / 4096) refl) in
    record {
      may =
          two_follow s m c drop unspan
          (follows_with s m c call drop w.call_is (ap (meets_demand m.state.back.area (by_caller c drop)) w.demand)
          (and_from (caller_view m c).entered _ w.entered (ap (λ (o : Option Place). for_some o (λ q. may_touch (caller_view m c) q.layer)) found ∙ back)))
          (follows_with s m1 c call unspan call1 meets1 row1);
      state = ap (λ (z : State). (after s (record { state = z; now = m1.now }) (by_caller c unspan)).state) state1;
      within = record { entered = ap (λ (z : State). is_entered z.gate c) state1 ∙ w.entered; call_is = call_behind s m1 c call unspan refl call1; demand = refl };
    }
