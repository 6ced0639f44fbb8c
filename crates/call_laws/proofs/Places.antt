-- The rows of new places, of refusals, and of an address at which nothing lives, for any caller.
use Rattle.std.proofs.Common.{◌≡◌, ℕ, ◌+◌, ◌-◌, ◌*◌, ◌/◌, ◌%◌, ◌<◌, ◌≤◌, Bool, true, false, ◌&&◌, ◌||◌, not, List, ◌∷◌, Option, Some, None, refl, ap, subst, ◌∙◌, inl, inr, eqb, ltb, leb, arith}
use Rattle.std.specs.Prelude.{option_and_then, is_none}
use Rattle.std.specs.List.{AllByRecursion, list_any}
use Rattle.std.proofs.lemmas.Bool.{cases_Bool, and_from, and_parts, eq-eqb, eqb-true, ltb-true, leb-true, leb-false, false≢true, both_ways}
use Rattle.heap_model.specs.declared.Act.TheVariants as acts
use Rattle.heap_model.specs.declared.Call.{Call}
use Rattle.heap_model.specs.declared.Kind.{Kind}
use Rattle.heap_model.specs.declared.Kind.TheVariants as kinds
use Rattle.heap_model.specs.declared.Layer.TheVariants as layers
use Rattle.heap_model.specs.Geometry.{Route, Small, Variable, Paged, Huge, route_of, is_small, is_variable, is_huge, units_of, span_pages_of, pages_of}
use Rattle.heap_model.specs.Buckets.{bucket_of}
use Rattle.heap_model.specs.Runs.{Run}
use Rattle.heap_model.specs.State.{Setting, State, Span, Place, InHand, address, has_address, is_live, is_live_at, is_kind, all_places}
use Rattle.heap_model.specs.Backend.{in_span}
use Rattle.heap_model.specs.Ranges.{gaps, vs_place, large_place, large_start}
use Rattle.heap_model.specs.Stay.{for_some, is_some_of}
use Rattle.heap_model.specs.CallState.{Configuration, CallerView, caller_view}
use Rattle.heap_model.specs.Search.{asked, asked_by, Request, request_of}
use Rattle.heap_model.specs.Legal.{has_live, places_in, goes_to_lfh, may_place_small, is_vs_place, serve, has_no_range, has_no_vs_range, fits_none}
use Rattle.heap_soundness.specs.Sound.{IsOneOf, IsInLarge, IsCommittedSpan}
use Rattle.heap_soundness.specs.Invariant.{Keeps}
use Rattle.heap_soundness.proofs.Lists.{all_at, any_found}
use Rattle.heap_soundness.proofs.Spans.{above, same_span, in_some}
use Rattle.heap_soundness.proofs.Whole.{LiesInSpan, HasAddress, in_vs, in_lfh, in_back, all_addresses}
use Rattle.heap_soundness.proofs.Enums.{kind_is}
use Rattle.serial_laws.proofs.Allocate.{paged_is}
use Rattle.serial_laws.proofs.VsAllocate.{sized, has_bucket}
use Rattle.call_laws.specs.Within.{IsWithin, LeadsTo}
use Rattle.call_laws.specs.Blocks.{PlacingLarge, PlacingInGap, RefusingLarge, RefusingBack, RefusingVs, ShowsNone, FindingNone}
use Rattle.call_laws.proofs.Within.{leads, keeps, among_all}

-- what the call asks
pub asks : (m : Configuration) (c : ℕ) (call : Call) (n : ℕ) → IsWithin m c call → asked_by call ≡ Some n → asked (m.now.calls c) ≡ Some n
asks m c call n w e = ap (option_and_then asked_by) w.call_is ∙ e

huge_is : (r : Route) → is_huge r ≡ true → r ≡ Huge
huge_is Small h = absurd (false≢true h)
huge_is Variable h = absurd (false≢true h)
huge_is Paged h = absurd (false≢true h)
huge_is Huge h = refl

pub placing_large : PlacingLarge
placing_large s m c call n start w lock asked_is huge fits =
    leads s m c call (acts.Place start (256 * pages_of n) layers.Large) _ w refl
    (and_from ((caller_view m c).entered && (caller_view m c).large) _ (and_from (caller_view m c).entered (caller_view m c).large w.entered lock)
    (ap (λ (o : Option ℕ). for_some o (λ k. is_huge (route_of k) && is_some_of (large_place s.limits m.state.large (pages_of k)) start && eqb (256 * pages_of n) (256 * pages_of k))) (asks m c call n w asked_is)
    ∙ and_from (is_huge (route_of n) && is_some_of (large_place s.limits m.state.large (pages_of n)) start) (eqb (256 * pages_of n) (256 * pages_of n))
    (and_from (is_huge (route_of n)) (is_some_of (large_place s.limits m.state.large (pages_of n)) start) huge (ap (λ (o : Option ℕ). is_some_of o start) fits ∙ eq-eqb start start refl)) (eq-eqb (256 * pages_of n) (256 * pages_of n) refl)))
    refl refl refl

-- where the bucket is neither active nor due, the front end is not asked
pub not_front : (o : Option ℕ) (test more : ℕ → Bool) → for_some o test ≡ false → not (for_some o (λ b. test b && more b)) ≡ true
not_front None test more h = refl
not_front (Some b) test more h = rw h refl

pub placing_in_gap : PlacingInGap
placing_in_gap s m c call n r w lock asked_is route bucket fits =
    let is = asks m c call n w asked_is in
    let q = request_of s m c in
    leads s m c call (acts.Place (16 * r.first) r.count layers.Vs) _ w refl
    (and_from ((caller_view m c).entered && (caller_view m c).vs) _ (and_from (caller_view m c).entered (caller_view m c).vs w.entered lock)
    (ap (λ (o : Option ℕ). for_some o (λ k. (is_small (route_of k) || is_variable (route_of k)) && is_vs_place (gaps m.state) k (16 * r.first) r.count && may_place_small s m.state.back.area m.state.vs c (caller_view m c) q k)) is
    ∙ and_from ((is_small (route_of n) || is_variable (route_of n)) && is_vs_place (gaps m.state) n (16 * r.first) r.count) (may_place_small s m.state.back.area m.state.vs c (caller_view m c) q n)
    (and_from (is_small (route_of n) || is_variable (route_of n)) (is_vs_place (gaps m.state) n (16 * r.first) r.count) route
    (ap (λ (o : Option Run). for_some o (λ p. eqb (16 * r.first) (16 * p.first) && eqb r.count p.count)) fits
    ∙ and_from (eqb (16 * r.first) (16 * r.first)) (eqb r.count r.count) (eq-eqb (16 * r.first) (16 * r.first) refl) (eq-eqb r.count r.count refl)))
    (not_front (bucket_of n) (goes_to_lfh m.state.vs) _ bucket)))
    (ap (λ (o : Option ℕ). record m.state {
      vs = record {
        places = record { start = 16 * r.first; granules = r.count; layer = layers.Vs; status = InHand c } ∷ m.state.vs.places;
        active = m.state.vs.active;
        served = serve (option_and_then bucket_of o) m.state.vs.served;
      };
    }) is)
    refl refl

---- Refusals

pub refuses : (s : Setting) (m : Configuration) (c : ℕ) (call : Call) (n : ℕ) → IsWithin m c call → asked_by call ≡ Some n →
    has_no_range s m.state c (caller_view m c) (request_of s m c) n (route_of n) ≡ true → LeadsTo s m c call (acts.NoFit n) m.state
refuses s m c call n w asked_is none =
    leads s m c call (acts.NoFit n) m.state w refl
    (and_from ((caller_view m c).entered && is_some_of (asked (m.now.calls c)) n) _
    (and_from (caller_view m c).entered (is_some_of (asked (m.now.calls c)) n) w.entered (ap (λ (o : Option ℕ). is_some_of o n) (asks m c call n w asked_is) ∙ eq-eqb n n refl)) none)
    refl refl refl

pub refusing_large : RefusingLarge
refusing_large s m c call n w lock asked_is huge none =
    refuses s m c call n w asked_is
    (ap (has_no_range s m.state c (caller_view m c) (request_of s m c) n) (huge_is (route_of n) huge)
    ∙ and_from (caller_view m c).large (is_none (large_place s.limits m.state.large (pages_of n))) lock (ap is_none none))

pub refusing_back : RefusingBack
refusing_back s m c call n w lock asked_is paged none =
    refuses s m c call n w asked_is
    (ap (has_no_range s m.state c (caller_view m c) (request_of s m c) n) (paged_is (route_of n) paged)
    ∙ and_from (caller_view m c).back (fits_none s m.state.back.area (pages_of n)) lock (ap is_none none))

-- .. by the route of the size
vs_routes : (s : Setting) (st : State) (c : ℕ) (k : CallerView) (q : Request) (n : ℕ) → (is_small (route_of n) || is_variable (route_of n)) ≡ true → for_some (bucket_of n) (goes_to_lfh st.vs) ≡ false →
    has_no_vs_range s st.back.area (gaps st) k n ≡ true → has_no_range s st c k q n (route_of n) ≡ true
vs_routes s st c k q n route bucket h = elim (cases_Bool (leb n 16368)) [
  | inl e ↦
      let b = has_bucket n e in
      let d = b.1 in
      let g : for_some (Some b.0) (goes_to_lfh st.vs) ≡ false = rw d at bucket in
      rw (e, h, d, g) refl
  | inr e ↦ elim (cases_Bool (leb n 131072)) [
    | inl g ↦ rw (e, g) h
    | inr g ↦ absurd (let l = sized n route in let z = leb-false n 131072 g in omega arith)
  ]
]

pub refusing_vs : RefusingVs
refusing_vs s m c call n w vs back asked_is route bucket no_gap no_span =
    refuses s m c call n w asked_is
    (vs_routes s m.state c (caller_view m c) (request_of s m c) n route bucket
    (and_from ((caller_view m c).vs && (caller_view m c).back && is_none (vs_place (gaps m.state) (units_of n))) (fits_none s m.state.back.area (span_pages_of n))
    (and_from ((caller_view m c).vs && (caller_view m c).back) (is_none (vs_place (gaps m.state) (units_of n))) (and_from (caller_view m c).vs (caller_view m c).back vs back) (ap is_none no_gap)) (ap is_none no_span)))

---- Nothing lives at an address

pub same_kind : (d : Kind) → is_kind d d ≡ true
same_kind kinds.Header = refl
same_kind kinds.Free = refl
same_kind kinds.Vs = refl
same_kind kinds.Lfh = refl
same_kind kinds.Back = refl

none_live : (ps : List Place) (a : ℕ) → ((p : Place) → IsOneOf p ps → address p ≡ a → ⊥) → has_live ps a ≡ false
none_live ps a never = elim (cases_Bool (has_live ps a)) [
  | inl e ↦
      let f = any_found (is_live_at a) ps e in
      absurd (never f.0 f.1 (eqb-true (address f.0) a (and_parts (has_address a f.0) (is_live f.0.status) f.2).0))
  | inr e ↦ e
]

module _ (s : Setting) (m : Configuration) (k : Keeps s m) where
  abbrev spans : List Span
  spans = m.state.back.area.spans

  -- the page of an address in a place is one of the place's span
  in_page : (kind : Kind) (p : Place) (a : ℕ) → IsOneOf p (all_places m.state) → (h : LiesInSpan spans kind p) → address p ≡ a → (h.span.first ≤ a / 4096) × (a / 4096 < h.span.first + h.span.pages)
  in_page kind p a i h e =
      let w = all_at HasAddress p (all_places m.state) (all_addresses s m k) i in
      let l = w.low in let u = w.high in let x = h.low in let y = h.high in
      (omega (arith, e, l, x), omega (arith, e, u, y))

  -- a span ends before the large area
  ends_before : (x : Span) → IsOneOf x spans → 4096 * (x.first + x.pages) ≤ 16 * large_start s.limits
  ends_before x i =
      let n = (above 0 spans x k.heap.spans.in_order i).1 in
      let d = all_at (IsCommittedSpan m.state.back.area) x spans k.heap.spans.committed i (x.first + (x.pages - 1)) (omega arith) (omega arith) in
      let e = ltb-true ((x.first + (x.pages - 1)) / 256) m.state.back.area.reserved (and_parts (ltb ((x.first + (x.pages - 1)) / 256) m.state.back.area.reserved) (leb 2 ((x.first + (x.pages - 1)) % 256)) d.0).0 in
      let r = k.reserved in
      omega arith

  -- at an address of the large area
  large_address : (kind : Kind) (ps : List Place) (a : ℕ) → AllByRecursion (LiesInSpan spans kind) ps → ((p : Place) → IsOneOf p ps → IsOneOf p (all_places m.state)) → 16 * large_start s.limits ≤ a → has_live ps a ≡ false
  large_address kind ps a all among low = none_live ps a (λ p i e.
      let h = all_at (LiesInSpan spans kind) p ps all i in
      let w = in_page kind p a (among p i) h e in
      let z = ends_before h.span h.there in
      let u = w.1 in
      omega (arith, u, z, low))

  -- at an address of a span of another kind
  other_kind : (kind : Kind) (ps : List Place) (a : ℕ) (x : Span) → AllByRecursion (LiesInSpan spans kind) ps → ((p : Place) → IsOneOf p ps → IsOneOf p (all_places m.state)) → IsOneOf x spans → in_span (a / 4096) x ≡ true → (x.kind ≡ kind → ⊥) → has_live ps a ≡ false
  other_kind kind ps a x all among i h ne = none_live ps a (λ p j e.
      let l = all_at (LiesInSpan spans kind) p ps all j in
      let w = in_page kind p a (among p j) l e in
      let q = and_parts (leb x.first (a / 4096)) (ltb (a / 4096) (x.first + x.pages)) h in
      let same : x ≡ l.span = same_span 0 spans x l.span (a / 4096) k.heap.spans.in_order i l.there (leb-true x.first (a / 4096) q.0) (ltb-true (a / 4096) (x.first + x.pages) q.1) w.0 w.1 in
      ne (ap (λ (z : Span). z.kind) same ∙ l.is))

  -- at an address in no span
  no_span : (kind : Kind) (ps : List Place) (a : ℕ) → AllByRecursion (LiesInSpan spans kind) ps → ((p : Place) → IsOneOf p ps → IsOneOf p (all_places m.state)) → list_any (in_span (a / 4096)) spans ≡ false → has_live ps a ≡ false
  no_span kind ps a all among none = none_live ps a (λ p j e.
      let l = all_at (LiesInSpan spans kind) p ps all j in
      let w = in_page kind p a (among p j) l e in
      both_ways (list_any (in_span (a / 4096)) spans) none (in_some spans l.span (a / 4096) l.there w.0 w.1))

  -- below the large area
  below_area : (a : ℕ) → a < 16 * large_start s.limits → has_live m.state.large a ≡ false
  below_area a below = none_live m.state.large a (λ p i e.
      let h = all_at (λ q. IsInLarge s.limits q.start q.granules) p m.state.large k.heap.large.places i in
      let w = (all_at HasAddress p (all_places m.state) (all_addresses s m k) (among_all m.state layers.Large p i)).low in
      let b = h.begins in
      omega (arith, w, b, e, below))

  abbrev IsNone : ℕ → Type 0
  IsNone a = (has_live m.state.lfh a ≡ false) × (has_live m.state.vs.places a ≡ false) × (has_live m.state.back.places a ≡ false) × (has_live m.state.large a ≡ false)

  in_kind : (a : ℕ) (x : Span) → IsOneOf x spans → in_span (a / 4096) x ≡ true → has_live (places_in m.state x.kind) a ≡ false → IsNone a
  in_kind a x i h none =
      let q = and_parts (leb x.first (a / 4096)) (ltb (a / 4096) (x.first + x.pages)) h in
      let u = ltb-true (a / 4096) (x.first + x.pages) q.1 in
      let z = ends_before x i in (
        by_kind kinds.Lfh m.state.lfh (in_lfh s m k) (among_all m.state layers.Lfh) (λ e. subst (λ (d : Kind). has_live (places_in m.state d) a ≡ false) e none),
        by_kind kinds.Vs m.state.vs.places (in_vs s m k) (among_all m.state layers.Vs) (λ e. subst (λ (d : Kind). has_live (places_in m.state d) a ≡ false) e none),
        by_kind kinds.Back m.state.back.places (in_back s m k) (among_all m.state layers.Back) (λ e. subst (λ (d : Kind). has_live (places_in m.state d) a ≡ false) e none),
        below_area a (omega (arith, u, z)),
      )
    where
      by_kind : (kind : Kind) (ps : List Place) → AllByRecursion (LiesInSpan spans kind) ps → ((p : Place) → IsOneOf p ps → IsOneOf p (all_places m.state)) → (x.kind ≡ kind → has_live ps a ≡ false) → has_live ps a ≡ false
      by_kind kind ps all among same = elim (cases_Bool (is_kind x.kind kind)) [
        | inl e ↦ same (kind_is x.kind kind e)
        | inr e ↦ other_kind kind ps a x all among i h (λ y. both_ways (is_kind x.kind kind) e (ap (λ (d : Kind). is_kind d kind) y ∙ same_kind kind))
      ]

  pub shows_none : (a : ℕ) → ShowsNone s m.state a → IsNone a
  shows_none a (inl h) = (
    large_address kinds.Lfh m.state.lfh a (in_lfh s m k) (among_all m.state layers.Lfh) h.0,
    large_address kinds.Vs m.state.vs.places a (in_vs s m k) (among_all m.state layers.Vs) h.0,
    large_address kinds.Back m.state.back.places a (in_back s m k) (among_all m.state layers.Back) h.0,
    h.1,
  )
  shows_none a (inr (inl h)) = in_kind a h.0 h.1 h.2 h.3
  shows_none a (inr (inr h)) = (
    no_span kinds.Lfh m.state.lfh a (in_lfh s m k) (among_all m.state layers.Lfh) h.1,
    no_span kinds.Vs m.state.vs.places a (in_vs s m k) (among_all m.state layers.Vs) h.1,
    no_span kinds.Back m.state.back.places a (in_back s m k) (among_all m.state layers.Back) h.1,
    below_area a h.0,
  )

pub finding_none : FindingNone
finding_none s m c call a r w shows =
    let n = shows_none s m (keeps s m r) a shows in
    let lfh = n.0 in let vs = n.1 in let back = n.2 in let large = n.3 in
    leads s m c call (acts.NotLive a) m.state w refl (let e = w.entered in rw (e, lfh, vs, back, large) refl) refl refl refl
