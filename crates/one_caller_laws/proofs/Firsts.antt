-- What a reallocation finds of its block before it moves, and the first act that it shows.
use Rattle.std.proofs.Common.{◌≡◌, ◌⊎◌, ℕ, ◌+◌, ◌*◌, ◌/◌, ◌≤◌, Bool, true, false, ◌||◌, List, [], ◌∷◌, ◌++◌, Option, Some, refl, sym, ap, ◌∙◌, subst, inl, inr, arith, leb}
use Rattle.std.specs.List.{find}
use Rattle.std.proofs.lemmas.Bool.{cases_Bool, and_parts, and_from, both_ways, false≢true, eqb-true, le-leb, leb-true}
use Rattle.heap_model.specs.declared.Act.{Act}
use Rattle.heap_model.specs.declared.Act.TheVariants as acts
use Rattle.heap_model.specs.declared.Call.{Call}
use Rattle.heap_model.specs.declared.Call.TheVariants as calls
use Rattle.heap_model.specs.declared.Flags.{Flags}
use Rattle.heap_model.specs.declared.Layer.{Layer}
use Rattle.heap_model.specs.declared.Layer.TheVariants as layers
use Rattle.heap_model.specs.declared.Limits.{Limits}
use Rattle.heap_model.specs.Geometry.{route_of, is_paged, is_huge, units_of, pages_of}
use Rattle.heap_model.specs.State.{Setting, State, Place, Status, Live, InHand, is_live, is_live_at, is_in_hand_of, in_hand, hands, all_places, is_layer, add_place, address, has_address}
use Rattle.heap_model.specs.Stay.{lets_stay, lets_stay_in, reach, reach_in}
use Rattle.heap_model.specs.CallState.{Configuration}
use Rattle.heap_model.specs.Legal.{after, with_status, layer_of, on}
use Rattle.heap_model.specs.Alone.{by_zero}
use Rattle.heap_model.specs.Moments.{moments_by, state_before, In, Before}
use Rattle.heap_model.specs.Shape.{shape_of, is_left_out, Finds, begins_move, is_no_fit, is_of_front}
use Rattle.heap_soundness.specs.Sound.{IsOneOf}
use Rattle.heap_soundness.specs.Invariant.{Keeps}
use Rattle.heap_soundness.proofs.Addresses.{place_among_all, found_at}
use Rattle.heap_soundness.proofs.GapRuns.{in_filtered}
use Rattle.heap_soundness.proofs.Lists.{found_in, found_passes}
use Rattle.serial_laws.specs.BackCalls.{one_more_reserved}
use Rattle.call_laws.proofs.Shown.{wider}
use Rattle.one_caller_laws.proofs.Core.{Core, core_of, places_in_core}
use Rattle.one_caller_laws.proofs.InCall.{InCall, shows}
use Rattle.one_caller_laws.proofs.Reach.{Calm, Goes, goes_after, may_first, to_shown, to_stop, stop_calm, stop_goes, span_follows, is_maker, shown_cases}
use Rattle.one_caller_laws.proofs.Pair.{within_next, take_finds}
use Rattle.one_caller_laws.proofs.Placing.{head_shown}
use Rattle.one_caller_laws.proofs.Reserved.{reserved_longer}
use Rattle.one_caller_laws.proofs.Blocks.{Block, still, stay_at, stay_free, front_stays, front_layer, found_or}
use Rattle.one_caller_laws.proofs.Stays.{not_quiet, live_there}
use Rattle.one_caller_laws.proofs.Carried.{AreWords, Lives, taken_core, core_taken, taken_lives}

---- The first act that is shown

pub left_places : (s : Setting) (m : Configuration) (act : Act) → is_left_out act ≡ true → places_in_core (core_of (after s m (by_zero act))) ≡ places_in_core (core_of m)
left_places s m (acts.Begin call) h = refl
left_places s m acts.Enter h = refl
left_places s m acts.Leave h = refl
left_places s m (acts.TakeLock what) h = refl
left_places s m (acts.GiveLock what) h = refl
left_places s m (acts.Reserve segment) h = refl
left_places s m (acts.Span first pages kind bucket slot) h = refl
left_places s m (acts.Unspan first) h = refl
left_places s m (acts.Active bucket) h = refl
left_places s m (acts.Saw head word bits) h = refl
left_places s m (acts.Lost head index) h = refl
left_places s m (acts.NoHint bucket slot) h = refl
left_places s m (acts.NoSpan bucket) h = refl
left_places s m _ h = absurd (false≢true h)

-- whatever is searched before, the places are there as they were
pub record First (s : Setting) (call : Call) (m : Configuration) (rest : List Act) (act : Act) (t : List Act) : Type 0 where
  pub at : Configuration
  pub later : List Act
  pub within : InCall s call at
  pub places : places_in_core (core_of at) ≡ places_in_core (core_of m)
  pub goes : Goes s at (act ∷ later)
  pub shape : shape_of later ≡ t
  pub looks : (test : Act → Bool) → ((a : Act) → is_left_out a ≡ true → test a ≡ false) → state_before test (moments_by s m rest) ≡ state_before test (moments_by s at (act ∷ later))

pub to_first : (s : Setting) (call : Call) (m : Configuration) (rest : List Act) (act : Act) (t : List Act) → InCall s call m → Goes s m rest → shape_of rest ≡ act ∷ t → First s call m rest act t
to_first s call m [] act t w g e = absurd (let z : ⊥ = cc in z)
to_first s call m (b ∷ rest) act t w g e = elim (cases_Bool (is_left_out b)) [
  | inl l ↦
      let x = to_first s call (after s m (by_zero b)) rest act t (within_next s call m b rest w g) (goes_after s m b rest g) (rw l at e) in
      record {
        at = x.at;
        later = x.later;
        within = x.within;
        places = x.places ∙ left_places s m b l;
        goes = x.goes;
        shape = x.shape;
        looks = λ test k. let f = k b l in rw f (x.looks test k);
      }
  | inr l ↦
      let h : b ∷ shape_of rest ≡ act ∷ t = rw l at e in
      let same : b ≡ act = cc in
      let more : shape_of rest ≡ t = cc in
      record {
        at = m;
        later = rest;
        within = w;
        places = refl;
        goes = subst (λ (x : Act). Goes s m (x ∷ rest)) same g;
        shape = more;
        looks = λ test k. ap (λ (x : Act). state_before test (moments_by s m (x ∷ rest))) same;
      }
]

-- .. through words
pub to_first_behind : (s : Setting) (call : Call) (ws : List Act) (m : Configuration) (rest : List Act) (act : Act) (t : List Act) → AreWords ws → InCall s call m → Goes s m rest → shape_of rest ≡ ws ++ act ∷ t →
    (at : Configuration) × (later : List Act) × InCall s call at × (places_in_core (core_of at) ≡ places_in_core (core_of m)) × Goes s at (act ∷ later)
to_first_behind s call [] m rest act t a w g e = let x = to_first s call m rest act t w g e in (x.at, x.later, x.within, x.places, x.goes)
to_first_behind s call (acts.Load x v ∷ ws) m rest act t a w g e =
    let y = to_first s call m rest (acts.Load x v) (ws ++ act ∷ t) w g e in
    let z = to_first_behind s call ws (after s y.at (by_zero (acts.Load x v))) y.later act t a (within_next s call y.at (acts.Load x v) y.later y.within y.goes) (goes_after s y.at (acts.Load x v) y.later y.goes) y.shape in
    (z.0, z.1, z.2, z.3 ∙ y.places, z.4)
to_first_behind s call (acts.Store x v ∷ ws) m rest act t a w g e =
    let y = to_first s call m rest (acts.Store x v) (ws ++ act ∷ t) w g e in
    let z = to_first_behind s call ws (after s y.at (by_zero (acts.Store x v))) y.later act t a (within_next s call y.at (acts.Store x v) y.later y.within y.goes) (goes_after s y.at (acts.Store x v) y.later y.goes) y.shape in
    (z.0, z.1, z.2, z.3 ∙ y.places, z.4)
to_first_behind s call (_ ∷ ws) m rest act t a w g e = absurd a

-- a place is among those with one more
more_on : (p q : Place) (l layer : Layer) (ps : List Place) → IsOneOf p ps → IsOneOf p (on l (add_place q) ps (Some layer))
more_on p q l layer ps i = elim (cases_Bool (is_layer l layer)) [
  | inl e ↦ rw e (inr i)
  | inr e ↦ rw e i
]

-- a block that is taken behind the new place was live before it
pub lives_before : (s : Setting) (call : Call) (m : Configuration) (rest : List Act) (start granules : ℕ) (layer : Layer) (first : List Act) (a size : ℕ) (t : List Act) (old : Place) → InCall s call m → Goes s m rest → AreWords first →
    shape_of rest ≡ acts.Place start granules layer ∷ (first ++ acts.Take a size ∷ t) → find (has_address a) (places_in_core (core_of m)) ≡ Some old → Lives (core_of m) a size
lives_before s call m rest start granules layer first a size t old w g wf e f =
    let act = acts.Place start granules layer in
    let x = to_first s call m rest act (first ++ acts.Take a size ∷ t) w g e in
    let k = after s x.at (by_zero act) in
    let y = to_first_behind s call first k x.later (acts.Take a size) t wf (within_next s call x.at act x.later x.within x.goes) (goes_after s x.at act x.later x.goes) x.shape in
    let st = x.at.state in
    let q : Place = record { start = start; granules = granules; layer = layer; status = InHand 0 } in
    let i : IsOneOf old (all_places x.at.state) = subst (λ (ps : List Place). IsOneOf old ps) (sym x.places) (found_in (has_address a) (all_places m.state) old f) in
    let j : IsOneOf old (all_places k.state) = wider old st.lfh st.vs.places st.back.places st.large k.state.lfh k.state.vs.places k.state.back.places k.state.large
    (λ z. more_on old q layers.Lfh layer st.lfh z) (λ z. more_on old q layers.Vs layer st.vs.places z) (λ z. more_on old q layers.Back layer st.back.places z) (λ z. more_on old q layers.Large layer st.large z) i in
    let r = take_finds s y.0 a size (may_first s y.0 (acts.Take a size) y.1 y.4) in
    let there = found_at s y.0 y.2.keeps old 0 a (subst (λ (ps : List Place). IsOneOf old ps) (sym y.3) j) (eqb-true (address old) a (found_passes (has_address a) (all_places m.state) old f)) in
    let z : Some r.place ≡ Some old = sym r.is ∙ there in
    let same : r.place ≡ old = cc in
    record { place = old; found = f; live = ap (λ (p : Place). p.status) (sym same) ∙ r.live }

---- Where one more segment is reserved

abbrev reserved_core : Core → Core
reserved_core c = record c { back = record { area = one_more_reserved c.back.area; places = c.back.places } }

self : (x : ℕ) → x ≤ x
self x = omega arith

no_less : (g x y : ℕ) → x ≤ y → g + 256 * x ≤ g + 256 * y
no_less g x y l = omega (arith, l)

up : (x y z : ℕ) → x ≤ y → y ≤ z → x ≤ z
up x y z a b = omega (arith, a, b)

reach_reserved : (l : Limits) (c : Core) (p : Place) (k : Layer) → reach_in l (still c) p k ≤ reach_in l (still (reserved_core c)) p k
reach_reserved l c p layers.Lfh = self p.granules
reach_reserved l c p layers.Vs = self (reach_in l (still c) p layers.Vs)
reach_reserved l c p layers.Back = no_less p.granules _ _ (reserved_longer c.back.area (p.start / 4096 + p.granules / 256))
reach_reserved l c p layers.Large = self (reach_in l (still c) p layers.Large)

stay_grows : (l : Limits) (st other : State) (p : Place) (n : ℕ) (k : Layer) → reach l st p ≤ reach l other p → lets_stay_in l st p n k ≡ true → lets_stay_in l other p n k ≡ true
stay_grows l st other p n layers.Lfh g h = h
stay_grows l st other p n layers.Vs g h =
    let q = and_parts (leb n 131072) (leb (units_of n) (reach l st p)) h in
    and_from (leb n 131072) (leb (units_of n) (reach l other p)) q.0 (le-leb (units_of n) (reach l other p) (up (units_of n) (reach l st p) (reach l other p) (leb-true (units_of n) (reach l st p) q.1) g))
stay_grows l st other p n layers.Back g h =
    let q = and_parts (is_paged (route_of n)) (leb (256 * pages_of n) (reach l st p)) h in
    and_from (is_paged (route_of n)) (leb (256 * pages_of n) (reach l other p)) q.0 (le-leb (256 * pages_of n) (reach l other p) (up (256 * pages_of n) (reach l st p) (reach l other p) (leb-true (256 * pages_of n) (reach l st p) q.1) g))
stay_grows l st other p n layers.Large g h =
    let q = and_parts (is_huge (route_of n)) (leb (256 * pages_of n) (reach l st p)) h in
    and_from (is_huge (route_of n)) (leb (256 * pages_of n) (reach l other p)) q.0 (le-leb (256 * pages_of n) (reach l other p) (up (256 * pages_of n) (reach l st p) (reach l other p) (leb-true (256 * pages_of n) (reach l st p) q.1) g))

---- A place in hand

hand_among : (st : State) (p : Place) → is_in_hand_of 0 p.status ≡ true → IsOneOf p (all_places st) → IsOneOf p (hands st 0)
hand_among st p h i =
    let t : Place → Bool = λ q. is_in_hand_of 0 q.status in
    wider p st.lfh st.vs.places st.back.places st.large (in_hand 0 st.lfh) (in_hand 0 st.vs.places) (in_hand 0 st.back.places) (in_hand 0 st.large)
    (λ j. in_filtered t p st.lfh h j) (λ j. in_filtered t p st.vs.places h j) (λ j. in_filtered t p st.back.places h j) (λ j. in_filtered t p st.large h j) i

-- where nothing is in hand, a block that is there is live
pub lives_there : (m : Configuration) (a : ℕ) (p : Place) → hands m.state 0 ≡ [] → find (has_address a) (places_in_core (core_of m)) ≡ Some p → (is_live p.status || is_in_hand_of 0 p.status) ≡ true → (size : ℕ) × Lives (core_of m) a size
lives_there m a p none f h = by_status p.status refl h
  where
    by_status : (status : Status) → p.status ≡ status → (is_live status || is_in_hand_of 0 status) ≡ true → (size : ℕ) × Lives (core_of m) a size
    by_status (Live size) e h = (size, record { place = p; found = f; live = e })
    by_status (InHand c) e h = absurd (subst (λ (ps : List Place). IsOneOf p ps) none (hand_among m.state p (ap (is_in_hand_of 0) e ∙ h) (found_in (has_address a) (all_places m.state) p f)))

---- The block before it moves

module _ (s : Setting) (a n : ℕ) (flags : Flags) where
  abbrev call : Call
  call = calls.Realloc a n flags

  -- it is found, and does not stay
  pub record Leaves (c : Core) (old : Place) : Type 0 where
    pub found : find (has_address a) (places_in_core c) ≡ Some old
    pub leaves : lets_stay s.limits (still c) old n ≡ false

  left_at : (m : Configuration) (old : Place) → Keeps s m → Finds s 0 a n old false m.state → Leaves (core_of m) old
  left_at m old k f = record { found = sym (place_among_all s m 0 a k) ∙ f.0; leaves = sym (stay_at s.limits m old n) ∙ f.1 }

  leaves_reserved : (c : Core) (old : Place) → Leaves (reserved_core c) old → Leaves c old
  leaves_reserved c old x = record {
    found = x.found;
    leaves = elim (cases_Bool (lets_stay s.limits (still c) old n)) [
      | inr e ↦ e
      | inl e ↦ absurd (both_ways (lets_stay s.limits (still (reserved_core c)) old n) x.leaves (stay_grows s.limits (still c) (still (reserved_core c)) old n old.layer (reach_reserved s.limits c old old.layer) e))
    ];
  }

  pub block_left : (c : Core) (old : Place) (size : ℕ) → Leaves c old → Lives c a size → Block s a n flags c size (is_of_front old) false
  block_left c old size x y =
      let z : Some y.place ≡ Some old = sym y.found ∙ x.found in
      let same : y.place ≡ old = cc in
      record { place = old; found = x.found; live = ap (λ (p : Place). p.status) (sym same) ∙ y.live; is_front = refl; is_staying = x.leaves }

  leaves_made : (at : Configuration) (act : Act) (later : List Act) (old : Place) → InCall s call at → Goes s at (act ∷ later) → is_maker act ≡ true → Before begins_move (Finds s 0 a n old false) (moments_by s at (act ∷ later)) → Leaves (core_of at) old
  leaves_made at (acts.Reserve segment) later old w g m h =
      let act = acts.Reserve segment in
      let k = after s at (by_zero act) in
      let f = span_follows s k later segment (goes_after s at act later g) refl in
      let h2 = subst (λ (l : List Act). Before begins_move (Finds s 0 a n old false) (moments_by s k l)) f.is h in
      leaves_reserved (core_of at) old (left_at k old (within_next s call at act later w g).keeps h2)
  leaves_made at (acts.Span first pages kind bucket slot) later old w g m h = left_at at old w.keeps h
  leaves_made at _ later old w g m h = absurd (false≢true m)

  -- what moves to a place had to
  pub leaves_placed : (m : Configuration) (rest : List Act) (start granules : ℕ) (layer : Layer) (t : List Act) (old : Place) → Calm s call m → Goes s m rest → shape_of rest ≡ acts.Place start granules layer ∷ t →
      Before begins_move (Finds s 0 a n old false) (moments_by s m rest) → Leaves (core_of m) old
  leaves_placed m rest start granules layer t old c g e h =
      let act = acts.Place start granules layer in
      let x = to_stop s call m rest act t c g e in
      let k = stop_calm s call m rest c x in
      let go = stop_goes s call m rest g x in
      let h2 = subst (λ (o : Option State). In o (Finds s 0 a n old false)) (x.looks begins_move (not_quiet begins_move refl refl (λ w. refl) (λ w. refl))) h in
      subst (λ (c : Core). Leaves c old) x.core (elim (shown_cases x.act (shows s call x.at x.act k.within k.whole k.none k.plain x.loud x.begins x.may)) [
        | inl maker ↦ leaves_made x.at x.act x.later old k.within go maker h2
        | inr out ↦
            let e2 = head_shown x.act act x.later t out (sym x.shape ∙ e) in
            left_at x.at old k.within.keeps (subst (λ (b : Act). Before begins_move (Finds s 0 a n old false) (moments_by s x.at (b ∷ x.later))) e2 h2)
      ])

  -- what was refused had to move
  pub leaves_refused : (m : Configuration) (rest : List Act) (t : List Act) (old : Place) → Calm s call m → Goes s m rest → shape_of rest ≡ acts.NoFit n ∷ t → Before is_no_fit (Finds s 0 a n old false) (moments_by s m rest) → Leaves (core_of m) old
  leaves_refused m rest t old c g e h =
      let x = to_shown s call m rest (acts.NoFit n) t c g e refl in
      let st = subst (λ (o : Option State). In o (Finds s 0 a n old false)) (x.looks is_no_fit (not_quiet is_no_fit refl refl (λ w. refl) (λ w. refl))) h in
      subst (λ (c : Core). Leaves c old) x.core (left_at x.at old x.calm.within.keeps st)

  no_fit_left : (b : Act) → is_left_out b ≡ true → is_no_fit b ≡ false
  no_fit_left (acts.NoFit size) h = absurd (false≢true h)
  no_fit_left _ h = refl

  -- so had a block of the front end that was taken before, whatever came between
  pub block_refused : (m : Configuration) (rest : List Act) (size : ℕ) (t : List Act) (old : Place) → InCall s call m → Goes s m rest → shape_of rest ≡ acts.Take a size ∷ acts.NoFit n ∷ t → is_of_front old ≡ true →
      Before is_no_fit (Finds s 0 a n old false) (moments_by s m rest) → Block s a n flags (core_of m) size true false
  block_refused m rest size t old w g e fr h =
      let x = to_first s call m rest (acts.Take a size) (acts.NoFit n ∷ t) w g e in
      let k = after s x.at (by_zero (acts.Take a size)) in
      let l = taken_lives s x.at a size x.within.keeps (may_first s x.at (acts.Take a size) x.later x.goes) in
      let y = to_first s call k x.later (acts.NoFit n) t (within_next s call x.at (acts.Take a size) x.later x.within x.goes) (goes_after s x.at (acts.Take a size) x.later x.goes) x.shape in
      let h2 = subst (λ (o : Option State). In o (Finds s 0 a n old false)) (x.looks is_no_fit no_fit_left ∙ y.looks is_no_fit no_fit_left) h in
      let f : find (has_address a) (places_in_core (core_of y.at)) ≡ Some old = sym (place_among_all s y.at 0 a y.within.keeps) ∙ h2.0 in
      let q = found_or a (is_live_at a) (with_status (InHand 0)) (live_there a) (λ p. refl) (core_of x.at) (layer_of (find (has_address a) (places_in_core (core_of x.at)))) l.place l.found in
      let f2 : find (has_address a) (places_in_core (taken_core a (core_of x.at))) ≡ Some old = ap (λ (c : Core). find (has_address a) (places_in_core c)) (sym (core_taken s x.at a size x.within.keeps)) ∙ ap (λ (ps : List Place). find (has_address a) ps) (sym y.places) ∙ f in
      let z : Some q.0 ≡ Some old = sym q.1 ∙ f2 in
      let same : q.0 ≡ old = cc in
      by_place x.at l.place y.at l.found l.live x.places h2.1 (elim q.2 [ inl e ↦ inl (sym same ∙ e) | inr e ↦ inr (sym same ∙ e) ])
    where
      by_place : (at : Configuration) (p : Place) (then : Configuration) → find (has_address a) (places_in_core (core_of at)) ≡ Some p → p.status ≡ Live size → places_in_core (core_of at) ≡ places_in_core (core_of m) → lets_stay s.limits then.state old n ≡ false →
          (old ≡ p) ⊎ (old ≡ with_status (InHand 0) p) → Block s a n flags (core_of m) size true false
      by_place at p then f l places stays (inl e) =
          let front : is_of_front p ≡ true = ap is_of_front (sym e) ∙ fr in
          record {
            place = p;
            found = ap (λ (ps : List Place). find (has_address a) ps) (sym places) ∙ f;
            live = l;
            is_front = front;
            is_staying = front_stays s.limits (still (core_of m)) then.state p n p.layer (front_layer p front) ∙ ap (λ (q : Place). lets_stay s.limits then.state q n) (sym e) ∙ stays;
          }
      by_place at p then f l places stays (inr e) =
          let front : is_of_front p ≡ true = ap is_of_front (sym e) ∙ fr in
          record {
            place = p;
            found = ap (λ (ps : List Place). find (has_address a) ps) (sym places) ∙ f;
            live = l;
            is_front = front;
            is_staying =
                front_stays s.limits (still (core_of m)) then.state p n p.layer (front_layer p front) ∙ sym (stay_free s.limits then.state p (InHand 0) n p.layer)
                ∙ ap (λ (q : Place). lets_stay s.limits then.state q n) (sym e) ∙ stays;
          }
