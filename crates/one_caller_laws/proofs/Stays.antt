-- A reallocation whose block stays: what the heap says of the block, and what both of two calls do with it.
use Rattle.std.proofs.Common.{◌≡◌, ℕ, ◌+◌, ◌*◌, ◌-◌, ◌/◌, ◌≤◌, Bool, true, false, not, List, [], ◌∷◌, ◌++◌, map, Option, Some, None, refl, sym, ap, ◌∙◌, subst, inl, inr, arith, eqb, leb, ltb}
use Rattle.std.specs.List.{find}
use Rattle.std.specs.Prelude.{filter}
use Rattle.std.proofs.lemmas.Bool.{cases_Bool, and_parts, and_from, false≢true, true≢false, eqb-true, not-true, le-leb, leb-true}
use Rattle.heap_model.specs.declared.Act.{Act}
use Rattle.heap_model.specs.declared.Act.TheVariants as acts
use Rattle.heap_model.specs.declared.Call.{Call}
use Rattle.heap_model.specs.declared.Call.TheVariants as calls
use Rattle.heap_model.specs.declared.Flags.{Flags}
use Rattle.heap_model.specs.declared.Kind.TheVariants as kinds
use Rattle.heap_model.specs.declared.Layer.{Layer}
use Rattle.heap_model.specs.declared.Layer.TheVariants as layers
use Rattle.heap_model.specs.declared.Limits.{Limits}
use Rattle.heap_model.specs.declared.What.{What}
use Rattle.heap_model.specs.Geometry.{route_of, is_paged, is_huge, units_of, pages_of}
use Rattle.heap_model.specs.State.{Setting, State, Area, Span, Place, Live, InHand, is_layer, is_live, is_live_at, is_hand_at, is_kind, has_address, place_at, all_places, change_found, updated}
use Rattle.heap_model.specs.Ranges.{gaps_of, vs_spans, taken_of}
use Rattle.heap_model.specs.Stay.{for_some, lets_stay, lets_stay_in, resized, resized_in, reach, reach_in, run_from}
use Rattle.heap_model.specs.CallState.{Configuration, caller_view}
use Rattle.heap_model.specs.Search.{hint_or, first_of, is_span_of}
use Rattle.heap_model.specs.Legal.{may_follow, after, is_resized, resize_place, with_status, layer_of, area_with, is_back_at, with_pages}
use Rattle.heap_model.specs.Alone.{by_zero, configuration_by}
use Rattle.heap_model.specs.Moments.{moments_by, In, Before}
use Rattle.heap_model.specs.Shape.{shape_of, Finds, is_resize, is_of_front}
use Rattle.heap_model.proofs.GateSound.{row_of}
use Rattle.heap_model.proofs.ListLemmas.{for_some_parts, filter-change_found}
use Rattle.heap_soundness.specs.Invariant.{Keeps}
use Rattle.heap_soundness.proofs.Addresses.{place_among_all}
use Rattle.heap_soundness.proofs.Enums.{kind_is}
use Rattle.heap_soundness.proofs.Lists.{found_passes}
use Rattle.one_caller_laws.specs.OneCall.{AreAlike}
use Rattle.one_caller_laws.proofs.Core.{Core, core_of, places_in_core, same_place}
use Rattle.one_caller_laws.proofs.InCall.{is_quiet}
use Rattle.one_caller_laws.proofs.Reach.{Calm, Goes, to_shown, goes_after, may_first}
use Rattle.one_caller_laws.proofs.Pair.{within_next, never_both, take_finds, sized_finds, ends_alike, HintsAlike}
use Rattle.one_caller_laws.proofs.Duo.{Duo, duo_at, duo_end}
use Rattle.one_caller_laws.proofs.Asks.{alike_at}
use Rattle.one_caller_laws.proofs.Words.{duo_step}
use Rattle.one_caller_laws.proofs.Freeing.{changed_core, hand_of, whole_restatused, duo_take}
use Rattle.one_caller_laws.proofs.Closing.{closed, closes_so, with_spans}
use Rattle.one_caller_laws.proofs.Blocks.{Block, block_worded, stay_at, none_by, wants_none, Rests, rests_none, rests_restatused, found_changed}

---- A block that is resized fits where it is

up : (x y z : ℕ) → x ≤ y → y ≤ z → x ≤ z
up x y z a b = omega (arith, a, b)

taken_enough : (k all : ℕ) → k ≤ all → k ≤ taken_of k all
taken_enough k all l = elim (cases_Bool (ltb (all - k) 2)) [
  | inl e ↦ rw e l
  | inr e ↦ rw e (omega arith)
]

reach_more : (l : Limits) (st : State) (p : Place) (k : Layer) → p.granules ≤ reach_in l st p k
reach_more l st p layers.Lfh = omega arith
reach_more l st p layers.Vs = omega arith
reach_more l st p layers.Back = omega arith
reach_more l st p layers.Large = omega arith

stays_after : (l : Limits) (st other : State) (p : Place) (n : ℕ) (k : Layer) → is_layer k layers.Lfh ≡ false → lets_stay_in l st p n k ≡ true → lets_stay_in l other (resize_place (resized_in l st p n k) n p) n k ≡ true
stays_after l st other p n layers.Lfh x h = absurd (true≢false x)
stays_after l st other p n layers.Vs x h =
    let q = and_parts (leb n 131072) (leb (units_of n) (reach l st p)) h in
    let r = resize_place (taken_of (units_of n) (reach l st p)) n p in
    let t = taken_enough (units_of n) (reach l st p) (leb-true (units_of n) (reach l st p) q.1) in
    and_from (leb n 131072) (leb (units_of n) (reach l other r)) q.0 (le-leb (units_of n) (reach l other r) (up (units_of n) r.granules (reach l other r) t (reach_more l other r p.layer)))
stays_after l st other p n layers.Back x h =
    let q = and_parts (is_paged (route_of n)) (leb (256 * pages_of n) (reach l st p)) h in
    let r = resize_place (256 * pages_of n) n p in
    and_from (is_paged (route_of n)) (leb (256 * pages_of n) (reach l other r)) q.0 (le-leb (256 * pages_of n) (reach l other r) (reach_more l other r p.layer))
stays_after l st other p n layers.Large x h =
    let q = and_parts (is_huge (route_of n)) (leb (256 * pages_of n) (reach l st p)) h in
    let r = resize_place (256 * pages_of n) n p in
    and_from (is_huge (route_of n)) (leb (256 * pages_of n) (reach l other r)) q.0 (le-leb (256 * pages_of n) (reach l other r) (reach_more l other r p.layer))

pub live_there : (a : ℕ) (p : Place) → is_live_at a p ≡ true → has_address a p ≡ true
live_there a p h = (and_parts (has_address a p) (is_live p.status) h).0

pub hand_there : (a : ℕ) (p : Place) → is_hand_at 0 a p ≡ true → has_address a p ≡ true
hand_there a p h = (and_parts (has_address a p) _ h).0

pub not_quiet : (test : Act → Bool) → test acts.Enter ≡ false → test acts.Leave ≡ false → ((what : What) → test (acts.TakeLock what) ≡ false) → ((what : What) → test (acts.GiveLock what) ≡ false) → (b : Act) → is_quiet b ≡ true → test b ≡ false
not_quiet test e l t g acts.Enter q = e
not_quiet test e l t g acts.Leave q = l
not_quiet test e l t g (acts.TakeLock what) q = t what
not_quiet test e l t g (acts.GiveLock what) q = g what
not_quiet test e l t g _ q = absurd (false≢true q)

module _ (s : Setting) (a n : ℕ) (flags : Flags) where
  abbrev call : Call
  call = calls.Realloc a n flags

  -- what is found at a moment is what the heap says there
  pub block_at : (m : Configuration) (place : Place) (size : ℕ) (front stays : Bool) → Keeps s m → Finds s 0 a n place stays m.state → place.status ≡ Live size → is_of_front place ≡ front → Block s a n flags (core_of m) size front stays
  block_at m place size front stays w f l fr = record { place = place; found = sym (place_among_all s m 0 a w) ∙ f.0; live = l; is_front = fr; is_staying = sym (stay_at s.limits m place n) ∙ f.1 }

  -- a word is stored
  pub calm_store : (m : Configuration) (word v : ℕ) (rest : List Act) → Calm s call m → Goes s m (acts.Store word v ∷ rest) → Calm s call (after s m (by_zero (acts.Store word v)))
  calm_store m word v rest c g =
      let act = acts.Store word v in
      let w = within_next s call m act rest c.within g in
      record { within = w; whole = record { vs = c.whole.vs; back = c.whole.back }; none = none_by s a n flags (after s m (by_zero act)) w (wants_none s a n flags m c); plain = refl; demand = refl }

  pub duo_stored : (m : Configuration) (word v : ℕ) (rest : List Act) (k : Configuration) (others : List Act) → Duo s call m (acts.Store word v ∷ rest) k (acts.Store word v ∷ others) → Duo s call (after s m (by_zero (acts.Store word v))) rest (after s k (by_zero (acts.Store word v))) others
  duo_stored m word v rest k others d = record {
    calm = calm_store m word v rest d.calm d.goes;
    calm_too = calm_store k word v others d.calm_too d.goes_too;
    goes = goes_after s m (acts.Store word v) rest d.goes;
    goes_too = goes_after s k (acts.Store word v) others d.goes_too;
    core = ap (λ (c : Core). record c { words = updated c.words word v }) d.core;
    hints = d.hints;
  }

  -- words are zeroed up to a resize
  pub block_resized : (words : List ℕ) (m : Configuration) (rest : List Act) (granules size : ℕ) (old : Place) → Calm s call m → Goes s m rest → shape_of rest ≡ map (λ w. acts.Store w 0) words ++ acts.Resize a granules n ∷ [] → old.status ≡ Live size →
      Before is_resize (Finds s 0 a n old true) (moments_by s m rest) → Block s a n flags (core_of m) size false true
  block_resized [] m rest granules size old c g e l h =
      let x = to_shown s call m rest (acts.Resize a granules n) [] c g e refl in
      let st = subst (λ (o : Option State). In o (Finds s 0 a n old true)) (x.looks is_resize (not_quiet is_resize refl refl (λ w. refl) (λ w. refl))) h in
      let may = may_first s x.at (acts.Resize a granules n) x.later x.goes in
      let k = caller_view x.at 0 in
      let r = (and_parts k.entered (for_some (place_at x.at.state 0 a) (is_resized s x.at.state k granules n)) (row_of s x.at (by_zero (acts.Resize a granules n)) may)).1 in
      let p = for_some_parts (place_at x.at.state 0 a) (is_resized s x.at.state k granules n) r in
      let z : Some p.0 ≡ Some old = sym p.1 ∙ st.0 in
      let same : p.0 ≡ old = cc in
      let q1 = and_parts _ (eqb granules (resized s.limits x.at.state p.0 n)) p.2 in
      let q2 = and_parts _ (lets_stay s.limits x.at.state p.0 n) q1.0 in
      let q3 = and_parts _ (is_live p.0.status) q2.0 in
      let q4 = and_parts _ (not (is_layer p.0.layer layers.Lfh)) q3.0 in
      let front : is_of_front old ≡ false = ap is_of_front (sym same) ∙ not-true (is_layer p.0.layer layers.Lfh) q4.1 in
      subst (λ (c : Core). Block s a n flags c size false true) x.core (block_at x.at old size false true x.calm.within.keeps st l front)
  block_resized (w ∷ words) m rest granules size old c g e l h =
      let act = acts.Store w 0 in
      let x = to_shown s call m rest act (map (λ w. acts.Store w 0) words ++ acts.Resize a granules n ∷ []) c g e refl in
      let k = after s x.at (by_zero act) in
      let st = subst (λ (o : Option State). In o (Finds s 0 a n old true)) (x.looks is_resize (not_quiet is_resize refl refl (λ w. refl) (λ w. refl))) h in
      let r = block_resized words k x.later granules size old (calm_store x.at w 0 x.later x.calm x.goes) (goes_after s x.at act x.later x.goes) x.shape l st in
      subst (λ (c : Core). Block s a n flags c size false true) x.core (block_worded s a n flags (core_of x.at) k.state.words size false true r)

  -- a block that is taken
  pub block_taken : (test : Act → Bool) (stays : Bool) (m : Configuration) (rest : List Act) (size : ℕ) (t : List Act) (old : Place) → ((b : Act) → is_quiet b ≡ true → test b ≡ false) → test (acts.Take a size) ≡ true → Calm s call m → Goes s m rest →
      shape_of rest ≡ acts.Take a size ∷ t → Before test (Finds s 0 a n old stays) (moments_by s m rest) → Block s a n flags (core_of m) size (is_of_front old) stays
  block_taken test stays m rest size t old quiet hit c g e h =
      let x = to_shown s call m rest (acts.Take a size) t c g e refl in
      let st0 = subst (λ (o : Option State). In o (Finds s 0 a n old stays)) (x.looks test quiet) h in
      let st : Finds s 0 a n old stays x.at.state = rw hit at st0 in
      let f = take_finds s x.at a size (may_first s x.at (acts.Take a size) x.later x.goes) in
      let z : Some f.place ≡ Some old = sym f.is ∙ st.0 in
      let same : f.place ≡ old = cc in
      let l : old.status ≡ Live size = ap (λ (p : Place). p.status) (sym same) ∙ f.live in
      subst (λ (c : Core). Block s a n flags c size (is_of_front old) stays) x.core (block_at x.at old size (is_of_front old) stays x.calm.within.keeps st l refl)

  -- .. or sized
  pub block_sized : (test : Act → Bool) (stays : Bool) (m : Configuration) (rest : List Act) (size : ℕ) (t : List Act) (old : Place) → ((b : Act) → is_quiet b ≡ true → test b ≡ false) → test (acts.Sized a size) ≡ true → Calm s call m → Goes s m rest →
      shape_of rest ≡ acts.Sized a size ∷ t → Before test (Finds s 0 a n old stays) (moments_by s m rest) → Block s a n flags (core_of m) size (is_of_front old) stays
  block_sized test stays m rest size t old quiet hit c g e h =
      let x = to_shown s call m rest (acts.Sized a size) t c g e refl in
      let st0 = subst (λ (o : Option State). In o (Finds s 0 a n old stays)) (x.looks test quiet) h in
      let st : Finds s 0 a n old stays x.at.state = rw hit at st0 in
      let f = sized_finds s x.at a size (may_first s x.at (acts.Sized a size) x.later x.goes) in
      let z : Some f.place ≡ Some old = sym f.is ∙ st.0 in
      let same : f.place ≡ old = cc in
      let l : old.status ≡ Live size = ap (λ (p : Place). p.status) (sym same) ∙ f.live in
      subst (λ (c : Core). Block s a n flags c size (is_of_front old) stays) x.core (block_at x.at old size (is_of_front old) stays x.calm.within.keeps st l refl)

  -- where one finds the block, the other does not miss it
  pub missed : (m : Configuration) (rest : List Act) (k : Configuration) (others : List Act) (size : ℕ) (front stays : Bool) → Duo s call m rest k others → shape_of rest ≡ acts.NotLive a ∷ [] → Block s a n flags (core_of k) size front stays → ⊥
  missed m rest k others size front stays d e y =
      let x = to_shown s call m rest (acts.NotLive a) [] d.calm d.goes e refl in
      never_both s call x.at k a size x.calm.within d.calm_too.within (x.core ∙ d.core) (may_first s x.at (acts.NotLive a) x.later x.goes)
      (record { place = y.place; is = place_among_all s k 0 a d.calm_too.within.keeps ∙ y.found; live = y.live })

  ---- What both do

  record Zeroed (m : Configuration) (rest : List Act) (k : Configuration) (others t u : List Act) : Type 0 where
    pub at : Configuration
    pub later : List Act
    pub at_too : Configuration
    pub later_too : List Act
    pub duo : Duo s call at later at_too later_too
    pub core : core_of at ≡ record (core_of m) { words = at.state.words }
    pub shape : shape_of later ≡ t
    pub shape_too : shape_of later_too ≡ u
    pub ends : configuration_by s m rest ≡ configuration_by s at later
    pub ends_too : configuration_by s k others ≡ configuration_by s at_too later_too

  zeroed : (words : List ℕ) (m : Configuration) (rest : List Act) (k : Configuration) (others t u : List Act) → Duo s call m rest k others → shape_of rest ≡ map (λ w. acts.Store w 0) words ++ t → shape_of others ≡ map (λ w. acts.Store w 0) words ++ u → Zeroed m rest k others t u
  zeroed [] m rest k others t u d e f = record { at = m; later = rest; at_too = k; later_too = others; duo = d; core = refl; shape = e; shape_too = f; ends = refl; ends_too = refl }
  zeroed (w ∷ words) m rest k others t u d e f =
      let x = duo_at s call m rest k others (acts.Store w 0) (map (λ w. acts.Store w 0) words ++ t) (acts.Store w 0) (map (λ w. acts.Store w 0) words ++ u) d e f refl refl in
      let y = zeroed words (after s x.at (by_zero (acts.Store w 0))) x.later (after s x.at_too (by_zero (acts.Store w 0))) x.later_too t u (duo_stored x.at w 0 x.later x.at_too x.later_too x.duo) x.shape x.shape_too in
      record {
        at = y.at;
        later = y.later;
        at_too = y.at_too;
        later_too = y.later_too;
        duo = y.duo;
        core = y.core ∙ ap (λ (c : Core). record c { words = y.at.state.words }) x.core_stays;
        shape = y.shape;
        shape_too = y.shape_too;
        ends = x.ends ∙ y.ends;
        ends_too = x.ends_too ∙ y.ends_too;
      }

  rests_worded : (c : Core) (words : ℕ → ℕ) → Rests s a n flags c → Rests s a n flags (record c { words = words })
  rests_worded c words x = record { place = x.place; found = x.found; is_staying = x.is_staying }

  rests_spans : (c : Core) (xs : List Span) → Rests s a n flags c → Rests s a n flags (with_spans c xs)
  rests_spans c xs x = record { place = x.place; found = x.found; is_staying = x.is_staying }

  -- a resize makes the place as long as the heap says
  long_as : (l : Limits) (st other : State) → st.back ≡ other.back → st.vs ≡ other.vs → st.large ≡ other.large → (p : Place) (k : Layer) → p.layer ≡ k → resized l st p n ≡ resized l other p n
  long_as l st other back vs large p layers.Lfh e = rw e refl
  long_as l st other back vs large p layers.Vs e = rw e (λ i. taken_of (units_of n) (p.granules + run_from (gaps_of (vs_spans (back i).area) (vs i).places) (p.start / 16 + p.granules)))
  long_as l st other back vs large p layers.Back e = rw e refl
  long_as l st other back vs large p layers.Large e = rw e refl

  record Lengthened (m : Configuration) (granules : ℕ) : Type 0 where
    pub place : Place
    pub found : place_at m.state 0 a ≡ Some place
    pub other : is_layer place.layer layers.Lfh ≡ false
    pub live : is_live place.status ≡ true
    pub stays : lets_stay s.limits m.state place n ≡ true
    pub long : granules ≡ resized s.limits m.state place n

  lengthened : (m : Configuration) (granules : ℕ) → may_follow s m (by_zero (acts.Resize a granules n)) ≡ true → Lengthened m granules
  lengthened m granules h =
      let k = caller_view m 0 in
      let r = (and_parts k.entered (for_some (place_at m.state 0 a) (is_resized s m.state k granules n)) (row_of s m (by_zero (acts.Resize a granules n)) h)).1 in
      let p = for_some_parts (place_at m.state 0 a) (is_resized s m.state k granules n) r in
      let q1 = and_parts _ (eqb granules (resized s.limits m.state p.0 n)) p.2 in
      let q2 = and_parts _ (lets_stay s.limits m.state p.0 n) q1.0 in
      let q3 = and_parts _ (is_live p.0.status) q2.0 in
      let q4 = and_parts _ (not (is_layer p.0.layer layers.Lfh)) q3.0 in
      record { place = p.0; found = p.1; other = not-true _ q4.1; live = q3.1; stays = q2.1; long = eqb-true granules (resized s.limits m.state p.0 n) q1.1 }

  -- the core with the block that long
  abbrev lengthened_core : Core → Option Place → ℕ → Core
  lengthened_core c o granules =
      let next = changed_core c (layer_of o) (change_found (is_live_at a) (resize_place granules n)) in
      record next { back = record { area = area_with c.back.area granules o; places = next.back.places } }

  rests_resized : (m : Configuration) (granules : ℕ) → Keeps s m → Lengthened m granules → Rests s a n flags (lengthened_core (core_of m) (place_at m.state 0 a) granules)
  rests_resized m granules w x =
      let e : find (has_address a) (places_in_core (core_of m)) ≡ Some x.place = sym (place_among_all s m 0 a w) ∙ x.found in
      let v = and_from (has_address a x.place) (is_live x.place.status) (found_passes (has_address a) (all_places m.state) x.place e) x.live in
      let f = found_changed a (is_live_at a) (resize_place granules n) (live_there a) (λ p. refl) m x.place w.homes e v in
      subst (λ (o : Option Place). Rests s a n flags (lengthened_core (core_of m) o granules)) (sym x.found)
      (record {
        place = resize_place granules n x.place;
        found = f;
        is_staying = λ st. subst (λ (g : ℕ). lets_stay s.limits st (resize_place g n x.place) n ≡ true) (sym x.long) (stays_after s.limits m.state st x.place n x.place.layer x.other x.stays);
      })

  -- no span of the front end changes
  front_spans : (xs : Area) (granules b t : ℕ) (o : Option Place) → filter (is_span_of b t) (area_with xs granules o).spans ≡ filter (is_span_of b t) xs.spans
  front_spans xs granules b t None = refl
  front_spans xs granules b t (Some p) = elim (cases_Bool (is_layer p.layer layers.Back)) [
    | inr e ↦ rw e refl
    | inl e ↦ rw e (filter-change_found (is_span_of b t) (is_back_at (p.start / 4096)) (with_pages (granules / 256)) xs.spans (λ x f.
        let k = kind_is x.kind kinds.Back (and_parts _ (is_kind x.kind kinds.Back) f).1 in
        (rw k refl, rw k refl)))
  ]

  both_resized : (m : Configuration) (granules : ℕ) (rest : List Act) (k : Configuration) (others : List Act) → Duo s call m (acts.Resize a granules n ∷ rest) k (acts.Resize a granules n ∷ others) → shape_of rest ≡ [] → shape_of others ≡ [] →
      AreAlike (configuration_by s (after s m (by_zero (acts.Resize a granules n))) rest) (configuration_by s (after s k (by_zero (acts.Resize a granules n))) others)
  both_resized m granules rest k others d e f =
      let act = acts.Resize a granules n in
      let i = after s m (by_zero act) in
      let j = after s k (by_zero act) in
      let c = d.core in
      let o = same_place s m k d.calm.within.keeps d.calm_too.within.keeps c a in
      let same : core_of i ≡ core_of j = λ z. lengthened_core (c z) (o z) granules in
      let r : Rests s a n flags (core_of i) = rests_resized m granules d.calm.within.keeps (lengthened m granules (may_first s m act rest d.goes)) in
      let q : Rests s a n flags (core_of j) = rests_resized k granules d.calm_too.within.keeps (lengthened k granules (may_first s k act others d.goes_too)) in
      let x = closes_so s call i rest (within_next s call m act rest d.calm.within d.goes) refl
      (λ u v g. none_by s a n flags u v (rests_none s a n flags (core_of u) (subst (Rests s a n flags) (sym g) (rests_spans (core_of i) u.state.back.area.spans r)))) (goes_after s m act rest d.goes) e in
      let y = closes_so s call j others (within_next s call k act others d.calm_too.within d.goes_too) refl
      (λ u v g. none_by s a n flags u v (rests_none s a n flags (core_of u) (subst (Rests s a n flags) (sym g) (rests_spans (core_of j) u.state.back.area.spans q)))) (goes_after s k act others d.goes_too) f in
      let hints : HintsAlike i j = λ b t.
      ap (λ (ys : List Span). hint_or (m.now.span_history.hints b t) (first_of ys)) (front_spans m.state.back.area granules b t (place_at m.state 0 a))
      ∙ d.hints b t ∙ sym (ap (λ (ys : List Span). hint_or (k.now.span_history.hints b t) (first_of ys)) (front_spans k.state.back.area granules b t (place_at k.state 0 a))) in
      ends_alike s call (configuration_by s i rest) (configuration_by s j others) x.within y.within d.goes.idle d.goes_too.idle (x.core ∙ ap closed same ∙ sym y.core) (λ b t. x.hints b t ∙ hints b t ∙ sym (y.hints b t))

  -- words that are zeroed, and the resize
  pub both_grow : (words : List ℕ) (m : Configuration) (rest : List Act) (k : Configuration) (others : List Act) (granules other : ℕ) → Duo s call m rest k others → shape_of rest ≡ map (λ w. acts.Store w 0) words ++ acts.Resize a granules n ∷ [] → shape_of others ≡ map (λ w. acts.Store w 0) words ++ acts.Resize a other n ∷ [] →
      AreAlike (configuration_by s m rest) (configuration_by s k others)
  both_grow words m rest k others granules other d e f =
      let z = zeroed words m rest k others (acts.Resize a granules n ∷ []) (acts.Resize a other n ∷ []) d e f in
      let x = duo_at s call z.at z.later z.at_too z.later_too (acts.Resize a granules n) [] (acts.Resize a other n) [] z.duo z.shape z.shape_too refl refl in
      let p = lengthened x.at granules (may_first s x.at (acts.Resize a granules n) x.later x.duo.goes) in
      let q = lengthened x.at_too other (may_first s x.at_too (acts.Resize a other n) x.later_too x.duo.goes_too) in
      let c = x.duo.core in
      let o : Some p.place ≡ Some q.place = sym p.found ∙ same_place s x.at x.at_too x.duo.calm.within.keeps x.duo.calm_too.within.keeps c a ∙ q.found in
      let place : p.place ≡ q.place = cc in
      let same : other ≡ granules =
      q.long ∙ ap (λ (y : Place). resized s.limits x.at_too.state y n) (sym place)
      ∙ sym (long_as s.limits x.at.state x.at_too.state (ap (λ (d : Core). d.back) c) (ap (λ (d : Core). d.vs) c) (ap (λ (d : Core). d.large) c) p.place p.place.layer refl) ∙ sym p.long in
      let d2 = subst (λ (y : ℕ). Duo s call x.at (acts.Resize a granules n ∷ x.later) x.at_too (acts.Resize a y n ∷ x.later_too)) same x.duo in
      let ends_too = x.ends_too ∙ ap (λ (y : ℕ). configuration_by s (after s x.at_too (by_zero (acts.Resize a y n))) x.later_too) same in
      alike_at _ _ _ _ (z.ends ∙ x.ends) (z.ends_too ∙ ends_too) (both_resized x.at granules x.later x.at_too x.later_too d2 x.shape x.shape_too)

  -- .. or the block given again
  pub both_give : (words : List ℕ) (m : Configuration) (rest : List Act) (k : Configuration) (others : List Act) (size : ℕ) → Rests s a n flags (core_of m) → Duo s call m rest k others → shape_of rest ≡ acts.Take a size ∷ (map (λ w. acts.Store w 0) words ++ acts.Give a n ∷ []) → shape_of others ≡ acts.Take a size ∷ (map (λ w. acts.Store w 0) words ++ acts.Give a n ∷ []) →
      AreAlike (configuration_by s m rest) (configuration_by s k others)
  both_give words m rest k others size r0 d e f =
      let t = map (λ w. acts.Store w 0) words ++ acts.Give a n ∷ [] in
      let x = duo_at s call m rest k others (acts.Take a size) t (acts.Take a size) t d e f refl refl in
      let i = after s x.at (by_zero (acts.Take a size)) in
      let j = after s x.at_too (by_zero (acts.Take a size)) in
      let r1 = subst (Rests s a n flags) (sym x.core_stays) r0 in
      let q1 = subst (Rests s a n flags) x.duo.core r1 in
      let r2 : Rests s a n flags (core_of i) = rests_restatused s a n flags (core_of x.at) (layer_of (place_at x.at.state 0 a)) (is_live_at a) (InHand 0) (live_there a) r1 in
      let q2 : Rests s a n flags (core_of j) = rests_restatused s a n flags (core_of x.at_too) (layer_of (place_at x.at_too.state 0 a)) (is_live_at a) (InHand 0) (live_there a) q1 in
      let d2 = duo_take s call x.at a size x.later x.at_too x.later_too x.duo (none_by s a n flags i (within_next s call x.at (acts.Take a size) x.later x.duo.calm.within x.duo.goes) (rests_none s a n flags (core_of i) r2))
      (none_by s a n flags j (within_next s call x.at_too (acts.Take a size) x.later_too x.duo.calm_too.within x.duo.goes_too) (rests_none s a n flags (core_of j) q2)) in
      let z = zeroed words i x.later j x.later_too (acts.Give a n ∷ []) (acts.Give a n ∷ []) d2 x.shape x.shape_too in
      let y = duo_at s call z.at z.later z.at_too z.later_too (acts.Give a n) [] (acts.Give a n) [] z.duo z.shape z.shape_too refl refl in
      let act = acts.Give a n in
      let u = after s y.at (by_zero act) in
      let v = after s y.at_too (by_zero act) in
      let c = y.duo.core in
      let r3 = subst (Rests s a n flags) (sym (y.core_stays ∙ z.core)) (rests_worded (core_of i) z.at.state.words r2) in
      let r4 : Rests s a n flags (core_of u) = rests_restatused s a n flags (core_of y.at) (layer_of (hand_of (core_of y.at) a)) (is_hand_at 0 a) (Live n) (hand_there a) r3 in
      let same : core_of u ≡ core_of v = λ w. changed_core (c w) (layer_of (hand_of (c w) a)) (change_found (is_hand_at 0 a) (with_status (Live n))) in
      let d3 = duo_step s call y.at act y.later y.at_too y.later_too y.duo same
      (whole_restatused (core_of y.at) (layer_of (hand_of (core_of y.at) a)) (is_hand_at 0 a) (Live n) y.duo.calm.whole)
      (none_by s a n flags u (within_next s call y.at act y.later y.duo.calm.within y.duo.goes) (rests_none s a n flags (core_of u) r4))
      (none_by s a n flags v (within_next s call y.at_too act y.later_too y.duo.calm_too.within y.duo.goes_too) (rests_none s a n flags (core_of v) (subst (Rests s a n flags) same r4))) refl refl y.duo.hints in
      alike_at _ _ _ _ (x.ends ∙ z.ends ∙ y.ends) (x.ends_too ∙ z.ends_too ∙ y.ends_too) (duo_end s call u y.later v y.later_too d3 y.shape y.shape_too)
