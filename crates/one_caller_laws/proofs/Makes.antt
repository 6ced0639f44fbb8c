-- How a place is made outside the front end: what its acts say of the heap, and what they leave.
use Rattle.std.proofs.Common.{◌≡◌, ℕ, ◌*◌, Bool, true, false, ◌&&◌, ◌||◌, cond, List, ◌∷◌, Option, Some, None, refl, sym, ap, ◌∙◌, inl, inr, eqb}
use Rattle.std.specs.Prelude.{option_and_then}
use Rattle.std.proofs.lemmas.Bool.{cases_Bool, and_parts, eqb-true, or_right}
use Rattle.heap_model.specs.declared.Act.{Act}
use Rattle.heap_model.specs.declared.Act.TheVariants as acts
use Rattle.heap_model.specs.declared.Call.{Call}
use Rattle.heap_model.specs.declared.Call.TheVariants as calls
use Rattle.heap_model.specs.declared.Kind.{Kind}
use Rattle.heap_model.specs.declared.Kind.TheVariants as kinds
use Rattle.heap_model.specs.declared.Layer.{Layer}
use Rattle.heap_model.specs.declared.Layer.TheVariants as layers
use Rattle.heap_model.specs.Geometry.{route_of, is_small, is_variable, is_huge, units_of, pages_of}
use Rattle.heap_model.specs.Buckets.{bucket_of}
use Rattle.heap_model.specs.Runs.{Run}
use Rattle.heap_model.specs.State.{Setting, Area, Place, InHand, is_layer, add_place}
use Rattle.heap_model.specs.Ranges.{gaps, vs_place, large_place, is_of_kind}
use Rattle.heap_model.specs.Stay.{for_some, is_some_of}
use Rattle.heap_model.specs.CallState.{Configuration, Nothing, caller_view}
use Rattle.heap_model.specs.Search.{request_of, asked, asked_by, sought, sought_by, hint, hint_or, first_of, spans_of}
use Rattle.heap_model.specs.Legal.{may_follow, after, lies_in, has_place, are_used, is_vs_place, served_by, on, may_place_small}
use Rattle.heap_model.specs.Alone.{by_zero, configuration_by}
use Rattle.heap_model.specs.Shape.{shape_of}
use Rattle.heap_model.proofs.GateSound.{row_of}
use Rattle.heap_model.proofs.ListLemmas.{for_some_parts, is_some_of_parts}
use Rattle.serial_laws.proofs.Places.{all_weaker}
use Rattle.one_caller_laws.proofs.Core.{Core, core_of, hints_of}
use Rattle.one_caller_laws.proofs.InCall.{InCall, IsWhole}
use Rattle.one_caller_laws.proofs.Reach.{Goes, goes_after, may_first}
use Rattle.one_caller_laws.proofs.Pair.{within_next}
use Rattle.one_caller_laws.proofs.Sites.{Site, is_for_vs, Why, Gap, Large}

-- the core with a place in hand
abbrev pub made : ℕ → ℕ → Layer → Place
made start granules layer = record { start = start; granules = granules; layer = layer; status = InHand 0 }

abbrev pub placed_core : Core → Area → ℕ → ℕ → Layer → Core
placed_core c area start granules layer = record {
  back = record { area = area; places = on layers.Back (add_place (made start granules layer)) c.back.places (Some layer) };
  vs = record {
    places = on layers.Vs (add_place (made start granules layer)) c.vs.places (Some layer);
    active = c.vs.active;
    served = served_by (option_and_then bucket_of (option_and_then asked_by c.call)) c.vs.served layer;
  };
  lfh = on layers.Lfh (add_place (made start granules layer)) c.lfh (Some layer);
  large = on layers.Large (add_place (made start granules layer)) c.large (Some layer);
  words = c.words;
  owner = c.owner;
  call = c.call;
  placed = true;
  no_span = c.no_span;
  earlier = c.earlier;
  search = c.search;
}

abbrev pub sited : Core → Site → Core
sited c x = placed_core c x.area x.start x.granules x.layer

-- the acts up to a place are behind, and the place is in hand
pub record Makes (s : Setting) (call : Call) (m : Configuration) (rest : List Act) (n : ℕ) : Type 0 where
  pub site : Site
  pub why : Why s (core_of m) n site
  pub at : Configuration
  pub later : List Act
  pub within : InCall s call at
  pub core : core_of at ≡ sited (core_of m) site
  pub whole : IsWhole (core_of at)
  pub demand : at.now.demand ≡ Nothing
  pub hints : (b t : ℕ) → hint at.state.back.area at.now.span_history b t ≡ hint m.state.back.area m.now.span_history b t
  pub goes : Goes s at later
  pub shape : shape_of rest ≡ acts.Place site.start site.granules site.layer ∷ shape_of later
  pub ends : configuration_by s m rest ≡ configuration_by s at later

---- What a request asks

sought_asked : (s : Setting) (m : Configuration) (call : Call) (q : ℕ) → sought_by s m.state 0 call ≡ Some q → asked_by call ≡ Some q
sought_asked s m (calls.Alloc n flags) q h = h
sought_asked s m (calls.Realloc a n flags) q h = go _ h
  where
    go : (b : Bool) → cond b (Some n) None ≡ Some q → Some n ≡ Some q
    go true h = h
    go false h = absurd (let z : ⊥ = cc in z)
sought_asked s m _ q h = absurd (let z : ⊥ = cc in z)

pub size_asked : (s : Setting) (call : Call) (m : Configuration) (n q : ℕ) → InCall s call m → asked_by call ≡ Some n → (request_of s m 0).size ≡ Some q → q ≡ n
size_asked s call m n q w e h =
    let f : sought s m.state 0 (m.now.calls 0) ≡ Some q = h in
    let g = go (m.now.calls 0).placed (sought_by s m.state 0 call) (sym (ap (λ (o : Option Call). cond (m.now.calls 0).placed None (option_and_then (sought_by s m.state 0) o)) w.call_is) ∙ f) in
    let z : Some q ≡ Some n = sym (sought_asked s m call q g) ∙ e in
    let same : q ≡ n = cc in
    same
  where
    go : (b : Bool) (o : Option ℕ) → cond b None o ≡ Some q → o ≡ Some q
    go true o h = absurd (let z : ⊥ = cc in z)
    go false o h = h

pub asks : (s : Setting) (call : Call) (m : Configuration) (n : ℕ) → InCall s call m → asked_by call ≡ Some n → asked (m.now.calls 0) ≡ Some n
asks s call m n w e = ap (option_and_then asked_by) w.call_is ∙ e

-- a test of what is asked
pub asked_so : (s : Setting) (call : Call) (m : Configuration) (n : ℕ) (test : ℕ → Bool) → InCall s call m → asked_by call ≡ Some n → for_some (asked (m.now.calls 0)) test ≡ true → test n ≡ true
asked_so s call m n test w e h = ap (λ (o : Option ℕ). for_some o test) (sym (asks s call m n w e)) ∙ h

---- A gap

vs_place_parts : (spaces : List Run) (n start granules : ℕ) → is_vs_place spaces n start granules ≡ true → (r : Run) × (vs_place spaces (units_of n) ≡ Some r) × (start ≡ 16 * r.first) × (granules ≡ r.count)
vs_place_parts spaces n start granules h =
    let p = for_some_parts (vs_place spaces (units_of n)) (λ r. eqb start (16 * r.first) && eqb granules r.count) h in
    let q = and_parts (eqb start (16 * p.0.first)) (eqb granules p.0.count) p.2 in
    (p.0, p.1, eqb-true start (16 * p.0.first) q.0, eqb-true granules p.0.count q.1)

-- what a place of the variable-size layer says
pub record VsRow (s : Setting) (m : Configuration) (n start granules : ℕ) : Type 0 where
  pub size : is_for_vs n ≡ true
  pub run : Run
  pub fits : vs_place (gaps m.state) (units_of n) ≡ Some run
  pub starts : start ≡ 16 * run.first
  pub long : granules ≡ run.count

pub vs_row : (s : Setting) (call : Call) (m : Configuration) (n start granules : ℕ) → InCall s call m → asked_by call ≡ Some n → may_follow s m (by_zero (acts.Place start granules layers.Vs)) ≡ true → VsRow s m n start granules
vs_row s call m n start granules w e h =
    let k = caller_view m 0 in
    let r = (and_parts (k.entered && k.vs) _ (row_of s m (by_zero (acts.Place start granules layers.Vs)) h)).1 in
    let small : ℕ → Bool = may_place_small s m.state.back.area m.state.vs 0 k (request_of s m 0) in
    let o = asked_so s call m n (λ n. (is_small (route_of n) || is_variable (route_of n)) && is_vs_place (gaps m.state) n start granules && small n) w e r in
    let p1 = and_parts (is_for_vs n && is_vs_place (gaps m.state) n start granules) (small n) o in
    let p2 = and_parts (is_for_vs n) (is_vs_place (gaps m.state) n start granules) p1.0 in
    let v = vs_place_parts (gaps m.state) n start granules p2.1 in
    record { size = p2.0; run = v.0; fits = v.1; starts = v.2; long = v.3 }

-- places of one layer are more
whole_placed : (c : Core) (start granules : ℕ) (layer : Layer) → IsWhole c → IsWhole (placed_core c c.back.area start granules layer)
whole_placed c start granules layer w = record { vs = more kinds.Vs layers.Vs c.vs.places w.vs; back = more kinds.Back layers.Back c.back.places w.back }
  where
    more : (kind : Kind) (l : Layer) (ps : List Place) → are_used 4096 kind ps c.back.area.spans ≡ true → are_used 4096 kind (on l (add_place (made start granules layer)) ps (Some layer)) c.back.area.spans ≡ true
    more kind l ps h = elim (cases_Bool (is_layer l layer)) [
      | inl e ↦ rw e (all_weaker (is_of_kind kind) (has_place 4096 ps) (has_place 4096 (made start granules layer ∷ ps)) c.back.area.spans (λ y f. or_right (lies_in 4096 y (made start granules layer)) (has_place 4096 ps y) f) h)
      | inr e ↦ rw e h
    ]

-- a place alone, of another layer than the front end's
module _ (s : Setting) (call : Call) (m : Configuration) (n start granules : ℕ) (later : List Act) (w : InCall s call m) (whole : IsWhole (core_of m)) where
  makes_here : (layer : Layer) → Goes s m (acts.Place start granules layer ∷ later) → Why s (core_of m) n (record { area = m.state.back.area; start = start; granules = granules; layer = layer }) →
      hints_of (after s m (by_zero (acts.Place start granules layer))) ≡ hints_of m → Makes s call m (acts.Place start granules layer ∷ later) n
  makes_here layer g why h = record {
    site = record { area = m.state.back.area; start = start; granules = granules; layer = layer };
    why = why;
    at = after s m (by_zero (acts.Place start granules layer));
    later = later;
    within = within_next s call m (acts.Place start granules layer) later w g;
    core = refl;
    whole = whole_placed (core_of m) start granules layer whole;
    demand = refl;
    hints = λ b t i. hint_or (h i b t) (first_of (spans_of m.state.back.area b t));
    goes = goes_after s m (acts.Place start granules layer) later g;
    shape = refl;
    ends = refl;
  }

  pub makes_in_gap : asked_by call ≡ Some n → Goes s m (acts.Place start granules layers.Vs ∷ later) → Makes s call m (acts.Place start granules layers.Vs ∷ later) n
  makes_in_gap e g =
      let v = vs_row s call m n start granules w e (may_first s m (acts.Place start granules layers.Vs) later g) in
      let a = v.starts in
      let b = v.long in
      makes_here layers.Vs g (Gap v.run v.size v.fits (λ i. record { area = m.state.back.area; start = a i; granules = b i; layer = layers.Vs })) refl

  pub makes_large : asked_by call ≡ Some n → Goes s m (acts.Place start granules layers.Large ∷ later) → Makes s call m (acts.Place start granules layers.Large ∷ later) n
  makes_large e g =
      let k = caller_view m 0 in
      let h = may_first s m (acts.Place start granules layers.Large) later g in
      let r = (and_parts (k.entered && k.large) _ (row_of s m (by_zero (acts.Place start granules layers.Large)) h)).1 in
      let o = asked_so s call m n (λ n. is_huge (route_of n) && is_some_of (large_place s.limits m.state.large (pages_of n)) start && eqb granules (256 * pages_of n)) w e r in
      let p1 = and_parts (is_huge (route_of n) && is_some_of (large_place s.limits m.state.large (pages_of n)) start) (eqb granules (256 * pages_of n)) o in
      let p2 = and_parts (is_huge (route_of n)) (is_some_of (large_place s.limits m.state.large (pages_of n)) start) p1.0 in
      let b = eqb-true granules (256 * pages_of n) p1.1 in
      makes_here layers.Large g (Large start p2.0 (is_some_of_parts (large_place s.limits m.state.large (pages_of n)) start p2.1) (λ i. record { area = m.state.back.area; start = start; granules = b i; layer = layers.Large })) refl
