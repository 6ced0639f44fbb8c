-- How a call is answered, by the entries of its caller and by what the caller finds.
use Rattle.std.proofs.Common.{◌≡◌, ℕ, ◌+◌, ◌-◌, ◌*◌, ◌/◌, Bool, true, false, ◌&&◌, cond, List, [], ◌∷◌, ◌++◌, map, Some, refl, sym, ap, subst, ◌∙◌, inl, inr, eqb, leb}
use Rattle.std.specs.List.{list_any}
use Rattle.std.proofs.lemmas.Bool.{cases_Bool, eq-eqb, true≢false}
use Rattle.heap_model.specs.declared.Act.{Act}
use Rattle.heap_model.specs.declared.Entry.{Entry}
use Rattle.heap_model.specs.declared.Act.TheVariants as acts
use Rattle.heap_model.specs.declared.Layer.{Layer}
use Rattle.heap_model.specs.declared.Layer.TheVariants as layers
use Rattle.heap_model.specs.State.{Setting, State, BackPart, VsPart, Place, InHand, is_layer, is_in_hand_of, in_hand, places_of}
use Rattle.heap_model.specs.Geometry.{route_of, is_paged, is_huge, units_of, pages_of}
use Rattle.heap_model.specs.Ranges.{gaps_of, large_runs}
use Rattle.heap_model.specs.Stay.{run_from, reach_back, lets_stay}
use Rattle.heap_model.specs.CallState.{Configuration, caller_view}
use Rattle.heap_model.specs.Legal.{after, may_touch}
use Rattle.heap_model.specs.History.{configuration_after, own}
use Rattle.heap_model.specs.Agreement.{AgreesFor}
use Rattle.heap_model.specs.Moments.{Moment, moments, acts_of, state_before, state_before_last}
use Rattle.heap_model.specs.Shape.{shape_of, HasActs}
use Rattle.heap_model.specs.Served.{IsOneCall}
use Rattle.heap_model.proofs.Moments.{moments_acts, told_by_acts}
use Rattle.heap_soundness.specs.Sound.{IsOneOf}
use Rattle.call_laws.specs.Within.{by_caller, by_all}
use Rattle.call_laws.specs.Told.{OwnActsAnswer, OwnActsAreShown, FirstIsBefore, LastIsBefore, FindingStays}
use Rattle.call_laws.proofs.Within.{keeps, place_is, in_hand_of}

---- By own acts

acts_again : (c : ℕ) (rest : List Act) → map (λ e. e.act) (by_all c rest) ≡ rest
acts_again c [] = refl
acts_again c (act ∷ rest) = ap (λ (l : List Act). act ∷ l) (acts_again c rest)

pub own_acts_answer : OwnActsAnswer
own_acts_answer s c m es call answer rest own_is none shape =
    let xs = moments s c m es in
    let is : acts.Begin call ∷ rest ≡ acts_of xs = sym (moments_acts s c m es ∙ (ap (map (λ e. e.act)) own_is ∙ acts_again c (acts.Begin call ∷ rest))) in
    record {
      one = subst (IsOneCall call) is (refl, none);
      shape = told_by_acts s c call answer xs (subst (λ (l : List Act). HasActs call answer (shape_of l)) is shape);
    }

pub own_acts_are_shown : OwnActsAreShown
own_acts_are_shown s c m es call rest own_is none =
    let is : acts.Begin call ∷ rest ≡ acts_of (moments s c m es) = sym (moments_acts s c m es ∙ (ap (map (λ e. e.act)) own_is ∙ acts_again c (acts.Begin call ∷ rest))) in
    (subst (IsOneCall call) is (refl, none), ap shape_of (sym is))

---- Before an act

-- an act that does not pass is passed over
pass_over : (b : Bool) (test : Act → Bool) (m : Configuration) (act : Act) (xs ys : List Moment) (st : State) → list_any test (acts_of (cond b (record { before = m; act = act } ∷ xs) xs)) ≡ false →
    (list_any test (acts_of xs) ≡ false → state_before test ys ≡ Some st) → state_before test (cond b (record { before = m; act = act } ∷ ys) ys) ≡ Some st
pass_over false test m act xs ys st none rest = rest none
pass_over true test m act xs ys st none rest = elim (cases_Bool (test act)) [
  | inl e ↦ let z : true ≡ false = rw e at none in absurd (true≢false z)
  | inr e ↦ rw e (rest (rw e at none))
]

pub first_is_before : FirstIsBefore
first_is_before s c m [] later act test h none = let e = eq-eqb c c refl in rw e (rw h refl)
first_is_before s c m (e ∷ first) later act test h none =
    pass_over (eqb e.caller c) test m e.act (moments s c (after s m e) first) (moments s c (after s m e) (first ++ by_caller c act ∷ later)) (configuration_after s (after s m e) first).state none
    (λ k. first_is_before s c (after s m e) first later act test h k)

-- where c has no entry it has no moment
none_own : (s : Setting) (c : ℕ) (m : Configuration) (es : List Entry) → own c es ≡ [] → moments s c m es ≡ []
none_own s c m es h = empty (moments s c m es) (moments_acts s c m es ∙ ap (map (λ e. e.act)) h)
  where
    empty : (xs : List Moment) → acts_of xs ≡ [] → xs ≡ []
    empty [] e = refl
    empty (x ∷ xs) e = absurd (let z : ⊥ = cc in z)

-- a moment before others is not the last
not_last : (b : Bool) (x : Moment) (xs : List Moment) (st : State) → state_before_last xs ≡ Some st → state_before_last (cond b (x ∷ xs) xs) ≡ Some st
not_last false x xs st h = h
not_last true x [] st h = absurd (let z : ⊥ = cc in z)
not_last true x (y ∷ ys) st h = h

pub last_is_before : LastIsBefore
last_is_before s c m [] later act h =
    let e = eq-eqb c c refl in
    let n = none_own s c (after s m (by_caller c act)) later h in
    rw (e, n) refl
last_is_before s c m (e ∷ first) later act h =
    not_last (eqb e.caller c) (record { before = m; act = e.act }) (moments s c (after s m e) (first ++ by_caller c act ∷ later)) (configuration_after s (after s m e) first).state
    (last_is_before s c (after s m e) first later act h)

---- What c finds

-- what lets a block stay is guarded by the lock of its layer
stay_same : (s : Setting) (m k : Configuration) (c n : ℕ) (p : Place) (l : Layer) → p.layer ≡ l → AgreesFor c k m → may_touch (caller_view m c) l ≡ true → lets_stay s.limits k.state p n ≡ lets_stay s.limits m.state p n
stay_same s m k c n p layers.Lfh e a t = rw e refl
stay_same s m k c n p layers.Vs e a t =
    rw e (λ i. leb n 131072 && leb (units_of n) (p.granules + run_from (gaps_of (a.spans t i) (a.vs t i).places) (p.start / 16 + p.granules)))
stay_same s m k c n p layers.Back e a t = rw e (λ i. is_paged (route_of n) && leb (256 * pages_of n) (reach_back 4096 (a.back t i).area p))
stay_same s m k c n p layers.Large e a t =
    rw e (λ i. is_huge (route_of n) && leb (256 * pages_of n) (p.granules + 256 * run_from (large_runs s.limits (a.large t i)) (p.start / 4096 - 256 * s.limits.segments + p.granules / 256)))

pub out_of_hand : (c : ℕ) (p : Place) (ps : List Place) → IsOneOf p (in_hand c ps) → IsOneOf p ps
out_of_hand c p [] h = absurd h
out_of_hand c p (q ∷ ps) h = elim (cases_Bool (is_in_hand_of c q.status)) [
  | inl e ↦ elim (rw e at h) [ inl same ↦ inl same | inr i ↦ inr (out_of_hand c p ps i) ]
  | inr e ↦ inr (out_of_hand c p ps (rw e at h))
]

-- the place is still there
still_there : (m k : Configuration) (c : ℕ) (p : Place) (l : Layer) → AgreesFor c k m → may_touch (caller_view m c) l ≡ true → (is_layer l layers.Lfh ≡ true → p.status ≡ InHand c) → IsOneOf p (places_of m.state l) → IsOneOf p (places_of k.state l)
still_there m k c p layers.Lfh a t h i = out_of_hand c p k.state.lfh (subst (IsOneOf p) (sym (a.hands layers.Lfh)) (in_hand_of c p m.state.lfh (h refl) i))
still_there m k c p layers.Vs a t h i = subst (λ (v : VsPart). IsOneOf p v.places) (sym (a.vs t)) i
still_there m k c p layers.Back a t h i = subst (λ (b : BackPart). IsOneOf p b.places) (sym (a.back t)) i
still_there m k c p layers.Large a t h i = subst (IsOneOf p) (sym (a.large t)) i

pub finding_stays : FindingStays
finding_stays s m k c n p stays r q a o h f =
    (place_is s k (keeps s k q) c p (still_there m k c p p.layer a o.open_to h o.there), stay_same s m k c n p p.layer refl a o.open_to ∙ f.1)
