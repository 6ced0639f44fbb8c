-- A live block that the holder of its layer's lock finds by its address: what it may have there stays so, whatever others do.
use Rattle.std.proofs.Common.{◌≡◌, ℕ, ◌+◌, ◌-◌, ◌*◌, ◌/◌, ◌==◌, Bool, true, false, not, ◌&&◌, ◌||◌, List, [], ◌++◌, Option, Some, None, refl, sym, ap, ◌∙◌, leb, eq-eqb}
use Rattle.std.specs.Prelude.{is_some}
use Rattle.std.specs.List.{find}
use Rattle.std.proofs.lemmas.Bool.{and_from, false≢true}
use Rattle.heap_model.specs.declared.Act.{Act}
use Rattle.heap_model.specs.declared.Act.TheVariants as acts
use Rattle.heap_model.specs.declared.Layer.{Layer}
use Rattle.heap_model.specs.declared.Layer.TheVariants as layers
use Rattle.heap_model.specs.declared.What.TheVariants as whats
use Rattle.heap_model.specs.Geometry.{route_of, is_paged, is_huge, units_of, pages_of}
use Rattle.heap_model.specs.Ranges.{gaps_of, large_runs, taken_of}
use Rattle.heap_model.specs.State.{Setting, State, BackPart, VsPart, Place, Status, Live, is_layer, is_live, is_live_of, is_live_at, is_in_hand_of, is_entered, in_hand, hands, holds, guarded, has_address, exclusive_places, all_places, place_at, change_found}
use Rattle.heap_model.specs.Stay.{for_some, run_from, reach_back, lets_stay, resized}
use Rattle.heap_model.specs.CallState.{Configuration, Nothing, caller_view}
use Rattle.heap_model.specs.Legal.{may, may_follow, after, meets_demand, may_touch, is_begin, is_resized, with_places, resize_place, area_with, on}
use Rattle.heap_model.specs.Agreement.{AgreesFor, is_locked, is_locked_at}
use Rattle.heap_model.specs.Shape.{Finds}
use Rattle.heap_model.proofs.ListLemmas.{filter-change_found}
use Rattle.claim_rule.specs.Entries.{entry, is_of_lfh, may_prepare}
use Rattle.serial_laws.proofs.Found.{find_front}
use Rattle.heap_gate.specs.Calls.{HasRested}
use Rattle.call_parts.proofs.Handing.{IsKept}
use Rattle.call_parts.proofs.Tokens.{prepares}

---- What a caller alone decides

pub kept_by : (c : ℕ) (m k : Configuration) → AgreesFor c k m → IsKept c m k
kept_by c m k a = record { locks = a.locks; hand = a.hands; back = a.back; large = a.large; vs = a.vs; spans = a.spans }

guarded_same : (ps qs : List Place) (b d : Bool) → d ≡ b → (b ≡ true → qs ≡ ps) → guarded qs d ≡ guarded ps b
guarded_same ps qs b d e f = ap (guarded qs) e ∙ both b f
  where
    both : (b : Bool) → (b ≡ true → qs ≡ ps) → guarded qs b ≡ guarded ps b
    both true f = f refl
    both false f = refl

exclusive_same : (c : ℕ) (m k : Configuration) → IsKept c m k → exclusive_places k.state c ≡ exclusive_places m.state c
exclusive_same c m k x =
    let h : hands k.state c ≡ hands m.state c = (λ i. x.hand layers.Lfh i ++ x.hand layers.Vs i ++ x.hand layers.Back i ++ x.hand layers.Large i) in
    let v = guarded_same m.state.vs.places k.state.vs.places (holds m.state.gate c whats.Vs) (holds k.state.gate c whats.Vs) (x.locks whats.Vs) (λ t. ap (λ (y : VsPart). y.places) (x.vs t)) in
    let b = guarded_same m.state.back.places k.state.back.places (holds m.state.gate c whats.Back) (holds k.state.gate c whats.Back) (x.locks whats.Back) (λ t. ap (λ (y : BackPart). y.places) (x.back t)) in
    let l = guarded_same m.state.large k.state.large (holds m.state.gate c whats.Large) (holds k.state.gate c whats.Large) (x.locks whats.Large) x.large in
    (λ i. h i ++ v i ++ b i ++ l i)

touch_same : (c : ℕ) (m k : Configuration) (l : Layer) → IsKept c m k → may_touch (caller_view k c) l ≡ may_touch (caller_view m c) l
touch_same c m k layers.Lfh x = refl
touch_same c m k layers.Vs x = x.locks whats.Vs
touch_same c m k layers.Back x = x.locks whats.Back
touch_same c m k layers.Large x = x.locks whats.Large

-- what lets a block stay is guarded by the lock of its layer, and so is how long it gets
stay_same : (s : Setting) (c : ℕ) (m k : Configuration) (p : Place) (n : ℕ) (l : Layer) → p.layer ≡ l → IsKept c m k → may_touch (caller_view m c) l ≡ true → lets_stay s.limits k.state p n ≡ lets_stay s.limits m.state p n
stay_same s c m k p n layers.Lfh e x t = rw e refl
stay_same s c m k p n layers.Vs e x t =
    rw e (λ i. leb n 131072 && leb (units_of n) (p.granules + run_from (gaps_of (x.spans t i) (x.vs t i).places) (p.start / 16 + p.granules)))
stay_same s c m k p n layers.Back e x t = rw e (λ i. is_paged (route_of n) && leb (256 * pages_of n) (reach_back 4096 (x.back t i).area p))
stay_same s c m k p n layers.Large e x t =
    rw e (λ i. is_huge (route_of n) && leb (256 * pages_of n) (p.granules + 256 * run_from (large_runs s.limits (x.large t i)) (p.start / 4096 - 256 * s.limits.segments + p.granules / 256)))

length_same : (s : Setting) (c : ℕ) (m k : Configuration) (p : Place) (n : ℕ) (l : Layer) → p.layer ≡ l → IsKept c m k → may_touch (caller_view m c) l ≡ true → resized s.limits k.state p n ≡ resized s.limits m.state p n
length_same s c m k p n layers.Lfh e x t = rw e refl
length_same s c m k p n layers.Vs e x t =
    rw e (λ i. taken_of (units_of n) (p.granules + run_from (gaps_of (x.spans t i) (x.vs t i).places) (p.start / 16 + p.granules)))
length_same s c m k p n layers.Back e x t = rw e refl
length_same s c m k p n layers.Large e x t = rw e refl

---- The block

-- The live block of this size is at the address, its layer's lock is held, and it keeps its address at the size n, or does not.
pub record IsFoundAt (s : Setting) (m : Configuration) (c a : ℕ) (p : Place) (size n : ℕ) (stays : Bool) : Type 0 where
  pub first : find (has_address a) (exclusive_places m.state c) ≡ Some p
  pub live : p.status ≡ Live size
  pub behind : is_layer p.layer layers.Lfh ≡ false
  pub touch : may_touch (caller_view m c) p.layer ≡ true
  pub stays_is : lets_stay s.limits m.state p n ≡ stays

-- .. it keeps it, and has so many granules then
pub record MayGrow (s : Setting) (m : Configuration) (c a : ℕ) (p : Place) (size n granules : ℕ) : Type 0 where
  pub found : IsFoundAt s m c a p size n true
  pub length_is : resized s.limits m.state p n ≡ granules

module _ (s : Setting) (m : Configuration) (c a : ℕ) (p : Place) (size n : ℕ) (stays : Bool) (x : IsFoundAt s m c a p size n stays) where
  pub there : place_at m.state c a ≡ Some p
  there = find_front (has_address a) (exclusive_places m.state c) (all_places m.state) p x.first

  pub finds : Finds s c a n p stays m.state
  finds = (there, x.stays_is)

  module _ (k : Configuration) (y : IsKept c m k) where
    pub found_kept : IsFoundAt s k c a p size n stays
    found_kept = record {
      first = ap (find (has_address a)) (exclusive_same c m k y) ∙ x.first;
      live = x.live;
      behind = x.behind;
      touch = touch_same c m k p.layer y ∙ x.touch;
      stays_is = stay_same s c m k p n p.layer refl y x.touch ∙ x.stays_is;
    }

    pub finds_kept : Finds s c a n p stays k.state
    finds_kept = (find_front (has_address a) (exclusive_places k.state c) (all_places k.state) p found_kept.first, found_kept.stays_is)

pub grow_kept : (s : Setting) (m k : Configuration) (c a : ℕ) (p : Place) (size n granules : ℕ) → MayGrow s m c a p size n granules → IsKept c m k → MayGrow s k c a p size n granules
grow_kept s m k c a p size n granules x y = record {
  found = found_kept s m c a p size n true x.found k y;
  length_is = length_same s c m k p n p.layer refl y x.found.touch ∙ x.length_is;
}

---- What its holder may say and do of it

module _ (s : Setting) (m : Configuration) (c a : ℕ) (p : Place) (size n : ℕ) (stays : Bool) (x : IsFoundAt s m c a p size n stays) (ent : is_entered m.state.gate c ≡ true) (beg : is_some (m.now.calls c).call ≡ true) (dem : m.now.demand ≡ Nothing) where
  pub locked : is_locked_at m c a ≡ true
  locked = ap (λ (o : Option Place). for_some o (is_locked (caller_view m c))) x.first ∙ and_from (may_touch (caller_view m c) p.layer) (not (is_layer p.layer layers.Lfh)) x.touch (ap not x.behind)

  follows : (act : Act) → is_begin act ≡ false → may s m c act ≡ true → may_follow s m (entry c act) ≡ true
  follows act b r =
      and_from (meets_demand m.state.back.area (entry c act) m.now.demand && (is_begin act || is_some (m.now.calls c).call)) (may s m c act)
      (and_from (meets_demand m.state.back.area (entry c act) m.now.demand) (is_begin act || is_some (m.now.calls c).call) (ap (meets_demand m.state.back.area (entry c act)) dem)
      (ap (λ (y : Bool). y || is_some (m.now.calls c).call) b ∙ beg)) r

  pub sized_may : may_prepare s m c (acts.Sized a size) ≡ true
  sized_may =
      prepares s m c (acts.Sized a size) locked refl
      (follows (acts.Sized a size) refl
      (and_from (is_entered m.state.gate c) _ ent
      (ap (λ (o : Option Place). for_some o (λ q. is_live_of size q.status)) (there s m c a p size n stays x) ∙ (ap (is_live_of size) x.live ∙ eq-eqb size size refl))))

---- It is resized

-- the state with so many granules and bytes in the block at an address
abbrev pub with_length : State → Place → ℕ → ℕ → ℕ → State
with_length st p a granules n =
    let next = with_places st (Some p.layer) (change_found (is_live_at a) (resize_place granules n)) in
    record next { back = record { area = area_with st.back.area granules (Some p); places = next.back.places } }

not_in_hand : (c : ℕ) (t : Status) → is_live t ≡ true → is_in_hand_of c t ≡ false
not_in_hand c (Live size) h = refl
not_in_hand c (Rattle.heap_model.specs.State.InHand d) h = absurd (false≢true h)

hand_same : (c a granules n : ℕ) (l : Layer) (ps : List Place) (o : Option Layer) → in_hand c (on l (change_found (is_live_at a) (resize_place granules n)) ps o) ≡ in_hand c ps
hand_same c a granules n l ps None = refl
hand_same c a granules n l ps (Some k) = by (is_layer l k)
  where
    changed : in_hand c (change_found (is_live_at a) (resize_place granules n) ps) ≡ in_hand c ps
    changed = filter-change_found (λ (q : Place). is_in_hand_of c q.status) (is_live_at a) (resize_place granules n) ps
        (λ p e. (not_in_hand c p.status (Rattle.std.proofs.lemmas.Bool.and_parts (has_address a p) (is_live p.status) e).1, refl))

    by : (b : Bool) → in_hand c (Rattle.std.specs.Prelude.cond b (change_found (is_live_at a) (resize_place granules n) ps) ps) ≡ in_hand c ps
    by true = changed
    by false = refl

hands_same : (st : State) (c a granules n : ℕ) (p : Place) → hands (with_length st p a granules n) c ≡ hands st c
hands_same st c a granules n p =
    let o : Option Layer = Some p.layer in
    let f = hand_same c a granules n layers.Lfh st.lfh o in let v = hand_same c a granules n layers.Vs st.vs.places o in
    let b = hand_same c a granules n layers.Back st.back.places o in let l = hand_same c a granules n layers.Large st.large o in
    (λ i. f i ++ v i ++ b i ++ l i)

module _ (s : Setting) (m : Configuration) (c a : ℕ) (p : Place) (size n granules : ℕ) (x : MayGrow s m c a p size n granules) (ent : is_entered m.state.gate c ≡ true) (beg : is_some (m.now.calls c).call ≡ true) (dem : m.now.demand ≡ Nothing) where
  abbrev resize : Act
  resize = acts.Resize a granules n

  at : place_at m.state c a ≡ Some p
  at = there s m c a p size n true x.found

  may_row : is_resized s m.state (caller_view m c) granules n p ≡ true
  may_row =
      and_from _ (granules == resized s.limits m.state p n)
      (and_from _ (lets_stay s.limits m.state p n)
      (and_from _ (is_live p.status)
      (and_from (may_touch (caller_view m c) p.layer) (not (is_layer p.layer layers.Lfh)) x.found.touch (ap not x.found.behind)) (ap is_live x.found.live)) x.found.stays_is) (eq-eqb granules (resized s.limits m.state p n) (sym x.length_is))

  pub resize_may : may_prepare s m c resize ≡ true
  resize_may =
      prepares s m c resize (locked s m c a p size n true x.found ent beg dem) (ap (λ (o : Option Place). not (is_of_lfh o)) at ∙ ap not x.found.behind)
      (follows s m c a p size n true x.found ent beg dem resize refl
      (and_from (is_entered m.state.gate c) _ ent (ap (λ (o : Option Place). for_some o (is_resized s m.state (caller_view m c) granules n)) at ∙ may_row)))

  pub state_is : (after s m (entry c resize)).state ≡ with_length m.state p a granules n
  state_is = ap (λ (o : Option Place).
      let next = with_places m.state (Rattle.heap_model.specs.Legal.layer_of o) (change_found (is_live_at a) (resize_place granules n)) in
      record next { back = record { area = area_with m.state.back.area granules o; places = next.back.places } }) at

  pub rests : hands m.state c ≡ [] → HasRested (after s m (entry c resize)) c
  rests none = record { hands = ap (λ (st : State). hands st c) state_is ∙ (hands_same m.state c a granules n p ∙ none); demand = refl }
