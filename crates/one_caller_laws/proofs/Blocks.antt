-- The block that a reallocation finds, in what decides how the call goes on: whether it has to move, and what is found where places change.
use Rattle.std.proofs.Common.{◌≡◌, ◌⊎◌, ℕ, ◌*◌, Bool, true, false, ◌&&◌, ◌||◌, not, cond, List, [], ◌∷◌, ◌++◌, Option, Some, None, refl, sym, ap, ◌∙◌, subst, inl, inr, leb}
use Rattle.std.specs.Prelude.{option_and_then}
use Rattle.std.specs.List.{find, AllByRecursion}
use Rattle.std.proofs.lemmas.Bool.{cases_Bool, both_ways}
use Rattle.heap_model.specs.declared.Call.{Call}
use Rattle.heap_model.specs.declared.Call.TheVariants as calls
use Rattle.heap_model.specs.declared.Flags.{Flags}
use Rattle.heap_model.specs.declared.Layer.{Layer}
use Rattle.heap_model.specs.declared.Layer.TheVariants as layers
use Rattle.heap_model.specs.declared.Limits.{Limits}
use Rattle.heap_model.specs.Geometry.{route_of, is_paged, is_huge, units_of, pages_of}
use Rattle.heap_model.specs.Buckets.{bucket_of}
use Rattle.heap_model.specs.State.{Setting, State, Place, Status, Live, opening, is_layer, is_live, is_in_hand_of, has_address, place_at, change_found}
use Rattle.heap_model.specs.Stay.{for_some, lets_stay, lets_stay_in, reach_in}
use Rattle.heap_model.specs.CallState.{Configuration}
use Rattle.heap_model.specs.Search.{request_of, sought_by, has_to_move}
use Rattle.heap_model.specs.Legal.{goes_to_lfh, on, with_status}
use Rattle.heap_model.specs.Agreement.{HasHomes}
use Rattle.heap_model.specs.Shape.{is_of_front}
use Rattle.heap_soundness.specs.Invariant.{Keeps}
use Rattle.heap_soundness.proofs.Addresses.{place_among_all}
use Rattle.heap_soundness.proofs.Enums.{layer_is}
use Rattle.one_caller_laws.proofs.Core.{Core, core_of, places_in_core, stay_by}
use Rattle.one_caller_laws.proofs.InCall.{InCall, SearchesNone}
use Rattle.one_caller_laws.proofs.Reach.{Calm}
use Rattle.one_caller_laws.proofs.Freeing.{changed_core}

---- What is found where places change

abbrev either_of : Option Place → Option Place → Option Place
either_of None o = o
either_of (Some p) o = Some p

find_split : (t : Place → Bool) (xs ys : List Place) → find t (xs ++ ys) ≡ either_of (find t xs) (find t ys)
find_split t [] ys = refl
find_split t (x ∷ xs) ys = elim (cases_Bool (t x)) [
  | inl e ↦ rw e refl
  | inr e ↦ rw e (find_split t xs ys)
]

find_four : (t : Place → Bool) (a b c d : List Place) → find t (a ++ b ++ c ++ d) ≡ either_of (either_of (either_of (find t a) (find t b)) (find t c)) (find t d)
find_four t a b c d =
    find_split t (a ++ b ++ c) d
    ∙ ap (λ (o : Option Place). either_of o (find t d)) (find_split t (a ++ b) c ∙ ap (λ (o : Option Place). either_of o (find t c)) (find_split t a b))

-- where a place was found, one is found that stands in this relation to it; where none was, none is
abbrev Follows : (Place → Place → Type 0) → Option Place → Option Place → Type 0
Follows Good None o = o ≡ None
Follows Good (Some p) o = (q : Place) × (o ≡ Some q) × Good p q

follows_either : (Good : Place → Place → Type 0) (a b c d : Option Place) → Follows Good a c → Follows Good b d → Follows Good (either_of a b) (either_of c d)
follows_either Good None b c d x y = subst (λ (o : Option Place). Follows Good b (either_of o d)) (sym x) y
follows_either Good (Some p) b c d x y = (x.0, ap (λ (o : Option Place). either_of o d) x.1, x.2)

follows_changed : (t u : Place → Bool) (f : Place → Place) (Good : Place → Place → Type 0) → ((p : Place) → u p ≡ true → t p ≡ true) → ((p : Place) → t (f p) ≡ t p) → ((p : Place) → u p ≡ true → Good p (f p)) → ((p : Place) → u p ≡ false → Good p p) →
    (ps : List Place) → Follows Good (find t ps) (find t (change_found u f ps))
follows_changed t u f Good a b g h [] = refl
follows_changed t u f Good a b g h (x ∷ xs) = elim (cases_Bool (t x)) [
  | inl y ↦ elim (cases_Bool (u x)) [
    | inl v ↦ let fx = b x ∙ y in rw (v, y, fx) (f x, refl, g x v)
    | inr v ↦ rw (v, y) (x, refl, h x v)
  ]
  | inr y ↦ elim (cases_Bool (u x)) [
    | inl v ↦ absurd (both_ways (t x) y (a x v))
    | inr v ↦ rw (v, y) (follows_changed t u f Good a b g h xs)
  ]
]

follows_same : (t : Place → Bool) (Good : Place → Place → Type 0) (P : Place → Type 0) → ((p : Place) → P p → Good p p) → (ps : List Place) → AllByRecursion P ps → Follows Good (find t ps) (find t ps)
follows_same t Good P g [] a = refl
follows_same t Good P g (x ∷ xs) a = elim (cases_Bool (t x)) [
  | inl e ↦ rw e (x, refl, g x a.0)
  | inr e ↦ rw e (follows_same t Good P g xs a.1)
]

follows_four : (t : Place → Bool) (Good : Place → Place → Type 0) (a b c d a2 b2 c2 d2 : List Place) → Follows Good (find t a) (find t a2) → Follows Good (find t b) (find t b2) → Follows Good (find t c) (find t c2) → Follows Good (find t d) (find t d2) →
    Follows Good (find t (a ++ b ++ c ++ d)) (find t (a2 ++ b2 ++ c2 ++ d2))
follows_four t Good a b c d a2 b2 c2 d2 w x y z =
    let r = follows_either Good _ _ _ _ (follows_either Good _ _ _ _ (follows_either Good _ _ _ _ w x) y) z in
    subst (λ (o : Option Place). Follows Good (find t (a ++ b ++ c ++ d)) o) (sym (find_four t a2 b2 c2 d2))
    (subst (λ (o : Option Place). Follows Good o (either_of (either_of (either_of (find t a2) (find t b2)) (find t c2)) (find t d2))) (sym (find_four t a b c d)) r)

all_unit : (ps : List Place) → AllByRecursion (λ p. Unit {0}) ps
all_unit [] = tt
all_unit (p ∷ ps) = (tt, all_unit ps)

-- the place of an address, where places keep theirs
module _ (a : ℕ) (u : Place → Bool) (f : Place → Place) (only : (p : Place) → u p ≡ true → has_address a p ≡ true) (same : (p : Place) → has_address a (f p) ≡ has_address a p) where
  abbrev IsOr : Place → Place → Type 0
  IsOr p q = (q ≡ p) ⊎ (q ≡ f p)

  or_on : (layer : Layer) (ps : List Place) (o : Option Layer) → Follows IsOr (find (has_address a) ps) (find (has_address a) (on layer (change_found u f) ps o))
  or_on layer ps None = follows_same (has_address a) IsOr (λ p. Unit {0}) (λ p x. inl refl) ps (all_unit ps)
  or_on layer ps (Some l) = elim (cases_Bool (is_layer layer l)) [
    | inl e ↦ rw e (follows_changed (has_address a) u f IsOr only same (λ p x. inr refl) (λ p x. inl refl) ps)
    | inr e ↦ rw e (follows_same (has_address a) IsOr (λ p. Unit {0}) (λ p x. inl refl) ps (all_unit ps))
  ]

  -- it is there, changed or not ..
  pub found_or : (c : Core) (o : Option Layer) (p : Place) → find (has_address a) (places_in_core c) ≡ Some p → (q : Place) × (find (has_address a) (places_in_core (changed_core c o (change_found u f))) ≡ Some q) × ((q ≡ p) ⊎ (q ≡ f p))
  found_or c o p e =
      let x = follows_four (has_address a) IsOr _ _ _ _ _ _ _ _ (or_on layers.Lfh c.lfh o) (or_on layers.Vs c.vs.places o) (or_on layers.Back c.back.places o) (or_on layers.Large c.large o) in
      subst (λ (z : Option Place). Follows IsOr z (find (has_address a) (places_in_core (changed_core c o (change_found u f))))) e x

  abbrev IsChanged : Layer → Place → Place → Type 0
  IsChanged l p q = p.layer ≡ l → u p ≡ true → q ≡ f p

  own_layer : (l : Layer) → is_layer l l ≡ true
  own_layer layers.Lfh = refl
  own_layer layers.Vs = refl
  own_layer layers.Back = refl
  own_layer layers.Large = refl

  changed_on : (layer l : Layer) (ps : List Place) → AllByRecursion (λ p. p.layer ≡ layer) ps → Follows (IsChanged l) (find (has_address a) ps) (find (has_address a) (on layer (change_found u f) ps (Some l)))
  changed_on layer l ps h = elim (cases_Bool (is_layer layer l)) [
    | inl e ↦ rw e (follows_changed (has_address a) u f (IsChanged l) only same (λ p x y z. refl) (λ p x y z. absurd (both_ways (u p) x z)) ps)
    | inr e ↦ rw e (follows_same (has_address a) (IsChanged l) (λ p. p.layer ≡ layer) (λ p x y z. absurd (both_ways (is_layer layer l) e (ap (λ (k : Layer). is_layer k l) (sym x ∙ y) ∙ own_layer l))) ps h)
  ]

  -- .. and changed, where its layer is the one that changes
  pub found_changed : (m : Configuration) (p : Place) → HasHomes m.state → find (has_address a) (places_in_core (core_of m)) ≡ Some p → u p ≡ true →
      find (has_address a) (places_in_core (changed_core (core_of m) (Some p.layer) (change_found u f))) ≡ Some (f p)
  found_changed m p h e v =
      let l = p.layer in
      let c = core_of m in
      let x = follows_four (has_address a) (IsChanged p.layer) _ _ _ _ _ _ _ _ (changed_on layers.Lfh p.layer c.lfh h.lfh) (changed_on layers.Vs p.layer c.vs.places h.vs) (changed_on layers.Back p.layer c.back.places h.back) (changed_on layers.Large p.layer c.large h.large) in
      let y : Follows (IsChanged p.layer) (Some p) (find (has_address a) (places_in_core (changed_core (core_of m) (Some p.layer) (change_found u f)))) = subst (λ (z : Option Place). Follows (IsChanged p.layer) z (find (has_address a) (places_in_core (changed_core (core_of m) (Some p.layer) (change_found u f))))) e x in
      y.1 ∙ ap Some (y.2 refl v)

---- Where it stays

-- a state that a core is of
abbrev pub still : Core → State
still c = record { gate = opening.gate; back = c.back; vs = c.vs; lfh = c.lfh; large = c.large; words = λ _. 0 }

pub stay_at : (l : Limits) (m : Configuration) (p : Place) (n : ℕ) → lets_stay l m.state p n ≡ lets_stay l (still (core_of m)) p n
stay_at l m p n = stay_by l m.state (still (core_of m)) refl refl refl p n p.layer refl

reach_free : (l : Limits) (st : State) (p : Place) (status : Status) (k : Layer) → reach_in l st (with_status status p) k ≡ reach_in l st p k
reach_free l st p status layers.Lfh = refl
reach_free l st p status layers.Vs = refl
reach_free l st p status layers.Back = refl
reach_free l st p status layers.Large = refl

-- whatever its status is
pub stay_free : (l : Limits) (st : State) (p : Place) (status : Status) (n : ℕ) (k : Layer) → lets_stay_in l st (with_status status p) n k ≡ lets_stay_in l st p n k
stay_free l st p status n layers.Lfh = refl
stay_free l st p status n layers.Vs = ap (λ (r : ℕ). leb n 131072 && leb (units_of n) r) (reach_free l st p status p.layer)
stay_free l st p status n layers.Back = ap (λ (r : ℕ). is_paged (route_of n) && leb (256 * pages_of n) r) (reach_free l st p status p.layer)
stay_free l st p status n layers.Large = ap (λ (r : ℕ). is_huge (route_of n) && leb (256 * pages_of n) r) (reach_free l st p status p.layer)

-- a block of the front end stays by its own length
pub front_stays : (l : Limits) (st other : State) (p : Place) (n : ℕ) (k : Layer) → k ≡ layers.Lfh → lets_stay_in l st p n k ≡ lets_stay_in l other p n k
front_stays l st other p n k e = rw e refl

pub front_layer : (p : Place) → is_of_front p ≡ true → p.layer ≡ layers.Lfh
front_layer p h = sym (layer_is p.layer layers.Lfh h)

---- What the call asks

some_same : (o : Option Place) (f g : Place → Bool) → ((p : Place) → f p ≡ g p) → for_some o f ≡ for_some o g
some_same None f g h = refl
some_same (Some p) f g h = h p

module _ (s : Setting) (a n : ℕ) (flags : Flags) where
  abbrev pub call : Call
  call = calls.Realloc a n flags

  -- the block at a has to move
  abbrev pub moves_in : Core → Bool
  moves_in c = for_some (find (has_address a) (places_in_core c)) (has_to_move s (still c) 0 n)

  pub moves_at : (m : Configuration) → Keeps s m → for_some (place_at m.state 0 a) (has_to_move s m.state 0 n) ≡ moves_in (core_of m)
  moves_at m k =
      ap (λ (o : Option Place). for_some o (has_to_move s m.state 0 n)) (place_among_all s m 0 a k)
      ∙ some_same (find (has_address a) (places_in_core (core_of m))) (has_to_move s m.state 0 n) (has_to_move s (still (core_of m)) 0 n)
      (λ p. ap (λ (b : Bool). (is_live p.status || is_in_hand_of 0 p.status) && not b) (stay_at s.limits m p n))

  -- .. and the front end has a part in it
  abbrev wants_at : Core → Bool → Bool → Bool → Bool
  wants_at c placed in_place moves = for_some (option_and_then bucket_of (cond placed None (cond (not in_place && moves) (Some n) None))) (goes_to_lfh c.vs)

  abbrev pub wants : Core → Bool
  wants c = for_some (option_and_then bucket_of (cond c.placed None (cond (not flags.in_place && moves_in c) (Some n) None))) (goes_to_lfh c.vs)

  wants_is : (k : Configuration) → InCall s call k → for_some (request_of s k 0).bucket (goes_to_lfh k.state.vs) ≡ wants (core_of k)
  wants_is k w =
      ap (λ (o : Option Call). for_some (option_and_then bucket_of (cond (k.now.calls 0).placed None (option_and_then (sought_by s k.state 0) o))) (goes_to_lfh k.state.vs)) w.call_is
      ∙ ap (λ (b : Bool). wants_at (core_of k) (k.now.calls 0).placed flags.in_place b) (moves_at k w.keeps)

  pub none_by : (k : Configuration) → InCall s call k → wants (core_of k) ≡ false → SearchesNone s k
  none_by k w h = wants_is k w ∙ h

  pub wants_none : (k : Configuration) → Calm s call k → wants (core_of k) ≡ false
  wants_none k c = sym (wants_is k c.within) ∙ c.none

  pub stays_none : (c : Core) → moves_in c ≡ false → wants c ≡ false
  stays_none c h = ap (wants_at c c.placed flags.in_place) h ∙ by_flags c.placed flags.in_place
    where
      by_flags : (p b : Bool) → wants_at c p b false ≡ false
      by_flags true b = refl
      by_flags false true = refl
      by_flags false false = refl

  -- a call that may not move its block asks for nothing
  pub keeps_none : (c : Core) → flags.in_place ≡ true → wants c ≡ false
  keeps_none c e = ap (λ (b : Bool). wants_at c c.placed b (moves_in c)) e ∙ by_flags c.placed
    where
      by_flags : (p : Bool) → wants_at c p true (moves_in c) ≡ false
      by_flags true = refl
      by_flags false = refl

  pub others_none : (c : Core) → for_some (bucket_of n) (goes_to_lfh c.vs) ≡ false → wants c ≡ false
  others_none c h = by_flags c.placed flags.in_place (moves_in c)
    where
      by_flags : (p b d : Bool) → wants_at c p b d ≡ false
      by_flags true b d = refl
      by_flags false true d = refl
      by_flags false false false = refl
      by_flags false false true = h

  pub mover_is : (c : Core) → wants c ≡ false → c.placed ≡ false → flags.in_place ≡ false → moves_in c ≡ true → for_some (bucket_of n) (goes_to_lfh c.vs) ≡ false
  mover_is c h p b d = sym (λ i. wants_at c (p i) (b i) (d i)) ∙ h

  ---- The block

  -- it is live with this size, of the front end or not, and stays or not
  pub record Block (c : Core) (size : ℕ) (front stays : Bool) : Type 0 where
    pub place : Place
    pub found : find (has_address a) (places_in_core c) ≡ Some place
    pub live : place.status ≡ Live size
    pub is_front : is_of_front place ≡ front
    pub is_staying : lets_stay s.limits (still c) place n ≡ stays

  -- words do not matter to it
  pub block_worded : (c : Core) (words : ℕ → ℕ) (size : ℕ) (front stays : Bool) → Block (record c { words = words }) size front stays → Block c size front stays
  block_worded c words size front stays x = record { place = x.place; found = x.found; live = x.live; is_front = x.is_front; is_staying = x.is_staying }

  pub block_same : (c : Core) (p q : ℕ) (front other stays staying : Bool) → Block c p front stays → Block c q other staying → (p ≡ q) × (front ≡ other) × (stays ≡ staying)
  block_same c p q front other stays staying x y =
      let z : Some x.place ≡ Some y.place = sym x.found ∙ y.found in
      let same : x.place ≡ y.place = cc in
      let l : Live p ≡ Live q = sym x.live ∙ ap (λ (z : Place). z.status) same ∙ y.live in
      let size : p ≡ q = cc in
      (size, sym x.is_front ∙ ap is_of_front same ∙ y.is_front, sym x.is_staying ∙ ap (λ (z : Place). lets_stay s.limits (still c) z n) same ∙ y.is_staying)

  pub block_moves : (c : Core) (size : ℕ) (front stays : Bool) → Block c size front stays → moves_in c ≡ not stays
  block_moves c size front stays x =
      let f = x.found in
      let l = x.live in
      let t = x.is_staying in
      ap (λ (o : Option Place). for_some o (has_to_move s (still c) 0 n)) f ∙ (rw (l, t) refl)

  -- a block is there that stays whatever the heap is
  pub record Rests (c : Core) : Type 0 where
    pub place : Place
    pub found : find (has_address a) (places_in_core c) ≡ Some place
    pub is_staying : (st : State) → lets_stay s.limits st place n ≡ true

  pub rests_none : (c : Core) → Rests c → wants c ≡ false
  rests_none c x =
      stays_none c (ap (λ (o : Option Place). for_some o (has_to_move s (still c) 0 n)) x.found
      ∙ ap (λ (b : Bool). (is_live x.place.status || is_in_hand_of 0 x.place.status) && not b) (x.is_staying (still c)) ∙ by_status (is_live x.place.status || is_in_hand_of 0 x.place.status))
    where
      by_status : (b : Bool) → (b && false) ≡ false
      by_status true = refl
      by_status false = refl

  pub rests_front : (c : Core) (size : ℕ) → Block c size true true → Rests c
  rests_front c size x = record { place = x.place; found = x.found; is_staying = λ st. front_stays s.limits st (still c) x.place n x.place.layer (front_layer x.place x.is_front) ∙ x.is_staying }

  -- .. and one of another status does too
  pub rests_restatused : (c : Core) (o : Option Layer) (u : Place → Bool) (status : Status) → ((p : Place) → u p ≡ true → has_address a p ≡ true) → Rests c → Rests (changed_core c o (change_found u (with_status status)))
  rests_restatused c o u status only x =
      let y = found_or a u (with_status status) only (λ p. refl) c o x.place x.found in
      elim y.2 [
        | inl e ↦ record { place = x.place; found = y.1 ∙ ap Some e; is_staying = x.is_staying }
        | inr e ↦ record { place = with_status status x.place; found = y.1 ∙ ap Some e; is_staying = λ st. stay_free s.limits st x.place status n x.place.layer ∙ x.is_staying st }
      ]
