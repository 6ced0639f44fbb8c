-- A block of the front end that is taken: where it was found, and what it lets be done with it.
use Rattle.std.proofs.Common.{◌≡◌, ℕ, ◌+◌, ◌-◌, ◌*◌, ◌/◌, Bool, true, false, ◌&&◌, List, [], ◌∷◌, ◌++◌, Option, Some, None, refl, sym, ap, ◌∙◌, subst, leb, eq-eqb, inl, inr}
use Rattle.std.specs.Prelude.{is_some}
use Rattle.std.specs.List.{find}
use Rattle.std.proofs.lemmas.Bool.{cases_Bool, and_parts}
use Rattle.std.proofs.lemmas.List.{append-nil}
use mathlib.Core.List.{IsPrefix}
use Rattle.heap_model.specs.declared.Act.{Act}
use Rattle.heap_model.specs.declared.Act.TheVariants as acts
use Rattle.heap_model.specs.declared.Call.{Call}
use Rattle.heap_model.specs.declared.Call.TheVariants as calls
use Rattle.heap_model.specs.declared.Entry.{Entry}
use Rattle.heap_model.specs.declared.Flags.{Flags}
use Rattle.heap_model.specs.declared.Layer.{Layer}
use Rattle.heap_model.specs.declared.Layer.TheVariants as layers
use Rattle.heap_model.specs.declared.What.TheVariants as whats
use Rattle.heap_model.specs.Buckets.{block_size}
use Rattle.heap_model.specs.Geometry.{words_of}
use Rattle.heap_model.specs.State.{Setting, State, Place, Status, Live, InHand, is_layer, is_live, is_live_of, is_live_at, is_in_hand_of, has_address, in_hand, hands, hand_at, places_of, holds, guarded, exclusive_places, all_places, place_at, change_found}
use Rattle.heap_model.specs.CallState.{Configuration, CallState, caller_view, not_begun}
use Rattle.heap_model.specs.Legal.{after, may_touch, with_places, with_status, layer_of}
use Rattle.heap_model.specs.History.{configuration_of}
use Rattle.heap_model.specs.Agreement.{AgreesFor, HasHomes}
use Rattle.heap_model.specs.Moments.{Moment, moments, Before}
use Rattle.heap_model.specs.Shape.{shape_of, zeroing_more, is_take, is_of_front, Finds}
use Rattle.heap_model.proofs.GateSound.{row_of}
use Rattle.heap_model.proofs.ListLemmas.{for_some_parts}
use Rattle.heap_model.proofs.Moments.{moments-append}
use Rattle.heap_soundness.specs.Sound.{IsOneOf}
use Rattle.heap_soundness.proofs.Lists.{all_at, found_in}
use Rattle.claim_rule.specs.Entries.{IsSettingOf, IsLegalWith, entry}
use Rattle.serial_laws.proofs.Found.{find_front}
use Rattle.call_laws.proofs.Within.{updated_here}
use Rattle.step_parts.specs.InHand.{HasBlock}
use Rattle.heap_gate.specs.Token.{Token, Always, now, IsStanding, is_out}
use Rattle.lfh_claims.specs.declared.tag.Tag.{Tag}
use Rattle.lfh_claims.specs.Blocks.{HasTakenLive}
use Rattle.lfh_claims.proofs.Hands.{homes_behind}
use Rattle.call_parts.specs.Calls.{IsServing, GoesOn}
use Rattle.heap_gate.specs.Calls.{rested}
use Rattle.block_steps.specs.Blocks.{MayAsk}
use Rattle.lfh_claims.specs.Moves.{IsWith}
use Rattle.lfh_claims.specs.Blocks.{HasPublished}
use Rattle.lfh_claims.specs.Stays.{all_stay, all_leave_spans}
use Rattle.lfh_claims.proofs.Stays.{read_stays}
use Rattle.heap_model.specs.History.{configuration_after}
use Rattle.call_parts.specs.Calls.{Makes}
use Rattle.call_parts.specs.Entries.{HasAdded, HasEnded}
use Rattle.call_parts.proofs.Handing.{HasZeroed}
use Rattle.call_parts.proofs.Joining.{goes_does, goes_none, setting_before}
use Rattle.call_parts.proofs.Serving.{none_begins-append, shape-append}
use Rattle.call_parts.proofs.Tokens.{added_then, added_rested, makes}
use Rattle.small_calls.specs.Fronts.{HasOne}
use Rattle.stay_calls.specs.Stays.{StaysAt, IsTakenToMove, FindsFrontBlock}
use Rattle.stay_calls.proofs.Ending.{zeros_shown, zeros_no_begin}
use Rattle.stay_calls.proofs.Histories.{joined, shown_added}
use Rattle.call_parts.proofs.VsBlocks.{HasNothing, has_nothing}
use Rattle.stay_calls.proofs.Histories.{met, met_agrees, met_follows, last_agrees, found_before}

---- A state before is one before more

pub before_more : (test : Act → Bool) (P : State → Type 0) (xs ys : List Moment) → Before test P xs → Before test P (xs ++ ys)
before_more test P [] ys h = absurd h
before_more test P (x ∷ xs) ys h = elim (cases_Bool (test x.act)) [
  | inl e ↦ rw e (rw e at h)
  | inr e ↦ rw e (before_more test P xs ys (rw e at h))
]

---- The place that a Take has put in hand

taken_none : (c a : ℕ) (ps : List Place) → find (is_live_at a) ps ≡ None → in_hand c ps ≡ [] → in_hand c (change_found (is_live_at a) (with_status (InHand c)) ps) ≡ []
taken_none c a [] e h = refl
taken_none c a (x ∷ xs) e h = elim (cases_Bool (is_live_at a x)) [
  | inl f ↦ let bad : Some x ≡ None = rw f at e in absurd (let no : ⊥ = cc in no)
  | inr f ↦ rw f (elim (cases_Bool (is_in_hand_of c x.status)) [
    | inl g ↦ let bad : x ∷ in_hand c xs ≡ [] = rw g at h in absurd (let no : ⊥ = cc in no)
    | inr g ↦ rw g (taken_none c a xs (rw f at e) (rw g at h))
  ])
]

taken_some : (c a : ℕ) (ps : List Place) (x : Place) → find (is_live_at a) ps ≡ Some x → in_hand c ps ≡ [] → in_hand c (change_found (is_live_at a) (with_status (InHand c)) ps) ≡ with_status (InHand c) x ∷ []
taken_some c a [] x e h = absurd (let no : ⊥ = cc in no)
taken_some c a (y ∷ ys) x e h = elim (cases_Bool (is_live_at a y)) [
  | inl f ↦
      let same : Some y ≡ Some x = rw f at e in let is : y ≡ x = cc in
      let live = (and_parts (has_address a y) (is_live y.status) f).1 in
      let off = off_hand y.status live in
      let rest : in_hand c ys ≡ [] = rw off at h in
      let z = eq-eqb c c refl in
      rw f (rw z (λ j. with_status (InHand c) (is j) ∷ rest j))
  | inr f ↦ rw f (elim (cases_Bool (is_in_hand_of c y.status)) [
    | inl g ↦ let bad : y ∷ in_hand c ys ≡ [] = rw g at h in absurd (let no : ⊥ = cc in no)
    | inr g ↦ rw g (taken_some c a ys x (rw f at e) (rw g at h))
  ])
]
  where
    off_hand : (t : Status) → is_live t ≡ true → is_in_hand_of c t ≡ false
    off_hand (Live size) l = refl
    off_hand (InHand d) l = absurd (Rattle.std.proofs.lemmas.Bool.false≢true l)

find_behind : (t : Place → Bool) (xs ys : List Place) → find t xs ≡ None → find t (xs ++ ys) ≡ find t ys
find_behind t [] ys e = refl
find_behind t (x ∷ xs) ys e = elim (cases_Bool (t x)) [
  | inl h ↦ let bad : Some x ≡ None = rw h at e in absurd (let no : ⊥ = cc in no)
  | inr h ↦ rw h (find_behind t xs ys (rw h at e))
]

-- Nothing was in hand and no lock held; a live block was taken, and a block of the front end is in hand then. So it was one before.
module _ (st : State) (homes : HasHomes st) (c a size : ℕ) (none : hands st c ≡ []) (vs : holds st.gate c whats.Vs ≡ false) (back : holds st.gate c whats.Back ≡ false) (large : holds st.gate c whats.Large ≡ false)
    (p : Place) (at : place_at st c a ≡ Some p) (live : is_live_of size p.status ≡ true) where
  nothing : HasNothing st c
  nothing = has_nothing st c none

  no_exclusive : exclusive_places st c ≡ []
  no_exclusive = (λ i. none i ++ guarded st.vs.places (vs i) ++ guarded st.back.places (back i) ++ guarded st.large (large i))

  among : find (has_address a) (all_places st) ≡ Some p
  among = ap (λ (ps : List Place). find (has_address a) (ps ++ all_places st)) (sym no_exclusive) ∙ at

  abbrev take : List Place → List Place
  take ps = change_found (is_live_at a) (with_status (InHand c)) ps

  -- the one that was taken is of the layer of the place
  record IsTakenOf (l : Layer) (q : Place) : Type 0 where
    pub one : Place
    pub found : find (is_live_at a) (places_of st l) ≡ Some one
    pub is : q ≡ with_status (InHand c) one

  found_alone : (x q : Place) → is_live_at a x ≡ true → find (has_address a) (with_status (InHand c) x ∷ []) ≡ Some q → q ≡ with_status (InHand c) x
  found_alone x q l e =
      let f : has_address a (with_status (InHand c) x) ≡ true = (and_parts (has_address a x) (is_live x.status) l).0 in
      let both : Some (with_status (InHand c) x) ≡ Some q = rw f at e in
      let same : with_status (InHand c) x ≡ q = cc in sym same

  by_list : (l : Layer) (ps : List Place) (q : Place) → ps ≡ places_of st l → in_hand c ps ≡ [] → find (has_address a) (in_hand c (take ps)) ≡ Some q → IsTakenOf l q
  by_list l ps q e h f = by (find (is_live_at a) ps) refl
    where
      by : (o : Option Place) → find (is_live_at a) ps ≡ o → IsTakenOf l q
      by None g = let bad : None ≡ Some q = ap (find (has_address a)) (sym (taken_none c a ps g h)) ∙ f in absurd (let no : ⊥ = cc in no)
      by (Some x) g = record {
        one = x;
        found = ap (find (is_live_at a)) (sym e) ∙ g;
        is = found_alone x q (Rattle.heap_soundness.proofs.Lists.found_passes (is_live_at a) ps x g) (ap (find (has_address a)) (sym (taken_some c a ps x g h)) ∙ f);
      }

  alone : (l : Layer) (q : Place) → hand_at (with_places st (Some l) take) c a ≡ Some q → IsTakenOf l q
  alone layers.Lfh q f =
      let x = in_hand c (take st.lfh) in
      let all : x ++ in_hand c st.vs.places ++ in_hand c st.back.places ++ in_hand c st.large ≡ x =
      (λ i. x ++ nothing.vs i ++ nothing.back i ++ nothing.large i) ∙ (append-nil ((x ++ []) ++ []) ∙ (append-nil (x ++ []) ∙ append-nil x)) in
      by_list layers.Lfh st.lfh q refl nothing.lfh (ap (find (has_address a)) (sym all) ∙ f)
  alone layers.Vs q f =
      let x = in_hand c (take st.vs.places) in
      let all : in_hand c st.lfh ++ x ++ in_hand c st.back.places ++ in_hand c st.large ≡ x =
      (λ i. nothing.lfh i ++ x ++ nothing.back i ++ nothing.large i) ∙ (append-nil (x ++ []) ∙ append-nil x) in
      by_list layers.Vs st.vs.places q refl nothing.vs (ap (find (has_address a)) (sym all) ∙ f)
  alone layers.Back q f =
      let x = in_hand c (take st.back.places) in
      let all : in_hand c st.lfh ++ in_hand c st.vs.places ++ x ++ in_hand c st.large ≡ x =
      (λ i. nothing.lfh i ++ nothing.vs i ++ x ++ nothing.large i) ∙ append-nil x in
      by_list layers.Back st.back.places q refl nothing.back (ap (find (has_address a)) (sym all) ∙ f)
  alone layers.Large q f =
      let x = in_hand c (take st.large) in
      let all : in_hand c st.lfh ++ in_hand c st.vs.places ++ in_hand c st.back.places ++ x ≡ x = (λ i. nothing.lfh i ++ nothing.vs i ++ nothing.back i ++ x) in
      by_list layers.Large st.large q refl nothing.large (ap (find (has_address a)) (sym all) ∙ f)

  layer_home : (l : Layer) (x : Place) → IsOneOf x (places_of st l) → x.layer ≡ l
  layer_home layers.Lfh x i = all_at (λ (y : Place). y.layer ≡ layers.Lfh) x st.lfh homes.lfh i
  layer_home layers.Vs x i = all_at (λ (y : Place). y.layer ≡ layers.Vs) x st.vs.places homes.vs i
  layer_home layers.Back x i = all_at (λ (y : Place). y.layer ≡ layers.Back) x st.back.places homes.back i
  layer_home layers.Large x i = all_at (λ (y : Place). y.layer ≡ layers.Large) x st.large homes.large i

  live_p : is_live p.status ≡ true
  live_p = lives p.status live
    where
      lives : (t : Status) → is_live_of size t ≡ true → is_live t ≡ true
      lives (Live n) h = refl
      lives (InHand d) h = h

  -- the first place of the address is the one that is live there
  first_live : (ps : List Place) (x : Place) → find (is_live_at a) ps ≡ Some x → ((r : Place) → find (has_address a) ps ≡ Some r → r ≡ p) → x ≡ p
  first_live [] x e h = absurd (let no : ⊥ = cc in no)
  first_live (y ∷ ys) x e h = elim (cases_Bool (has_address a y)) [
    | inl f ↦
        let is : y ≡ p = h y (rw f refl) in
        let l : is_live y.status ≡ true = ap (λ (z : Place). is_live z.status) is ∙ live_p in
        let same : Some y ≡ Some x = rw (f, l) at e in
        let k : y ≡ x = cc in sym k ∙ is
    | inr f ↦ first_live ys x (rw f at e) (λ r g. h r (rw f g))
  ]

  -- what was taken is that place, one of the front end
  pub record IsFrontPlace (q : Place) : Type 0 where
    pub layer : p.layer ≡ layers.Lfh
    pub granules : q.granules ≡ p.granules

  pub front_place : (q : Place) → hand_at (with_places st (layer_of (place_at st c a)) take) c a ≡ Some q → q.layer ≡ layers.Lfh → IsFrontPlace q
  front_place q f l =
      let y = alone p.layer q (ap (λ (o : Option Place). hand_at (with_places st (layer_of o) take) c a) (sym at) ∙ f) in
      let home = layer_home p.layer y.one (found_in (is_live_at a) (places_of st p.layer) y.one y.found) in
      let is_front : p.layer ≡ layers.Lfh = sym home ∙ (ap (λ (x : Place). x.layer) (sym y.is) ∙ l) in
      let found : find (is_live_at a) st.lfh ≡ Some y.one = subst (λ (k : Layer). find (is_live_at a) (places_of st k) ≡ Some y.one) is_front y.found in
      let same : y.one ≡ p = first_live st.lfh y.one found (λ r g.
      let all = find_front (has_address a) (st.lfh ++ st.vs.places ++ st.back.places) st.large r
      (find_front (has_address a) (st.lfh ++ st.vs.places) st.back.places r (find_front (has_address a) st.lfh st.vs.places r g)) in
      let both : Some r ≡ Some p = sym all ∙ among in cc) in
      record { layer = is_front; granules = ap (λ (x : Place). x.granules) y.is ∙ ap (λ (x : Place). x.granules) same }

---- The caller

-- a call that has neither begun a search nor said that a bucket has no span
pub record HasNotSearched (k : CallState) : Type 0 where
  pub no_span : k.no_span ≡ false
  pub search : k.search ≡ not_begun

-- where the block was found, and how long it was
pub record IsFoundFront (s : Setting) (st : State) (c a n b : ℕ) : Type 0 where
  pub place : Place
  pub front : is_of_front place ≡ true
  pub finds : Finds s c a n place (leb n 16368 && leb n (block_size b)) st

module _ (a b : Token) (own_call : Call) (tag : Tag) (addr size n : ℕ) (v : IsServing a own_call []) (sa : IsStanding a) (x : HasTakenLive a b tag addr size) (legal : IsLegalWith b.opening b.roll b.seen) where
  abbrev take_it : Act
  take_it = acts.Take addr size

  pub taken : GoesOn a b (take_it ∷ [])
  taken = goes_does a b (take_it ∷ []) x.takes.does x.stands.depth

  pub nb : b.prepared ≡ []
  nb = x.stands.prepared

  module _ (s : Setting) (q : IsSettingOf b.opening b.roll s) where
    abbrev m : Configuration
    m = met a b take_it [] taken v.prepared nb legal s

    qa : IsSettingOf a.opening a.roll s
    qa = setting_before a b (take_it ∷ []) taken s q

    agrees : AgreesFor a.number m (now s a)
    agrees = met_agrees a b take_it [] taken v.prepared nb legal s q

    last : AgreesFor a.number (now s b) (after s m (entry a.number take_it))
    last = last_agrees a b take_it [] taken v.prepared nb legal s q refl

    row : (p : Place) × (place_at m.state a.number addr ≡ Some p) × ((may_touch (caller_view m a.number) p.layer && is_live_of size p.status) ≡ true)
    row =
        for_some_parts (place_at m.state a.number addr) (λ p. may_touch (caller_view m a.number) p.layer && is_live_of size p.status)
        (and_parts (caller_view m a.number).entered _ (row_of s m (entry a.number take_it) (met_follows a b take_it [] taken v.prepared nb legal s q))).1

    no_hands : hands m.state a.number ≡ []
    no_hands = (λ i. agrees.hands layers.Lfh i ++ agrees.hands layers.Vs i ++ agrees.hands layers.Back i ++ agrees.hands layers.Large i) ∙ (sa s qa).hands v.free

    not_held : (w : Rattle.heap_model.specs.declared.What.What) → is_out w [] ≡ false → holds m.state.gate a.number w ≡ false
    not_held w e = agrees.locks w ∙ ((sa s qa).locks w ∙ (ap (is_out w) v.out_is ∙ e))

    hand : HasBlock (now s b) a.number tag.bucket addr
    hand = x.block s q

    then_hand : hand_at (after s m (entry a.number take_it)).state a.number addr ≡ Some hand.hand.place
    then_hand = ap (find (has_address addr)) (sym (λ i. last.hands layers.Lfh i ++ last.hands layers.Vs i ++ last.hands layers.Back i ++ last.hands layers.Large i)) ∙ hand.hand.hand

    pub found_front : IsFoundFront s m.state a.number addr n tag.bucket
    found_front =
        let homes = homes_behind s a.seen (Rattle.stay_calls.proofs.Histories.parts a b take_it [] taken v.prepared nb legal).0 in
        let z = front_place m.state homes a.number addr size no_hands (not_held whats.Vs refl) (not_held whats.Back refl) (not_held whats.Large refl) row.0 row.1 (and_parts (may_touch (caller_view m a.number) row.0.layer) _ row.2).1
        hand.hand.place then_hand hand.hand.layer in
        let e = z.layer in
        let long : 16 * row.0.granules ≡ block_size tag.bucket = ap (λ (g : ℕ). 16 * g) (sym z.granules) ∙ hand.long in
        record {
          place = row.0;
          front = ap (λ (l : Layer). is_layer l layers.Lfh) e;
          finds = (row.1, rw e (ap (λ (k : ℕ). leb n 16368 && leb n k) long));
        }

    -- the call has taken the block, and is else as it was
    pub call_now : (now s b).now.calls a.number ≡ record ((now s a).now.calls a.number) { taken = true }
    call_now = last.call ∙ (updated_here m.now.calls a.number (record (m.now.calls a.number) { taken = true }) ∙ ap (λ (k : CallState). record k { taken = true }) agrees.call)

    pub taken_before : (p : IsPrefix a.seen b.seen) (P : State → Type 0) → P m.state → Before is_take P (moments s a.number (configuration_of s a.seen) p.0)
    taken_before p P h = found_before a b take_it [] taken v.prepared nb legal s q a [] (goes_none a) v.prepared p is_take refl refl P h

---- It is given again, or is to move

-- what is in hand is one place
alone_in : (addr : ℕ) (less more : List Place) → less ≡ [] → IsWith addr less more → (p : Place) × (more ≡ p ∷ [])
alone_in addr less more none x = (x.place, by x.front x.back (sym none ∙ x.less_is) x.more_is)
  where
    by : (front back : List Place) → [] ≡ front ++ back → more ≡ front ++ x.place ∷ back → more ≡ x.place ∷ []
    by [] [] e m = m
    by [] (q ∷ qs) e m = absurd (let bad : ⊥ = cc (e) in bad)
    by (q ∷ qs) back e m = absurd (let bad : ⊥ = cc (e) in bad)

module _ (a b : Token) (own_call : Call) (tag : Tag) (addr size n : ℕ) (flags : Flags) (v : IsServing a own_call []) (sa : IsStanding a) (x : HasTakenLive a b tag addr size) where
  abbrev takes : List Act
  takes = acts.Take addr size ∷ []

  pub take_added : HasAdded a b takes
  take_added = record {
    goes = goes_does a b takes x.takes.does x.stands.depth;
    steady = record { call = x.stands.call; fresh = x.stands.fresh; inside = x.stands.inside; searched = x.stands.searched; drawn = x.stands.drawn; owes = x.stands.owes };
  }

  pub has_one : HasOne b tag.bucket addr
  has_one = record {
    inside = x.stands.inside ∙ v.inside;
    whole = x.stands.whole;
    begun = ap is_some (x.stands.call ∙ v.call_is);
    prepared = x.stands.prepared;
    block = λ s q. subst (λ (c : ℕ). HasBlock (now s b) c tag.bucket addr) (sym x.takes.does.number) (x.block s q);
    alone = λ s q.
        let qa = setting_before a b takes take_added.goes s q in
        subst (λ (c : ℕ). (p : Place) × (hands (now s b).state c ≡ p ∷ [])) (sym x.takes.does.number)
        (alone_in addr (hands (now s a).state a.number) (hands (now s b).state a.number) ((sa s qa).hands v.free) (x.takes.hands s q));
  }

  ---- It is to move

  call_then : IsLegalWith b.opening b.roll b.seen → Always b (λ s. HasNotSearched ((now s b).now.calls b.number))
  call_then legal s q =
      let is = call_now a b own_call tag addr size n v sa x legal s q in
      let new = v.is_new s (setting_before a b takes take_added.goes s q) in
      subst (λ (c : ℕ). HasNotSearched ((now s b).now.calls c)) (sym x.takes.does.number)
      (record { no_span = ap (λ (k : CallState). k.no_span) is ∙ new.no_span; search = ap (λ (k : CallState). k.search) is ∙ new.search })

  pub to_move : Always a (λ s. MayAsk (now s a) a.number tag.head tag.bucket tag.slot addr) → IsLegalWith b.opening b.roll b.seen → (leb n 16368 && leb n (block_size tag.bucket)) ≡ false → IsTakenToMove a b addr tag size n
  to_move may legal leaves = record {
    looks = [];
    no_begin = refl;
    no_move = refl;
    shape_is = refl;
    added = take_added;
    leaves = λ s q.
        let f = found_front a b own_call tag addr size n v sa x legal s q in
        taken_before a b own_call tag addr size n v sa x legal s q take_added.goes.seen (FindsFrontBlock a addr n s) (f.place, f.front, (f.finds.0, f.finds.1 ∙ leaves));
    out = x.stands.out ∙ v.out_is;
    pending = x.stands.pending;
    one = has_one;
    read = read_stays a b (entry a.number (acts.Take addr size) ∷ []) x.takes.does (ap (λ (l : List Entry). all_stay (l ++ entry a.number (acts.Take addr size) ∷ [])) v.prepared) (ap all_leave_spans v.prepared)
        (λ s q. (may s q).inside) tag.head tag.bucket tag.slot (λ s q. (may s q).seen);
    number = x.number;
    no_span = λ s q. (call_then legal s q).no_span;
    search = λ s q. (call_then legal s q).search;
  }

  ---- It is given again

  module _ (z : Token) (zeroed_it : HasZeroed b z (addr / 8 + words_of size) (words_of n - words_of size) flags.zero) (d : Token) (p : HasPublished z d addr n) where
    abbrev zs : List Act
    zs = zeroing_more flags.zero addr size n

    abbrev gives : List Act
    gives = acts.Give addr n ∷ []

    give_added : HasAdded z d gives
    give_added = record {
      goes = goes_does z d gives p.moves.does p.stands.depth;
      steady = record { call = p.stands.call; fresh = p.stands.fresh; inside = p.stands.inside; searched = p.stands.searched; drawn = p.stands.drawn; owes = p.stands.owes };
    }

    behind : HasAdded b (rested d) (zs ++ gives)
    behind =
        let both = added_then b z d zs gives zeroed_it.added give_added in
        subst (HasAdded b (rested d)) (append-nil (zs ++ gives)) (added_then b d (rested d) (zs ++ gives) [] both (added_rested d))

    whole : HasEnded a (rested d) (acts.Take addr size ∷ (zs ++ gives)) []
    whole = record {
      added = added_then a b (rested d) takes (zs ++ gives) take_added behind;
      out_is = p.stands.out ∙ (zeroed_it.out_is ∙ (x.stands.out ∙ v.out_is));
      whole = refl;
      free = refl;
      pending = p.stands.pending;
      prepared = p.stands.prepared;
    }

    shape_is : shape_of (acts.Take addr size ∷ (zs ++ gives)) ≡ acts.Take addr size ∷ (zs ++ gives)
    shape_is = ap (λ (l : List Act). acts.Take addr size ∷ l) (shape-append zs gives ∙ ap (λ (l : List Act). l ++ gives) (zeros_shown flags.zero (addr / 8 + words_of size) (words_of n - words_of size)))

    module _ (legal : IsLegalWith b.opening b.roll b.seen) (call_is : a.call ≡ Some (calls.Realloc addr n flags)) (stays : (leb n 16368 && leb n (block_size tag.bucket)) ≡ true) where
      made : Makes a (rested d) (calls.Realloc addr n flags) (acts.Take addr size ∷ (zs ++ gives))
      made =
          makes a (rested d) (calls.Realloc addr n flags) own_call [] (acts.Take addr size ∷ (zs ++ gives)) (acts.Take addr size ∷ (zs ++ gives)) v call_is whole
          (none_begins-append zs gives (zeros_no_begin flags.zero (addr / 8 + words_of size) (words_of n - words_of size)) refl) shape_is

      pub given_again : StaysAt a (rested d) addr n flags
      given_again = record {
        shape = acts.Take addr size ∷ (zs ++ gives);
        makes = made;
        told = λ s q.
            let qb = setting_before b (rested d) (zs ++ gives) behind.goes s q in
            let f = found_front a b own_call tag addr size n v sa x legal s qb in
            let m0 = configuration_of s a.seen in
            let first = take_added.goes.seen in let later = behind.goes.seen in
            inr (record {
              old = f.place;
              size = size;
              front = f.front;
              stays = subst (λ (l : List Moment). Before is_take (Finds s a.number addr n f.place true) l)
                  (sym (ap (moments s a.number m0) (joined a.seen b.seen (rested d).seen made.goes.seen first later) ∙ moments-append s a.number m0 first.0 later.0))
                  (before_more is_take (Finds s a.number addr n f.place true) (moments s a.number m0 first.0) (moments s a.number (configuration_after s m0 first.0) later.0)
                  (taken_before a b own_call tag addr size n v sa x legal s qb first (Finds s a.number addr n f.place true) (f.finds.0, f.finds.1 ∙ stays)));
              acts_are = shown_added a (rested d) (acts.Take addr size ∷ (zs ++ gives)) whole.added.goes v.prepared p.stands.prepared made.goes.seen s m0 ∙ shape_is;
            });
      }
