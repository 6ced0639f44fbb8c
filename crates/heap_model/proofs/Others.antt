-- The entries of others leave what a caller alone decides.
use Rattle.std.proofs.Common.{◌≡◌, ℕ, ◌+◌, ◌*◌, ◌/◌, Bool, true, false, ◌&&◌, not, cond, List, [], ◌∷◌, length, Option, Some, None, refl, sym, ap, ◌∙◌, subst, arith, eqb, inl, inr}
use Rattle.std.specs.Prelude.{is_none}
use Rattle.std.specs.List.{find}
use Rattle.std.proofs.lemmas.Bool.{cases_Bool, and_parts, both_ways, eqb-true, eqb-false, ne_eqb, false≢true}
use Rattle.heap_model.specs.declared.Act.{Act}
use Rattle.heap_model.specs.declared.Act.TheVariants as acts
use Rattle.heap_model.specs.declared.Entry.{Entry}
use Rattle.heap_model.specs.declared.Kind.{Kind}
use Rattle.heap_model.specs.declared.Kind.TheVariants as kinds
use Rattle.heap_model.specs.declared.Layer.{Layer}
use Rattle.heap_model.specs.declared.Layer.TheVariants as layers
use Rattle.heap_model.specs.declared.What.{What}
use Rattle.heap_model.specs.declared.What.TheVariants as whats
use Rattle.heap_model.specs.State.{State, Area, GateAndLocks, Setting, Place, Status, Live, InHand, Span, is_kind, is_layer, is_among, is_entered, is_caller, holds, holder_of, places_of, in_hand, is_in_hand_of, is_live, is_live_of, is_live_at, is_hand_at, has_address, place_at, hand_at, gate_word, caller_word, add_place, change_found, remove_found}
use Rattle.heap_model.specs.Ranges.{vs_spans, gaps, is_of_kind}
use Rattle.heap_model.specs.Stay.{for_some, lets_stay, resized}
use Rattle.heap_model.specs.CallState.{CallState, Configuration, caller_view, CallerView, is_inside, holds_none, held}
use Rattle.heap_model.specs.Search.{span_at, begins_at, request_of}
use Rattle.heap_model.specs.Legal.{may, may_follow, after, state_after, call_after, span_history_after, with_holder, with_places, on, layer_of, with_status, resize_place, area_with, is_back_at, with_pages, may_touch, is_lock_or_compact, may_span, may_span_for, may_unspan, is_unused, may_unspan_of, has_place, places_in, suits, is_resized, is_back_due, put_hint, may_take_lock, may_reserve, may_place_vs, may_place_lfh, may_place_large, may_activate, may_decommit, may_give, may_take, may_drop, may_resize, may_give_lock}
use Rattle.heap_model.specs.History.{configuration_after, may_all_follow, own}
use Rattle.heap_model.specs.Agreement.{AgreesFor, SameHeap, GateIsSound}
use Rattle.heap_model.proofs.ListLemmas.{for_some_parts, put_other, is_among-without_other, is_among-more, not_both, filter-insert_span, filter-change_found, filter-remove_found}
use Rattle.heap_model.proofs.GateSound.{row_of, held_is, gate_sound_act}

pub same_heap : (m : Configuration) → SameHeap m m
same_heap m = record { back = refl; vs = refl; lfh = refl; large = refl; words = refl; span_history = refl }

pub same_heap_trans : (m n o : Configuration) → SameHeap m n → SameHeap n o → SameHeap m o
same_heap_trans m n o p q = record { back = p.back ∙ q.back; vs = p.vs ∙ q.vs; lfh = p.lfh ∙ q.lfh; large = p.large ∙ q.large; words = p.words ∙ q.words; span_history = p.span_history ∙ q.span_history }

pub agrees_self : (c : ℕ) (m : Configuration) → AgreesFor c m m
agrees_self c m = record { counted = refl; turning = refl; owner = refl; locks = λ w. refl; call = refl; hands = λ l. refl; active = λ b h. h; vs = λ _. refl; spans = λ _. refl; back = λ _. refl; span_history = λ _. refl; large = λ _. refl; owned = λ _. same_heap m }

pub agrees_trans : (c : ℕ) (m n o : Configuration) → AgreesFor c m n → AgreesFor c n o → AgreesFor c m o
agrees_trans c m n o p q = record {
  counted = p.counted ∙ q.counted;
  turning = p.turning ∙ q.turning;
  owner = p.owner ∙ q.owner;
  locks = λ w. p.locks w ∙ q.locks w;
  call = p.call ∙ q.call;
  hands = λ l. p.hands l ∙ q.hands l;
  active = λ b h. p.active b (q.active b h);
  vs = λ h. p.vs (q.locks whats.Vs ∙ h) ∙ q.vs h;
  spans = λ h. p.spans (q.locks whats.Vs ∙ h) ∙ q.spans h;
  back = λ h. p.back (q.locks whats.Back ∙ h) ∙ q.back h;
  span_history = λ h. p.span_history (q.locks whats.Back ∙ h) ∙ q.span_history h;
  large = λ h. p.large (q.locks whats.Large ∙ h) ∙ q.large h;
  owned = λ h. same_heap_trans m n o (p.owned (q.owner ∙ h)) (q.owned h);
}

---- Groups that a caller without the lock leaves

other_layer : (k : CallerView) (l l' : Layer) → may_touch k l ≡ false → may_touch k l' ≡ true → is_layer l l' ≡ false
other_layer k layers.Lfh layers.Lfh a b = absurd (both_ways _ a b)
other_layer k layers.Vs layers.Vs a b = absurd (both_ways k.vs a b)
other_layer k layers.Back layers.Back a b = absurd (both_ways k.back a b)
other_layer k layers.Large layers.Large a b = absurd (both_ways k.large a b)
other_layer k layers.Lfh _ a b = refl
other_layer k layers.Vs _ a b = refl
other_layer k layers.Back _ a b = refl
other_layer k layers.Large _ a b = refl

-- the place is of a layer that k may touch
abbrev pub IsOpen : CallerView → Option Place → Type 0
IsOpen k o = for_some o (λ p. may_touch k p.layer) ≡ true

on_other : (k : CallerView) (l : Layer) (f : List Place → List Place) (ps : List Place) (o : Option Place) → IsOpen k o → may_touch k l ≡ false → on l f ps (layer_of o) ≡ ps
on_other k l f ps None h e = refl
on_other k l f ps (Some p) h e = let d = other_layer k l p.layer e h in rw d refl

pub area_other : (k : CallerView) (a : Area) (granules : ℕ) (o : Option Place) → IsOpen k o → k.back ≡ false → area_with a granules o ≡ a
area_other k a granules None h e = refl
area_other k a granules (Some p) h e = let d = other_layer k layers.Back p.layer e h in rw (flip p.layer d) refl
  where
    flip : (l : Layer) → is_layer layers.Back l ≡ false → is_layer l layers.Back ≡ false
    flip layers.Lfh d = refl
    flip layers.Vs d = refl
    flip layers.Back d = d
    flip layers.Large d = refl

-- a weaker test of an option
weaker : {A : Type 0} (o : Option A) (t u : A → Bool) → ((x : A) → t x ≡ true → u x ≡ true) → for_some o t ≡ true → for_some o u ≡ true
weaker None t u f h = h
weaker (Some x) t u f h = f x h

open_given : (k : CallerView) (o : Option Place) (size : ℕ) → may_give k o size ≡ true → IsOpen k o
open_given k o size h = weaker o (λ p. may_touch k p.layer && suits size p) (λ p. may_touch k p.layer) (λ p e. (and_parts (may_touch k p.layer) (suits size p) e).0) (and_parts k.entered _ h).1

open_taken : (k : CallerView) (o : Option Place) (size : ℕ) → may_take k o size ≡ true → IsOpen k o
open_taken k o size h = weaker o (λ p. may_touch k p.layer && is_live_of size p.status) (λ p. may_touch k p.layer) (λ p e. (and_parts (may_touch k p.layer) (is_live_of size p.status) e).0) (and_parts k.entered _ h).1

open_dropped : (k : CallerView) (o : Option Place) → may_drop k o ≡ true → IsOpen k o
open_dropped k o h = (and_parts k.entered _ h).1

pub touch_resized : (s : Setting) (st : State) (k : CallerView) (granules size : ℕ) (p : Place) → is_resized s st k granules size p ≡ true → may_touch k p.layer ≡ true
touch_resized s st k granules size p e = (and_parts (may_touch k p.layer) _ (and_parts _ (is_live p.status) (and_parts _ (lets_stay s.limits st p size) (and_parts _ (eqb granules (resized s.limits st p size)) e).0).0).0).0

pub open_resized : (s : Setting) (st : State) (c : ℕ) (k : CallerView) (a granules size : ℕ) → may_resize s st c k a granules size ≡ true → IsOpen k (place_at st c a)
open_resized s st c k a granules size h = weaker (place_at st c a) (is_resized s st k granules size) (λ p. may_touch k p.layer) (touch_resized s st k granules size) (and_parts k.entered _ h).1

---- The parts of rows

module _ (s : Setting) (m : Configuration) (c : ℕ) where
  abbrev k : CallerView
  k = caller_view m c

  abbrev st : State
  st = m.state

  pub span_locks : (x : Span) → may_span s st.back.area (gaps st) c k (request_of s m c) x ≡ true → (k.entered ≡ true) × (k.back ≡ true) × (may_span_for s st.back.area (gaps st) c k (request_of s m c) x.pages x.bucket x.kind ≡ true)
  span_locks x h =
      let p = and_parts _ (may_span_for s st.back.area (gaps st) c k (request_of s m c) x.pages x.bucket x.kind) h in
      let q = and_parts _ _ p.0 in
      let r = and_parts _ _ q.0 in
      let t = and_parts _ _ r.0 in
      let u = and_parts k.entered k.back t.0 in
      (u.0, u.1, p.1)

  pub unspan_locks : (first : ℕ) → may_unspan st k first ≡ true → (k.back ≡ true) × (for_some (span_at st.back.area first) (is_unused st k) ≡ true)
  unspan_locks first h = and_parts k.back _ h

  pub reserve_locks : (segment : ℕ) → may_reserve s st.back.area k segment ≡ true → (k.entered ≡ true) × (k.back ≡ true)
  reserve_locks segment h = and_parts k.entered k.back (and_parts _ _ (and_parts _ _ h).0).0

  pub decommit_locks : (page : ℕ) → may_decommit st.back.area k page ≡ true → (k.owns ≡ true) × (k.back ≡ true)
  decommit_locks page h = and_parts k.owns k.back (and_parts _ _ (and_parts _ _ h).0).0

  pub place_vs_locks : (start granules : ℕ) → may_place_vs s st.back.area st.vs (gaps st) c k (request_of s m c) start granules ≡ true → (k.entered ≡ true) × (k.vs ≡ true)
  place_vs_locks start granules h = and_parts k.entered k.vs (and_parts _ _ h).0

  pub place_large_locks : (start granules : ℕ) → may_place_large s st.large k start granules ≡ true → (k.entered ≡ true) × (k.large ≡ true)
  place_large_locks start granules h = and_parts k.entered k.large (and_parts _ _ h).0

  pub place_lfh_locks : (start granules : ℕ) → may_place_lfh s st.back.area st.lfh c k (request_of s m c) start granules ≡ true → k.entered ≡ true
  place_lfh_locks start granules h = (and_parts k.entered _ (and_parts _ _ h).0).0

  pub activate_locks : (bucket : ℕ) → may_activate st.vs k (request_of s m c) bucket ≡ true → (k.entered ≡ true) × (k.vs ≡ true)
  activate_locks bucket h = and_parts k.entered k.vs (and_parts _ _ (and_parts _ _ (and_parts _ _ h).0).0).0

  pub give_lock_locks : (what : What) → may_give_lock st k what ≡ true → (held k what ≡ true) × (is_inside k ≡ true)
  give_lock_locks what h = and_parts (held k what) (is_inside k) (and_parts _ _ h).0

---- What one entry of c leaves to n

in_hand_of_other : (n c : ℕ) (p : Place) → (c ≡ n → ⊥) → is_in_hand_of c p.status ≡ true → is_in_hand_of n p.status ≡ false
in_hand_of_other n c p ne h = by_status p.status h
  where
    by_status : (t : Status) → is_in_hand_of c t ≡ true → is_in_hand_of n t ≡ false
    by_status (Live size) h = refl
    by_status (InHand d) h = ne_eqb d n (λ q. ne (sym (eqb-true d c h) ∙ q))

live_not_in_hand : (n : ℕ) (t : Status) → is_live t ≡ true → is_in_hand_of n t ≡ false
live_not_in_hand n (Live size) h = refl
live_not_in_hand n (InHand d) h = absurd (false≢true h)

hands_with : (n : ℕ) (st : State) (o : Option Layer) (f : List Place → List Place) → ((ps : List Place) → in_hand n (f ps) ≡ in_hand n ps) → (l : Layer) → in_hand n (places_of (with_places st o f) l) ≡ in_hand n (places_of st l)
hands_with n st o f h l = by_layer l
  where
    holds_old_block : (l : Layer) (ps : List Place) (o : Option Layer) → in_hand n (on l f ps o) ≡ in_hand n ps
    holds_old_block l ps None = refl
    holds_old_block l ps (Some k) = elim (cases_Bool (is_layer l k)) [ inl e ↦ rw e (h ps) | inr e ↦ rw e refl ]

    by_layer : (l : Layer) → in_hand n (places_of (with_places st o f) l) ≡ in_hand n (places_of st l)
    by_layer layers.Lfh = holds_old_block layers.Lfh st.lfh o
    by_layer layers.Vs = holds_old_block layers.Vs st.vs.places o
    by_layer layers.Back = holds_old_block layers.Back st.back.places o
    by_layer layers.Large = holds_old_block layers.Large st.large o

module _ (s : Setting) (m : Configuration) (c n : ℕ) (ne : c ≡ n → ⊥) where
  abbrev here : State
  here = m.state

  abbrev call : CallState
  call = m.now.calls c

  abbrev next : Act → State
  next act = state_after m.state (m.now.calls c) c act

  abbrev made : ℕ → ℕ → Layer → Place
  made start granules layer = record { start = start; granules = granules; layer = layer; status = InHand c }

  hands_other : (act : Act) (l : Layer) → in_hand n (places_of (next act) l) ≡ in_hand n (places_of here l)
  hands_other (acts.Place start granules layer) l = placed l
    where
      all : (l : Layer) → in_hand n (places_of (with_places here (Some layer) (add_place (made start granules layer))) l) ≡ in_hand n (places_of here l)
      all l = hands_with n here (Some layer) (add_place (made start granules layer)) (λ ps. let e = ne_eqb c n ne in rw e refl) l

      placed : (l : Layer) → in_hand n (places_of (next (acts.Place start granules layer)) l) ≡ in_hand n (places_of here l)
      placed layers.Lfh = all layers.Lfh
      placed layers.Vs = all layers.Vs
      placed layers.Back = all layers.Back
      placed layers.Large = all layers.Large
  hands_other (acts.Give a size) l = hands_with n here (layer_of (hand_at here c a)) (change_found (is_hand_at c a) (with_status (Live size)))
      (λ ps. filter-change_found (λ q. is_in_hand_of n q.status) (is_hand_at c a) (with_status (Live size)) ps (λ p e. (in_hand_of_other n c p ne (and_parts (has_address a p) (is_in_hand_of c p.status) e).1, refl))) l
  hands_other (acts.Take a size) l = hands_with n here (layer_of (place_at here c a)) (change_found (is_live_at a) (with_status (InHand c)))
      (λ ps. filter-change_found (λ q. is_in_hand_of n q.status) (is_live_at a) (with_status (InHand c)) ps (λ p e. (live_not_in_hand n p.status (and_parts (has_address a p) (is_live p.status) e).1, ne_eqb c n ne))) l
  hands_other (acts.Drop a) l = hands_with n here (layer_of (hand_at here c a)) (remove_found (is_hand_at c a))
      (λ ps. filter-remove_found (λ q. is_in_hand_of n q.status) (is_hand_at c a) ps (λ p e. in_hand_of_other n c p ne (and_parts (has_address a p) (is_in_hand_of c p.status) (found ps p e)).1)) l
    where
      found : (ps : List Place) (p : Place) → find (is_hand_at c a) ps ≡ Some p → is_hand_at c a p ≡ true
      found [] p e = absurd (let z : ⊥ = cc in z)
      found (q ∷ qs) p e = elim (cases_Bool (is_hand_at c a q)) [
        | inl f ↦ let g : Some q ≡ Some p = (rw f at e) in let same : q ≡ p = cc in subst (λ (x : Place). is_hand_at c a x ≡ true) same f
        | inr f ↦ found qs p (rw f at e)
      ]
  hands_other (acts.Resize a granules size) l = resized l
    where
      all : (l : Layer) → in_hand n (places_of (with_places here (layer_of (place_at here c a)) (change_found (is_live_at a) (resize_place granules size))) l) ≡ in_hand n (places_of here l)
      all l = hands_with n here (layer_of (place_at here c a)) (change_found (is_live_at a) (resize_place granules size))
          (λ ps. filter-change_found (λ q. is_in_hand_of n q.status) (is_live_at a) (resize_place granules size) ps (λ p e. (live_not_in_hand n p.status (and_parts (has_address a p) (is_live p.status) e).1, refl))) l

      resized : (l : Layer) → in_hand n (places_of (next (acts.Resize a granules size)) l) ≡ in_hand n (places_of here l)
      resized layers.Lfh = all layers.Lfh
      resized layers.Vs = all layers.Vs
      resized layers.Back = all layers.Back
      resized layers.Large = all layers.Large
  hands_other (acts.Blocked whats.Gate word) l = in_gate l
    where
      in_gate : (l : Layer) → in_hand n (places_of (next (acts.Blocked whats.Gate word)) l) ≡ in_hand n (places_of here l)
      in_gate layers.Lfh = refl
      in_gate layers.Vs = refl
      in_gate layers.Back = refl
      in_gate layers.Large = refl
  hands_other _ layers.Lfh = refl
  hands_other _ layers.Vs = refl
  hands_other _ layers.Back = refl
  hands_other _ layers.Large = refl

  active_other : (act : Act) (b : ℕ) → here.vs.active b ≡ true → (next act).vs.active b ≡ true
  active_other (acts.Active bucket) b h = elim (cases_Bool (eqb b bucket)) [ inl e ↦ rw e refl | inr e ↦ rw e h ]
  active_other (acts.Blocked whats.Gate word) b h = h
  active_other _ b h = h

  -- groups whose lock c has not
  vs_is : (ps : List Place) → ps ≡ here.vs.places → record { places = ps; active = here.vs.active; served = here.vs.served } ≡ here.vs
  vs_is ps e = ap (λ (xs : List Place). record { places = xs; active = here.vs.active; served = here.vs.served }) e

  vs_other : (act : Act) → may s m c act ≡ true → (caller_view m c).vs ≡ false → (next act).vs ≡ here.vs
  vs_other (acts.Place start granules layers.Vs) h e = absurd (both_ways (caller_view m c).vs e (place_vs_locks s m c start granules h).1)
  vs_other (acts.Place start granules layers.Lfh) h e = refl
  vs_other (acts.Place start granules layers.Back) h e = refl
  vs_other (acts.Place start granules layers.Large) h e = refl
  vs_other (acts.Active bucket) h e = absurd (both_ways (caller_view m c).vs e (activate_locks s m c bucket h).1)
  vs_other (acts.Give a size) h e = vs_is _ (on_other (caller_view m c) layers.Vs (change_found (is_hand_at c a) (with_status (Live size))) here.vs.places (hand_at here c a) (open_given (caller_view m c) (hand_at here c a) size h) e)
  vs_other (acts.Take a size) h e = vs_is _ (on_other (caller_view m c) layers.Vs (change_found (is_live_at a) (with_status (InHand c))) here.vs.places (place_at here c a) (open_taken (caller_view m c) (place_at here c a) size h) e)
  vs_other (acts.Drop a) h e = vs_is _ (on_other (caller_view m c) layers.Vs (remove_found (is_hand_at c a)) here.vs.places (hand_at here c a) (open_dropped (caller_view m c) (hand_at here c a) h) e)
  vs_other (acts.Resize a granules size) h e = vs_is _ (on_other (caller_view m c) layers.Vs (change_found (is_live_at a) (resize_place granules size)) here.vs.places (place_at here c a) (open_resized s here c (caller_view m c) a granules size h) e)
  vs_other (acts.Blocked whats.Gate word) h e = refl
  vs_other _ h e = refl

  large_other : (act : Act) → may s m c act ≡ true → (caller_view m c).large ≡ false → (next act).large ≡ here.large
  large_other (acts.Place start granules layers.Large) h e = absurd (both_ways (caller_view m c).large e (place_large_locks s m c start granules h).1)
  large_other (acts.Place start granules layers.Lfh) h e = refl
  large_other (acts.Place start granules layers.Back) h e = refl
  large_other (acts.Place start granules layers.Vs) h e = refl
  large_other (acts.Give a size) h e = on_other (caller_view m c) layers.Large (change_found (is_hand_at c a) (with_status (Live size))) here.large (hand_at here c a) (open_given (caller_view m c) (hand_at here c a) size h) e
  large_other (acts.Take a size) h e = on_other (caller_view m c) layers.Large (change_found (is_live_at a) (with_status (InHand c))) here.large (place_at here c a) (open_taken (caller_view m c) (place_at here c a) size h) e
  large_other (acts.Drop a) h e = on_other (caller_view m c) layers.Large (remove_found (is_hand_at c a)) here.large (hand_at here c a) (open_dropped (caller_view m c) (hand_at here c a) h) e
  large_other (acts.Resize a granules size) h e = on_other (caller_view m c) layers.Large (change_found (is_live_at a) (resize_place granules size)) here.large (place_at here c a) (open_resized s here c (caller_view m c) a granules size h) e
  large_other (acts.Blocked whats.Gate word) h e = refl
  large_other _ h e = refl

  back_is : (a : Area) (ps : List Place) → a ≡ here.back.area → ps ≡ here.back.places → record { area = a; places = ps } ≡ here.back
  back_is a ps e f = ap (λ (x : Area). record { area = x; places = ps }) e ∙ ap (λ (xs : List Place). record { area = here.back.area; places = xs }) f

  back_other : (act : Act) → may s m c act ≡ true → (caller_view m c).back ≡ false → (next act).back ≡ here.back
  back_other (acts.Reserve segment) h e = absurd (both_ways (caller_view m c).back e (reserve_locks s m c segment h).1)
  back_other (acts.Span first pages kind bucket slot) h e = absurd (both_ways (caller_view m c).back e (span_locks s m c (record { first = first; pages = pages; kind = kind; bucket = bucket; slot = slot }) h).1)
  back_other (acts.Unspan first) h e = absurd (both_ways (caller_view m c).back e (unspan_locks s m c first h).0)
  back_other (acts.Decommit page) h e = absurd (both_ways (caller_view m c).back e (decommit_locks s m c page h).1)
  back_other (acts.Place start granules layers.Back) h e = absurd (both_ways (caller_view m c).back e (and_parts (caller_view m c).entered (caller_view m c).back (and_parts _ (is_back_due m.now.demand) h).0).1)
  back_other (acts.Place start granules layers.Lfh) h e = refl
  back_other (acts.Place start granules layers.Vs) h e = refl
  back_other (acts.Place start granules layers.Large) h e = refl
  back_other (acts.Give a size) h e = back_is _ _ refl (on_other (caller_view m c) layers.Back (change_found (is_hand_at c a) (with_status (Live size))) here.back.places (hand_at here c a) (open_given (caller_view m c) (hand_at here c a) size h) e)
  back_other (acts.Take a size) h e = back_is _ _ refl (on_other (caller_view m c) layers.Back (change_found (is_live_at a) (with_status (InHand c))) here.back.places (place_at here c a) (open_taken (caller_view m c) (place_at here c a) size h) e)
  back_other (acts.Drop a) h e = back_is _ _ refl (on_other (caller_view m c) layers.Back (remove_found (is_hand_at c a)) here.back.places (hand_at here c a) (open_dropped (caller_view m c) (hand_at here c a) h) e)
  back_other (acts.Resize a granules size) h e =
      let o = open_resized s here c (caller_view m c) a granules size h in
      back_is _ _ (area_other (caller_view m c) here.back.area granules (place_at here c a) o e) (on_other (caller_view m c) layers.Back (change_found (is_live_at a) (resize_place granules size)) here.back.places (place_at here c a) o e)
  back_other (acts.Blocked whats.Gate word) h e = refl
  back_other _ h e = refl

  span_history_other : (act : Act) → may s m c act ≡ true → (caller_view m c).back ≡ false → span_history_after here.back.area m.now.span_history c (caller_view m c).back act ≡ m.now.span_history
  span_history_other (acts.Span first pages kind bucket slot) h e = absurd (both_ways (caller_view m c).back e (span_locks s m c (record { first = first; pages = pages; kind = kind; bucket = bucket; slot = slot }) h).1)
  span_history_other (acts.Unspan first) h e = absurd (both_ways (caller_view m c).back e (unspan_locks s m c first h).0)
  span_history_other (acts.GiveLock whats.Back) h e = absurd (both_ways (caller_view m c).back e (give_lock_locks s m c whats.Back h).0)
  span_history_other (acts.Place start granules layers.Lfh) h e = ap (put_hint here.back.area m.now.span_history start) e
  span_history_other (acts.Place start granules layers.Vs) h e = refl
  span_history_other (acts.Place start granules layers.Back) h e = refl
  span_history_other (acts.Place start granules layers.Large) h e = refl
  span_history_other (acts.GiveLock _) h e = refl
  span_history_other _ h e = refl

  -- the spans of VS need both locks
  not_vs : (kind : Kind) → is_kind kind kinds.Back ≡ true → is_kind kind kinds.Vs ≡ false
  not_vs kinds.Back h = refl
  not_vs kinds.Lfh h = refl
  not_vs kinds.Header h = refl
  not_vs kinds.Free h = refl
  not_vs kinds.Vs h = absurd (false≢true h)

  unspan_not_vs : (kind : Kind) → may_unspan_of (caller_view m c) kind ≡ true → (caller_view m c).vs ≡ false → is_kind kind kinds.Vs ≡ false
  unspan_not_vs kinds.Vs h e = absurd (both_ways (caller_view m c).vs e (and_parts (is_inside (caller_view m c)) (caller_view m c).vs h).1)
  unspan_not_vs kinds.Back h e = refl
  unspan_not_vs kinds.Lfh h e = refl
  unspan_not_vs kinds.Header h e = refl
  unspan_not_vs kinds.Free h e = refl

  span_not_vs : (x : Span) → may_span_for s here.back.area (gaps here) c (caller_view m c) (request_of s m c) x.pages x.bucket x.kind ≡ true → (caller_view m c).vs ≡ false → is_kind x.kind kinds.Vs ≡ false
  span_not_vs x h e = by_kind x.kind h
    where
      by_kind : (kind : Kind) → may_span_for s here.back.area (gaps here) c (caller_view m c) (request_of s m c) x.pages x.bucket kind ≡ true → is_kind kind kinds.Vs ≡ false
      by_kind kinds.Vs h = absurd (both_ways (caller_view m c).vs e (and_parts (caller_view m c).vs _ h).0)
      by_kind kinds.Back h = refl
      by_kind kinds.Lfh h = refl
      by_kind kinds.Header h = refl
      by_kind kinds.Free h = refl

  resized_spans : (granules : ℕ) (o : Option Place) → vs_spans (area_with here.back.area granules o) ≡ vs_spans here.back.area
  resized_spans granules None = refl
  resized_spans granules (Some p) = elim (cases_Bool (is_layer p.layer layers.Back)) [
    | inl e ↦ rw e (filter-change_found (is_of_kind kinds.Vs) (is_back_at (p.start / 4096)) (with_pages (granules / 256)) here.back.area.spans (λ x h. let k = not_vs x.kind (and_parts (begins_at (p.start / 4096) x) (is_kind x.kind kinds.Back) h).1 in (k, k)))
    | inr e ↦ rw e refl
  ]

  spans_other : (act : Act) → may s m c act ≡ true → (caller_view m c).vs ≡ false → vs_spans (next act).back.area ≡ vs_spans here.back.area
  spans_other (acts.Span first pages kind bucket slot) h e =
      let x : Span = record { first = first; pages = pages; kind = kind; bucket = bucket; slot = slot } in
      filter-insert_span (is_of_kind kinds.Vs) x here.back.area.spans (span_not_vs x (span_locks s m c x h).2 e)
  spans_other (acts.Unspan first) h e = filter-remove_found (is_of_kind kinds.Vs) (begins_at first) here.back.area.spans (λ x f. gone x f (for_some_parts (span_at here.back.area first) (is_unused here (caller_view m c)) (unspan_locks s m c first h).1))
    where
      gone : (x : Span) → find (begins_at first) here.back.area.spans ≡ Some x → (y : Span) × (find (begins_at first) here.back.area.spans ≡ Some y) × (is_unused here (caller_view m c) y ≡ true) → is_kind x.kind kinds.Vs ≡ false
      gone x f w =
          let same : Some w.0 ≡ Some x = sym w.1 ∙ f in
          let here_is : w.0 ≡ x = cc in
          subst (λ (y : Span). is_kind y.kind kinds.Vs ≡ false) here_is (unspan_not_vs w.0.kind (and_parts (may_unspan_of (caller_view m c) w.0.kind) (not (has_place 4096 (places_in here w.0.kind) w.0)) w.2).0 e)
  spans_other (acts.Resize a granules size) h e = resized_spans granules (place_at here c a)
  spans_other (acts.Place start granules layers.Back) h e = refl
  spans_other (acts.Place start granules layers.Lfh) h e = refl
  spans_other (acts.Place start granules layers.Vs) h e = refl
  spans_other (acts.Place start granules layers.Large) h e = refl
  spans_other (acts.Blocked whats.Gate word) h e = refl
  spans_other _ h e = refl

-- a caller that is neither inside nor the owner, and holds nothing
pub record IsOut (k : CallerView) : Type 0 where
  pub entered : k.entered ≡ false
  pub owns : k.owns ≡ false
  pub back : k.back ≡ false

module _ (s : Setting) (m : Configuration) (c : ℕ) (out : IsOut (caller_view m c)) where
  abbrev there : State
  there = m.state

  abbrev then : Act → State
  then act = state_after m.state (m.now.calls c) c act

  no : {A : Type 0} → (caller_view m c).entered ≡ true → A
  no h = absurd (both_ways (caller_view m c).entered out.entered h)

  no_back : {A : Type 0} → (caller_view m c).back ≡ true → A
  no_back h = absurd (both_ways (caller_view m c).back out.back h)

  abbrev Same : Act → Type 0
  Same act = SameHeap (after s m (record { caller = c; act = act })) m

  pub owned_other : (act : Act) → may s m c act ≡ true → Same act
  owned_other (acts.Reserve segment) h = no (reserve_locks s m c segment h).0
  owned_other (acts.Span first pages kind bucket slot) h = no (span_locks s m c (record { first = first; pages = pages; kind = kind; bucket = bucket; slot = slot }) h).0
  owned_other (acts.Unspan first) h = no_back (unspan_locks s m c first h).0
  owned_other (acts.Place start granules layers.Vs) h = no (place_vs_locks s m c start granules h).0
  owned_other (acts.Place start granules layers.Lfh) h = no (place_lfh_locks s m c start granules h)
  owned_other (acts.Place start granules layers.Back) h = no (and_parts (caller_view m c).entered (caller_view m c).back (and_parts _ (is_back_due m.now.demand) h).0).0
  owned_other (acts.Place start granules layers.Large) h = no (place_large_locks s m c start granules h).0
  owned_other (acts.Give a size) h = no (and_parts (caller_view m c).entered _ h).0
  owned_other (acts.Take a size) h = no (and_parts (caller_view m c).entered _ h).0
  owned_other (acts.Drop a) h = no (and_parts (caller_view m c).entered _ h).0
  owned_other (acts.Resize a granules size) h = no (and_parts (caller_view m c).entered _ h).0
  owned_other (acts.Active bucket) h = no (activate_locks s m c bucket h).0
  owned_other (acts.Store w v) h = no (and_parts (caller_view m c).entered _ h).0
  owned_other (acts.Decommit page) h = no_back (decommit_locks s m c page h).1
  owned_other (acts.GiveLock whats.Back) h = no_back (give_lock_locks s m c whats.Back h).0
  owned_other (acts.GiveLock _) h = record { back = refl; vs = refl; lfh = refl; large = refl; words = refl; span_history = refl }
  owned_other (acts.Blocked whats.Gate word) h = record { back = refl; vs = refl; lfh = refl; large = refl; words = refl; span_history = refl }
  owned_other _ h = record { back = refl; vs = refl; lfh = refl; large = refl; words = refl; span_history = refl }

---- The front

-- what n sees of the gate and the locks
pub record SameFront (n : ℕ) (f g : GateAndLocks) : Type 0 where
  pub counted : is_among n f.counted ≡ is_among n g.counted
  pub turning : is_among n f.turning ≡ is_among n g.turning
  pub owner : is_caller n f.owner ≡ is_caller n g.owner
  pub locks : (w : What) → holds f n w ≡ holds g n w

same_gate : (n : ℕ) (f : GateAndLocks) → SameFront n f f
same_gate n f = record { counted = refl; turning = refl; owner = refl; locks = λ w. refl }

module _ (n c : ℕ) (ne : c ≡ n → ⊥) (f : GateAndLocks) where
  -- a word that c fills or empties is none that n has
  filled : (o : Option ℕ) → is_none o ≡ true → is_caller n (Some c) ≡ is_caller n o
  filled None h = ne_eqb c n ne
  filled (Some d) h = absurd (false≢true h)

  emptied : (o : Option ℕ) → is_caller c o ≡ true → is_caller n None ≡ is_caller n o
  emptied o h = sym (not_both c n o (λ q. ne (sym q)) h)

  locks_put : (o : Option ℕ) (what : What) → is_caller n o ≡ is_caller n (holder_of f.locks what) → (w : What) → holds (with_holder f what o) n w ≡ holds f n w
  locks_put o whats.Lfh e whats.Lfh = e
  locks_put o whats.Vs e whats.Vs = e
  locks_put o whats.Back e whats.Back = e
  locks_put o whats.Large e whats.Large = e
  locks_put o whats.Gate e _ = refl
  locks_put o whats.Lfh e _ = refl
  locks_put o whats.Vs e _ = refl
  locks_put o whats.Back e _ = refl
  locks_put o whats.Large e _ = refl

none_held_by : (m : Configuration) (k : CallerView) (what : What) → may_take_lock m.state.gate k what ≡ true → is_none (holder_of m.state.gate.locks what) ≡ true
none_held_by m k whats.Gate h = absurd (false≢true h)
none_held_by m k whats.Lfh h = (and_parts (is_none m.state.gate.locks.lfh) _ h).0
none_held_by m k whats.Vs h = (and_parts (is_none m.state.gate.locks.vs) _ h).0
none_held_by m k whats.Back h = (and_parts (is_none m.state.gate.locks.back) _ h).0
none_held_by m k whats.Large h = (and_parts (is_none m.state.gate.locks.large) _ h).0

unowned : (f : GateAndLocks) → eqb (gate_word f) 0 ≡ true → is_none f.owner ≡ true
unowned f z = by_owner f.owner (eqb-true (gate_word f) 0 z)
  where
    by_owner : (o : Option ℕ) → length f.counted + 65536 * caller_word o ≡ 0 → is_none o ≡ true
    by_owner None e = refl
    by_owner (Some d) e = absurd (omega arith)

pub gate_other : (s : Setting) (m : Configuration) (c n : ℕ) → (c ≡ n → ⊥) → (act : Act) → may s m c act ≡ true → SameFront n (state_after m.state (m.now.calls c) c act).gate m.state.gate
gate_other s m c n ne acts.Enter h = record { counted = is_among-more n c m.state.gate.counted ne; turning = refl; owner = refl; locks = λ w. refl }
gate_other s m c n ne acts.Leave h = record { counted = is_among-without_other n c m.state.gate.counted ne; turning = is_among-without_other n c m.state.gate.turning ne; owner = refl; locks = λ w. refl }
gate_other s m c n ne acts.Lock h = record { counted = refl; turning = refl; owner = filled n c ne m.state.gate m.state.gate.owner (unowned m.state.gate h); locks = λ w. refl }
gate_other s m c n ne acts.Unlock h = record { counted = refl; turning = refl; owner = emptied n c ne m.state.gate m.state.gate.owner (and_parts (caller_view m c).owns (not (caller_view m c).entered) (and_parts _ (holds_none (caller_view m c)) h).0).0; locks = λ w. refl }
gate_other s m c n ne (acts.Blocked whats.Gate word) h = blocked (for_some (m.now.calls c).call is_lock_or_compact)
  where
    blocked : (b : Bool) → SameFront n (record { counted = cond b m.state.gate.counted (c ∷ m.state.gate.counted); turning = cond b m.state.gate.turning (c ∷ m.state.gate.turning); owner = m.state.gate.owner; locks = m.state.gate.locks }) m.state.gate
    blocked true = same_gate n m.state.gate
    blocked false = record { counted = is_among-more n c m.state.gate.counted ne; turning = is_among-more n c m.state.gate.turning ne; owner = refl; locks = λ w. refl }
gate_other s m c n ne (acts.TakeLock what) h = record { counted = refl; turning = refl; owner = refl; locks = locks_put n c ne m.state.gate (Some c) what (filled n c ne m.state.gate (holder_of m.state.gate.locks what) (none_held_by m (caller_view m c) what h)) }
gate_other s m c n ne (acts.GiveLock what) h = record { counted = refl; turning = refl; owner = refl; locks = locks_put n c ne m.state.gate None what (emptied n c ne m.state.gate (holder_of m.state.gate.locks what) (sym (held_is m c what) ∙ (give_lock_locks s m c what h).0)) }
gate_other s m c n ne _ h = same_gate n m.state.gate

-- what another holds, c does not
not_held : (m : Configuration) (c n : ℕ) (w : What) → (c ≡ n → ⊥) → holds m.state.gate n w ≡ true → holds m.state.gate c w ≡ false
not_held m c n w ne h = not_both n c (holder_of m.state.gate.locks w) ne h

out_where_owned : (m : Configuration) (c n : ℕ) → (c ≡ n → ⊥) → GateIsSound m.state.gate → is_caller n m.state.gate.owner ≡ true → IsOut (caller_view m c)
out_where_owned m c n ne g h = record { entered = out; owns = owns; back = back }
  where
    owns : is_caller c m.state.gate.owner ≡ false
    owns = not_both n c m.state.gate.owner ne h

    out : is_entered m.state.gate c ≡ false
    out = elim (cases_Bool (is_entered m.state.gate c)) [ inl e ↦ absurd (ne (g.alone n c h e)) | inr e ↦ e ]

    back : holds m.state.gate c whats.Back ≡ false
    back = elim (cases_Bool (holds m.state.gate c whats.Back)) [ inl e ↦ absurd (both_ways _ out (g.inside c whats.Back e owns)) | inr e ↦ e ]

-- An entry of another caller leaves what n alone decides.
pub act_other : (s : Setting) (m : Configuration) (c n : ℕ) (act : Act) → (c ≡ n → ⊥) → may s m c act ≡ true → GateIsSound m.state.gate → AgreesFor n (after s m (record { caller = c; act = act })) m
act_other s m c n act ne h g =
    let f = gate_other s m c n ne act h in
    record {
      counted = f.counted;
      turning = f.turning;
      owner = f.owner;
      locks = f.locks;
      call = put_other m.now.calls c n (call_after s c (m.now.calls c) act) ne;
      hands = hands_other s m c n ne act;
      active = active_other s m c n ne act;
      vs = λ k. vs_other s m c n ne act h (not_held m c n whats.Vs ne k);
      spans = λ k. spans_other s m c n ne act h (not_held m c n whats.Vs ne k);
      back = λ k. back_other s m c n ne act h (not_held m c n whats.Back ne k);
      span_history = λ k. span_history_other s m c n ne act h (not_held m c n whats.Back ne k);
      large = λ k. large_other s m c n ne act h (not_held m c n whats.Large ne k);
      owned = λ k. owned_other s m c (out_where_owned m c n ne g k) act h;
    }

-- .. and so do any number of them.
pub agrees_others : (s : Setting) (m : Configuration) (n : ℕ) (es : List Entry) → own n es ≡ [] → may_all_follow s m es ≡ true → GateIsSound m.state.gate → AgreesFor n (configuration_after s m es) m
agrees_others s m n [] o l g = agrees_self n m
agrees_others s m n (e ∷ es) o l g =
    let p = not_own e es o in
    let q = and_parts (may_follow s m e) (may_all_follow s (after s m e) es) l in
    let r = row_of s m e q.0 in
    agrees_trans n (configuration_after s (after s m e) es) (after s m e) m
    (agrees_others s (after s m e) n es p.1 q.1 (gate_sound_act s m e.caller e.act r g))
    (act_other s m e.caller n e.act (eqb-false e.caller n p.0) r g)
  where
    not_own : (e : Entry) (es : List Entry) → own n (e ∷ es) ≡ [] → (eqb e.caller n ≡ false) × (own n es ≡ [])
    not_own e es o = elim (cases_Bool (eqb e.caller n)) [
      | inl f ↦ let g : e ∷ own n es ≡ [] = (rw f at o) in absurd (let z : ⊥ = cc in z)
      | inr f ↦ (f, rw f at o)
    ]
