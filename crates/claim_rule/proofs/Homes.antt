-- A prepared act leaves what the slots at home stand for: what it changes needs a lock that is not free.
use Rattle.std.proofs.Common.{◌≡◌, ℕ, ◌/◌, Bool, true, false, not, ◌&&◌, List, Option, Some, None, refl, sym, ap, ◌∙◌, subst, inl, inr}
use Rattle.std.specs.List.{find}
use Rattle.std.proofs.lemmas.Bool.{and_parts, cases_Bool, both_ways, false≢true}
use Rattle.heap_model.specs.declared.Act.{Act}
use Rattle.heap_model.specs.declared.Act.TheVariants as acts
use Rattle.heap_model.specs.declared.Kind.{Kind}
use Rattle.heap_model.specs.declared.Kind.TheVariants as kinds
use Rattle.heap_model.specs.declared.Layer.{Layer}
use Rattle.heap_model.specs.declared.Layer.TheVariants as layers
use Rattle.heap_model.specs.State.{State, Setting, Area, Span, Place, Live, InHand, is_kind, is_layer, change_found, remove_found, place_at, hand_at, is_hand_at, is_live_at, is_live_of}
use Rattle.heap_model.specs.CallState.{Configuration, CallerView, caller_view, is_inside}
use Rattle.heap_model.specs.Ranges.{is_of_kind, vs_spans, gaps}
use Rattle.heap_model.specs.Stay.{for_some}
use Rattle.heap_model.specs.Search.{begins_at, span_at, request_of}
use Rattle.heap_model.specs.Legal.{may, after, on, layer_of, area_with, is_back_at, with_pages, may_touch, may_span_for, may_unspan_of, is_unused, has_place, places_in, with_status, resize_place, is_back_due, suits, may_give, may_take, may_drop}
use Rattle.heap_model.proofs.ListLemmas.{filter-insert_span, filter-change_found, filter-remove_found, for_some_parts}
use Rattle.heap_model.proofs.Others.{IsOpen, area_other, open_resized, span_locks, unspan_locks, reserve_locks, decommit_locks, place_vs_locks, place_large_locks}
use Rattle.claim_rule.specs.Entries.{entry, leaves_words}

other_layer : (k : CallerView) (l l' : Layer) → may_touch k l ≡ false → may_touch k l' ≡ true → is_layer l l' ≡ false
other_layer k layers.Lfh layers.Lfh a b = absurd (both_ways _ a b)
other_layer k layers.Vs layers.Vs a b = absurd (both_ways k.vs a b)
other_layer k layers.Back layers.Back a b = absurd (both_ways k.back a b)
other_layer k layers.Large layers.Large a b = absurd (both_ways k.large a b)
other_layer k layers.Lfh _ a b = refl
other_layer k layers.Vs _ a b = refl
other_layer k layers.Back _ a b = refl
other_layer k layers.Large _ a b = refl

on_other : (k : CallerView) (l : Layer) (f : List Place → List Place) (ps : List Place) (o : Option Place) → IsOpen k o → may_touch k l ≡ false → on l f ps (layer_of o) ≡ ps
on_other k l f ps None h e = refl
on_other k l f ps (Some p) h e = let d = other_layer k l p.layer e h in rw d refl

weaker : {A : Type 0} (o : Option A) (t u : A → Bool) → ((x : A) → t x ≡ true → u x ≡ true) → for_some o t ≡ true → for_some o u ≡ true
weaker None t u f h = h
weaker (Some x) t u f h = f x h

open_given : (k : CallerView) (o : Option Place) (size : ℕ) → may_give k o size ≡ true → IsOpen k o
open_given k o size h = weaker o (λ p. may_touch k p.layer && suits size p) (λ p. may_touch k p.layer) (λ p e. (and_parts (may_touch k p.layer) (suits size p) e).0) (and_parts k.entered _ h).1

open_taken : (k : CallerView) (o : Option Place) (size : ℕ) → may_take k o size ≡ true → IsOpen k o
open_taken k o size h = weaker o (λ p. may_touch k p.layer && is_live_of size p.status) (λ p. may_touch k p.layer) (λ p e. (and_parts (may_touch k p.layer) (is_live_of size p.status) e).0) (and_parts k.entered _ h).1

open_dropped : (k : CallerView) (o : Option Place) → may_drop k o ≡ true → IsOpen k o
open_dropped k o h = (and_parts k.entered _ h).1

module _ (s : Setting) (m : Configuration) (c : ℕ) where
  abbrev k : CallerView
  k = caller_view m c

  abbrev here : State
  here = m.state

  abbrev next : Act → State
  next act = (after s m (entry c act)).state

  vs_is : (ps : List Place) → ps ≡ here.vs.places → record { places = ps; active = here.vs.active; served = here.vs.served } ≡ here.vs
  vs_is ps e = ap (λ (xs : List Place). record { places = xs; active = here.vs.active; served = here.vs.served }) e

  pub vs_kept : (act : Act) → leaves_words m c act ≡ true → may s m c act ≡ true → (caller_view m c).vs ≡ false → (next act).vs ≡ here.vs
  vs_kept (acts.Place start granules layers.Vs) q h e = absurd (both_ways (caller_view m c).vs e (place_vs_locks s m c start granules h).1)
  vs_kept (acts.Place start granules layers.Lfh) q h e = refl
  vs_kept (acts.Place start granules layers.Back) q h e = refl
  vs_kept (acts.Place start granules layers.Large) q h e = refl
  vs_kept (acts.Active bucket) q h e = absurd (false≢true q)
  vs_kept (acts.Give a size) q h e = vs_is _ (on_other (caller_view m c) layers.Vs (change_found (is_hand_at c a) (with_status (Live size))) here.vs.places (hand_at here c a) (open_given (caller_view m c) (hand_at here c a) size h) e)
  vs_kept (acts.Take a size) q h e = vs_is _ (on_other (caller_view m c) layers.Vs (change_found (is_live_at a) (with_status (InHand c))) here.vs.places (place_at here c a) (open_taken (caller_view m c) (place_at here c a) size h) e)
  vs_kept (acts.Drop a) q h e = vs_is _ (on_other (caller_view m c) layers.Vs (remove_found (is_hand_at c a)) here.vs.places (hand_at here c a) (open_dropped (caller_view m c) (hand_at here c a) h) e)
  vs_kept (acts.Resize a granules size) q h e = vs_is _ (on_other (caller_view m c) layers.Vs (change_found (is_live_at a) (resize_place granules size)) here.vs.places (place_at here c a) (open_resized s here c (caller_view m c) a granules size h) e)
  vs_kept (acts.Blocked what word) q h e = absurd (false≢true q)
  vs_kept _ q h e = refl

  pub large_kept : (act : Act) → leaves_words m c act ≡ true → may s m c act ≡ true → (caller_view m c).large ≡ false → (next act).large ≡ here.large
  large_kept (acts.Place start granules layers.Large) q h e = absurd (both_ways (caller_view m c).large e (place_large_locks s m c start granules h).1)
  large_kept (acts.Place start granules layers.Lfh) q h e = refl
  large_kept (acts.Place start granules layers.Back) q h e = refl
  large_kept (acts.Place start granules layers.Vs) q h e = refl
  large_kept (acts.Give a size) q h e = on_other (caller_view m c) layers.Large (change_found (is_hand_at c a) (with_status (Live size))) here.large (hand_at here c a) (open_given (caller_view m c) (hand_at here c a) size h) e
  large_kept (acts.Take a size) q h e = on_other (caller_view m c) layers.Large (change_found (is_live_at a) (with_status (InHand c))) here.large (place_at here c a) (open_taken (caller_view m c) (place_at here c a) size h) e
  large_kept (acts.Drop a) q h e = on_other (caller_view m c) layers.Large (remove_found (is_hand_at c a)) here.large (hand_at here c a) (open_dropped (caller_view m c) (hand_at here c a) h) e
  large_kept (acts.Resize a granules size) q h e = on_other (caller_view m c) layers.Large (change_found (is_live_at a) (resize_place granules size)) here.large (place_at here c a) (open_resized s here c (caller_view m c) a granules size h) e
  large_kept (acts.Blocked what word) q h e = absurd (false≢true q)
  large_kept _ q h e = refl

  back_is : (ps : List Place) → ps ≡ here.back.places → record { area = here.back.area; places = ps } ≡ here.back
  back_is ps e = ap (λ (xs : List Place). record { area = here.back.area; places = xs }) e

  pub back_kept : (act : Act) → leaves_words m c act ≡ true → may s m c act ≡ true → (caller_view m c).back ≡ false → (next act).back ≡ here.back
  back_kept (acts.Reserve segment) q h e = absurd (both_ways (caller_view m c).back e (reserve_locks s m c segment h).1)
  back_kept (acts.Span first pages kind bucket slot) q h e = absurd (both_ways (caller_view m c).back e (span_locks s m c (record { first = first; pages = pages; kind = kind; bucket = bucket; slot = slot }) h).1)
  back_kept (acts.Unspan first) q h e = absurd (both_ways (caller_view m c).back e (unspan_locks s m c first h).0)
  back_kept (acts.Place start granules layers.Back) q h e = absurd (both_ways (caller_view m c).back e (and_parts (caller_view m c).entered (caller_view m c).back (and_parts _ (is_back_due m.now.demand) h).0).1)
  back_kept (acts.Place start granules layers.Lfh) q h e = refl
  back_kept (acts.Place start granules layers.Vs) q h e = refl
  back_kept (acts.Place start granules layers.Large) q h e = refl
  back_kept (acts.Give a size) q h e = back_is _ (on_other (caller_view m c) layers.Back (change_found (is_hand_at c a) (with_status (Live size))) here.back.places (hand_at here c a) (open_given (caller_view m c) (hand_at here c a) size h) e)
  back_kept (acts.Take a size) q h e = back_is _ (on_other (caller_view m c) layers.Back (change_found (is_live_at a) (with_status (InHand c))) here.back.places (place_at here c a) (open_taken (caller_view m c) (place_at here c a) size h) e)
  back_kept (acts.Drop a) q h e = back_is _ (on_other (caller_view m c) layers.Back (remove_found (is_hand_at c a)) here.back.places (hand_at here c a) (open_dropped (caller_view m c) (hand_at here c a) h) e)
  back_kept (acts.Resize a granules size) q h e =
      let o = open_resized s here c (caller_view m c) a granules size h in
      let p = on_other (caller_view m c) layers.Back (change_found (is_live_at a) (resize_place granules size)) here.back.places (place_at here c a) o e in
      let b = area_other (caller_view m c) here.back.area granules (place_at here c a) o e in
      ap (λ (x : Area). record { area = x; places = on layers.Back (change_found (is_live_at a) (resize_place granules size)) here.back.places (layer_of (place_at here c a)) }) b ∙ back_is _ p
  back_kept (acts.Decommit page) q h e = absurd (both_ways (caller_view m c).back e (decommit_locks s m c page h).1)
  back_kept (acts.Blocked what word) q h e = absurd (false≢true q)
  back_kept _ q h e = refl

  -- the spans of VS need both locks
  not_vs : (kind : Kind) → is_kind kind kinds.Back ≡ true → is_kind kind kinds.Vs ≡ false
  not_vs kinds.Back h = refl
  not_vs kinds.Lfh h = refl
  not_vs kinds.Header h = refl
  not_vs kinds.Free h = refl
  not_vs kinds.Vs h = absurd (false≢true h)

  unspan_not_vs : (kind : Kind) → may_unspan_of (caller_view m c) kind ≡ true → (caller_view m c).vs ≡ false → is_kind kind kinds.Vs ≡ false
  unspan_not_vs kinds.Vs h e = absurd (both_ways (caller_view m c).vs e (and_parts (is_inside (caller_view m c)) (caller_view m c).vs h).1)
  unspan_not_vs kinds.Back h e = refl
  unspan_not_vs kinds.Lfh h e = refl
  unspan_not_vs kinds.Header h e = refl
  unspan_not_vs kinds.Free h e = refl

  span_not_vs : (x : Span) → may_span_for s here.back.area (gaps here) c (caller_view m c) (request_of s m c) x.pages x.bucket x.kind ≡ true → (caller_view m c).vs ≡ false → is_kind x.kind kinds.Vs ≡ false
  span_not_vs x h e = by_kind x.kind h
    where
      by_kind : (kind : Kind) → may_span_for s here.back.area (gaps here) c (caller_view m c) (request_of s m c) x.pages x.bucket kind ≡ true → is_kind kind kinds.Vs ≡ false
      by_kind kinds.Vs h = absurd (both_ways (caller_view m c).vs e (and_parts (caller_view m c).vs _ h).0)
      by_kind kinds.Back h = refl
      by_kind kinds.Lfh h = refl
      by_kind kinds.Header h = refl
      by_kind kinds.Free h = refl

  resized_spans : (granules : ℕ) (o : Option Place) → vs_spans (area_with here.back.area granules o) ≡ vs_spans here.back.area
  resized_spans granules None = refl
  resized_spans granules (Some p) = elim (cases_Bool (is_layer p.layer layers.Back)) [
    | inl e ↦ rw e (filter-change_found (is_of_kind kinds.Vs) (is_back_at (p.start / 4096)) (with_pages (granules / 256)) here.back.area.spans (λ x h. let k = not_vs x.kind (and_parts (begins_at (p.start / 4096) x) (is_kind x.kind kinds.Back) h).1 in (k, k)))
    | inr e ↦ rw e refl
  ]

  pub spans_kept : (act : Act) → leaves_words m c act ≡ true → may s m c act ≡ true → (caller_view m c).vs ≡ false → vs_spans (next act).back.area ≡ vs_spans here.back.area
  spans_kept (acts.Span first pages kind bucket slot) q h e =
      let x : Span = record { first = first; pages = pages; kind = kind; bucket = bucket; slot = slot } in
      filter-insert_span (is_of_kind kinds.Vs) x here.back.area.spans (span_not_vs x (span_locks s m c x h).2 e)
  spans_kept (acts.Unspan first) q h e = filter-remove_found (is_of_kind kinds.Vs) (begins_at first) here.back.area.spans (λ x f. gone x f (for_some_parts (span_at here.back.area first) (is_unused here (caller_view m c)) (unspan_locks s m c first h).1))
    where
      gone : (x : Span) → find (begins_at first) here.back.area.spans ≡ Some x → (y : Span) × (find (begins_at first) here.back.area.spans ≡ Some y) × (is_unused here (caller_view m c) y ≡ true) → is_kind x.kind kinds.Vs ≡ false
      gone x f w =
          let same : Some w.0 ≡ Some x = sym w.1 ∙ f in
          let here_is : w.0 ≡ x = cc in
          subst (λ (y : Span). is_kind y.kind kinds.Vs ≡ false) here_is (unspan_not_vs w.0.kind (and_parts (may_unspan_of (caller_view m c) w.0.kind) (not (has_place 4096 (places_in here w.0.kind) w.0)) w.2).0 e)
  spans_kept (acts.Resize a granules size) q h e = resized_spans granules (place_at here c a)
  spans_kept (acts.Place start granules layers.Back) q h e = refl
  spans_kept (acts.Place start granules layers.Lfh) q h e = refl
  spans_kept (acts.Place start granules layers.Vs) q h e = refl
  spans_kept (acts.Place start granules layers.Large) q h e = refl
  spans_kept (acts.Blocked what word) q h e = absurd (false≢true q)
  spans_kept _ q h e = refl
