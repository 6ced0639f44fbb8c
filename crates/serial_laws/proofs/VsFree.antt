-- A free and a question for the size in the variable-size layer, from a configuration at rest.
use Rattle.std.proofs.Common.{◌≡◌, ℕ, ◌+◌, ◌<◌, Bool, true, false, List, [], ◌∷◌, ◌++◌, Option, Some, refl, sym, ap, subst, ◌∙◌}
use Rattle.std.specs.List.{find, list_all}
use Rattle.std.proofs.lemmas.Bool.{eq-eqb}
use Rattle.heap_model.specs.declared.Call.TheVariants as calls
use Rattle.heap_model.specs.declared.Act.TheVariants as acts
use Rattle.heap_model.specs.declared.Reply.TheVariants as replies
use Rattle.heap_model.specs.declared.Kind.TheVariants as kinds
use Rattle.heap_model.specs.declared.Layer.TheVariants as layers
use Rattle.heap_model.specs.declared.What.TheVariants as whats
use Rattle.heap_model.specs.State.{Setting, BackPart, VsPart, Span, Place, has_address, in_hand, hands}
use Rattle.heap_model.specs.Ranges.{is_of_kind}
use Rattle.heap_model.specs.CallState.{Configuration, CallState, SpanHistory}
use Rattle.heap_model.specs.Search.{span_at, begins_at}
use Rattle.heap_model.specs.Legal.{after, has_place, are_used, is_empty, forget_hint}
use Rattle.heap_model.specs.Alone.{at_rest, by_zero}
use Rattle.heap_model.proofs.ListLemmas.{filter-remove_found}
use Rattle.serial_laws.specs.VsCalls.{EndsVsAndHints, EndsVs, live_vs, vs_without, area_closed, VsFreeEnds, VsFreeSpanEnds, VsSizeEnds}
use Rattle.serial_laws.proofs.Allocate.{come, begins, not_searched, four_parts}
use Rattle.serial_laws.proofs.Found.{find_front, of_kind, none_left, take, drop, taken, in_hand_after, dropped}

module _ (s : Setting) (back : BackPart) (vs : VsPart) (lfh large : List Place) (words : ℕ → ℕ) (states : ℕ → CallState) (disturbed : ℕ → Bool) (history : SpanHistory) (room : 0 < s.limits.callers) (empty : hands (at_rest back vs lfh large words states disturbed history).state 0 ≡ []) (whole : are_used 4096 kinds.Back back.places back.area.spans ≡ true) (used : are_used 4096 kinds.Vs vs.places back.area.spans ≡ true) (from granules size : ℕ) (h : find (has_address (from + 16)) vs.places ≡ Some (live_vs from granules size)) where
  abbrev start : Configuration
  start = at_rest back vs lfh large words states disturbed history

  abbrev a : ℕ
  a = from + 16

  four : (in_hand 0 lfh ≡ []) × (in_hand 0 vs.places ≡ []) × (in_hand 0 back.places ≡ []) × (in_hand 0 large ≡ [])
  four = four_parts lfh vs.places back.places large empty

  -- the place at the address, while the lock of this layer is held, and maybe that of the back end
  abbrev place_there : List Place → Option Place
  place_there bs = find (has_address a) ((in_hand 0 lfh ++ in_hand 0 vs.places ++ in_hand 0 back.places ++ in_hand 0 large) ++ vs.places ++ bs ++ [] ++ (lfh ++ vs.places ++ back.places ++ large))

  there : (bs : List Place) → place_there bs ≡ Some (live_vs from granules size)
  there bs =
      ap (λ (hs : List Place). find (has_address a) (hs ++ vs.places ++ bs ++ [] ++ (lfh ++ vs.places ++ back.places ++ large))) empty
      ∙ find_front (has_address a) (vs.places ++ bs ++ []) (lfh ++ vs.places ++ back.places ++ large) (live_vs from granules size)
      (find_front (has_address a) (vs.places ++ bs) [] (live_vs from granules size) (find_front (has_address a) vs.places bs (live_vs from granules size) h))

  hand_found : find (has_address a) (in_hand 0 lfh ++ in_hand 0 (take a vs.places) ++ in_hand 0 back.places ++ in_hand 0 large) ≡ Some (taken a from granules size layers.Vs)
  hand_found =
      let i = four.0 in
      let e = eq-eqb a a refl in
      let k = in_hand_after a from granules size layers.Vs vs.places e four.1 h in
      rw (i, k, e) refl

  gone : drop a (take a vs.places) ≡ vs_without vs.places a
  gone =
      let e = eq-eqb a a refl in
      dropped a from granules size layers.Vs (has_address a) vs.places e e (λ (p : Place) n. n) four.1 h

  left : in_hand 0 lfh ++ in_hand 0 (vs_without vs.places a) ++ in_hand 0 back.places ++ in_hand 0 large ≡ []
  left =
      let i = four.0 in let j = none_left (has_address a) vs.places four.1 in let k = four.2 in let l = four.3 in
      rw (i, j, k, l) refl

  frees_it : are_used 4096 kinds.Vs (vs_without vs.places a) back.area.spans ≡ true → EndsVs s start (calls.Free a) replies.Done back.area (vs_without vs.places a) vs.served
  frees_it still =
      let m1 = after s start (by_zero (acts.Begin (calls.Free a))) in
      let m2 = after s m1 (by_zero acts.Enter) in
      let m3 = after s m2 (by_zero (acts.TakeLock whats.Vs)) in
      let m4 = after s m3 (by_zero (acts.Take a size)) in
      let m5 = after s m4 (by_zero (acts.Drop a)) in
      let m6 = after s m5 (by_zero (acts.GiveLock whats.Vs)) in
      let r5 = acts.GiveLock whats.Vs ∷ acts.Leave ∷ [] in
      let r4 = acts.Drop a ∷ r5 in
      let r3 = acts.Take a size ∷ r4 in
      let r2 = acts.TakeLock whats.Vs ∷ r3 in
      let found = there [] in
      let hand = hand_found in
      let out = gone in
      let same = eq-eqb size size refl in
      let clear : hands m6.state 0 ≡ [] = rw (found, hand, out) left in
      record {
        rest = acts.Enter ∷ r2;
        completes = record {
          legal =
              come s start (acts.Begin (calls.Free a)) (acts.Enter ∷ r2) (begins s _ room empty)
              (come s m1 acts.Enter r2 refl
              (come s m2 (acts.TakeLock whats.Vs) r3 refl
              (come s m3 (acts.Take a size) r4 (rw (found, same) refl)
              (come s m4 (acts.Drop a) r5 (rw (found, hand) refl)
              (come s m5 (acts.GiveLock whats.Vs) (acts.Leave ∷ []) (rw (found, hand, out) still)
              (come s m6 acts.Leave [] (ap is_empty clear) refl))))));
          steps = λ depth. refl;
          answered = record { one = (refl, refl); shape = (refl, refl) };
          idle = record { outside = refl; holds = refl; hands = clear; demand = refl };
        };
        at_rest = record { rest = refl; hands = clear; whole = rw (found, hand) whole; used = rw (found, hand, out) still };
        only = record {
          area_is = refl;
          vs_is = rw (found, hand, out) refl;
          back = rw (found, hand) refl;
          lfh = rw (found, hand) refl;
          hints = refl;
          large = rw (found, hand) refl;
          words = refl;
          searches = not_searched (states 0);
        };
      }

  -- .. with its span
  frees_with : (x : Span) → span_at back.area x.first ≡ Some x → x.kind ≡ kinds.Vs → has_place 4096 (vs_without vs.places a) x ≡ false →
      are_used 4096 kinds.Vs (vs_without vs.places a) (area_closed back.area x.first).spans ≡ true →
      EndsVsAndHints s start (calls.Free a) replies.Done (area_closed back.area x.first) (vs_without vs.places a) vs.served (forget_hint x.first history.hints)
  frees_with x spanned kind unused still =
      let m1 = after s start (by_zero (acts.Begin (calls.Free a))) in
      let m2 = after s m1 (by_zero acts.Enter) in
      let m3 = after s m2 (by_zero (acts.TakeLock whats.Vs)) in
      let m4 = after s m3 (by_zero (acts.TakeLock whats.Back)) in
      let m5 = after s m4 (by_zero (acts.Take a size)) in
      let m6 = after s m5 (by_zero (acts.Drop a)) in
      let m7 = after s m6 (by_zero (acts.Unspan x.first)) in
      let m8 = after s m7 (by_zero (acts.GiveLock whats.Back)) in
      let m9 = after s m8 (by_zero (acts.GiveLock whats.Vs)) in
      let r7 = acts.GiveLock whats.Back ∷ acts.GiveLock whats.Vs ∷ acts.Leave ∷ [] in
      let r6 = acts.Unspan x.first ∷ r7 in
      let r5 = acts.Drop a ∷ r6 in
      let r4 = acts.Take a size ∷ r5 in
      let r3 = acts.TakeLock whats.Back ∷ r4 in
      let r2 = acts.TakeLock whats.Vs ∷ r3 in
      let found = there back.places in
      let hand = hand_found in
      let out = gone in
      let same = eq-eqb size size refl in
      let other : (y : Span) → find (begins_at x.first) back.area.spans ≡ Some y → is_of_kind kinds.Back y ≡ false = λ y e. of_kind x y kinds.Vs kinds.Back spanned e kind refl in
      let kept = ap (λ (ys : List Span). list_all (has_place 4096 back.places) ys) (filter-remove_found (is_of_kind kinds.Back) (begins_at x.first) back.area.spans other) ∙ whole in
      let clear : hands m9.state 0 ≡ [] = rw (found, hand, out) left in
      record {
        rest = acts.Enter ∷ r2;
        completes = record {
          legal =
              come s start (acts.Begin (calls.Free a)) (acts.Enter ∷ r2) (begins s _ room empty)
              (come s m1 acts.Enter r2 refl
              (come s m2 (acts.TakeLock whats.Vs) r3 refl
              (come s m3 (acts.TakeLock whats.Back) r4 refl
              (come s m4 (acts.Take a size) r5 (rw (found, same) refl)
              (come s m5 (acts.Drop a) r6 (rw (found, hand) refl)
              (come s m6 (acts.Unspan x.first) r7 (rw (found, hand, out, spanned, kind, unused) refl)
              (come s m7 (acts.GiveLock whats.Back) (acts.GiveLock whats.Vs ∷ acts.Leave ∷ []) (rw (found, hand) kept)
              (come s m8 (acts.GiveLock whats.Vs) (acts.Leave ∷ []) (rw (found, hand, out) still)
              (come s m9 acts.Leave [] (ap is_empty clear) refl)))))))));
          steps = λ depth. refl;
          answered = record { one = (refl, refl); shape = (refl, refl) };
          idle = record { outside = refl; holds = refl; hands = clear; demand = refl };
        };
        at_rest = record { rest = refl; hands = clear; whole = rw (found, hand) kept; used = rw (found, hand, out) still };
        only = record {
          area_is = refl;
          vs_is = rw (found, hand, out) refl;
          back = rw (found, hand) refl;
          lfh = rw (found, hand) refl;
          hints = refl;
          large = rw (found, hand) refl;
          words = refl;
          searches = not_searched (states 0);
        };
      }

  sizes_it : EndsVs s start (calls.Size a) (replies.Number size) back.area vs.places vs.served
  sizes_it =
      let m1 = after s start (by_zero (acts.Begin (calls.Size a))) in
      let m2 = after s m1 (by_zero acts.Enter) in
      let m3 = after s m2 (by_zero (acts.TakeLock whats.Vs)) in
      let m4 = after s m3 (by_zero (acts.Sized a size)) in
      let m5 = after s m4 (by_zero (acts.GiveLock whats.Vs)) in
      let r4 = acts.GiveLock whats.Vs ∷ acts.Leave ∷ [] in
      let r3 = acts.Sized a size ∷ r4 in
      let r2 = acts.TakeLock whats.Vs ∷ r3 in
      let found = there [] in
      let same = eq-eqb size size refl in
      record {
        rest = acts.Enter ∷ r2;
        completes = record {
          legal =
              come s start (acts.Begin (calls.Size a)) (acts.Enter ∷ r2) (begins s _ room empty)
              (come s m1 acts.Enter r2 refl
              (come s m2 (acts.TakeLock whats.Vs) r3 refl
              (come s m3 (acts.Sized a size) r4 (rw (found, same) refl)
              (come s m4 (acts.GiveLock whats.Vs) (acts.Leave ∷ []) used
              (come s m5 acts.Leave [] (ap is_empty empty) refl)))));
          steps = λ depth. refl;
          answered = record { one = (refl, refl); shape = (refl, refl) };
          idle = record { outside = refl; holds = refl; hands = empty; demand = refl };
        };
        at_rest = record { rest = refl; hands = empty; whole = whole; used = used };
        only = record { area_is = refl; vs_is = refl; back = refl; lfh = refl; hints = refl; large = refl; words = refl; searches = not_searched (states 0) };
      }

---- .. from any configuration at rest

pub vs_frees : VsFreeEnds
vs_frees s m from granules size room r h still =
    let E : Configuration → Type 0 = λ m. EndsVs s m (calls.Free (from + 16)) replies.Done m.state.back.area (vs_without m.state.vs.places (from + 16)) m.state.vs.served in
    subst E (sym r.rest) (frees_it s m.state.back m.state.vs m.state.lfh m.state.large m.state.words m.now.calls m.now.disturbed m.now.span_history room r.hands r.whole r.used from granules size h still)

pub vs_frees_span : VsFreeSpanEnds
vs_frees_span s m from granules size x room r h spanned kind unused still =
    let E : Configuration → Type 0 = λ m. EndsVsAndHints s m (calls.Free (from + 16)) replies.Done (area_closed m.state.back.area x.first) (vs_without m.state.vs.places (from + 16)) m.state.vs.served (forget_hint x.first m.now.span_history.hints) in
    subst E (sym r.rest) (frees_with s m.state.back m.state.vs m.state.lfh m.state.large m.state.words m.now.calls m.now.disturbed m.now.span_history room r.hands r.whole r.used from granules size h x spanned kind unused still)

pub vs_sizes : VsSizeEnds
vs_sizes s m from granules size room r h =
    let E : Configuration → Type 0 = λ m. EndsVs s m (calls.Size (from + 16)) (replies.Number size) m.state.back.area m.state.vs.places m.state.vs.served in
    subst E (sym r.rest) (sizes_it s m.state.back m.state.vs m.state.lfh m.state.large m.state.words m.now.calls m.now.disturbed m.now.span_history room r.hands r.whole r.used from granules size h)
