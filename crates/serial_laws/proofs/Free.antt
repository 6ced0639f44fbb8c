-- A free and a question for the size, from a configuration at rest.
use Rattle.std.proofs.Common.{◌≡◌, ℕ, ◌/◌, ◌<◌, Bool, true, false, ◌&&◌, not, List, [], ◌∷◌, ◌++◌, Option, Some, refl, sym, ap, subst, ◌∙◌}
use Rattle.std.specs.List.{find, list_all}
use Rattle.std.proofs.lemmas.Bool.{eq-eqb}
use Rattle.heap_model.specs.declared.Call.TheVariants as calls
use Rattle.heap_model.specs.declared.Act.TheVariants as acts
use Rattle.heap_model.specs.declared.Reply.TheVariants as replies
use Rattle.heap_model.specs.declared.Kind.TheVariants as kinds
use Rattle.heap_model.specs.declared.Layer.TheVariants as layers
use Rattle.heap_model.specs.declared.What.TheVariants as whats
use Rattle.heap_model.specs.State.{Setting, BackPart, VsPart, Span, Place, has_address, in_hand, hands, is_live_at}
use Rattle.heap_model.specs.CallState.{Configuration, CallState, SpanHistory}
use Rattle.heap_model.specs.Ranges.{is_of_kind}
use Rattle.heap_model.specs.Search.{span_at, begins_at}
use Rattle.heap_model.specs.Legal.{after, has_place, are_used, is_empty, has_live, forget_hint}
use Rattle.heap_model.specs.Alone.{at_rest, by_zero}
use Rattle.heap_model.proofs.ListLemmas.{filter-remove_found}
use Rattle.serial_laws.specs.BackCalls.{EndsAndHints, Ends, live_place, area_without, places_without, FreeEnds, SizeEnds, IsNotLive, NotLiveEnds}
use Rattle.serial_laws.proofs.Allocate.{come, begins, not_searched, four_parts}
use Rattle.serial_laws.proofs.Found.{find_front, of_kind, none_left, take, taken, in_hand_after, dropped}

---- The calls

module _ (s : Setting) (back : BackPart) (vs : VsPart) (lfh large : List Place) (words : ℕ → ℕ) (states : ℕ → CallState) (disturbed : ℕ → Bool) (history : SpanHistory) (room : 0 < s.limits.callers) (empty : hands (at_rest back vs lfh large words states disturbed history).state 0 ≡ []) (whole : are_used 4096 kinds.Back back.places back.area.spans ≡ true) (used : are_used 4096 kinds.Vs vs.places back.area.spans ≡ true) where
  abbrev start : Configuration
  start = at_rest back vs lfh large words states disturbed history

  four : (in_hand 0 lfh ≡ []) × (in_hand 0 vs.places ≡ []) × (in_hand 0 back.places ≡ []) × (in_hand 0 large ≡ [])
  four = four_parts lfh vs.places back.places large empty

  -- the place at an address, while the lock of the back end is held
  abbrev place_there : ℕ → Option Place
  place_there a = find (has_address a) ((in_hand 0 lfh ++ in_hand 0 vs.places ++ in_hand 0 back.places ++ in_hand 0 large) ++ [] ++ back.places ++ [] ++ (lfh ++ vs.places ++ back.places ++ large))

  there : (a : ℕ) (p : Place) → find (has_address a) back.places ≡ Some p → place_there a ≡ Some p
  there a p h =
      ap (λ (hs : List Place). find (has_address a) (hs ++ [] ++ back.places ++ [] ++ (lfh ++ vs.places ++ back.places ++ large))) empty
      ∙ find_front (has_address a) (back.places ++ []) (lfh ++ vs.places ++ back.places ++ large) p (find_front (has_address a) back.places [] p h)

  frees_it : (a granules size : ℕ) (x : Span) → find (has_address a) back.places ≡ Some (live_place a granules size) → span_at back.area (a / 4096) ≡ Some x → x.kind ≡ kinds.Back →
      has_place 4096 (places_without back.places a) x ≡ false → are_used 4096 kinds.Back (places_without back.places a) (area_without back.area a).spans ≡ true →
      EndsAndHints s start (calls.Free a) replies.Done (area_without back.area a) (places_without back.places a) (forget_hint (a / 4096) history.hints)
  frees_it a granules size x h spanned kind unused still =
      let m1 = after s start (by_zero (acts.Begin (calls.Free a))) in
      let m2 = after s m1 (by_zero acts.Enter) in
      let m3 = after s m2 (by_zero (acts.TakeLock whats.Back)) in
      let m4 = after s m3 (by_zero (acts.Take a size)) in
      let m5 = after s m4 (by_zero (acts.Drop a)) in
      let m6 = after s m5 (by_zero (acts.Unspan (a / 4096))) in
      let m7 = after s m6 (by_zero (acts.GiveLock whats.Back)) in
      let r6 = acts.GiveLock whats.Back ∷ acts.Leave ∷ [] in
      let r5 = acts.Unspan (a / 4096) ∷ r6 in
      let r4 = acts.Drop a ∷ r5 in
      let r3 = acts.Take a size ∷ r4 in
      let r2 = acts.TakeLock whats.Back ∷ r3 in
      let found = there a (live_place a granules size) h in
      let same = eq-eqb size size refl in
      let page = eq-eqb (a / 4096) (a / 4096) refl in
      let hand : find (has_address a) (in_hand 0 lfh ++ in_hand 0 vs.places ++ in_hand 0 (take a back.places) ++ in_hand 0 large) ≡ Some (taken a a granules size layers.Back) = hand_found a granules size h in
      let here = eq-eqb a a refl in
      let gone = dropped a a granules size layers.Back (is_live_at a) back.places here (rw here refl) (λ (p : Place) e. rw e refl) four.2 h in
      let other : (y : Span) → find (begins_at (a / 4096)) back.area.spans ≡ Some y → is_of_kind kinds.Vs y ≡ false = λ y e. of_kind x y kinds.Back kinds.Vs spanned e kind refl in
      let kept = ap (λ (ys : List Span). list_all (has_place 4096 vs.places) ys) (filter-remove_found (is_of_kind kinds.Vs) (begins_at (a / 4096)) back.area.spans other) ∙ used in
      let left : hands m7.state 0 ≡ [] = rw (found, hand, gone) (rw (four.0, four.1, four.3, none_left (is_live_at a) back.places four.2) refl) in
      record {
        rest = acts.Enter ∷ r2;
        completes = record {
          legal =
              come s start (acts.Begin (calls.Free a)) (acts.Enter ∷ r2) (begins s _ room empty)
              (come s m1 acts.Enter r2 refl
              (come s m2 (acts.TakeLock whats.Back) r3 refl
              (come s m3 (acts.Take a size) r4 (rw (found, same) refl)
              (come s m4 (acts.Drop a) r5 (rw (found, hand) refl)
              (come s m5 (acts.Unspan (a / 4096)) r6 (rw (found, hand, gone, page, spanned, kind, unused) refl)
              (come s m6 (acts.GiveLock whats.Back) (acts.Leave ∷ []) (rw (found, hand, gone) still)
              (come s m7 acts.Leave [] (ap is_empty left) refl)))))));
          steps = λ depth. refl;
          answered = record { one = (refl, refl); shape = (refl, refl) };
          idle = record { outside = refl; holds = refl; hands = left; demand = refl };
        };
        at_rest = record { rest = refl; hands = left; whole = rw (found, hand, gone) still; used = rw (found, hand) kept };
        only = record {
          area_is = refl;
          places_are = rw (found, hand, gone) refl;
          vs = rw (found, hand) refl;
          lfh = rw (found, hand) refl;
          hints = refl;
          large = rw (found, hand) refl;
          words = refl;
          searches = not_searched (states 0);
        };
      }
    where
      hand_found : (a granules size : ℕ) → find (has_address a) back.places ≡ Some (live_place a granules size) →
          find (has_address a) (in_hand 0 lfh ++ in_hand 0 vs.places ++ in_hand 0 (take a back.places) ++ in_hand 0 large) ≡ Some (taken a a granules size layers.Back)
      hand_found a granules size h =
          let i = four.0 in let j = four.1 in let l = four.3 in
          let e = eq-eqb a a refl in
          let k = in_hand_after a a granules size layers.Back back.places e four.2 h in
          rw (i, j, l, k, e) refl

  sizes_it : (a granules size : ℕ) → find (has_address a) back.places ≡ Some (live_place a granules size) → Ends s start (calls.Size a) (replies.Number size) back.area back.places
  sizes_it a granules size h =
      let m1 = after s start (by_zero (acts.Begin (calls.Size a))) in
      let m2 = after s m1 (by_zero acts.Enter) in
      let m3 = after s m2 (by_zero (acts.TakeLock whats.Back)) in
      let m4 = after s m3 (by_zero (acts.Sized a size)) in
      let m5 = after s m4 (by_zero (acts.GiveLock whats.Back)) in
      let r4 = acts.GiveLock whats.Back ∷ acts.Leave ∷ [] in
      let r3 = acts.Sized a size ∷ r4 in
      let r2 = acts.TakeLock whats.Back ∷ r3 in
      let found = there a (live_place a granules size) h in
      let same = eq-eqb size size refl in
      record {
        rest = acts.Enter ∷ r2;
        completes = record {
          legal =
              come s start (acts.Begin (calls.Size a)) (acts.Enter ∷ r2) (begins s _ room empty)
              (come s m1 acts.Enter r2 refl
              (come s m2 (acts.TakeLock whats.Back) r3 refl
              (come s m3 (acts.Sized a size) r4 (rw (found, same) refl)
              (come s m4 (acts.GiveLock whats.Back) (acts.Leave ∷ []) whole
              (come s m5 acts.Leave [] (ap is_empty empty) refl)))));
          steps = λ depth. refl;
          answered = record { one = (refl, refl); shape = (refl, refl) };
          idle = record { outside = refl; holds = refl; hands = empty; demand = refl };
        };
        at_rest = record { rest = refl; hands = empty; whole = whole; used = used };
        only = record { area_is = refl; places_are = refl; vs = refl; lfh = refl; hints = refl; large = refl; words = refl; searches = not_searched (states 0) };
      }

  -- an address at which nothing lives
  finds_none : (a : ℕ) → IsNotLive start.state a → (true && not (has_live lfh a) && not (has_live vs.places a) && not (has_live back.places a) && not (has_live large a)) ≡ true
  finds_none a h = let i = h.0 in let j = h.1 in let k = h.2 in let l = h.3 in rw (i, j, k, l) refl

  frees_none : (a : ℕ) → IsNotLive start.state a → Ends s start (calls.Free a) replies.NotLive back.area back.places
  frees_none a h =
      let m1 = after s start (by_zero (acts.Begin (calls.Free a))) in
      let m2 = after s m1 (by_zero acts.Enter) in
      let m3 = after s m2 (by_zero (acts.NotLive a)) in
      let r2 = acts.NotLive a ∷ acts.Leave ∷ [] in
      record {
        rest = acts.Enter ∷ r2;
        completes = record {
          legal =
              come s start (acts.Begin (calls.Free a)) (acts.Enter ∷ r2) (begins s _ room empty)
              (come s m1 acts.Enter r2 refl
              (come s m2 (acts.NotLive a) (acts.Leave ∷ []) (finds_none a h)
              (come s m3 acts.Leave [] (ap is_empty empty) refl)));
          steps = λ depth. refl;
          answered = record { one = (refl, refl); shape = refl };
          idle = record { outside = refl; holds = refl; hands = empty; demand = refl };
        };
        at_rest = record { rest = refl; hands = empty; whole = whole; used = used };
        only = record { area_is = refl; places_are = refl; vs = refl; lfh = refl; hints = refl; large = refl; words = refl; searches = not_searched (states 0) };
      }

  sizes_none : (a : ℕ) → IsNotLive start.state a → Ends s start (calls.Size a) replies.NotLive back.area back.places
  sizes_none a h =
      let m1 = after s start (by_zero (acts.Begin (calls.Size a))) in
      let m2 = after s m1 (by_zero acts.Enter) in
      let m3 = after s m2 (by_zero (acts.NotLive a)) in
      let r2 = acts.NotLive a ∷ acts.Leave ∷ [] in
      record {
        rest = acts.Enter ∷ r2;
        completes = record {
          legal =
              come s start (acts.Begin (calls.Size a)) (acts.Enter ∷ r2) (begins s _ room empty)
              (come s m1 acts.Enter r2 refl
              (come s m2 (acts.NotLive a) (acts.Leave ∷ []) (finds_none a h)
              (come s m3 acts.Leave [] (ap is_empty empty) refl)));
          steps = λ depth. refl;
          answered = record { one = (refl, refl); shape = refl };
          idle = record { outside = refl; holds = refl; hands = empty; demand = refl };
        };
        at_rest = record { rest = refl; hands = empty; whole = whole; used = used };
        only = record { area_is = refl; places_are = refl; vs = refl; lfh = refl; hints = refl; large = refl; words = refl; searches = not_searched (states 0) };
      }

---- .. from any configuration at rest

pub frees : FreeEnds
frees s m a granules size x room r h spanned kind unused still =
    let E : Configuration → Type 0 = λ m. EndsAndHints s m (calls.Free a) replies.Done (area_without m.state.back.area a) (places_without m.state.back.places a) (forget_hint (a / 4096) m.now.span_history.hints) in
    subst E (sym r.rest) (frees_it s m.state.back m.state.vs m.state.lfh m.state.large m.state.words m.now.calls m.now.disturbed m.now.span_history room r.hands r.whole r.used a granules size x h spanned kind unused still)

pub sizes : SizeEnds
sizes s m a granules size room r h =
    let E : Configuration → Type 0 = λ m. Ends s m (calls.Size a) (replies.Number size) m.state.back.area m.state.back.places in
    subst E (sym r.rest) (sizes_it s m.state.back m.state.vs m.state.lfh m.state.large m.state.words m.now.calls m.now.disturbed m.now.span_history room r.hands r.whole r.used a granules size h)

pub not_live : NotLiveEnds
not_live s m a room r h =
    let F : Configuration → Type 0 = λ m. Ends s m (calls.Free a) replies.NotLive m.state.back.area m.state.back.places in
    let S : Configuration → Type 0 = λ m. Ends s m (calls.Size a) replies.NotLive m.state.back.area m.state.back.places in (
      subst F (sym r.rest) (frees_none s m.state.back m.state.vs m.state.lfh m.state.large m.state.words m.now.calls m.now.disturbed m.now.span_history room r.hands r.whole r.used a h),
      subst S (sym r.rest) (sizes_none s m.state.back m.state.vs m.state.lfh m.state.large m.state.words m.now.calls m.now.disturbed m.now.span_history room r.hands r.whole r.used a h),
    )
