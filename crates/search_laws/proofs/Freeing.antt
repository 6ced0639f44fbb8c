-- A free of a block of the low-fragmentation front end, and a question for its size, from a configuration at rest.
use Rattle.std.proofs.Common.{◌≡◌, ℕ, ◌<◌, Bool, true, List, [], ◌∷◌, ◌++◌, Option, Some, refl, sym, ap, subst, ◌∙◌}
use Rattle.std.specs.List.{find}
use Rattle.std.proofs.lemmas.Bool.{eq-eqb}
use Rattle.heap_model.specs.declared.Call.TheVariants as calls
use Rattle.heap_model.specs.declared.Act.TheVariants as acts
use Rattle.heap_model.specs.declared.Reply.TheVariants as replies
use Rattle.heap_model.specs.declared.Kind.TheVariants as kinds
use Rattle.heap_model.specs.declared.Layer.TheVariants as layers
use Rattle.heap_model.specs.State.{Setting, BackPart, VsPart, Place, has_address, in_hand, hands, remove_found}
use Rattle.heap_model.specs.CallState.{Configuration, CallState, SpanHistory}
use Rattle.heap_model.specs.Legal.{after, are_used, is_empty}
use Rattle.heap_model.specs.Alone.{at_rest, by_zero}
use Rattle.serial_laws.specs.OneCall.{searches_of}
use Rattle.serial_laws.proofs.Allocate.{come, begins, not_searched, four_parts}
use Rattle.serial_laws.proofs.Found.{find_front, none_left, take, taken, in_hand_after, dropped}
use Rattle.search_laws.specs.Calls.{EndsLfh, live_lfh, LfhFreeEnds, LfhSizeEnds}

module _ (s : Setting) (back : BackPart) (vs : VsPart) (lfh large : List Place) (words : ℕ → ℕ) (states : ℕ → CallState) (disturbed : ℕ → Bool) (history : SpanHistory) (room : 0 < s.limits.callers) (empty : hands (at_rest back vs lfh large words states disturbed history).state 0 ≡ []) (whole : are_used 4096 kinds.Back back.places back.area.spans ≡ true) (used : are_used 4096 kinds.Vs vs.places back.area.spans ≡ true) where
  abbrev start : Configuration
  start = at_rest back vs lfh large words states disturbed history

  four : (in_hand 0 lfh ≡ []) × (in_hand 0 vs.places ≡ []) × (in_hand 0 back.places ≡ []) × (in_hand 0 large ≡ [])
  four = four_parts lfh vs.places back.places large empty

  -- the place at an address, while no lock is held
  abbrev place_there : ℕ → Option Place
  place_there a = find (has_address a) ((in_hand 0 lfh ++ in_hand 0 vs.places ++ in_hand 0 back.places ++ in_hand 0 large) ++ [] ++ [] ++ [] ++ (lfh ++ vs.places ++ back.places ++ large))

  there : (a : ℕ) (p : Place) → find (has_address a) lfh ≡ Some p → place_there a ≡ Some p
  there a p h =
      ap (λ (hs : List Place). find (has_address a) (hs ++ [] ++ [] ++ [] ++ (lfh ++ vs.places ++ back.places ++ large))) empty
      ∙ find_front (has_address a) ((lfh ++ vs.places) ++ back.places) large p (find_front (has_address a) (lfh ++ vs.places) back.places p (find_front (has_address a) lfh vs.places p h))

  hand_found : (a granules size : ℕ) → find (has_address a) lfh ≡ Some (live_lfh a granules size) →
      find (has_address a) (in_hand 0 (take a lfh) ++ in_hand 0 vs.places ++ in_hand 0 back.places ++ in_hand 0 large) ≡ Some (taken a a granules size layers.Lfh)
  hand_found a granules size h =
      let i = four.1 in let j = four.2 in let l = four.3 in
      let e = eq-eqb a a refl in
      let k = in_hand_after a a granules size layers.Lfh lfh e four.0 h in
      rw (i, j, l, k, e) refl

  frees_it : (a granules size : ℕ) → find (has_address a) lfh ≡ Some (live_lfh a granules size) →
      EndsLfh s start (calls.Free a) replies.Done back.area (remove_found (has_address a) lfh) history.hints (searches_of start)
  frees_it a granules size h =
      let m1 = after s start (by_zero (acts.Begin (calls.Free a))) in
      let m2 = after s m1 (by_zero acts.Enter) in
      let m3 = after s m2 (by_zero (acts.Take a size)) in
      let m4 = after s m3 (by_zero (acts.Drop a)) in
      let r3 = acts.Drop a ∷ acts.Leave ∷ [] in
      let r2 = acts.Take a size ∷ r3 in
      let found = there a (live_lfh a granules size) h in
      let same = eq-eqb size size refl in
      let hand = hand_found a granules size h in
      let here = eq-eqb a a refl in
      let gone = dropped a a granules size layers.Lfh (has_address a) lfh here here (λ (p : Place) e. e) four.0 h in
      let no_lfh = none_left (has_address a) lfh four.0 in
      let no_vs = four.1 in
      let no_back = four.2 in
      let no_large = four.3 in
      let left : hands m4.state 0 ≡ [] = rw (found, hand, gone) (rw (no_lfh, no_vs, no_back, no_large) refl) in
      record {
        rest = acts.Enter ∷ r2;
        completes = record {
          legal =
              come s start (acts.Begin (calls.Free a)) (acts.Enter ∷ r2) (begins s _ room empty)
              (come s m1 acts.Enter r2 refl
              (come s m2 (acts.Take a size) r3 (rw (found, same) refl)
              (come s m3 (acts.Drop a) (acts.Leave ∷ []) (rw (found, hand) refl)
              (come s m4 acts.Leave [] (rw (found, hand, gone) (rw (no_lfh, no_vs, no_back, no_large) refl)) refl))));
          steps = λ depth. refl;
          answered = record { one = (refl, refl); shape = (refl, refl) };
          idle = record { outside = refl; holds = refl; hands = left; demand = refl };
        };
        at_rest = record { rest = refl; hands = left; whole = rw (found, hand) whole; used = rw (found, hand) used };
        only = record {
          area_is = refl;
          places_are = rw (found, hand, gone) refl;
          hints_are = refl;
          back = rw (found, hand) refl;
          vs = rw (found, hand) refl;
          large = rw (found, hand) refl;
          words = refl;
          searches_are = not_searched (states 0);
        };
      }

  sizes_it : (a granules size : ℕ) → find (has_address a) lfh ≡ Some (live_lfh a granules size) → EndsLfh s start (calls.Size a) (replies.Number size) back.area lfh history.hints (searches_of start)
  sizes_it a granules size h =
      let m1 = after s start (by_zero (acts.Begin (calls.Size a))) in
      let m2 = after s m1 (by_zero acts.Enter) in
      let m3 = after s m2 (by_zero (acts.Sized a size)) in
      let r2 = acts.Sized a size ∷ acts.Leave ∷ [] in
      let found = there a (live_lfh a granules size) h in
      let same = eq-eqb size size refl in
      record {
        rest = acts.Enter ∷ r2;
        completes = record {
          legal =
              come s start (acts.Begin (calls.Size a)) (acts.Enter ∷ r2) (begins s _ room empty)
              (come s m1 acts.Enter r2 refl
              (come s m2 (acts.Sized a size) (acts.Leave ∷ []) (rw (found, same) refl)
              (come s m3 acts.Leave [] (ap is_empty empty) refl)));
          steps = λ depth. refl;
          answered = record { one = (refl, refl); shape = (refl, refl) };
          idle = record { outside = refl; holds = refl; hands = empty; demand = refl };
        };
        at_rest = record { rest = refl; hands = empty; whole = whole; used = used };
        only = record { area_is = refl; places_are = refl; hints_are = refl; back = refl; vs = refl; large = refl; words = refl; searches_are = not_searched (states 0) };
      }

---- .. from any configuration at rest

pub lfh_frees : LfhFreeEnds
lfh_frees s m a granules size room r h =
    let E : Configuration → Type 0 = λ m. EndsLfh s m (calls.Free a) replies.Done m.state.back.area (remove_found (has_address a) m.state.lfh) m.now.span_history.hints (searches_of m) in
    subst E (sym r.rest) (frees_it s m.state.back m.state.vs m.state.lfh m.state.large m.state.words m.now.calls m.now.disturbed m.now.span_history room r.hands r.whole r.used a granules size h)

pub lfh_sizes : LfhSizeEnds
lfh_sizes s m a granules size room r h =
    let E : Configuration → Type 0 = λ m. EndsLfh s m (calls.Size a) (replies.Number size) m.state.back.area m.state.lfh m.now.span_history.hints (searches_of m) in
    subst E (sym r.rest) (sizes_it s m.state.back m.state.vs m.state.lfh m.state.large m.state.words m.now.calls m.now.disturbed m.now.span_history room r.hands r.whole r.used a granules size h)
