-- A new block of VS in hand in a gap, for one that the front end could not serve.
use Rattle.std.proofs.Common.{◌≡◌, ℕ, ◌+◌, ◌*◌, ◌/◌, ◌≤◌, Bool, true, List, [], ◌∷◌, Option, Some, None, refl, sym, ap, ◌∙◌, subst, arith, inl}
use Rattle.std.specs.Prelude.{cond}
use Rattle.heap_model.specs.declared.Act.{Act}
use Rattle.heap_model.specs.declared.Act.TheVariants as acts
use Rattle.heap_model.specs.declared.Call.{Call}
use Rattle.heap_model.specs.declared.Call.TheVariants as calls
use Rattle.heap_model.specs.declared.Flags.{Flags}
use Rattle.heap_model.specs.declared.Layer.{Layer}
use Rattle.heap_model.specs.declared.Layer.TheVariants as layers
use Rattle.heap_model.specs.declared.What.TheVariants as whats
use Rattle.heap_model.specs.Backend.{back_place}
use Rattle.heap_model.specs.Buckets.{bucket_of}
use Rattle.heap_model.specs.CallState.{Configuration}
use Rattle.heap_model.specs.Geometry.{units_of, span_pages_of, words_of}
use Rattle.heap_model.specs.Legal.{serve}
use Rattle.heap_model.specs.Limits.{AreValid}
use Rattle.heap_model.specs.Ranges.{gaps, vs_place, vs_spans}
use Rattle.heap_model.specs.Runs.{Run}
use Rattle.heap_model.specs.State.{State, BackPart, Place, is_layer, places_of, holds}
use Rattle.claim_rule.specs.Entries.{IsLegalWith, setting_of, may_prepare}
use Rattle.claim_rule.specs.Places.{data_count}
use Rattle.claim_rule.proofs.Advance.{some_setting}
use Rattle.serial_laws.proofs.VsAllocate.{count_is}
use Rattle.call_laws.specs.Within.{IsWithin, LeadsTo}
use Rattle.call_laws.proofs.Exclusive.{falling_into_gap, refusing_searched}
use Rattle.search_laws.proofs.Blocks.{bucket_fits}
use Rattle.backend_fit.specs.Kept.{Kept, area_of}
use Rattle.vs_layer.specs.Kept.{VsKept, place_for, gaps_in, block_in}
use Rattle.vs_layer.specs.Standing.{with_block}
use Rattle.vs_layer.proofs.Told.{place_is}
use Rattle.heap_gate.specs.Calls.{with_prepared}
use Rattle.heap_gate.specs.Token.{Token, Always, now, IsStanding, is_out}
use Rattle.lfh_search.specs.Under.{CannotBeServed}
use Rattle.call_parts.proofs.Handing.{new_place}
use Rattle.call_parts.proofs.Serving.{within}
use Rattle.call_parts.proofs.Tokens.{now_more, prepares, one_prepared, added_one}
use Rattle.vs_calls.specs.Blocks as vs
use Rattle.vs_calls.proofs.InHand.{with_hand, suits_run, used_more}
use Rattle.move_parts.specs.Moves.{IsHalfwayAny, with_given, WillTellVs, TellsVs, TellsBack}
use Rattle.move_parts.specs.Places.{HasHeldAnew, IsWithout}
use Rattle.move_parts.proofs.Ended.{back_stands, large_stands}
use Rattle.move_parts.proofs.Holding.{IsMadePlainly, given_front}
use Rattle.move_parts.proofs.Put.{IsPut}
use Rattle.move_to_front.specs.Halfway.{IsMovingOnAny}
use Rattle.move_to_front.proofs.LateHeld.{late_any}
use Rattle.move_to_front.proofs.MovingOn.{IsGoingOn, going_on}

module _ (c : Token) (taken : Bool) (addr size n : ℕ) (flags : Flags) (p : Place) (out : List ℕ) (v : IsMovingOnAny taken c addr size n flags p out) (st : IsStanding c) (held : is_out whats.Vs out ≡ true) (kept : VsKept) (w : TellsVs c kept) (back_out : is_out whats.Back out ≡ true) (back : Kept) (wb : TellsBack c back)
    (bucket : ℕ) (bucket_is : bucket_of n ≡ Some bucket) (cannot : CannotBeServed c bucket) where
  abbrev call : Call
  call = calls.Realloc addr n flags

  abbrev mine : IsGoingOn c addr n flags p out
  mine = going_on taken c addr size n flags p out v

  pub small : n ≤ 16368
  small = (bucket_fits n bucket bucket_is).0

  pub within_now : Always c (λ s. IsWithin (now s c) c.number call)
  within_now = within c call st mine.inside mine.call_is mine.whole

  pub held_now : Always c (λ s. holds (now s c).state.gate c.number whats.Vs ≡ true)
  held_now s x = (st s x).locks whats.Vs ∙ (ap (is_out whats.Vs) mine.out_is ∙ held)

  pub back_now : Always c (λ s. holds (now s c).state.gate c.number whats.Back ≡ true)
  back_now s x = (st s x).locks whats.Back ∙ (ap (is_out whats.Back) mine.out_is ∙ back_out)

  fits_now : (run : Run) → place_for kept n ≡ Some run → Always c (λ s. vs_place (gaps (now s c).state) (units_of n) ≡ Some run)
  fits_now run fits s x = sym (place_is c.opening (now s c).state kept (w.tells s x) n) ∙ fits

  module _ (run : Run) (fits : place_for kept n ≡ Some run) where
    abbrev place : Act
    place = acts.Place (16 * run.first) run.count layers.Vs

    abbrev q : Place
    q = new_place c.number layers.Vs (16 * run.first) run.count

    abbrev pub gap_token : Token
    gap_token = with_prepared c place

    leads_now : Always c (λ s. LeadsTo s (now s c) c.number call place (with_hand (now s c).state c.number n run))
    leads_now s x =
        subst (λ (o : Option ℕ). LeadsTo s (now s c) c.number call place (record (now s c).state { vs = record { places = q ∷ (now s c).state.vs.places; active = (now s c).state.vs.active; served = serve o (now s c).state.vs.served } })) (sym bucket_is)
        (falling_into_gap s (now s c) c.number call n bucket run (within_now s x) (held_now s x) (back_now s x) (cannot.said s x) refl bucket_is (cannot.refused s x) (fits_now run fits s x))

    pub gap_may : Always c (λ s. may_prepare s (now s c) c.number place ≡ true)
    gap_may s x = prepares s (now s c) c.number place (cannot.old s x) refl (leads_now s x).may

    state_now : Always c (λ s. (now s gap_token).state ≡ with_hand (now s c).state c.number n run)
    state_now s x = ap (λ (m : Configuration). m.state) (now_more s c place) ∙ (leads_now s x).state

    put_now : Always c (λ s. IsPut q (now s c).state (now s gap_token).state)
    put_now s x = record { gate = ap (λ (y : State). y.gate) (state_now s x); lists = λ l. ap (λ (y : State). places_of y l) (state_now s x) ∙ by l }
      where
        by : (l : Layer) → places_of (with_hand (now s c).state c.number n run) l ≡ cond (is_layer l layers.Vs) (q ∷ places_of (now s c).state l) (places_of (now s c).state l)
        by layers.Lfh = refl
        by layers.Vs = refl
        by layers.Back = refl
        by layers.Large = refl

    module _ (valid : AreValid c.opening.limits) (legal : IsLegalWith c.opening c.roll c.seen) (later : VsKept) (b : ℕ) (t : Token) (h : vs.HasHeld c t kept later n b) (same_run : h.run ≡ run) (to : (16 * run.first + 16) / 8 + words_of n ≤ data_count c.opening.limits) where
      gap_half : IsHalfwayAny taken gap_token call addr size p (16 * run.first + 16) n q out
      gap_half =
          late_any taken c addr size n flags p out v st valid legal (place ∷ []) refl (16 * run.first) run.count refl (omega arith) mine.pending
          (λ s x. one_prepared s (now s c) c.number place [] (gap_may s x) refl) put_now (suits_run n c.number run (let l = small in omega (arith, l)) (count_is (gaps_in kept) (units_of n) run fits)) held_now to

      gap_made : IsMadePlainly c gap_token p n q
      gap_made = record {
        made = record {
          reserves = [];
          begins = place;
          more = [];
          added = added_one c place refl;
          begins_it = refl;
          no_begin = refl;
          shape_is = refl;
          reserves_are = inl refl;
        };
        plain = refl;
      }

      given_vs : Always gap_token (λ s. (with_given (now s gap_token).state c.number q n).vs ≡ with_block (now s c).state.vs run n)
      given_vs s x =
          ap (λ (y : State). (with_given y c.number q n).vs) (state_now s x)
          ∙ (λ i. record { places = given_front c.number layers.Vs (16 * run.first) run.count n (now s c).state.vs.places i; active = (now s c).state.vs.active; served = (with_hand (now s c).state c.number n run).vs.served })

      given_spans : Always gap_token (λ s. vs_spans (with_given (now s gap_token).state c.number q n).back.area ≡ vs_spans (now s c).state.back.area)
      given_spans s x = ap (λ (y : State). vs_spans y.back.area) (state_now s x)

      tells_then : WillTellVs gap_token q n later
      tells_then s x = (
        (λ i. Rattle.std.specs.List.list_all (Rattle.heap_model.specs.Legal.has_place 4096 (given_vs s x i).places) (given_spans s x i)) ∙ used_more (block_in run n) (now s c).state.vs.places (vs_spans (now s c).state.back.area) (w.used s x),
        h.becomes c.opening (now s c).state (with_given (now s gap_token).state c.number q n) (w.tells s x) (given_vs s x ∙ (λ i. with_block (now s c).state.vs (sym same_run i) n)) (given_spans s x),
      )

      pub gap_held : HasHeldAnew taken c t addr size n flags p out b later back
      gap_held =
          let e : t ≡ gap_token = h.prepared ∙ (λ i. with_prepared c (acts.Place (16 * (same_run i).first) (same_run i).count layers.Vs)) in
          let at : b ≡ 16 * run.first + 16 = h.at ∙ (λ i. 16 * (same_run i).first + 16) in
          subst (λ (y : Token). HasHeldAnew taken c y addr size n flags p out b later back) (sym e) (subst (λ (a : ℕ). HasHeldAnew taken c gap_token addr size n flags p out a later back) (sym at) (record {
            place = q;
            held = record { half = gap_half; made = gap_made.made; plain = gap_made.plain };
            vs = tells_then;
            back = λ s x. back_stands c.opening (now s c).state (with_given (now s gap_token).state c.number q n) back (wb s x) (ap (λ (y : State). y.back) (state_now s x));
            large = λ large f s x. large_stands c.opening (now s c).state (with_given (now s gap_token).state c.number q n) large (f s x) (ap (λ (y : State). y.large) (state_now s x));
          }))

  -- the limits that the layer was made for are the heap's
  pub vs_limits : kept.limits ≡ c.opening.limits
  vs_limits = (w.tells (setting_of c.opening c.roll) (some_setting c.opening c.roll)).limits

  -- there is no range
  pub vs_without : place_for kept n ≡ None → back_place (area_of back) back.limits.segments (span_pages_of n) ≡ None → (t : Token) → t ≡ c → IsWithout c t n
  vs_without no_gap no_pages t e = record {
    same = e;
    may = λ s x.
        let area : area_of back ≡ (now s c).state.back.area = ap (λ (y : BackPart). y.area) (wb s x).part in
        let l : back.limits ≡ s.limits = (wb s x).limits ∙ sym x.limits in
        prepares s (now s c) c.number (acts.NoFit n) (cannot.old s x) refl
        (refusing_searched s (now s c) c.number call n bucket (within_now s x) (held_now s x) (back_now s x) refl bucket_is (cannot.refused s x)
        (sym (place_is c.opening (now s c).state kept (w.tells s x) n) ∙ no_gap) ((λ i. back_place (sym area i) (sym l i).segments (span_pages_of n)) ∙ no_pages)).may;
  }

  -- .. so are those of its new state
  pub later_limits : (t : Token) (later : VsKept) (b : ℕ) → vs.HasHeld c t kept later n b → later.limits ≡ c.opening.limits
  later_limits t later b h =
      let s = setting_of c.opening c.roll in let x = some_setting c.opening c.roll in
      let m = (now s c).state in
      (h.becomes c.opening m (record m { vs = with_block m.vs h.run n }) (w.tells s x) refl refl).limits
