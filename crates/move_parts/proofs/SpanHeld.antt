-- A new block of VS in hand in a span that was made for it, for one that moves.
use Rattle.std.proofs.Common.{◌≡◌, ◌⊎◌, ℕ, ◌+◌, ◌*◌, ◌/◌, ◌<◌, ◌≤◌, Bool, true, false, List, [], ◌∷◌, length, Some, None, refl, sym, ap, ◌∙◌, subst, arith, ltb, inl, inr}
use Rattle.std.specs.Prelude.{cond}
use Rattle.std.specs.List.{list_all}
use Rattle.std.proofs.lemmas.Bool.{cases_Bool, and_parts, lt-ltb, le-ltb}
use Rattle.heap_model.specs.declared.Act.{Act}
use Rattle.heap_model.specs.declared.Act.TheVariants as acts
use Rattle.heap_model.specs.declared.Call.{Call}
use Rattle.heap_model.specs.declared.Call.TheVariants as calls
use Rattle.heap_model.specs.declared.Flags.{Flags}
use Rattle.heap_model.specs.declared.Kind.TheVariants as kinds
use Rattle.heap_model.specs.declared.Layer.{Layer}
use Rattle.heap_model.specs.declared.Layer.TheVariants as layers
use Rattle.heap_model.specs.declared.Limits.{Limits}
use Rattle.heap_model.specs.declared.Opening.{Opening}
use Rattle.heap_model.specs.declared.What.TheVariants as whats
use Rattle.heap_model.specs.Backend.{back_place}
use Rattle.heap_model.specs.Buckets.{bucket_of}
use Rattle.heap_model.specs.CallState.{Configuration, caller_view}
use Rattle.heap_model.specs.Geometry.{units_of, span_pages_of, words_of}
use Rattle.heap_model.specs.History.{may_all_follow}
use Rattle.heap_model.specs.Layers.{StandsForVs, StandsForBack, StandsForLarge}
use Rattle.heap_model.specs.Legal.{may_follow, after, with_span, goes_to_lfh, has_place, leaves_whole}
use Rattle.heap_model.specs.Limits.{AreValid}
use Rattle.heap_model.specs.Ranges.{vs_spans, gaps, gaps_of, vs_place}
use Rattle.heap_model.specs.Runs.{Run}
use Rattle.heap_model.specs.Stay.{for_some}
use Rattle.heap_model.specs.State.{Setting, State, Area, Place, is_layer, places_of}
use Rattle.claim_rule.specs.Entries.{IsLegalWith, IsSettingOf, entry, are_prepared}
use Rattle.claim_rule.specs.Places.{data_count}
use Rattle.serial_laws.specs.VsCalls.{vs_span_for}
use Rattle.call_laws.specs.Spans.{vs_acts, with_vs_block}
use Rattle.call_laws.specs.Within.{by_all, IsWithin}
use Rattle.call_laws.proofs.Spans.{call_behind, placing_in_span, reserving_span}
use Rattle.heap_model.specs.Marks.{vs_mark}
use Rattle.backend_fit.specs.Effects.{with_segment, part_with, marked_run}
use Rattle.backend_fit.specs.Kept.{Kept}
use Rattle.backend_fit.specs.Kept as backs
use Rattle.backend_fit.specs.Laws.{GoesBehind}
use Rattle.backend_fit.specs.Sound.{IsSound}
use Rattle.backend_fit.proofs.Goes.{same_segment, next_one}
use Rattle.backend_fit.proofs.Told.{goes_somewhere}
use Rattle.large_blocks.specs.Table.{LargeTable}
use Rattle.large_blocks.specs.Table as larges
use Rattle.vs_layer.specs.Kept.{VsKept}
use Rattle.vs_layer.specs.Standing.{with_block}
use Rattle.vs_layer.specs.Standing as vss
use Rattle.heap_gate.specs.Token.{Token, Always, now, IsStanding, is_out}
use Rattle.call_parts.specs.Entries.{with_all, HasAdded}
use Rattle.call_parts.proofs.Handing.{new_place}
use Rattle.call_parts.proofs.Tokens.{now_all, prepares, one_prepared, added_all, setting_before_all}
use Rattle.vs_calls.specs.Blocks.{IsForVs}
use Rattle.vs_calls.specs.Parts.{HasRange, span_acts}
use Rattle.vs_calls.specs.Parts as parts
use Rattle.vs_calls.proofs.Asked.{vs_route}
use Rattle.vs_calls.proofs.InHand.{suits_run}
use Rattle.vs_calls.proofs.NewPlaced.{span_no_begin}
use Rattle.vs_calls.proofs.SpanMay.{SpanLeads, none_now, fits_now, pages_now, reserved_now}
use Rattle.move_parts.specs.Moves.{IsMovingAny, IsHalfwayAny, with_given, WillTellVs, WillTellBack, WillTellLarge, TellsVs, TellsBack, TellsLarge}
use Rattle.move_parts.specs.Places.{HasHeldAnew}
use Rattle.move_parts.proofs.Ended.{large_stands}
use Rattle.move_parts.proofs.GapHeld.{within_now, held_now}
use Rattle.move_parts.proofs.Holding.{IsMadePlainly, half_any, given_front}
use Rattle.move_parts.proofs.Movers.{IsMine, IsMover, mover, holds_mine, mine_area}
use Rattle.move_parts.proofs.SpanTold.{spanned, span_used, span_tells, span_count, span_limits, span_back}
use Rattle.move_parts.proofs.Put.{IsPut}
use Rattle.move_parts.proofs.Reserved.{leaves_still}

---- The entries

module _ (s : Setting) (c addr n first : ℕ) (r : Run) (flags : Flags) (p : Place) where
  abbrev call : Call
  call = calls.Realloc addr n flags

  abbrev span : Act
  span = acts.Span first (span_pages_of n) kinds.Vs 0 0

  abbrev place : Act
  place = acts.Place (16 * r.first) r.count layers.Vs

  two_prepared : (m : Configuration) → IsMine m c addr p → (m.now.calls c).call ≡ Some call → may_all_follow s m (by_all c (vs_acts first n r)) ≡ true → are_prepared s m c (by_all c (vs_acts first n r)) ≡ true
  two_prepared m old k h =
      let x = and_parts (may_follow s m (entry c span)) _ h in
      let y = and_parts (may_follow s (after s m (entry c span)) (entry c place)) true x.1 in
      let m1 = after s m (entry c span) in
      let old1 = mine_area m m1 m1.state.back.area refl c addr p old in
      one_prepared s m c span (by_all c (place ∷ [])) (prepares s m c span (holds_mine m c addr n flags p k old) refl x.0)
      (one_prepared s m1 c place [] (prepares s m1 c place (holds_mine m1 c addr n flags p (call_behind s m c call span refl k) old1) refl y.0) refl)

  module _ (m : Configuration) (old : IsMine m c addr p) (w : IsWithin m c call) (vs : (caller_view m c).vs ≡ true) (back : (caller_view m c).back ≡ true) (small : n ≤ 131072)
      (bucket : for_some (bucket_of n) (goes_to_lfh m.state.vs) ≡ false) (none : vs_place (gaps m.state) (units_of n) ≡ None)
      (fits : vs_place (gaps_of (vs_spans (with_span m.state.back.area (vs_span_for first n))) m.state.vs.places) (units_of n) ≡ Some r) where
    low_leads : back_place m.state.back.area s.limits.segments (span_pages_of n) ≡ Some first → first / 256 < m.state.back.area.reserved → SpanLeads s m c (vs_acts first n r) first n r
    low_leads goes low =
        let l = placing_in_span s m c call n first r w vs back refl (vs_route n small) bucket (record { none = none; place = goes; reserved = low; fits = fits }) in
        record {
          may = two_prepared m old w.call_is l.may;
          state = l.state ∙ ap (λ (a : Area). with_vs_block m.state a c first n r) (sym (same_segment m.state.back.area first low));
        }

    abbrev reserve : Act
    reserve = acts.Reserve m.state.back.area.reserved

    high_leads : GoesBehind m.state.back.area s.limits.segments (span_pages_of n) first → SpanLeads s m c (reserve ∷ vs_acts first n r) first n r
    high_leads g =
        let m0 = after s m (entry c reserve) in
        let call0 = call_behind s m c call reserve refl w.call_is in
        let old0 = mine_area m m0 m0.state.back.area refl c addr p old in
        let l = reserving_span s m c call n first r w vs back refl (vs_route n small) bucket (record { none = none; place = g.place; reserved = g.there; fits = fits }) g.less g.short in
        let x = and_parts (may_follow s m (entry c reserve)) _ l.may in
        record {
          may = one_prepared s m c reserve (by_all c (vs_acts first n r)) (prepares s m c reserve refl refl x.0) (two_prepared m0 old0 call0 x.1);
          state = l.state ∙ ap (λ (a : Area). with_vs_block m.state a c first n r) (sym (next_one m.state.back.area first g.first_is));
        }

    pub move_leads : back_place m.state.back.area s.limits.segments (span_pages_of n) ≡ Some first → (first / 256 < m.state.back.area.reserved) ⊎ GoesBehind m.state.back.area s.limits.segments (span_pages_of n) first
        → SpanLeads s m c (span_acts m.state.back.area.reserved first n r) first n r
    move_leads goes (inl low) = let e = lt-ltb (first / 256) m.state.back.area.reserved low in rw e (low_leads goes low)
    move_leads goes (inr g) =
        let at = g.first_is in
        let e = le-ltb (first / 256) m.state.back.area.reserved (omega (arith, at)) in rw e (high_leads g)

---- The token

span_few : (reserved first n : ℕ) (r : Run) → length (span_acts reserved first n r) ≤ 3
span_few reserved first n r = elim (cases_Bool (ltb (first / 256) reserved)) [ inl e ↦ rw e (omega arith) | inr e ↦ rw e (omega arith) ]

span_whole : (c : Token) (reserved first n : ℕ) (r : Run) → (with_all c (span_acts reserved first n r)).whole ≡ true
span_whole c reserved first n r = elim (cases_Bool (ltb (first / 256) reserved)) [ inl e ↦ rw e refl | inr e ↦ rw e refl ]

span_pending : (c : Token) (reserved first n : ℕ) (r : Run) → c.pending ≡ false → (with_all c (span_acts reserved first n r)).pending ≡ false
span_pending c reserved first n r h = elim (cases_Bool (ltb (first / 256) reserved)) [ inl e ↦ rw e h | inr e ↦ rw e h ]

module _ (c : Token) (taken : Bool) (addr size n : ℕ) (flags : Flags) (p : Place) (out : List ℕ) (v : IsMovingAny taken c addr size n flags p out) (st : IsStanding c) (held : is_out whats.Vs out ≡ true) (vs : VsKept) (w : TellsVs c vs) (small : n ≤ 131072) (bucket : IsForVs c n)
    (back_out : is_out whats.Back out ≡ true) (back : Kept) (wb : TellsBack c back) (sound : IsSound back) where
  abbrev mine : IsMover c addr n flags p out
  mine = mover taken c addr size n flags p out v

  pub leads : (first : ℕ) (r : Run) → HasRange vs back n first r → Always c (λ s. SpanLeads s (now s c) c.number (span_acts back.region.reserved first n r) first n r)
  leads first r g s x =
      let m = now s c in
      let goes = pages_now c vs back n first r w.tells wb sound g s x in
      let somewhere = goes_somewhere c.opening m.state back (wb s x) sound (span_pages_of n) first (subst (λ (l : Limits). back_place m.state.back.area l.segments (span_pages_of n) ≡ Some first) x.limits goes) in
      let somewhere' = subst (λ (l : Limits). (first / 256 < m.state.back.area.reserved) ⊎ GoesBehind m.state.back.area l.segments (span_pages_of n) first) (sym x.limits) somewhere in
      subst (λ (k : ℕ). SpanLeads s m c.number (span_acts k first n r) first n r) (reserved_now c vs back n first r w.tells wb sound g s x)
      (move_leads s c.number addr n first r flags p m (mine.old s x) (within_now c taken addr size n flags p out v st held vs w small bucket s x) (held_now c taken addr size n flags p out v st held vs w small bucket s x)
      ((st s x).locks whats.Back ∙ (ap (is_out whats.Back) mine.out_is ∙ back_out)) small (bucket s x) (none_now c vs back n first r w.tells wb sound g s x) (fits_now c vs back n first r w.tells wb sound g s x) goes somewhere')

  -- its span and its place can be prepared wherever there is a range
  pub span_ready : (first : ℕ) (r : Run) → HasRange vs back n first r → Always c (λ s. are_prepared s (now s c) c.number (by_all c.number (span_acts back.region.reserved first n r)) ≡ true)
  span_ready first r g s x = (leads first r g s x).may

  module _ (t : Token) (later : VsKept) (more : Kept) (b : ℕ) (h : parts.HasHeldAnew c t vs later back more n b) (valid : AreValid c.opening.limits) (legal : IsLegalWith c.opening c.roll c.seen) where
    abbrev run : Run
    run = h.run

    abbrev list : List Act
    list = span_acts back.region.reserved h.first n run

    abbrev q : Place
    q = new_place c.number layers.Vs (16 * run.first) run.count

    state_now : Always c (λ s. (now s (with_all c list)).state ≡ with_vs_block (now s c).state (with_segment (now s c).state.back.area h.first) c.number h.first n run)
    state_now s x = ap (λ (m : Configuration). m.state) (now_all s c list) ∙ (leads h.first run h.range s x).state

    put_now : Always c (λ s. IsPut q (now s c).state (now s (with_all c list)).state)
    put_now s x = record { gate = ap (λ (y : State). y.gate) (state_now s x); lists = λ l. ap (λ (y : State). places_of y l) (state_now s x) ∙ by l }
      where
        by : (l : Layer) → places_of (with_vs_block (now s c).state (with_segment (now s c).state.back.area h.first) c.number h.first n run) l ≡ cond (is_layer l layers.Vs) (q ∷ places_of (now s c).state l) (places_of (now s c).state l)
        by layers.Lfh = refl
        by layers.Vs = refl
        by layers.Back = refl
        by layers.Large = refl

    pub anew_opening : t.opening ≡ c.opening
    anew_opening = ap (λ (y : Token). y.opening) h.prepared ∙ (added_all c list (span_no_begin back.region.reserved h.first n run)).goes.opening

    pub anew_limits : later.limits ≡ t.opening.limits
    anew_limits = span_limits c t vs later back more n b w wb sound h ∙ ap (λ (o : Opening). o.limits) (sym anew_opening)

    module _ (to : (16 * run.first + 16) / 8 + words_of n ≤ data_count c.opening.limits) where
      anew_half : IsHalfwayAny taken (with_all c list) (calls.Realloc addr n flags) addr size p (16 * run.first + 16) n q out
      anew_half =
          half_any taken c addr size n flags p out v st valid legal list (span_no_begin back.region.reserved h.first n run) layers.Vs (16 * run.first) run.count (span_whole c back.region.reserved h.first n run) (span_few back.region.reserved h.first n run)
          (span_pending c back.region.reserved h.first n run mine.pending) (span_ready h.first run h.range) put_now refl (suits_run n c.number run small (span_count c t vs later back more n b w wb sound h)) (held_now c taken addr size n flags p out v st held vs w small bucket) to

      anew_added : HasAdded c (with_all c list) list
      anew_added = added_all c list (span_no_begin back.region.reserved h.first n run)

      abbrev span_it : Act
      span_it = acts.Span h.first (span_pages_of n) kinds.Vs 0 0

      abbrev place_it : Act
      place_it = acts.Place (16 * run.first) run.count layers.Vs

      abbrev reserve_it : Act
      reserve_it = acts.Reserve back.region.reserved

      anew_made : IsMadePlainly c (with_all c list) p n q
      anew_made = by (ltb (h.first / 256) back.region.reserved) refl
        where
          by : (f : Bool) → ltb (h.first / 256) back.region.reserved ≡ f → IsMadePlainly c (with_all c list) p n q
          by true e =
              let is : list ≡ span_it ∷ place_it ∷ [] = rw e refl in
              record {
                made = record {
                  reserves = [];
                  begins = span_it;
                  more = place_it ∷ [];
                  added = subst (HasAdded c (with_all c list)) is anew_added;
                  begins_it = refl;
                  no_begin = refl;
                  shape_is = refl;
                  reserves_are = inl refl;
                };
                plain = refl;
              }
          by false e =
              let is : list ≡ reserve_it ∷ span_it ∷ place_it ∷ [] = rw e refl in
              record {
                made = record {
                  reserves = reserve_it ∷ [];
                  begins = span_it;
                  more = place_it ∷ [];
                  added = subst (HasAdded c (with_all c list)) is anew_added;
                  begins_it = refl;
                  no_begin = refl;
                  shape_is = refl;
                  reserves_are = inr (back.region.reserved, refl, λ s x. leaves_still s (now s c) c.number back.region.reserved n p small (mine.leaves s x));
                };
                plain = refl;
              }

      is_all : t ≡ with_all c list
      is_all = h.prepared

      before : (s : Setting) → IsSettingOf (with_all c list).opening (with_all c list).roll s → IsSettingOf c.opening c.roll s
      before s x = setting_before_all s c list x

      number : (with_all c list).number ≡ c.number
      number = anew_added.goes.number

      abbrev k : (s : Setting) → State
      k s = with_given (now s (with_all c list)).state c.number q n

      given_vs : (s : Setting) → IsSettingOf c.opening c.roll s → (k s).vs ≡ with_block (now s c).state.vs run n
      given_vs s x =
          ap (λ (y : State). (with_given y c.number q n).vs) (state_now s x)
          ∙ (λ i. record { places = given_front c.number layers.Vs (16 * run.first) run.count n (now s c).state.vs.places i; active = (now s c).state.vs.active; served = (with_vs_block (now s c).state (with_segment (now s c).state.back.area h.first) c.number h.first n run).vs.served })

      given_spans : (s : Setting) → IsSettingOf c.opening c.roll s → vs_spans (k s).back.area ≡ vs_spans (spanned c t vs later back more n b w wb sound h s).back.area
      given_spans s x = ap (λ (y : State). vs_spans y.back.area) (state_now s x)

      tells_then : WillTellVs (with_all c list) q n later
      tells_then s x =
          let y = before s x in
          subst (λ (j : ℕ). let g = with_given (now s (with_all c list)).state j q n in (leaves_whole g whats.Vs ≡ true) × StandsForVs (with_all c list).opening g (vss.layer_of later)) (sym number) (
            (λ i. list_all (has_place 4096 (given_vs s y i).places) (given_spans s y i)) ∙ span_used c t vs later back more n b w wb sound h s y,
            subst (λ (o : Opening). StandsForVs o (k s) (vss.layer_of later)) (sym anew_added.goes.opening) (span_tells c t vs later back more n b w wb sound h s y (k s) (given_vs s y) (given_spans s y)),
          )

      back_then : WillTellBack (with_all c list) q n more
      back_then s x =
          let y = before s x in
          let is : (with_given (now s (with_all c list)).state (with_all c list).number q n).back ≡ part_with (now s c).state.back (marked_run h.first (span_pages_of n) vs_mark) = ap (λ (z : State). z.back) (state_now s y) in
          subst (λ (o : Opening). StandsForBack o (with_given (now s (with_all c list)).state (with_all c list).number q n) (backs.layer_of more)) (sym anew_added.goes.opening)
          (span_back c t vs later back more n b w wb sound h s y (with_given (now s (with_all c list)).state (with_all c list).number q n) is)

      large_then : (large : LargeTable) → TellsLarge c large → WillTellLarge (with_all c list) q n large
      large_then large f s x =
          let y = before s x in
          subst (λ (o : Opening). StandsForLarge o (with_given (now s (with_all c list)).state (with_all c list).number q n) (larges.layer_of large)) (sym anew_added.goes.opening)
          (large_stands c.opening (now s c).state (with_given (now s (with_all c list)).state (with_all c list).number q n) large (f s y) (ap (λ (z : State). z.large) (state_now s y)))

      pub anew_held : HasHeldAnew taken c t addr size n flags p out b later more
      anew_held =
          subst (λ (y : Token). HasHeldAnew taken c y addr size n flags p out b later more) (sym is_all) (subst (λ (a : ℕ). HasHeldAnew taken c (with_all c list) addr size n flags p out a later more) (sym h.at) (record {
            place = q;
            held = record { half = anew_half; made = anew_made.made; plain = anew_made.plain };
            vs = tells_then;
            back = back_then;
            large = large_then;
          }))
