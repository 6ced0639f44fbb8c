-- A new block of VS in hand in a span that was made for it, for one that the front end could not serve.
use Rattle.std.proofs.Common.{◌≡◌, ◌⊎◌, ℕ, ◌+◌, ◌*◌, ◌/◌, ◌<◌, ◌-◌, ◌≤◌, Bool, true, false, List, [], ◌∷◌, length, Some, refl, sym, ap, ◌∙◌, subst, arith, ltb, inl, inr}
use Rattle.std.specs.Prelude.{cond}
use Rattle.std.specs.List.{find, list_all, list_any}
use Rattle.std.proofs.lemmas.Bool.{cases_Bool, cases_lt, lt-ltb, both_ways}
use Rattle.heap_model.specs.declared.Act.{Act}
use Rattle.heap_model.specs.declared.Act.TheVariants as acts
use Rattle.heap_model.specs.declared.Call.TheVariants as calls
use Rattle.heap_model.specs.declared.Flags.{Flags}
use Rattle.heap_model.specs.declared.Kind.TheVariants as kinds
use Rattle.heap_model.specs.declared.Layer.{Layer}
use Rattle.heap_model.specs.declared.Layer.TheVariants as layers
use Rattle.heap_model.specs.declared.Opening.{Opening}
use Rattle.heap_model.specs.declared.What.TheVariants as whats
use Rattle.heap_model.specs.Backend.{in_span, back_place}
use Rattle.heap_model.specs.Buckets.{bucket_of}
use Rattle.heap_model.specs.CallState.{Configuration}
use Rattle.heap_model.specs.Geometry.{span_pages_of, words_of}
use Rattle.heap_model.specs.Layers.{StandsForVs, StandsForBack, StandsForLarge}
use Rattle.heap_model.specs.Marks.{vs_mark}
use Rattle.heap_model.specs.Legal.{has_place, leaves_whole}
use Rattle.heap_model.specs.Limits.{AreValid}
use Rattle.heap_model.specs.Ranges.{vs_spans, is_of_kind}
use Rattle.heap_model.specs.Runs.{Run}
use Rattle.heap_model.specs.State.{Setting, State, Area, Span, Place, is_layer, has_address, places_of}
use Rattle.heap_soundness.specs.Sound.{IsOneOf, AreAt, IsInVs}
use Rattle.heap_soundness.proofs.BackendLemmas.{AreFree, back_place_free, outside_of}
use Rattle.heap_soundness.proofs.GapRuns.{filtered_cases}
use Rattle.heap_soundness.proofs.Lists.{all_at, found_in}
use Rattle.heap_soundness.proofs.Spans.{in_some}
use Rattle.claim_rule.specs.Entries.{IsLegalWith, IsSettingOf, are_prepared}
use Rattle.claim_rule.specs.Places.{data_count}
use Rattle.serial_laws.specs.VsCalls.{vs_span_for}
use Rattle.call_laws.specs.Spans.{with_vs_block}
use Rattle.call_laws.specs.Within.{by_all}
use Rattle.backend_fit.specs.Effects.{with_segment, part_with, marked_run}
use Rattle.backend_fit.specs.Kept.{Kept}
use Rattle.backend_fit.specs.Kept as backs
use Rattle.backend_fit.specs.Sound.{IsSound}
use Rattle.large_blocks.specs.Table.{LargeTable}
use Rattle.large_blocks.specs.Table as larges
use Rattle.vs_layer.specs.Kept.{VsKept, places_of as kept_places, block_at}
use Rattle.vs_layer.specs.Standing.{with_block}
use Rattle.vs_layer.specs.Standing as vss
use Rattle.vs_layer.proofs.Told.{block_is}
use Rattle.heap_gate.specs.Token.{Token, Always, now, IsStanding, is_out}
use Rattle.lfh_search.specs.Under.{CannotBeServed}
use Rattle.call_parts.specs.Entries.{with_all, HasAdded}
use Rattle.call_parts.proofs.Handing.{new_place}
use Rattle.call_parts.proofs.Tokens.{now_all, added_all, setting_before_all}
use Rattle.vs_calls.specs.Parts.{HasRange, span_acts}
use Rattle.vs_calls.specs.Parts as parts
use Rattle.vs_calls.proofs.InHand.{suits_run}
use Rattle.vs_calls.proofs.NewPlaced.{span_no_begin}
use Rattle.vs_calls.proofs.SpanMay.{SpanLeads, order_now, none_now, fits_now, pages_now, reserved_now}
use Rattle.move_parts.specs.Moves.{IsHalfwayAny, with_given, WillTellVs, WillTellBack, WillTellLarge, TellsVs, TellsBack, TellsLarge}
use Rattle.move_parts.specs.Places.{HasHeldAnew}
use Rattle.move_parts.proofs.Ended.{large_stands}
use Rattle.move_parts.proofs.Holding.{IsMadePlainly, given_front}
use Rattle.move_parts.proofs.Put.{IsPut}
use Rattle.move_parts.proofs.Reserved.{leaves_still}
use Rattle.move_parts.proofs.SpanTold.{spanned, span_used, span_tells, span_count, span_limits, span_back}
use Rattle.move_to_front.specs.Halfway.{IsMovingOnAny}
use Rattle.move_to_front.proofs.LateGap.{small, within_now, held_now, back_now}
use Rattle.move_to_front.proofs.LateHeld.{late_any}
use Rattle.move_to_front.proofs.LateLaw.{low, late_leads}
use Rattle.move_to_front.proofs.MovingOn.{IsGoingOn, going_on}
use Rattle.move_to_front.proofs.RunsBeside.{IsOutside}

---- Few entries

span_few : (reserved first n : ℕ) (r : Run) → length (span_acts reserved first n r) ≤ 3
span_few reserved first n r = elim (cases_Bool (ltb (first / 256) reserved)) [ inl e ↦ rw e (omega arith) | inr e ↦ rw e (omega arith) ]

span_whole : (c : Token) (reserved first n : ℕ) (r : Run) → (with_all c (span_acts reserved first n r)).whole ≡ true
span_whole c reserved first n r = elim (cases_Bool (ltb (first / 256) reserved)) [ inl e ↦ rw e refl | inr e ↦ rw e refl ]

span_pending : (c : Token) (reserved first n : ℕ) (r : Run) → c.pending ≡ false → (with_all c (span_acts reserved first n r)).pending ≡ false
span_pending c reserved first n r h = elim (cases_Bool (ltb (first / 256) reserved)) [ inl e ↦ rw e h | inr e ↦ rw e h ]

---- The old block lies in another span

-- a span of free pages is apart from one that is there
free_apart : (a : Area) (y : Span) (first pages : ℕ) → IsOneOf y a.spans → 0 < y.pages → AreFree a first pages → 0 < pages → (y.first + y.pages ≤ first) ⊎ (first + pages ≤ y.first)
free_apart a y first pages i some free most = elim (cases_lt first (y.first + y.pages)) [
  | inr h ↦ inl h
  | inl l ↦ elim (cases_lt y.first (first + pages)) [ inr h ↦ inr h | inl h ↦ absurd (meet l h) ]
]
  where
    off : (k u : ℕ) → k < pages → first + k ≡ u → list_any (in_span u) a.spans ≡ false
    off k u l e = subst (λ (x : ℕ). list_any (in_span x) a.spans ≡ false) e (outside_of a (first + k) (free k l))

    meet : first < y.first + y.pages → y.first < first + pages → ⊥
    meet l h = elim (cases_lt first y.first) [
      | inl k ↦ both_ways (list_any (in_span y.first) a.spans) (off (y.first - first) y.first (omega (arith, k, h)) (omega (arith, k))) (in_some a.spans y y.first i (omega arith) (omega (arith, some)))
      | inr k ↦ both_ways (list_any (in_span first) a.spans) (off 0 first most (omega arith)) (in_some a.spans y first i k l)
    ]

module _ (c : Token) (taken : Bool) (addr size n : ℕ) (flags : Flags) (p : Place) (out : List ℕ) (v : IsMovingOnAny taken c addr size n flags p out) (st : IsStanding c) (held : is_out whats.Vs out ≡ true) (vs : VsKept) (w : TellsVs c vs) (back_out : is_out whats.Back out ≡ true) (back : Kept) (wb : TellsBack c back)
    (bucket : ℕ) (bucket_is : bucket_of n ≡ Some bucket) (cannot : CannotBeServed c bucket) (sound : IsSound back) (inside : AreAt (IsInVs vs.spans) (kept_places vs)) where
  abbrev mine : IsGoingOn c addr n flags p out
  mine = going_on taken c addr size n flags p out v

  few : n ≤ 16368
  few = small c taken addr size n flags p out v st held vs w back_out back wb bucket bucket_is cannot

  -- no gap of a span of free pages begins behind the old block
  outside : (s : Setting) → IsSettingOf c.opening c.roll s → (first : ℕ) → back_place (now s c).state.back.area s.limits.segments (span_pages_of n) ≡ Some first → first / 256 < (now s c).state.back.area.reserved → p.layer ≡ layers.Vs
      → IsOutside (p.start / 16 + p.granules) (vs_span_for first n)
  outside s x first there reserved is_vs =
      let m = (now s c).state in
      let found : find (has_address addr) m.vs.places ≡ Some p = mine.of_vs is_vs s x in
      let kept : block_at vs addr ≡ Some p = block_is c.opening m vs (w.tells s x) addr ∙ found in
      let home = all_at (λ (y : Place). IsInVs vs.spans y.start y.granules) p (kept_places vs) inside (found_in (has_address addr) (kept_places vs) p kept) in
      let among = (filtered_cases (is_of_kind kinds.Vs) home.span m.back.area.spans (subst (IsOneOf home.span) (w.tells s x).spans home.there)).0 in
      let some : 0 < home.span.pages = some_pages p.start p.granules home.span.first home.span.pages home.behind home.before in
      let apart = free_apart m.back.area home.span first (span_pages_of n) among some (back_place_free m.back.area s.limits.segments (span_pages_of n) first there reserved) (omega arith) in
      elim apart [
        | inl l ↦ inl (lower p.start p.granules home.span.first home.span.pages first home.before l)
        | inr l ↦ inr (higher p.start p.granules home.span.first first home.behind l)
      ]
    where
      some_pages : (start granules at pages : ℕ) → 4096 * at + 48 ≤ start → start + 16 * granules ≤ 4096 * (at + pages) → 0 < pages
      some_pages start granules at pages a b = omega (arith, a, b)

      lower : (start granules at pages first : ℕ) → start + 16 * granules ≤ 4096 * (at + pages) → at + pages ≤ first → start / 16 + granules < 256 * first + 3
      lower start granules at pages first a b = omega (arith, a, b)

      higher : (start granules at first : ℕ) → 4096 * at + 48 ≤ start → first + span_pages_of n ≤ at → 256 * (first + span_pages_of n) ≤ start / 16 + granules
      higher start granules at first a b = omega (arith, a, b)

  leads : (first : ℕ) (r : Run) → HasRange vs back n first r → Always c (λ s. SpanLeads s (now s c) c.number (span_acts back.region.reserved first n r) first n r)
  leads first r g s x =
      let m = now s c in
      let a = m.state.back.area in
      let there = pages_now c vs back n first r w.tells wb sound g s x in
      let none = none_now c vs back n first r w.tells wb sound g s x in
      let fits = fits_now c vs back n first r w.tells wb sound g s x in
      let in_call = within_now c taken addr size n flags p out v st held vs w back_out back wb bucket bucket_is cannot s x in
      let has_vs = held_now c taken addr size n flags p out v st held vs w back_out back wb bucket bucket_is cannot s x in
      let has_back = back_now c taken addr size n flags p out v st held vs w back_out back wb bucket bucket_is cannot s x in
      let reserved = low s m c.number addr n bucket first r flags p in_call has_vs has_back (cannot.said s x) bucket_is (cannot.refused s x) none there fits few (mine.old s x) (mine.leaves s x) in
      let one = late_leads s m c.number addr n bucket first r flags p in_call has_vs has_back (cannot.said s x) bucket_is (cannot.refused s x) none there fits few (mine.old s x) (mine.leaves s x)
      (order_now c vs back n first r w.tells wb sound g s x) (outside s x first there reserved) in
      let e = lt-ltb (first / 256) a.reserved reserved in
      let here : SpanLeads s m c.number (span_acts a.reserved first n r) first n r = rw e one in
      subst (λ (k : ℕ). SpanLeads s m c.number (span_acts k first n r) first n r) (reserved_now c vs back n first r w.tells wb sound g s x) here

  -- its span and its place can be prepared wherever there is a range
  pub span_ready : (first : ℕ) (r : Run) → HasRange vs back n first r → Always c (λ s. are_prepared s (now s c) c.number (by_all c.number (span_acts back.region.reserved first n r)) ≡ true)
  span_ready first r g s x = (leads first r g s x).may

  module _ (t : Token) (later : VsKept) (more : Kept) (b : ℕ) (h : parts.HasHeldAnew c t vs later back more n b) (valid : AreValid c.opening.limits) (legal : IsLegalWith c.opening c.roll c.seen) where
    abbrev run : Run
    run = h.run

    abbrev list : List Act
    list = span_acts back.region.reserved h.first n run

    abbrev q : Place
    q = new_place c.number layers.Vs (16 * run.first) run.count

    state_now : Always c (λ s. (now s (with_all c list)).state ≡ with_vs_block (now s c).state (with_segment (now s c).state.back.area h.first) c.number h.first n run)
    state_now s x = ap (λ (m : Configuration). m.state) (now_all s c list) ∙ (leads h.first run h.range s x).state

    put_now : Always c (λ s. IsPut q (now s c).state (now s (with_all c list)).state)
    put_now s x = record { gate = ap (λ (y : State). y.gate) (state_now s x); lists = λ l. ap (λ (y : State). places_of y l) (state_now s x) ∙ by l }
      where
        by : (l : Layer) → places_of (with_vs_block (now s c).state (with_segment (now s c).state.back.area h.first) c.number h.first n run) l ≡ cond (is_layer l layers.Vs) (q ∷ places_of (now s c).state l) (places_of (now s c).state l)
        by layers.Lfh = refl
        by layers.Vs = refl
        by layers.Back = refl
        by layers.Large = refl

    pub anew_opening : t.opening ≡ c.opening
    anew_opening = ap (λ (y : Token). y.opening) h.prepared ∙ (added_all c list (span_no_begin back.region.reserved h.first n run)).goes.opening

    pub anew_limits : later.limits ≡ t.opening.limits
    anew_limits = span_limits c t vs later back more n b w wb sound h ∙ ap (λ (o : Opening). o.limits) (sym anew_opening)

    module _ (to : (16 * run.first + 16) / 8 + words_of n ≤ data_count c.opening.limits) where
      anew_half : IsHalfwayAny taken (with_all c list) (calls.Realloc addr n flags) addr size p (16 * run.first + 16) n q out
      anew_half =
          late_any taken c addr size n flags p out v st valid legal list (span_no_begin back.region.reserved h.first n run) (16 * run.first) run.count (span_whole c back.region.reserved h.first n run) (span_few back.region.reserved h.first n run)
          (span_pending c back.region.reserved h.first n run mine.pending) (span_ready h.first run h.range) put_now (suits_run n c.number run (let l = few in omega (arith, l)) (span_count c t vs later back more n b w wb sound h)) (held_now c taken addr size n flags p out v st held vs w back_out back wb bucket bucket_is cannot) to

      anew_added : HasAdded c (with_all c list) list
      anew_added = added_all c list (span_no_begin back.region.reserved h.first n run)

      abbrev span_it : Act
      span_it = acts.Span h.first (span_pages_of n) kinds.Vs 0 0

      abbrev place_it : Act
      place_it = acts.Place (16 * run.first) run.count layers.Vs

      abbrev reserve_it : Act
      reserve_it = acts.Reserve back.region.reserved

      anew_made : IsMadePlainly c (with_all c list) p n q
      anew_made = by (ltb (h.first / 256) back.region.reserved) refl
        where
          by : (f : Bool) → ltb (h.first / 256) back.region.reserved ≡ f → IsMadePlainly c (with_all c list) p n q
          by true e =
              let is : list ≡ span_it ∷ place_it ∷ [] = rw e refl in
              record {
                made = record {
                  reserves = [];
                  begins = span_it;
                  more = place_it ∷ [];
                  added = subst (HasAdded c (with_all c list)) is anew_added;
                  begins_it = refl;
                  no_begin = refl;
                  shape_is = refl;
                  reserves_are = inl refl;
                };
                plain = refl;
              }
          by false e =
              let is : list ≡ reserve_it ∷ span_it ∷ place_it ∷ [] = rw e refl in
              record {
                made = record {
                  reserves = reserve_it ∷ [];
                  begins = span_it;
                  more = place_it ∷ [];
                  added = subst (HasAdded c (with_all c list)) is anew_added;
                  begins_it = refl;
                  no_begin = refl;
                  shape_is = refl;
                  reserves_are = inr (back.region.reserved, refl, λ s x. leaves_still s (now s c) c.number back.region.reserved n p (let l = few in omega (arith, l)) (mine.leaves s x));
                };
                plain = refl;
              }

      is_all : t ≡ with_all c list
      is_all = h.prepared

      before : (s : Setting) → IsSettingOf (with_all c list).opening (with_all c list).roll s → IsSettingOf c.opening c.roll s
      before s x = setting_before_all s c list x

      number : (with_all c list).number ≡ c.number
      number = anew_added.goes.number

      abbrev k : (s : Setting) → State
      k s = with_given (now s (with_all c list)).state c.number q n

      given_vs : (s : Setting) → IsSettingOf c.opening c.roll s → (k s).vs ≡ with_block (now s c).state.vs run n
      given_vs s x =
          ap (λ (y : State). (with_given y c.number q n).vs) (state_now s x)
          ∙ (λ i. record { places = given_front c.number layers.Vs (16 * run.first) run.count n (now s c).state.vs.places i; active = (now s c).state.vs.active; served = (with_vs_block (now s c).state (with_segment (now s c).state.back.area h.first) c.number h.first n run).vs.served })

      given_spans : (s : Setting) → IsSettingOf c.opening c.roll s → vs_spans (k s).back.area ≡ vs_spans (spanned c t vs later back more n b w wb sound h s).back.area
      given_spans s x = ap (λ (y : State). vs_spans y.back.area) (state_now s x)

      tells_then : WillTellVs (with_all c list) q n later
      tells_then s x =
          let y = before s x in
          subst (λ (j : ℕ). let g = with_given (now s (with_all c list)).state j q n in (leaves_whole g whats.Vs ≡ true) × StandsForVs (with_all c list).opening g (vss.layer_of later)) (sym number) (
            (λ i. list_all (has_place 4096 (given_vs s y i).places) (given_spans s y i)) ∙ span_used c t vs later back more n b w wb sound h s y,
            subst (λ (o : Opening). StandsForVs o (k s) (vss.layer_of later)) (sym anew_added.goes.opening) (span_tells c t vs later back more n b w wb sound h s y (k s) (given_vs s y) (given_spans s y)),
          )

      back_then : WillTellBack (with_all c list) q n more
      back_then s x =
          let y = before s x in
          let is : (with_given (now s (with_all c list)).state (with_all c list).number q n).back ≡ part_with (now s c).state.back (marked_run h.first (span_pages_of n) vs_mark) = ap (λ (z : State). z.back) (state_now s y) in
          subst (λ (o : Opening). StandsForBack o (with_given (now s (with_all c list)).state (with_all c list).number q n) (backs.layer_of more)) (sym anew_added.goes.opening)
          (span_back c t vs later back more n b w wb sound h s y (with_given (now s (with_all c list)).state (with_all c list).number q n) is)

      large_then : (large : LargeTable) → TellsLarge c large → WillTellLarge (with_all c list) q n large
      large_then large f s x =
          let y = before s x in
          subst (λ (o : Opening). StandsForLarge o (with_given (now s (with_all c list)).state (with_all c list).number q n) (larges.layer_of large)) (sym anew_added.goes.opening)
          (large_stands c.opening (now s c).state (with_given (now s (with_all c list)).state (with_all c list).number q n) large (f s y) (ap (λ (z : State). z.large) (state_now s y)))

      pub anew_held : HasHeldAnew taken c t addr size n flags p out b later more
      anew_held =
          subst (λ (y : Token). HasHeldAnew taken c y addr size n flags p out b later more) (sym is_all) (subst (λ (a : ℕ). HasHeldAnew taken c (with_all c list) addr size n flags p out a later more) (sym h.at) (record {
            place = q;
            held = record { half = anew_half; made = anew_made.made; plain = anew_made.plain };
            vs = tells_then;
            back = back_then;
            large = large_then;
          }))
