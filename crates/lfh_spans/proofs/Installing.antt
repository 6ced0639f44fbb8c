-- Where the search of a caller is spent and it holds Back, a subsegment may be made where the back end has room, and its drawn block claimed.
use Rattle.std.proofs.Common.{◌≡◌, ℕ, ◌/◌, ◌<◌, ◌==◌, Bool, true, false, ◌&&◌, ◌||◌, List, [], ◌∷◌, Option, Some, None, refl, sym, ap, ◌∙◌, subst, inl, inr, ⊎_elim, eq-eqb}
use Rattle.std.specs.Prelude.{nat_lt, is_some, option_and_then}
use Rattle.std.proofs.lemmas.Bool.{cases_Bool, and_from, lt-ltb, ltb-true, false≢true}
use Rattle.heap_model.specs.declared.Act.{Act}
use Rattle.heap_model.specs.declared.Act.TheVariants as acts
use Rattle.heap_model.specs.declared.Entry.{Entry}
use Rattle.heap_model.specs.declared.Kind.TheVariants as kinds
use Rattle.heap_model.specs.declared.Limits.{Limits}
use Rattle.heap_model.specs.declared.Opening.{Opening}
use Rattle.heap_model.specs.declared.What.TheVariants as whats
use Rattle.heap_model.specs.Buckets.{bucket_of, bucket_pages, block_count}
use Rattle.heap_model.specs.State.{Setting, Area, BackPart, Span, holds, is_entered}
use Rattle.heap_model.specs.Backend.{back_place}
use Rattle.heap_model.specs.Ranges.{is_of_kind}
use Rattle.heap_model.specs.Stay.{for_some, is_some_of}
use Rattle.heap_model.specs.CallState.{Stage, NotBegun, AtHint, FirstPass, SecondPass, Configuration, CallState, CallerView, Nothing, caller_view}
use Rattle.heap_model.specs.Search.{SearchKey, request_of, search_key_of, is_spent, all_read_at, draw_of, may_claim, asked_bucket, after_own_span, sought, searched}
use Rattle.heap_model.specs.Legal.{after, may, may_follow, step_search, with_search, meets_demand}
use Rattle.heap_model.specs.History.{configuration_after, may_all_follow}
use Rattle.heap_model.specs.Layers.{StandsForBack}
use Rattle.heap_model.specs.Agreement.{is_prepared, holds_old_block}
use Rattle.heap_model.proofs.ListLemmas.{filter-insert_span}
use Rattle.heap_soundness.proofs.Picks.{sought_asked}
use Rattle.serial_laws.specs.BackCalls.{one_more_reserved}
use Rattle.claim_rule.specs.Entries.{entry}
use Rattle.claim_rule.specs.Shown.{hint_word}
use Rattle.span_steps.specs.Installs.{making, MayInstall}
use Rattle.span_steps.proofs.NewSubsegment.{in_inserted}
use Rattle.step_parts.specs.Claims.{MayClaim}
use Rattle.step_parts.proofs.BlockWords.{into_lfh}
use Rattle.backend_fit.specs.Kept.{Kept, area_of, layer_of}
use Rattle.backend_fit.specs.Sound.{IsSound}
use Rattle.backend_fit.specs.Laws.{GoesBehind}
use Rattle.backend_fit.proofs.Told.{goes_somewhere}
use Rattle.lfh_spans.specs.Stores.{reserving_in}
use Rattle.lfh_spans.specs.Subsegments.{MayMake, drawn_block}
use Rattle.lfh_spans.proofs.Likeness.{AreLike, old_like, search_like}

-- the subsegment
abbrev pub new_span : ℕ → ℕ → ℕ → Span
new_span first b t = record { first = first; pages = bucket_pages b; kind = kinds.Lfh; bucket = b; slot = t }

abbrev span_act : ℕ → ℕ → ℕ → Act
span_act first b t = acts.Span first (bucket_pages b) kinds.Lfh b t

lfh_row : (en bk : Bool) → en ≡ true → bk ≡ true → (s : Setting) (a : Area) (first t slot b : ℕ) (o : Option ℕ) → o ≡ Some b → t ≡ slot → back_place a s.limits.segments (bucket_pages b) ≡ Some first → first / 256 < a.reserved → (spent : ℕ → Bool) → spent b ≡ true →
    (en && bk && is_some_of (back_place a s.limits.segments (bucket_pages b)) first && nat_lt (first / 256) a.reserved && (t == slot) && for_some o (λ k. (b == k) && spent k && (bucket_pages b == bucket_pages k))) ≡ true
lfh_row en bk x y s a first t slot b o z e f l spent g =
    let e1 = eq-eqb first first refl in
    let e2 = lt-ltb (first / 256) a.reserved l in
    let e3 = eq-eqb t slot e in
    let e4 = eq-eqb b b refl in
    let e5 = eq-eqb (bucket_pages b) (bucket_pages b) refl in
    rw (x, y, z, f, e1, e2, e3, e4) (rw (g, e5) refl)

-- whether a search is spent depends on the spans alone
spent_with : (a : Area) (k : CallerView) (g : SearchKey) → is_spent (one_more_reserved a) k g ≡ is_spent a k g
spent_with a k g = ap (λ (x : Bool). k.back && ((k.call.search.lost == 8) || (k.call.search.ended && x))) (by k.call.search.stage)
  where
    by : (x : Stage) → all_read_at (one_more_reserved a) k g x ≡ all_read_at a k g x
    by NotBegun = refl
    by AtHint = refl
    by FirstPass = refl
    by SecondPass = refl

---- A Span, where the segment is reserved

module _ (s : Setting) (m : Configuration) (n b t first draw : ℕ) where
  pub record CanSpan : Type 0 where
    pub begun : is_some (m.now.calls n).call ≡ true
    pub entered : is_entered m.state.gate n ≡ true
    pub back : holds m.state.gate n whats.Back ≡ true
    pub slot : s.slot n ≡ t
    pub may : MayMake s m n b draw
    pub place : back_place m.state.back.area s.limits.segments (bucket_pages b) ≡ Some first
    pub low : first / 256 < m.state.back.area.reserved

  module _ (h : CanSpan) where
    abbrev span : Entry
    span = entry n (acts.Span first (bucket_pages b) kinds.Lfh b t)

    abbrev made : Configuration
    made = after s m (entry n (acts.Span first (bucket_pages b) kinds.Lfh b t))

    span_row : may s m n (span_act first b t) ≡ true
    span_row = lfh_row (is_entered m.state.gate n) (holds m.state.gate n whats.Back) h.entered h.back s m.state.back.area first t (s.slot n) b (request_of s m n).search h.may.seeks (sym h.slot) h.place h.low
        (λ k. is_spent m.state.back.area (caller_view m n) (search_key_of s n (m.now.calls n) k)) h.may.spent

    span_follows : meets_demand m.state.back.area (entry n (span_act first b t)) m.now.demand ≡ true → may_follow s m (entry n (span_act first b t)) ≡ true
    span_follows d =
        and_from (meets_demand m.state.back.area (entry n (span_act first b t)) m.now.demand && (false || is_some (m.now.calls n).call)) (may s m n (span_act first b t))
        (and_from (meets_demand m.state.back.area (entry n (span_act first b t)) m.now.demand) (false || is_some (m.now.calls n).call) d h.begun) span_row

    asked : asked_bucket (m.now.calls n) ≡ Some b
    asked = sought_asked s m.state n (m.now.calls n) b (by (option_and_then bucket_of (sought s m.state n (m.now.calls n))) h.may.seeks)
      where
        by : (o : Option ℕ) → searched m.state.vs.active o ≡ Some b → o ≡ Some b
        by None e = absurd (let no : ⊥ = cc in no)
        by (Some x) e = elim (cases_Bool (m.state.vs.active x)) [
          | inl y ↦ let z : Some x ≡ Some b = (rw y at e) in z
          | inr y ↦ let z : None ≡ Some b = (rw y at e) in absurd (let no : ⊥ = cc in no)
        ]

    key : SearchKey
    key = search_key_of s n (m.now.calls n) b

    call_is : made.now.calls n ≡ with_search (m.now.calls n) (after_own_span (search_key_of s n (m.now.calls n) b) (m.now.calls n).search first)
    call_is =
        (let q = eq-eqb n n refl in rw q refl)
        ∙ ap (λ (o : Option ℕ). step_search s n (m.now.calls n) (λ g f. after_own_span g f first) o) asked

    like : AreLike n made m
    like = record {
      gate = refl;
      vs = refl;
      lfh = refl;
      large = refl;
      places = refl;
      spans = filter-insert_span (is_of_kind kinds.Vs) (new_span first b t) m.state.back.area.spans refl;
      placed = ap (λ (x : CallState). x.placed) call_is;
      call = ap (λ (x : CallState). x.call) call_is;
    }

    pub may_claim_it : drawn_block b draw < block_count b → MayClaim s made n first b t (drawn_block b draw)
    may_claim_it below = record {
      can = record {
        begun = ap (λ (x : CallState). is_some x.call) call_is ∙ h.begun;
        inside = h.entered;
        seeks = search_like s n made m like ∙ h.may.seeks;
        slot = h.slot;
        picked = ap (λ (x : CallState). may_claim x.search first (drawn_block b draw)) call_is
            ∙ (ap (λ (d : ℕ). is_some_of (Some (drawn_block b d)) (drawn_block b draw) && (first == first)) (sym h.may.drawn)
            ∙ and_from (drawn_block b draw == drawn_block b draw) (first == first) (eq-eqb (drawn_block b draw) (drawn_block b draw) refl) (eq-eqb first first refl));
        seen = record { span = new_span first b t; there = into_lfh made.state.back.area.spans (new_span first b t) (in_inserted (new_span first b t) m.state.back.area.spans) refl; begins = refl; bucket = refl; slot = refl };
        below = below;
      };
      old = old_like s n made m like ∙ h.may.old;
    }

---- .. and where it is reserved with it

module _ (s : Setting) (m : Configuration) (n b t first draw : ℕ) (begun : is_some (m.now.calls n).call ≡ true) (entered : is_entered m.state.gate n ≡ true) (back : holds m.state.gate n whats.Back ≡ true)
    (calm : m.now.demand ≡ Nothing) (slot : s.slot n ≡ t) (may : MayMake s m n b draw) (below : drawn_block b draw < block_count b) where
  abbrev reserve : Entry
  reserve = entry n (acts.Reserve m.state.back.area.reserved)

  abbrev more : Configuration
  more = after s m (entry n (acts.Reserve m.state.back.area.reserved))

  same_call : more.now.calls n ≡ m.now.calls n
  same_call = (let q = eq-eqb n n refl in rw q refl)

  like_more : AreLike n more m
  like_more = record { gate = refl; vs = refl; lfh = refl; large = refl; places = refl; spans = refl; placed = ap (λ (x : CallState). x.placed) same_call; call = ap (λ (x : CallState). x.call) same_call }

  may_more : MayMake s more n b draw
  may_more = record {
    seeks = search_like s n more m like_more ∙ may.seeks;
    spent = ap (λ (x : CallState). is_spent (one_more_reserved m.state.back.area) (record (caller_view m n) { call = x }) (search_key_of s n x b)) same_call
        ∙ (spent_with m.state.back.area (caller_view m n) (search_key_of s n (m.now.calls n) b) ∙ may.spent);
    drawn = may.drawn ∙ ap (λ (x : CallState). draw_of s n x.searches) (sym same_call);
    old = old_like s n more m like_more ∙ may.old;
  }

  -- what is asked of a step that makes it
  abbrev Installs : List Entry → Type 0
  Installs es = (is_prepared s m n (making n es first (bucket_pages b) b t) ≡ true) × (may_all_follow s m (making n es first (bucket_pages b) b t) ≡ true)
      × MayClaim s (configuration_after s m (making n es first (bucket_pages b) b t)) n first b t (drawn_block b draw)

  in_segment : back_place m.state.back.area s.limits.segments (bucket_pages b) ≡ Some first → first / 256 < m.state.back.area.reserved → Installs []
  in_segment place low =
      let c : CanSpan s m n b t first draw = record { begun = begun; entered = entered; back = back; slot = slot; may = may; place = place; low = low } in
      let own = eq-eqb n n refl in (
        and_from (n == n && holds_old_block m n) true (and_from (n == n) (holds_old_block m n) own may.old) refl,
        and_from (may_follow s m (entry n (span_act first b t))) true (span_follows s m n b t first draw c (ap (meets_demand m.state.back.area (entry n (span_act first b t))) calm)) refl,
        may_claim_it s m n b t first draw c below,
      )

  in_next : GoesBehind m.state.back.area s.limits.segments (bucket_pages b) first → Installs (entry n (acts.Reserve m.state.back.area.reserved) ∷ [])
  in_next g =
      let c : CanSpan s more n b t first draw = record { begun = ap (λ (x : CallState). is_some x.call) same_call ∙ begun; entered = entered; back = back; slot = slot; may = may_more; place = g.place; low = g.there } in
      let own = eq-eqb n n refl in
      let r = m.state.back.area.reserved in
      let row : (is_entered m.state.gate n && holds m.state.gate n whats.Back && (r == r) && nat_lt r s.limits.segments) ≡ true =
      and_from _ (nat_lt r s.limits.segments) (and_from _ (r == r) (and_from (is_entered m.state.gate n) (holds m.state.gate n whats.Back) entered back) (eq-eqb r r refl)) (lt-ltb r s.limits.segments g.less) in
      let first_follows : may_follow s m (entry n (acts.Reserve m.state.back.area.reserved)) ≡ true =
      and_from (meets_demand m.state.back.area (entry n (acts.Reserve m.state.back.area.reserved)) m.now.demand && (false || is_some (m.now.calls n).call)) _
      (and_from (meets_demand m.state.back.area (entry n (acts.Reserve m.state.back.area.reserved)) m.now.demand) (false || is_some (m.now.calls n).call) (ap (meets_demand m.state.back.area (entry n (acts.Reserve m.state.back.area.reserved))) calm) begun) row in (
        and_from (n == n && true) _ (and_from (n == n) true own refl) (and_from (n == n && holds_old_block more n) true (and_from (n == n) (holds_old_block more n) own may_more.old) refl),
        and_from (may_follow s m (entry n (acts.Reserve m.state.back.area.reserved))) _ first_follows
            (and_from (may_follow s more (entry n (span_act first b t))) true (span_follows s more n b t first draw c (and_from (n == n) _ own g.short)) refl),
        may_claim_it s more n b t first draw c below,
      )

  -- by the back end that it holds
  module _ (o : Opening) (limits : s.limits ≡ o.limits) (k : Kept) (sound : IsSound k) (stands : StandsForBack o m.state (layer_of k)) (place : back_place (area_of k) k.limits.segments (bucket_pages b) ≡ Some first) where
    area_is : area_of k ≡ m.state.back.area
    area_is = ap (λ (p : BackPart). p.area) stands.part

    place_here : back_place m.state.back.area o.limits.segments (bucket_pages b) ≡ Some first
    place_here = (λ j. back_place (sym area_is j) (sym stands.limits j).segments (bucket_pages b)) ∙ place

    installs : Installs (reserving_in n (area_of k).reserved first)
    installs = subst (λ (a : Area). Installs (reserving_in n a.reserved first)) (sym area_is) (elim (cases_Bool (nat_lt (first / 256) m.state.back.area.reserved)) [
      | inl e ↦ rw e (in_segment (subst (λ (l : Limits). back_place m.state.back.area l.segments (bucket_pages b) ≡ Some first) (sym limits) place_here) (ltb-true (first / 256) m.state.back.area.reserved e))
      | inr e ↦ rw e (⊎_elim (λ (l : first / 256 < m.state.back.area.reserved). absurd (false≢true (sym e ∙ lt-ltb (first / 256) m.state.back.area.reserved l)))
          (λ (g : GoesBehind m.state.back.area o.limits.segments (bucket_pages b) first). in_next (subst (λ (l : Limits). GoesBehind m.state.back.area l.segments (bucket_pages b) first) (sym limits) g))
          (goes_somewhere o m.state k stands sound (bucket_pages b) first place_here))
    ])

    pub may_install : (hint : ℕ) → hint_word m.state.back.area m.now.span_history b t ≡ hint → MayInstall s m n (reserving_in n (area_of k).reserved first) first (bucket_pages b) b t (drawn_block b draw) hint []
    may_install hint e = record { holds_it = back; hint_is = e; stable = installs.0; follows = installs.1; claim = installs.2 }
