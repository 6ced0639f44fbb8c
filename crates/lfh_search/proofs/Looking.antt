-- What is found in the subsegments that are there.
use Rattle.std.proofs.Common.{◌≡◌, inl, inr, ℕ, ◌+◌, ◌*◌, ◌<◌, ◌≤◌, Bool, true, List, [], ◌∷◌, ◌++◌, Option, refl, sym, ap, ◌∙◌, subst, arith, eq-eqb}
use Rattle.std.specs.Prelude.{is_some}
use Rattle.std.proofs.lemmas.List.{append-nil}
use Rattle.heap_model.specs.declared.Act.{Act}
use Rattle.heap_model.specs.declared.Entry.{Entry}
use Rattle.heap_model.specs.declared.What.TheVariants as whats
use Rattle.heap_model.specs.Buckets.{block_address}
use Rattle.heap_model.specs.State.{Setting, holds, hands}
use Rattle.heap_model.specs.CallState.{Configuration, CallState, Search}
use Rattle.heap_model.specs.History.{configuration_after}
use Rattle.heap_model.specs.Agreement.{AgreesFor}
use Rattle.heap_model.proofs.Others.{agrees_trans}
use Rattle.heap_model.proofs.Stable.{same_hand_at}
use Rattle.claim_rule.specs.declared.views.Owed.{Owed}
use Rattle.claim_rule.specs.Entries.{IsSettingOf, setting_of}
use Rattle.claim_rule.proofs.Advance.{some_setting}
use Rattle.heap_model.specs.declared.Limits.{Limits}
use Rattle.heap_model.specs.Search.{is_span_of}
use Rattle.step_parts.proofs.Filters.{in_filter}
use Rattle.step_parts.proofs.FrontEnd.{some_pages}
use Rattle.lfh_spans.proofs.Tagged.{spans_in_order, span_within}
use Rattle.claim_rule.specs.Places.{hint_at}
use Rattle.claim_rule.specs.Shown.{hint_word}
use Rattle.span_steps.specs.Stores.{paid_off}
use Rattle.step_parts.specs.InHand.{HasBlock}
use Rattle.step_parts.specs.Claims.{owed_by_place}
use Rattle.backend_fit.specs.Kept.{Kept, area_of}
use Rattle.backend_fit.specs.Sound.{IsSound}
use Rattle.data_words.proofs.Copying.{does_then}
use Rattle.heap_gate.specs.Token.{Token, now, Always, is_out, IsStanding}
use Rattle.heap_gate.specs.Calls.{Does, Runs, Stands, stance}
use Rattle.lfh_claims.specs.Search.{own_slot}
use Rattle.lfh_spans.specs.Hints.{ReadsHint}
use Rattle.lfh_search.specs.declared.course.Course.{Course}
use Rattle.lfh_search.specs.Acts.{by, AreReadings}
use Rattle.lfh_search.specs.Results.{Went, HasPlaced, IsBeaten, place}
use Rattle.lfh_search.specs.Passes.{IsThere, HasPassed, HasPassedTo}
use Rattle.lfh_search.specs.Under.{IsUnder, Found, HasServed, IsSpentNow}
use Rattle.lfh_search.proofs.Steps.{earlier, runs_then}
use Rattle.lfh_search.proofs.Words.{same_slot}
use Rattle.lfh_search.proofs.Placing.{placed_behind}
use Rattle.lfh_search.proofs.Spent.{eight_losses_spend, pass_spends}
use Rattle.lfh_search.proofs.Hinting.{slot_by_does, held_behind, back_behind, hint_here}
use Rattle.lfh_search.proofs.Entering.{holds_back, said_on, back_of_on, slot_on}

-- a block in hand stays there
pub hand_agrees : (s : Setting) (n b addr : ℕ) (m k : Configuration) → AgreesFor n m k → HasBlock k n b addr → HasBlock m n b addr
hand_agrees s n b addr m k r h = record {
  hand = record { begun = ap (λ (x : CallState). is_some x.call) r.call ∙ h.hand.begun; place = h.hand.place; hand = same_hand_at s n m k r addr ∙ h.hand.hand; layer = h.hand.layer };
  long = h.long;
}

-- the hint that a place owes is paid
pub paid_one : (out : Bool) (b t u hint : ℕ) (owes : List Owed) → out ≡ true → owes ≡ [] → u ≡ t → paid_off (hint_at b u) (owed_by_place out b t hint owes) ≡ []
paid_one out b t u hint owes o p e = (λ j. paid_off (hint_at b (e j)) (owed_by_place (o j) b t hint (p j))) ∙ (let q = eq-eqb (118 + 16 * b + t) (118 + 16 * b + t) refl in rw q refl)

module _ (c c1 : Token) (back : Kept) (course : Course) (f : Search) (lost : ℕ) (u : IsUnder c back course f lost) (st : IsStanding c) (r : Option ℕ) (h : ReadsHint c c1 course.bucket r) where
  abbrev b : ℕ
  b = course.bucket

  abbrev d : ℕ
  d = course.draw.value

  held : Always c (λ s. holds (now s c).state.gate c.number whats.Back ≡ true)
  held = holds_back c st u.out

  slot1 : own_slot c1 ≡ own_slot c
  slot1 = slot_on c c1 back course f lost u st r h

  ---- A block was claimed

  module _ (c2 : Token) (head i : ℕ) (p : HasPassedTo c1 c2 back b head i) (sound : IsSound back) where
    placed : HasPlaced c c2 b head i
    placed = placed_behind c c1 c2 b head i [] c.searched tt h.runs h.stands slot1 p.placed

    pub there : IsThere (area_of back) b (own_slot c) head
    there = subst (λ (t : ℕ). IsThere (area_of back) b t head) slot1 p.there

    pub slot2 : own_slot c2 ≡ own_slot c
    slot2 = slot_by_does c c2 _ b d f placed.moves.does u.searching

    pub out2 : is_out whats.Back c2.out ≡ true
    out2 = ap (is_out whats.Back) placed.stands.out ∙ u.out

    -- the hint that is to be stored
    pub hint2 : Always c2 (λ s. hint_word (now s c2).state.back.area (now s c2).now.span_history b (own_slot c2) ≡ head)
    hint2 s q = ap (hint_word (now s c2).state.back.area (now s c2).now.span_history b) slot2 ∙ hint_here c c2 back b head i placed there u.back_is sound held s q

    -- its page is one of few
    pub head_small : c.opening.limits.segments ≤ 16 → head < 4096
    head_small few =
        let i0 = (in_filter (is_span_of b (own_slot c)) (area_of back).spans there.span there.there).0 in
        let l = span_within back there.span sound i0 in
        let some = some_pages 0 (area_of back).spans there.span (spans_in_order back sound) i0 in
        let begins = there.begins in
        let e : back.limits.segments ≡ c.opening.limits.segments = ap (λ (x : Limits). x.segments) (u.back_is (setting_of c.opening c.roll) (some_setting c.opening c.roll)).limits in
        omega (arith, few, l, some, begins, e)

    module _ (c3 : Token) (store : Runs c2 c3 []) (stored : Stands c3 (record (stance c2) { owes = paid_off (hint_at b (own_slot c2)) c2.owes })) where
      abbrev es : List Entry
      es = by c.number (placed.its ++ place b head i ∷ [])

      before : (s : Setting) → IsSettingOf c3.opening c3.roll s → IsSettingOf c2.opening c2.roll s
      before s q = earlier c2 c3 [] store.does s q

      still : (s : Setting) → IsSettingOf c3.opening c3.roll s → AgreesFor c.number (now s c3) (now s c2)
      still s q = subst (λ (n : ℕ). AgreesFor n (now s c3) (now s c2)) placed.moves.does.number (store.agrees s q)

      pub served : (addr : ℕ) → addr ≡ block_address b head i → HasServed c c3 back back course addr
      served addr e = record {
        its = placed.its;
        are = placed.are;
        made = [];
        head = head;
        index = i;
        below = placed.below;
        came = Found there refl refl;
        address = e;
        does = subst (Does c c3) (append-nil es) (does_then c c2 c3 es [] placed.moves.does store.does);
        agrees = λ s q. agrees_trans c.number (now s c3) (now s c2) (configuration_after s (now s c) es) (still s q) (placed.moves.agrees s (before s q));
        hands = λ s q. subst (λ (n : ℕ). hands (now s c3).state n ≡ hands (now s c2).state n) placed.moves.does.number (store.hands s q) ∙ placed.moves.hands s (before s q);
        block = λ s q. subst (HasBlock (now s c3) c.number b) (sym e) (hand_agrees s c.number b (block_address b head i) (now s c3) (now s c2) (still s q) (placed.block s (before s q)));
        stands = record {
          call = stored.call ∙ placed.stands.call;
          fresh = stored.fresh ∙ placed.stands.fresh;
          locked = stored.locked ∙ placed.stands.locked;
          inside = stored.inside ∙ placed.stands.inside;
          depth = stored.depth ∙ placed.stands.depth;
          out = stored.out ∙ placed.stands.out;
          owes = stored.owes ∙ (ap (paid_off (hint_at b (own_slot c2))) placed.stands.owes ∙ (paid_one (is_out whats.Back c.out) b (own_slot c) (own_slot c2) placed.hint c.owes u.out u.paid slot2 ∙ sym u.paid));
          free = stored.free ∙ placed.stands.free;
          searches = stored.searches ∙ placed.stands.searches;
          searched = stored.searched ∙ (placed.stands.searched ∙ sym u.searched);
          drawn = stored.drawn ∙ placed.stands.drawn;
          whole = stored.whole;
          pending = stored.pending;
          prepared = stored.prepared;
        };
        back_is = back_of_on c2 c3 [] tt store back (held_behind c c2 back b head i placed there u.back_is sound held) (back_behind c c2 back b head i placed there u.back_is sound held);
      }

  ---- None was

  gone : (c2 : Token) (its : List Act) → AreReadings its → Went c1 c2 its → Runs c c2 (by c.number its) × Stands c2 (stance c)
  gone c2 [] are w = subst (λ (t : Token). Runs c t [] × Stands t (stance c)) (sym w) (h.runs, h.stands)
  gone c2 (x ∷ its) are w = (
    runs_then c c1 c2 [] (x ∷ its) are h.runs w.0,
    record {
      call = w.1.call ∙ h.stands.call;
      fresh = w.1.fresh ∙ h.stands.fresh;
      locked = w.1.locked ∙ h.stands.locked;
      inside = w.1.inside ∙ h.stands.inside;
      depth = w.1.depth ∙ h.stands.depth;
      out = w.1.out ∙ h.stands.out;
      owes = w.1.owes ∙ h.stands.owes;
      free = w.1.free ∙ h.stands.free;
      searches = w.1.searches ∙ h.stands.searches;
      searched = w.1.searched ∙ sym u.searched;
      drawn = w.1.drawn ∙ h.stands.drawn;
      whole = w.1.whole;
      pending = w.1.pending;
      prepared = w.1.prepared;
    },
  )

  -- all words were dry
  pub dry : (c2 : Token) (now_lost : ℕ) → HasPassed c1 c2 back course lost now_lost → IsSpentNow c c2 back course lost now_lost
  dry c2 now_lost x =
      let g = gone c2 x.its x.are x.went in
      record {
        its = x.its;
        are = x.are;
        gone = inr g;
        count = x.count;
        search = x.search;
        searching = x.passing.searching;
        lost_is = x.passing.lost_is;
        few = let l = x.passing.few in omega (arith, l);
        makes = pass_spends c2 back course x.search x.from now_lost x.passing x.all;
        back_is = x.passing.back_is;
        says = said_on c c2 x.its x.are g.0;
        slot = same_slot c c2 x.its x.are g.0 b d f u.searching;
      }

  -- the eighth claim was lost
  pub beaten : (c2 : Token) → IsBeaten c1 c2 b d lost → IsStanding c2 → IsSpentNow c c2 back course lost 8
  beaten c2 x st2 =
      let g = gone c2 x.its x.are x.went in
      record {
        its = x.its;
        are = x.are;
        gone = inr g;
        count = x.count;
        search = x.search;
        searching = x.searching;
        lost_is = x.eight;
        few = omega arith;
        makes = eight_losses_spend c2 b d x.search x.searching x.eight st2 (ap (is_out whats.Back) g.1.out ∙ u.out);
        back_is = back_of_on c c2 x.its x.are g.0 back held u.back_is;
        says = said_on c c2 x.its x.are g.0;
        slot = same_slot c c2 x.its x.are g.0 b d f u.searching;
      }

-- eight claims were lost before
pub spent_before : (c : Token) (back : Kept) (course : Course) (f : Search) (lost : ℕ) → IsUnder c back course f lost → IsStanding c → lost ≡ 8 → IsSpentNow c c back course lost lost
spent_before c back course f lost u st e = record {
  its = [];
  are = tt;
  gone = inl (refl, refl);
  count = omega arith;
  search = f;
  searching = u.searching;
  lost_is = u.lost_is;
  few = u.few;
  makes = eight_losses_spend c course.bucket course.draw.value f u.searching (u.lost_is ∙ e) st u.out;
  back_is = u.back_is;
  says = λ x v. v;
  slot = refl;
}
