-- What the steps of making a subsegment come to, one behind another: the hint is looked at, the first block is claimed, and the tags and the hint are stored.
use Rattle.std.proofs.Common.{◌≡◌, ℕ, zero, suc, ◌+◌, ◌*◌, ◌/◌, ◌<◌, ◌≤◌, ◌==◌, Bool, true, not, ◌||◌, List, [], ◌∷◌, length, Option, Some, refl, sym, ap, ◌∙◌, subst, arith, inl, inr, eq-eqb, ne_eqb}
use Rattle.std.specs.Prelude.{is_some, unwrap_or, cond, nat_le}
use Rattle.std.proofs.lemmas.Bool.{cases_Bool}
use Rattle.std.proofs.lemmas.List.{append-nil}
use Rattle.heap_model.specs.declared.Act.TheVariants as acts
use Rattle.heap_model.specs.declared.Entry.{Entry}
use Rattle.heap_model.specs.declared.Layer.{Layer}
use Rattle.heap_model.specs.declared.Layer.TheVariants as layers
use Rattle.heap_model.specs.declared.Limits.{Limits}
use Rattle.heap_model.specs.declared.Mark.{Mark}
use Rattle.heap_model.specs.declared.Opening.{Opening}
use Rattle.heap_model.specs.declared.What.TheVariants as whats
use Rattle.heap_model.specs.Buckets.{bucket_pages, block_size, block_address, block_count}
use Rattle.heap_model.specs.Marks.{lfh_mark}
use Rattle.heap_model.specs.State.{Setting, Area, BackPart, GateAndLocks, Place, holds, is_entered, in_hand, places_of, InHand}
use Rattle.heap_model.specs.Backend.{back_place}
use Rattle.heap_model.specs.CallState.{Configuration, CallState, SpanHistory}
use Rattle.heap_model.specs.Search.{is_spent, search_key_of, draw_of, hint_or, first_of, spans_of}
use Rattle.heap_model.specs.Legal.{after, span_history_placed, with_span}
use Rattle.heap_model.specs.History.{configuration_after}
use Rattle.heap_model.specs.Layers.{StandsForBack}
use Rattle.heap_model.specs.Agreement.{AgreesFor}
use Rattle.heap_model.proofs.Agreement.{agrees_prepared}
use Rattle.heap_model.proofs.Others.{agrees_trans}
use Rattle.heap_model.proofs.Stable.{caller_view_same, same_search, same_hand_at}
use Rattle.heap_soundness.specs.Sound.{IsOneOf, AreInOrder}
use Rattle.claim_rule.specs.declared.views.Owed.{Owed}
use Rattle.claim_rule.specs.Entries.{IsSettingOf, entry, setting_of}
use Rattle.claim_rule.specs.Places.{tag_at, hint_at}
use Rattle.claim_rule.specs.Shown.{hint_word, owed_or, tag_word, lfh_spans}
use Rattle.claim_rule.proofs.Advance.{some_setting}
use Rattle.claim_rule.proofs.Lists.{after-append}
use Rattle.span_steps.specs.Installs.{making, MayInstall, owed_tags, owed_by_install}
use Rattle.span_steps.specs.Stores.{paid_off}
use Rattle.look_steps.specs.Looks.{IsHintWord}
use Rattle.span_steps.proofs.NewSubsegment.{in_inserted}
use Rattle.step_parts.specs.InHand.{HasBlock}
use Rattle.backend_fit.specs.Kept.{Kept, Becomes, area_of, layer_of}
use Rattle.backend_fit.specs.Sound.{IsSound}
use Rattle.backend_fit.specs.Effects.{part_with, marked_run, marked_span, with_segment}
use Rattle.data_words.proofs.Copying.{does_then}
use Rattle.heap_gate.specs.Token.{Token, Always, IsStanding, now, is_out}
use Rattle.heap_gate.specs.Calls.{Does, Runs, Stands, stance}
use Rattle.lfh_spans.specs.Hints.{own_slot}
use Rattle.lfh_spans.specs.Stores.{AreTagged, HasMade, made_with, paid_tags, reserving_in}
use Rattle.lfh_spans.specs.Subsegments.{IsBackOf, MayMake, HasInstalled, drawn_block}
use Rattle.lfh_spans.proofs.Likeness.{old_agrees}
use Rattle.lfh_spans.proofs.Installing.{may_install, new_span}
use Rattle.lfh_spans.proofs.Joined.{HasBack, has_back_by, setting_of_old, still_held, hint_still, back_of_still}
use Rattle.lfh_spans.proofs.Tagged.{IsBehind, is_behind, spans_in_order, span_within, tags_behind, hint_behind}

---- What is owed is paid

paid_one : (w : Owed) (i : ℕ) (owes : List Owed) → w.word ≡ i → paid_off i (w ∷ owes) ≡ paid_off i owes
paid_one w i owes e = let f = eq-eqb w.word i e in rw f refl

left_one : (w : Owed) (i : ℕ) (owes : List Owed) → (w.word ≡ i → ⊥) → paid_off i (w ∷ owes) ≡ w ∷ paid_off i owes
left_one w i owes n = let f = ne_eqb w.word i n in rw f refl

-- hints of others in front of tags that are paid from the last on
paid_behind : (x y : Owed) (first k : ℕ) → x.word < 2182 → y.word < 2182 → paid_tags first k (x ∷ y ∷ owed_tags first k []) ≡ x ∷ y ∷ []
paid_behind x y first zero lx ly = refl
paid_behind x y first (suc k) lx ly =
    ap (paid_tags first k) (left_one x (tag_at (first + k)) (y ∷ owed_tags first (suc k) []) (λ e. omega arith)
    ∙ (ap (λ (l : List Owed). x ∷ l) (left_one y (tag_at (first + k)) (owed_tags first (suc k) []) (λ e. omega arith) ∙ ap (λ (l : List Owed). y ∷ l) (paid_one (record { word = 2182 + (first + k); value = 0 }) (tag_at (first + k)) (owed_tags first k []) refl ∙ none_left k (first + k) (omega arith)))))
    ∙ paid_behind x y first k lx ly
  where
    none_left : (j at : ℕ) → first + j ≤ at → paid_off (tag_at at) (owed_tags first j []) ≡ owed_tags first j []
    none_left zero at l = refl
    none_left (suc j) at l = left_one (record { word = 2182 + (first + j); value = 0 }) (tag_at at) (owed_tags first j []) (λ e. omega arith) ∙ ap (λ (l : List Owed). record { word = 2182 + (first + j); value = 0 } ∷ l) (none_left j at (omega arith))

pub all_paid : (b t hint first pages : ℕ) → b ≤ 128 → t < 16 → paid_off (hint_at b t) (paid_tags first pages (owed_by_install b t hint first pages [])) ≡ []
all_paid b t hint first pages high few =
    let w : Owed = record { word = 118 + 16 * b + t; value = hint } in
    ap (paid_off (hint_at b t)) (paid_behind w w first pages (omega arith) (omega arith)) ∙ (paid_one w (hint_at b t) (w ∷ []) refl ∙ paid_one w (hint_at b t) [] refl)

---- A place in two configurations that agree

module _ (s : Setting) (n : ℕ) (m k : Configuration) (r : AgreesFor n m k) (start granules : ℕ) where
  abbrev placing : Entry
  placing = entry n (acts.Place start granules layers.Lfh)

  abbrev block : Place
  block = record { start = start; granules = granules; layer = layers.Lfh; status = InHand n }

  place_agrees : AgreesFor n (after s m (entry n (acts.Place start granules layers.Lfh))) (after s k (entry n (acts.Place start granules layers.Lfh)))
  place_agrees = record {
    counted = r.counted;
    turning = r.turning;
    owner = r.owner;
    locks = r.locks;
    call = (let q = eq-eqb n n refl in rw q (ap (λ (x : CallState). record x { placed = true }) r.call));
    hands = hand;
    active = r.active;
    vs = r.vs;
    spans = r.spans;
    back = r.back;
    span_history = λ h. (λ j. span_history_placed (r.back h j).area (r.span_history h j) start (r.locks whats.Back j) layers.Lfh);
    large = r.large;
    owned = λ o. let h = r.owned o in record {
      back = h.back;
      vs = h.vs;
      lfh = ap (λ (ps : List Place). block ∷ ps) h.lfh;
      large = h.large;
      words = h.words;
      span_history = (λ j. span_history_placed (h.back j).area (h.span_history j) start (r.locks whats.Back j) layers.Lfh);
    };
  }
    where
      hand : (l : Layer) → in_hand n (places_of (after s m placing).state l) ≡ in_hand n (places_of (after s k placing).state l)
      hand layers.Lfh = ap (λ (ps : List Place). cond (n == n) (block ∷ ps) ps) (r.hands layers.Lfh)
      hand layers.Vs = r.hands layers.Vs
      hand layers.Back = r.hands layers.Back
      hand layers.Large = r.hands layers.Large

-- a block in hand stays there
hand_agrees : (s : Setting) (n b addr : ℕ) (m k : Configuration) → AgreesFor n m k → HasBlock k n b addr → HasBlock m n b addr
hand_agrees s n b addr m k r h = record {
  hand = record { begun = ap (λ (x : CallState). is_some x.call) r.call ∙ h.hand.begun; place = h.hand.place; hand = same_hand_at s n m k r addr ∙ h.hand.hand; layer = h.hand.layer };
  long = h.long;
}

---- The steps

module _ (c0 c1 : Token) (k0 k1 : Kept) (b t draw first hint : ℕ) (high : b ≤ 128) (few : t < 16) (slot_is : t ≡ own_slot c0) (known : c0.number < length c0.roll) (below : drawn_block b draw < block_count b)
    (at0 : IsStanding c0) (whole : c0.whole ≡ true) (inside : c0.inside ≡ true) (out : is_out whats.Back c0.out ≡ true) (paid : c0.owes ≡ [])
    (back0 : IsBackOf c0 k0) (may0 : Always c0 (λ s. MayMake s (now s c0) c0.number b draw)) (sound0 : IsSound k0) (sound1 : IsSound k1)
    (place : back_place (area_of k0) k0.limits.segments (bucket_pages b) ≡ Some first)
    (becomes : Becomes k0 k1 (λ p. part_with p (marked_run first (bucket_pages b) (lfh_mark b t))))
    (look : Runs c0 c1 []) (looks : Stands c1 (stance c0)) (at1 : IsStanding c1) (word : Always c1 (λ s. IsHintWord (now s c1) c0.number b t c0.owes hint)) where
  abbrev n : ℕ
  n = c0.number

  held0 : HasBack c0
  held0 = has_back_by c0 at0 out

  before : (s : Setting) → IsSettingOf c1.opening c1.roll s → IsSettingOf c0.opening c0.roll s
  before s q = setting_of_old c0 c1 [] look.does s q

  back1 : IsBackOf c1 k0
  back1 = back_of_still c0 c1 look held0 k0 back0

  held1 : (s : Setting) → IsSettingOf c1.opening c1.roll s → holds (now s c1).state.gate c0.number whats.Back ≡ true
  held1 s q = (look.agrees s q).locks whats.Back ∙ held0 s (before s q)

  may1 : (s : Setting) → IsSettingOf c1.opening c1.roll s → MayMake s (now s c1) c0.number b draw
  may1 s q =
      let r = look.agrees s q in
      let m = may0 s (before s q) in
      record {
        seeks = same_search s n (now s c1) (now s c0) r m.old b m.seeks ∙ m.seeks;
        spent = (λ j. is_spent (r.back (held0 s (before s q)) j).area (caller_view_same n (now s c1) (now s c0) r j) (search_key_of s n (r.call j) b)) ∙ m.spent;
        drawn = m.drawn ∙ ap (λ (x : CallState). draw_of s n x.searches) (sym r.call);
        old = old_agrees s n (now s c1) (now s c0) r ∙ m.old;
      }

  hint1 : (s : Setting) → IsSettingOf c1.opening c1.roll s → hint_word (now s c1).state.back.area (now s c1).now.span_history b t ≡ hint
  hint1 s q = sym ((word s q).mine (held1 s q) ∙ ap (λ (l : List Owed). owed_or l (118 + 16 * b + t) (hint_word (now s c1).state.back.area (now s c1).now.span_history b t)) paid)

  install_here : (s : Setting) → IsSettingOf c1.opening c1.roll s → MayInstall s (now s c1) c0.number (reserving_in c0.number (area_of k0).reserved first) first (bucket_pages b) b t (drawn_block b draw) hint []
  install_here s q =
      let a = at1 s q in
      let same = ap (λ (x : ℕ). is_entered (now s c1).state.gate x) (sym look.does.number) in
      may_install s (now s c1) n b t first draw (ap (λ (x : ℕ). is_some ((now s c1).now.calls x).call) (sym look.does.number) ∙ (ap is_some a.call ∙ a.begun (ap (λ (x : Bool). x || not (c1.depth == 0)) (looks.inside ∙ inside))))
      (same ∙ (a.entered ∙ (looks.inside ∙ inside))) (held1 s q) (a.demand looks.whole) ((before s q).slot n known ∙ sym slot_is) (may1 s q) below c1.opening q.limits k0 sound0 (back1 s q) place hint (hint1 s q)

  -- the step of the claim may come
  pub installs1 : (pages reserved i : ℕ) → pages ≡ bucket_pages b → reserved ≡ (area_of k0).reserved → i ≡ drawn_block b draw → Always c1 (λ s. MayInstall s (now s c1) c1.number (reserving_in c1.number reserved first) first pages b t i hint c1.owes)
  installs1 pages reserved i p r e s q = subst (λ (z : (ℕ × ℕ) × (ℕ × (ℕ × List Owed))). MayInstall s (now s c1) z.0.0 (reserving_in z.0.0 z.0.1 first) first z.1.0 b t z.1.1.0 hint z.1.1.1)
      (λ j. ((sym look.does.number j, sym r j), (sym p j, (sym e j, sym (looks.owes ∙ paid) j)))) (install_here s q)

  module _ (c2 : Token) (made : HasMade c1 c2 (reserving_in c0.number (area_of k0).reserved first) first (bucket_pages b) b t (drawn_block b draw) hint) where
    abbrev ds : List Entry
    ds = made_with c0.number (reserving_in c0.number (area_of k0).reserved first) first (bucket_pages b) b t (drawn_block b draw)

    before2 : (s : Setting) → IsSettingOf c2.opening c2.roll s → IsSettingOf c1.opening c1.roll s
    before2 s q = setting_of_old c1 c2 (made_with c1.number (reserving_in c0.number (area_of k0).reserved first) first (bucket_pages b) b t (drawn_block b draw)) made.does s q

    agrees2 : (s : Setting) → IsSettingOf c2.opening c2.roll s → AgreesFor c0.number (now s c2) (configuration_after s (now s c1) ds)
    agrees2 s q = subst (λ (x : ℕ). AgreesFor x (now s c2) (configuration_after s (now s c1) (made_with x (reserving_in c0.number (area_of k0).reserved first) first (bucket_pages b) b t (drawn_block b draw)))) look.does.number (made.agrees s q)

    behind2 : (s : Setting) (q : IsSettingOf c1.opening c1.roll s) → IsBehind s (now s c1) c0.number first b t (drawn_block b draw) (held1 s q) (configuration_after s (now s c1) ds)
    behind2 s q = subst (λ (x : ℕ). IsBehind s (now s c1) n first b t (drawn_block b draw) (held1 s q) (configuration_after s (now s c1) (made_with n (reserving_in n x first) first (bucket_pages b) b t (drawn_block b draw))))
        (ap (λ (p : BackPart). p.area.reserved) (sym (back1 s q).part)) (is_behind s (now s c1) n first b t (drawn_block b draw) (held1 s q))

    held_behind : (s : Setting) (q : IsSettingOf c1.opening c1.roll s) → holds (configuration_after s (now s c1) ds).state.gate c0.number whats.Back ≡ true
    held_behind s q = ap (λ (g : GateAndLocks). holds g n whats.Back) (behind2 s q).gate ∙ held1 s q

    back2 : (s : Setting) (q : IsSettingOf c2.opening c2.roll s) → (now s c2).state.back ≡ part_with (now s c1).state.back (marked_run first (bucket_pages b) (lfh_mark b t))
    back2 s q = (agrees2 s q).back (held_behind s (before2 s q)) ∙ (behind2 s (before2 s q)).back

    number2 : c2.number ≡ c0.number
    number2 = made.does.number ∙ look.does.number

    pub held2 : HasBack c2
    held2 s q = ap (λ (x : ℕ). holds (now s c2).state.gate x whats.Back) number2 ∙ ((agrees2 s q).locks whats.Back ∙ held_behind s (before2 s q))

    pub stands2 : IsBackOf c2 k1
    stands2 s q = becomes c2.opening (now s c1).state (now s c2).state (subst (λ (o : Opening). StandsForBack o (now s c1).state (layer_of k0)) (sym made.does.opening) (back1 s (before2 s q))) (back2 s q)

    order2 : (s : Setting) (q : IsSettingOf c2.opening c2.roll s) → AreInOrder 0 (with_span (with_segment (now s c1).state.back.area first) (new_span first b t)).spans
    order2 s q = subst (λ (a : Area). AreInOrder 0 a.spans) (ap (λ (p : BackPart). p.area) (stands2 s q).part ∙ ap (λ (p : BackPart). p.area) (back2 s q)) (spans_in_order k1 sound1)

    -- the tags that are to be stored
    pub tags2 : (pages : ℕ) → pages ≡ bucket_pages b → Always c2 (λ s. AreTagged (now s c2) first pages (1 + 256 * b + 65536 * t + 4294967296 * first))
    tags2 pages e s q = subst (λ (p : ℕ). AreTagged (now s c2) first p (1 + 256 * b + 65536 * t + 4294967296 * first)) (sym e)
        (λ page low high. ap (λ (p : BackPart). tag_word (lfh_spans p.area) page) (back2 s q) ∙ tags_behind (now s c1).state.back.area first b t (order2 s q) page low high)

    -- .. and the hint
    pub hint2 : Always c2 (λ s. hint_word (now s c2).state.back.area (now s c2).now.span_history b t ≡ first)
    hint2 s q =
        let h = (agrees2 s q).span_history (held_behind s (before2 s q)) in
        ap (λ (r : SpanHistory). unwrap_or (hint_or (r.hints b t) (first_of (spans_of (now s c2).state.back.area b t))) 0) h
        ∙ (ap (λ (f : ℕ → ℕ → Option ℕ). unwrap_or (hint_or (f b t) (first_of (spans_of (now s c2).state.back.area b t))) 0) (behind2 s (before2 s q)).hints
        ∙ ap (λ (o : Option ℕ). unwrap_or (hint_or o (first_of (spans_of (now s c2).state.back.area b t))) 0)
        (hint_behind (now s c1).state.back.area first b t (order2 s q) (drawn_block b draw) below (now s c1).now.span_history.hints))

    -- what is behind the entries is so, whether others did something before or not
    entries_agree : (s : Setting) (q : IsSettingOf c1.opening c1.roll s) → AgreesFor c0.number (configuration_after s (now s c1) ds) (configuration_after s (now s c0) ds)
    entries_agree s q =
        let a0 = at0 s (before s q) in
        let a1 = at1 s q in
        let es = making n (reserving_in n (area_of k0).reserved first) first (bucket_pages b) b t in
        let place = entry n (acts.Place (block_address b first (drawn_block b draw)) (block_size b / 16) layers.Lfh) in
        let i0 = may_install s (now s c0) n b t first draw (ap is_some a0.call ∙ a0.begun (ap (λ (x : Bool). x || not (c0.depth == 0)) inside)) (a0.entered ∙ inside) (held0 s (before s q)) (a0.demand whole)
        ((before s q).slot n known ∙ sym slot_is) (may0 s (before s q)) below c0.opening (before s q).limits k0 sound0 (back0 s (before s q)) place_is (hint_word (now s c0).state.back.area (now s c0).now.span_history b t) refl in
        let r = agrees_prepared s n (now s c1) (now s c0) es (look.agrees s q) (a1.demand looks.whole ∙ sym (a0.demand whole)) i0.stable i0.follows in
        subst (λ (z : Configuration × Configuration). AgreesFor n z.0 z.1) (λ j. (sym (after-append s (now s c1) es (place ∷ [])) j, sym (after-append s (now s c0) es (place ∷ [])) j))
        (place_agrees s n (configuration_after s (now s c1) es) (configuration_after s (now s c0) es) r.1 (block_address b first (drawn_block b draw)) (block_size b / 16))
      where
        place_is : back_place (area_of k0) k0.limits.segments (bucket_pages b) ≡ Some first
        place_is = place

    module _ (c3 c4 : Token) (tags : Runs c2 c3 []) (tagged : Stands c3 (record (stance c2) { owes = paid_tags first (bucket_pages b) c2.owes })) (store : Runs c3 c4 []) (stored : Stands c4 (record (stance c3) { owes = paid_off (hint_at b t) c3.owes })) where
      held3 : HasBack c3
      held3 = still_held c2 c3 tags held2

      pub back4 : IsBackOf c4 k1
      back4 = back_of_still c3 c4 store held3 k1 (back_of_still c2 c3 tags held2 k1 stands2)

      later : Does c2 c4 []
      later = does_then c2 c3 c4 [] [] tags.does store.does

      all_does : Does c0 c4 ds
      all_does = subst (Does c0 c4) (append-nil ds)
          (does_then c0 c2 c4 ds [] (does_then c0 c1 c2 [] ds look.does (subst (λ (x : ℕ). Does c1 c2 (made_with x (reserving_in c0.number (area_of k0).reserved first) first (bucket_pages b) b t (drawn_block b draw))) look.does.number made.does)) later)

      before4 : (s : Setting) → IsSettingOf c4.opening c4.roll s → IsSettingOf c2.opening c2.roll s
      before4 s q = setting_of_old c2 c4 [] later s q

      agrees4 : (s : Setting) → IsSettingOf c4.opening c4.roll s → AgreesFor c0.number (now s c4) (now s c2)
      agrees4 s q =
          let q3 = setting_of_old c3 c4 [] store.does s q in
          agrees_trans n (now s c4) (now s c3) (now s c2)
          (subst (λ (x : ℕ). AgreesFor x (now s c4) (now s c3)) (tags.does.number ∙ number2) (store.agrees s q))
          (subst (λ (x : ℕ). AgreesFor x (now s c3) (now s c2)) number2 (tags.agrees s q3))

      pub has_installed : (addr : ℕ) → addr ≡ block_address b first (drawn_block b draw) → HasInstalled c0 c4 k0 b draw addr
      has_installed addr e =
          let owes2 : c2.owes ≡ owed_by_install b t hint first (bucket_pages b) [] = made.stands.owes ∙ ap (owed_by_install b t hint first (bucket_pages b)) (looks.owes ∙ paid) in
          record {
            first = first;
            place = place;
            address = e;
            does = subst (λ (x : ℕ). Does c0 c4 (made_with n (reserving_in n (area_of k0).reserved first) first (bucket_pages b) b x (drawn_block b draw))) slot_is all_does;
            agrees = λ s q. subst (λ (x : ℕ). AgreesFor n (now s c4) (configuration_after s (now s c0) (made_with n (reserving_in n (area_of k0).reserved first) first (bucket_pages b) b x (drawn_block b draw)))) slot_is
                (agrees_trans n (now s c4) (now s c2) (configuration_after s (now s c0) ds) (agrees4 s q)
                (agrees_trans n (now s c2) (configuration_after s (now s c1) ds) (configuration_after s (now s c0) ds) (agrees2 s (before4 s q)) (entries_agree s (before2 s (before4 s q)))));
            block = λ s q. subst (λ (x : ℕ). HasBlock (now s c4) n b x) (sym e)
                (hand_agrees s n b (block_address b first (drawn_block b draw)) (now s c4) (now s c2) (agrees4 s q) (subst (λ (x : ℕ). HasBlock (now s c2) x b (block_address b first (drawn_block b draw))) look.does.number (made.block s (before4 s q))));
            stands = record {
              call = stored.call ∙ (tagged.call ∙ (made.stands.call ∙ looks.call));
              fresh = stored.fresh ∙ (tagged.fresh ∙ (made.stands.fresh ∙ looks.fresh));
              locked = stored.locked ∙ (tagged.locked ∙ (made.stands.locked ∙ looks.locked));
              inside = stored.inside ∙ (tagged.inside ∙ (made.stands.inside ∙ looks.inside));
              depth = stored.depth ∙ (tagged.depth ∙ (made.stands.depth ∙ looks.depth));
              out = stored.out ∙ (tagged.out ∙ (made.stands.out ∙ looks.out));
              owes = stored.owes ∙ (ap (paid_off (hint_at b t)) (tagged.owes ∙ ap (paid_tags first (bucket_pages b)) owes2) ∙ (all_paid b t hint first (bucket_pages b) high few ∙ sym paid));
              free = stored.free ∙ (tagged.free ∙ made.stands.free);
              searches = stored.searches ∙ (tagged.searches ∙ (made.stands.searches ∙ looks.searches));
              searched = stored.searched ∙ (tagged.searched ∙ (made.stands.searched ∙ looks.searched));
              drawn = stored.drawn ∙ (tagged.drawn ∙ (made.stands.drawn ∙ looks.drawn));
              whole = stored.whole;
              pending = stored.pending;
              prepared = stored.prepared;
            };
          }

---- What is known when the hint was looked at, in the words of the code

pub record Looked (c0 c1 : Token) (k0 k1 : Kept) (b t draw first hint pages reserved i : ℕ) (mark : Mark) : Type 0 where
  pub high : b ≤ 128
  pub few : t < 16
  pub slot_is : t ≡ own_slot c0
  pub known : c0.number < length c0.roll
  pub below : i < block_count b
  pub drawn : i ≡ drawn_block b draw
  pub pages_are : pages ≡ bucket_pages b
  pub reserved_is : reserved ≡ (area_of k0).reserved
  pub mark_is : mark ≡ lfh_mark b t
  pub at0 : IsStanding c0
  pub whole : c0.whole ≡ true
  pub inside : c0.inside ≡ true
  pub out : is_out whats.Back c0.out ≡ true
  pub paid : c0.owes ≡ []
  pub back0 : IsBackOf c0 k0
  pub may0 : Always c0 (λ s. MayMake s (now s c0) c0.number b draw)
  pub sound0 : IsSound k0
  pub sound1 : IsSound k1
  pub limits_are : k1.limits ≡ k0.limits
  pub area : area_of k1 ≡ with_span (with_segment (area_of k0) first) (marked_span first pages mark)
  pub place : Some first ≡ back_place (area_of k0) k0.limits.segments pages
  pub becomes : Becomes k0 k1 (λ p. part_with p (marked_run first pages mark))
  pub look : Runs c0 c1 []
  pub looks : Stands c1 (stance c0)
  pub at1 : IsStanding c1
  pub word : Always c1 (λ s. IsHintWord (now s c1) c0.number b t c0.owes hint)

module _ (c0 c1 : Token) (k0 k1 : Kept) (b t draw first hint pages reserved i : ℕ) (mark : Mark) (r : Looked c0 c1 k0 k1 b t draw first hint pages reserved i mark) where
  place_is : back_place (area_of k0) k0.limits.segments (bucket_pages b) ≡ Some first
  place_is = ap (back_place (area_of k0) k0.limits.segments) (sym r.pages_are) ∙ sym r.place

  becomes_is : Becomes k0 k1 (λ p. part_with p (marked_run first (bucket_pages b) (lfh_mark b t)))
  becomes_is = subst (λ (z : ℕ × Mark). Becomes k0 k1 (λ p. part_with p (marked_run first z.0 z.1))) (λ j. (r.pages_are j, r.mark_is j)) r.becomes

  below_is : drawn_block b draw < block_count b
  below_is = subst (λ (x : ℕ). x < block_count b) r.drawn r.below

  pub installs_by : Always c1 (λ s. MayInstall s (now s c1) c1.number (reserving_in c1.number reserved first) first pages b t i hint c1.owes)
  installs_by = installs1 c0 c1 k0 k1 b t draw first hint r.high r.few r.slot_is r.known below_is r.at0 r.whole r.inside r.out r.paid r.back0 r.may0 r.sound0 r.sound1 place_is becomes_is r.look r.looks r.at1 r.word pages reserved i r.pages_are r.reserved_is r.drawn

  -- it lies in the segments
  pub within_by : first + pages ≤ 256 * c0.opening.limits.segments
  within_by =
      let s = setting_of c0.opening c0.roll in
      let l = (r.back0 s (some_setting c0.opening c0.roll)).limits in
      let there : IsOneOf (marked_span first pages mark) (area_of k1).spans = subst (λ (a : Area). IsOneOf (marked_span first pages mark) a.spans) (sym r.area) (in_inserted (marked_span first pages mark) (area_of k0).spans) in
      subst (λ (x : Limits). first + pages ≤ 256 * x.segments) (r.limits_are ∙ l) (span_within k1 (marked_span first pages mark) r.sound1 there)

  module _ (c2 : Token) (made : HasMade c1 c2 (reserving_in c1.number reserved first) first pages b t i hint) where
    made_is : HasMade c1 c2 (reserving_in c0.number (area_of k0).reserved first) first (bucket_pages b) b t (drawn_block b draw) hint
    made_is = subst (λ (z : (ℕ × ℕ) × (ℕ × ℕ)). HasMade c1 c2 (reserving_in z.0.0 z.0.1 first) first z.1.0 b t z.1.1 hint) (λ j. ((r.look.does.number j, r.reserved_is j), (r.pages_are j, r.drawn j))) made

    pub tags_by : Always c2 (λ s. AreTagged (now s c2) first pages (1 + 256 * b + 65536 * t + 4294967296 * first))
    tags_by = tags2 c0 c1 k0 k1 b t draw first hint r.high r.few r.slot_is r.known below_is r.at0 r.whole r.inside r.out r.paid r.back0 r.may0 r.sound0 r.sound1 place_is becomes_is r.look r.looks r.at1 r.word c2 made_is pages r.pages_are

    pub hint_by : (c3 : Token) → Runs c2 c3 [] → Always c3 (λ s. hint_word (now s c3).state.back.area (now s c3).now.span_history b t ≡ first)
    hint_by c3 x = hint_still c2 c3 x
        (held2 c0 c1 k0 k1 b t draw first hint r.high r.few r.slot_is r.known below_is r.at0 r.whole r.inside r.out r.paid r.back0 r.may0 r.sound0 r.sound1 place_is becomes_is r.look r.looks r.at1 r.word c2 made_is) b t first
        (hint2 c0 c1 k0 k1 b t draw first hint r.high r.few r.slot_is r.known below_is r.at0 r.whole r.inside r.out r.paid r.back0 r.may0 r.sound0 r.sound1 place_is becomes_is r.look r.looks r.at1 r.word c2 made_is)

    module _ (c3 c4 : Token) (tags : Runs c2 c3 []) (tagged : Stands c3 (record (stance c2) { owes = paid_tags first pages c2.owes })) (store : Runs c3 c4 []) (stored : Stands c4 (record (stance c3) { owes = paid_off (hint_at b t) c3.owes })) where
      tagged_is : Stands c3 (record (stance c2) { owes = paid_tags first (bucket_pages b) c2.owes })
      tagged_is = subst (λ (p : ℕ). Stands c3 (record (stance c2) { owes = paid_tags first p c2.owes })) r.pages_are tagged

      pub back_by : IsBackOf c4 k1
      back_by = back4 c0 c1 k0 k1 b t draw first hint r.high r.few r.slot_is r.known below_is r.at0 r.whole r.inside r.out r.paid r.back0 r.may0 r.sound0 r.sound1 place_is becomes_is r.look r.looks r.at1 r.word c2 made_is c3 c4 tags tagged_is store stored

      pub installed_by : (addr : ℕ) → addr ≡ block_address b first i → HasInstalled c0 c4 k0 b draw addr
      installed_by addr e = has_installed c0 c1 k0 k1 b t draw first hint r.high r.few r.slot_is r.known below_is r.at0 r.whole r.inside r.out r.paid r.back0 r.may0 r.sound0 r.sound1 place_is becomes_is r.look r.looks r.at1 r.word c2 made_is c3 c4 tags tagged_is store stored addr (e ∙ ap (block_address b first) r.drawn)

-- a subsegment has a page
pub pages_some : (b : ℕ) → 0 < bucket_pages b
pages_some b = elim (cases_Bool (nat_le (block_size b) 256)) [
  | inl e ↦ rw e (omega arith)
  | inr e ↦ elim (cases_Bool (nat_le (block_size b) 1024)) [
    | inl f ↦ rw (e, f) (omega arith)
    | inr f ↦ elim (cases_Bool (nat_le (block_size b) 4096)) [ inl d ↦ rw (e, f, d) (omega arith) | inr d ↦ rw (e, f, d) (omega arith) ]
  ]
]
