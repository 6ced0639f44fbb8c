-- The laws of a block in hand and of size words.
use Rattle.std.proofs.Common.{◌%◌, ◌≡◌, ℕ, ◌+◌, ◌-◌, ◌*◌, ◌/◌, true, ◌&&◌, List, [], ◌∷◌, ◌++◌, get_or, set, bit_and, w64, refl, sym, ap, ◌∙◌, subst, arith, Option, Some, inl, inr, eq-eqb}
use Rattle.std.specs.Prelude.{nat_le, nat_lt, is_some}
use Rattle.std.specs.Int.{bit_not}
use Rattle.std.proofs.lemmas.Bool.{cases_eq, and_parts, and_from, leb-true, ltb-true}
use mathlib.Core.Option.{none, some}
use lib.ListN.{get_elem?}
use Rattle.atomic_table.specs.Table.{State, Me, Act, step, keeps, stepped, carried_after, Valid}
use Rattle.heap_model.specs.declared.Act.{Act as Deed}
use Rattle.heap_model.specs.declared.Act.TheVariants as acts
use Rattle.heap_model.specs.declared.Entry.{Entry}
use Rattle.heap_model.specs.declared.Layer.TheVariants as layers
use Rattle.heap_model.specs.Buckets.{block_address, block_size}
use Rattle.heap_model.specs.State.{State as HeapState, Setting, Place, Live, InHand, is_live_of, is_hand_at, is_live_at, is_entered, hand_at, place_at, all_places, change_found, remove_found}
use Rattle.heap_model.specs.Stay.{for_some}
use Rattle.heap_model.specs.CallState.{Configuration, CallerView, CallState, caller_view}
use Rattle.heap_model.specs.Legal.{may, after, with_status, may_touch}
use Rattle.heap_model.specs.History.{configuration_after, configuration_of}
use Rattle.heap_model.specs.Agreement.{HasHomes}
use Rattle.heap_model.proofs.Stable.{caller_view_same, same_hand_at}
use Rattle.heap_soundness.specs.Sound.{IsOneOf}
use Rattle.heap_soundness.proofs.Lists.{all_at}
use Rattle.heap_soundness.proofs.Addresses.{addresses_sound}
use Rattle.heap_model.specs.declared.Opening.{Opening}
use Rattle.claim_rule.specs.declared.views.View.{View}
use Rattle.claim_rule.specs.Places.{bitmap_at, bit_of_block, size_at}
use Rattle.claim_rule.specs.Shown.{AreAllShown}
use Rattle.heap_model.specs.Layers.{LayerState}
use Rattle.claim_rule.specs.Entries.{IsSettingOf, entry, setting_of}
use Rattle.claim_rule.specs.Rule.{IsRuled, IsReady, ready_after}
use Rattle.claim_rule.proofs.Slots.{SameHomes, homes_kept, guarded, homes_still}
use Rattle.claim_rule.proofs.Words.{all_same, all_kept}
use Rattle.claim_rule.specs.Plays.{number_of}
use Rattle.claim_rule.proofs.Advance.{before, acts, adds_of, setting_in, setting_back, seen_behind, some_setting}
use Rattle.claim_rule.proofs.Gate.{one_by, one_follows}
use Rattle.step_parts.specs.InHand.{IsInHand, HasBlock, IsBlockNumber}
use Rattle.block_steps.specs.Blocks.{MayClear, MayPublish, MayAsk, HasNone, cleared, published, taken_block, sized}
use Rattle.block_steps.specs.Laws.{ClearLaw, PublishLaw, TakeBlockLaw, SizeLaw}
use Rattle.step_parts.proofs.FrontEnd.{front_here, keeps_here, usual}
use Rattle.step_parts.proofs.BlocksInHand.{found_lfh, taken_held}
use Rattle.step_parts.proofs.BlockWords.{in_lfh}
use Rattle.step_parts.proofs.Starts.{begins}
use Rattle.step_parts.proofs.ChangedPlaces.{with_lfh, lfh_address}
use Rattle.step_parts.proofs.Stays.{still_there, seen_still}
use Rattle.claim_rule.proofs.Ready.{stable_here}
use Rattle.block_steps.proofs.InHandWords.{no_unspan, drops, gives_size, takes_size}
use Rattle.block_steps.proofs.SizeWords.{not_live, live_there, block_there}
use Rattle.step_parts.specs.Seen.{IsTagged, first_of_tag, bucket_of_tag, slot_of_tag}
use Rattle.step_parts.proofs.Tags.{tag_parts}

-- a caller may ask the size word of an address by the tag of its page
pub ask_by_tag : (m : Configuration) (n addr word : ℕ) → is_some (m.now.calls n).call ≡ true → is_entered m.state.gate n ≡ true → IsTagged m (addr / 4096) word → addr % 16 ≡ 0 → MayAsk m n (first_of_tag word) (bucket_of_tag word) (slot_of_tag word) addr
ask_by_tag m n addr word begun inside h aligned =
    let p = tag_parts m (addr / 4096) word h in
    record { begun = begun; inside = inside; seen = record { span = h.span; there = h.there; begins = p.0; bucket = p.1; slot = p.2 }; has_page = h.has_page; aligned = aligned }

in_left : {A : Type 0} (x : A) (xs ys : List A) → IsOneOf x xs → IsOneOf x (xs ++ ys)
in_left x [] ys i = absurd i
in_left x (z ∷ zs) ys (inl e) = inl e
in_left x (z ∷ zs) ys (inr i) = inr (in_left x zs ys i)

in_all : (st : HeapState) (p : Place) → IsOneOf p st.lfh → IsOneOf p (all_places st)
in_all st p i = in_left p (st.lfh ++ st.vs.places ++ st.back.places) st.large (in_left p (st.lfh ++ st.vs.places) st.back.places (in_left p st.lfh st.vs.places i))

same_homes_lfh : (a b : HeapState) (qs : List Place) → a ≡ with_lfh b qs → SameHomes a b
same_homes_lfh a b qs e = homes_still a b (ap (λ (x : HeapState). x.gate.locks) e) (ap guarded e)

live_of : (p : Place) (size : ℕ) → p.status ≡ Live size → is_live_of size p.status ≡ true
live_of p size e = ap (is_live_of size) e ∙ eq-eqb size size refl

touch_lfh : (k : CallerView) (p : Place) → p.layer ≡ layers.Lfh → may_touch k p.layer ≡ true
touch_lfh k p e = ap (may_touch k) e

module _ {T : Type 0} (stands : T → LayerState) (o : Opening) (id n : ℕ) (me : Me (Option T) View) (es : List Entry) (h : IsReady n me.0 es) (st : State (Option T) View) (r : IsRuled stands o st) (at : get_elem? st.views id ≡ some me.0) where
  abbrev there : Setting → Configuration
  there s = configuration_after s (configuration_of s r.log) es

  abbrev Doing : (ℕ → Me (Option T) View → Type 0) → ℕ → ℕ → ℕ → Type 0
  Doing then word y said = (w : View) × (a : Act (Option T)) × Valid st.homes me.1 a × IsRuled stands o (stepped st word y id me.1 w a) × then said (w, carried_after me.1 a)

  in_hand_here : (s : Setting) (q : IsSettingOf o r.lead.roll s) (addr : ℕ) → IsInHand (ready_after s me.0 es) n addr → IsInHand (there s) n addr
  in_hand_here s q addr k =
      let a = (before stands o st r id n me.0 es at h s q).carried.agrees in
      record { begun = ap (λ (c : CallState). is_some c.call) a.call ∙ k.begun; place = k.place; hand = same_hand_at s n (there s) (ready_after s me.0 es) a addr ∙ k.hand; layer = k.layer }

  homes_here : (s : Setting) (q : IsSettingOf o r.lead.roll s) → HasHomes (there s).state
  homes_here s q = (keeps_here stands o st r id n me.0 es at h s q).homes

  -- the bit is cleared
  pub clears : (slots head b t i : ℕ) → ((s : Setting) → IsSettingOf me.0.opening me.0.roll s → MayClear s (ready_after s me.0 es) n head b t i)
      → Doing (λ z m'. cleared es (block_address b head i) (step slots (bitmap_at o.limits head i) (bit_not w64 (bit_of_block i)) 0 none) me z m') (bitmap_at o.limits head i) (bit_and (get_or st.words (bitmap_at o.limits head i) 0) (bit_not w64 (bit_of_block i))) (get_or st.words (bitmap_at o.limits head i) 0)
  clears slots head b t i ok =
      let addr : ℕ = block_address b head i in
      let deed : Deed = acts.Drop (block_address b head i) in
      let a = acts stands o st r id n me.0 es at h me.1 (bitmap_at o.limits head i) (bit_and (get_or st.words (bitmap_at o.limits head i) 0) (bit_not w64 (bit_of_block i))) keeps (entry n deed ∷ []) (one_by n deed) (λ k. refl)
      (λ s q.
      let d = before stands o st r id n me.0 es at h s q in
      let k = ok s (setting_in stands o st r id n me.0 es at h s q) in
      let hand = in_hand_here s q addr k.hand in
      let seen = seen_still stands o st r id n me.0 es at h s q k.inside head b t k.seen in (
        one_follows s (there s) n deed d.whole hand.begun (stable_here s n (there s) (ready_after s me.0 es) deed d.carried.agrees d.whole (h.whole s (setting_in stands o st r id n me.0 es at h s q)) refl k.hand.begun k.ok),
        no_unspan n (hand_at (there s).state n addr) hand.place hand.hand hand.layer,
        drops o.limits r.lead.counted s (there s) n r.owes st.words (front_here stands o st r id n me.0 es at h s q) (homes_here s q) d.words head b t i seen k.below hand,
        homes_kept stands o (after s (there s) (entry n deed)).state (there s).state st.homes
            (same_homes_lfh (after s (there s) (entry n deed)).state (there s).state _ (found_lfh (there s).state (hand_at (there s).state n addr) hand.place (remove_found (is_hand_at n addr)) hand.hand hand.layer)) d.home,
      )) in
      (a.0, keeps, tt, a.1, record { adds = adds_of me (a.0, me.1) n es deed h.role a.2; slot = refl; owes = a.3 })

  -- the size is stored
  pub publishes : (slots addr size : ℕ) → ((s : Setting) → IsSettingOf me.0.opening me.0.roll s → MayPublish s (ready_after s me.0 es) n addr size)
      → Doing (λ z m'. published es addr size (step slots (size_at o.limits addr) (size + 1) 0 none) me (size + 1) m') (size_at o.limits addr) (size + 1) (size + 1)
  publishes slots addr size ok =
      let deed : Deed = acts.Give addr size in
      let a = acts stands o st r id n me.0 es at h me.1 (size_at o.limits addr) (size + 1) keeps (entry n deed ∷ []) (one_by n deed) (λ k. refl)
      (λ s q.
      let d = before stands o st r id n me.0 es at h s q in
      let k = ok s (setting_in stands o st r id n me.0 es at h s q) in
      let hand = in_hand_here s q addr k.hand in (
        one_follows s (there s) n deed d.whole hand.begun (stable_here s n (there s) (ready_after s me.0 es) deed d.carried.agrees d.whole (h.whole s (setting_in stands o st r id n me.0 es at h s q)) refl k.hand.begun k.ok),
        refl,
        gives_size o.limits r.lead.counted s (there s) n r.owes st.words (front_here stands o st r id n me.0 es at h s q) (homes_here s q) d.words addr size hand,
        homes_kept stands o (after s (there s) (entry n deed)).state (there s).state st.homes
            (same_homes_lfh (after s (there s) (entry n deed)).state (there s).state _ (found_lfh (there s).state (hand_at (there s).state n addr) hand.place (change_found (is_hand_at n addr) (with_status (Live size))) hand.hand hand.layer)) d.home,
      )) in
      (a.0, keeps, tt, a.1, record { adds = adds_of me (a.0, me.1) n es deed h.role a.2; slot = refl; owes = a.3 })

  ---- A block that may be live

  -- what is there behind the carried entries
  record IsAsked (s : Setting) (head b addr : ℕ) : Type 0 where
    pub begun : is_some ((there s).now.calls n).call ≡ true
    pub inside : is_entered (there s).state.gate n ≡ true
    pub none_there : get_or st.words (size_at o.limits addr) 0 ≡ 0 → may s (there s) n (acts.NotLive addr) ≡ true
    pub live_here : (get_or st.words (size_at o.limits addr) 0 ≡ 0 → ⊥)
        → (p : Place) × IsOneOf p (there s).state.lfh × (p.start ≡ addr) × (p.status ≡ Live (get_or st.words (size_at o.limits addr) 0 - 1)) × IsBlockNumber head b addr × (16 * p.granules ≡ block_size b)

  asked : (head b t addr : ℕ) → ((s : Setting) → IsSettingOf me.0.opening me.0.roll s → MayAsk (ready_after s me.0 es) n head b t addr) → (s : Setting) → IsSettingOf o r.lead.roll s → IsAsked s head b addr
  asked head b t addr ok s q =
      let d = before stands o st r id n me.0 es at h s q in
      let v = caller_view_same n (there s) (ready_after s me.0 es) d.carried.agrees in
      let k = ok s (setting_in stands o st r id n me.0 es at h s q) in
      let p = in_lfh (there s).state.back.area.spans k.seen.span (still_there stands o st r id n me.0 es at h s q k.seen.span k.inside k.seen.there) in
      let keep = keeps_here stands o st r id n me.0 es at h s q in
      let f = front_here stands o st r id n me.0 es at h s q in
      let us = usual stands o st r id n me.0 es at h s q in
      let inside : is_entered (there s).state.gate n ≡ true = ap (λ (x : CallerView). x.entered) v ∙ k.inside in
      let page = and_parts (nat_le k.seen.span.first (addr / 4096)) (nat_lt (addr / 4096) (k.seen.span.first + k.seen.span.pages)) k.has_page in
      let low = leb-true k.seen.span.first (addr / 4096) page.0 in
      let high = ltb-true (addr / 4096) (k.seen.span.first + k.seen.span.pages) page.1 in
      let last = (f.spans k.seen.span p.0 p.1).there in
      let word = d.words.lfh.sizes (addr / 16) (omega arith) in
      record {
        begun = ap (λ (c : CallState). is_some c.call) d.carried.agrees.call ∙ k.begun;
        inside = inside;
        none_there = λ z. not_live us (there s) keep f k.seen.span p.0 p.1 addr low high k.aligned s n inside (sym word ∙ z);
        live_here = λ nz.
            let w = live_there us (there s) keep f k.seen.span p.0 p.1 addr low high k.aligned (get_or st.words (size_at o.limits addr) 0) (sym word) nz in
            let u = block_there us (there s) keep f k.seen.span p.0 p.1 addr low high k.aligned w.place w.among w.starts in (
              w.place,
              w.among,
              w.starts,
              w.live,
              subst (λ (z : ℕ × ℕ). IsBlockNumber z.0 z.1 addr) (λ j. (k.seen.begins j, k.seen.bucket j)) u.0,
              u.1 ∙ ap block_size k.seen.bucket,
            );
      }

  found_at_addr : (s : Setting) (q : IsSettingOf o r.lead.roll s) (a : ℕ) (p : Place) → IsOneOf p (there s).state.lfh → p.start ≡ a → (place_at (there s).state n a ≡ Some p) × (p.layer ≡ layers.Lfh)
  found_at_addr s q a p i e =
      let keep = keeps_here stands o st r id n me.0 es at h s q in
      let l = all_at Rattle.step_parts.proofs.Starts.OfLfh p (there s).state.lfh keep.homes.lfh i in
      let us = usual stands o st r id n me.0 es at h s q in
      (ap (place_at (there s).state n) (sym (lfh_address p l ∙ e)) ∙ (addresses_sound us (there s) keep).place p (in_all (there s).state p i) n, l)

  module _ (slots head b t addr : ℕ) (ok : (s : Setting) → IsSettingOf me.0.opening me.0.roll s → MayAsk (ready_after s me.0 es) n head b t addr) where
    abbrev found : ℕ
    found = get_or st.words (size_at o.limits addr) 0

    none_word : (y : ℕ) → y ≡ found → found ≡ 0 → (w : View) × IsRuled stands o (stepped st (size_at o.limits addr) y id me.1 w keeps) × HasNone es addr (step slots (size_at o.limits addr) 0 0 none) me found (w, me.1)
    none_word y same z =
        let deed : Deed = acts.NotLive addr in
        let a = acts stands o st r id n me.0 es at h me.1 (size_at o.limits addr) y keeps (entry n deed ∷ []) (one_by n deed) (λ k. refl)
        (λ s q.
        let d = before stands o st r id n me.0 es at h s q in
        let k = asked head b t addr ok s q in (
          one_follows s (there s) n deed d.whole k.begun (k.none_there z),
          refl,
          subst (λ (x : ℕ). AreAllShown o.limits r.lead.counted (after s (there s) (entry n deed)) r.owes (set st.words (size_at o.limits addr) x)) (sym same)
              (all_kept o.limits r.lead.counted (after s (there s) (entry n deed)) r.owes st.words (size_at o.limits addr)
              (all_same o.limits r.lead.counted (after s (there s) (entry n deed)) (there s) r.owes st.words (record { lfh = refl; words = refl; active = refl; spans = refl; hints = λ k x y. refl; makers = λ x k. refl }) refl d.words)),
          d.home,
        )) in
        (a.0, a.1, record { adds = adds_of me (a.0, me.1) n es deed h.role a.2; slot = refl; owes = a.3 })

    -- behind the swap the block is in hand
    held_behind : (found ≡ 0 → ⊥) → (s : Setting) → IsSettingOf o r.lead.roll s → HasBlock (after s (there s) (entry n (acts.Take addr (found - 1)))) n b addr
    held_behind nz s q =
        let f = front_here stands o st r id n me.0 es at h s q in
        let k = asked head b t addr ok s q in
        let p = k.live_here nz in
        let e = found_at_addr s q addr p.0 p.1 p.2 in
        taken_held s (there s) n b addr (found - 1) p.0 p.1 p.2 p.3 f.layers f.apart e.0 e.1 p.5 k.begun

    -- the size word is swapped for 0
    pub takes_block : Doing (taken_block es head b addr (step slots (size_at o.limits addr) 0 0 none) me) (size_at o.limits addr) 0 found
    takes_block = elim (cases_eq found 0) [
      | inl z ↦ let w = none_word 0 (sym z) z in (w.0, keeps, tt, w.1, record { live = λ k. absurd (k z); none = λ _. w.2 })
      | inr nz ↦
          let deed : Deed = acts.Take addr (found - 1) in
          let a = acts stands o st r id n me.0 es at h me.1 (size_at o.limits addr) 0 keeps (entry n deed ∷ []) (one_by n deed) (λ k. refl)
          (λ s q.
          let d = before stands o st r id n me.0 es at h s q in
          let k = asked head b t addr ok s q in
          let p = k.live_here nz in
          let e = found_at_addr s q addr p.0 p.1 p.2 in (
            one_follows s (there s) n deed d.whole k.begun
                (and_from (is_entered (there s).state.gate n) _ k.inside (ap (λ (z : Option Place). for_some z (λ y. may_touch (caller_view (there s) n) y.layer && is_live_of (found - 1) y.status)) e.0
                ∙ and_from (may_touch (caller_view (there s) n) p.0.layer) (is_live_of (found - 1) p.0.status) (touch_lfh (caller_view (there s) n) p.0 e.1) (live_of p.0 (found - 1) p.3))),
            refl,
            subst (λ (z : ℕ). place_at (there s).state n z ≡ Some p.0 → AreAllShown o.limits r.lead.counted (after s (there s) (entry n (acts.Take z (found - 1)))) r.owes (set st.words (size_at o.limits z) 0)) p.2
                (λ g. takes_size o.limits r.lead.counted s (there s) n r.owes st.words (front_here stands o st r id n me.0 es at h s q) (homes_here s q) d.words p.0 (found - 1) p.1 p.3 g) e.0,
            homes_kept stands o (after s (there s) (entry n deed)).state (there s).state st.homes
                (same_homes_lfh (after s (there s) (entry n deed)).state (there s).state _ (found_lfh (there s).state (place_at (there s).state n addr) p.0 (change_found (is_live_at addr) (with_status (InHand n))) e.0 e.1)) d.home,
          )) in (
            a.0,
            keeps,
            tt,
            a.1,
            record {
              live = λ _. record {
                adds = adds_of me (a.0, me.1) n es deed h.role a.2;
                slot = refl;
                owes = a.3;
                number = ((asked head b t addr ok (setting_of o r.lead.roll) (some_setting o r.lead.roll)).live_here nz).4;
                tells = λ s q. subst (λ (k : ℕ). HasBlock (configuration_of s a.0.seen) k b addr) (sym (ap number_of h.role))
                    (subst (λ (m : Configuration). HasBlock m n b addr) (sym (seen_behind stands o st r id n me.0 es at h a.0 s (entry n deed ∷ []) a.4)) (held_behind nz s (setting_back stands o st r id n me.0 es at h a.0 s a.2.opening a.5 q)));
              };
              none = λ k. absurd (nz k);
            },
          )
    ]

    -- the size word is read
    pub sizes_block : Doing (sized es addr (step slots (size_at o.limits addr) 0 0 none) me) (size_at o.limits addr) found found
    sizes_block = elim (cases_eq found 0) [
      | inl z ↦ let w = none_word found refl z in (w.0, keeps, tt, w.1, record { live = λ k. absurd (k z); none = λ _. w.2 })
      | inr nz ↦
          let deed : Deed = acts.Sized addr (found - 1) in
          let a = acts stands o st r id n me.0 es at h me.1 (size_at o.limits addr) found keeps (entry n deed ∷ []) (one_by n deed) (λ k. refl)
          (λ s q.
          let d = before stands o st r id n me.0 es at h s q in
          let k = asked head b t addr ok s q in
          let p = k.live_here nz in
          let e = found_at_addr s q addr p.0 p.1 p.2 in (
            one_follows s (there s) n deed d.whole k.begun
                (and_from (is_entered (there s).state.gate n) _ k.inside (ap (λ (z : Option Place). for_some z (λ y. is_live_of (found - 1) y.status)) e.0 ∙ live_of p.0 (found - 1) p.3)),
            refl,
            all_kept o.limits r.lead.counted (after s (there s) (entry n deed)) r.owes st.words (size_at o.limits addr)
                (all_same o.limits r.lead.counted (after s (there s) (entry n deed)) (there s) r.owes st.words (record { lfh = refl; words = refl; active = refl; spans = refl; hints = λ k x y. refl; makers = λ x k. refl }) refl d.words),
            d.home,
          )) in
          (a.0, keeps, tt, a.1, record { live = λ _. record { adds = adds_of me (a.0, me.1) n es deed h.role a.2; slot = refl; owes = a.3 }; none = λ k. absurd (nz k) })
    ]

pub clear_law : {T : Type 0} (stands : T → LayerState) → ClearLaw stands
clear_law stands o slots id n head b t i me es h ok st r deep at small = clears stands o id n me es h st r at slots head b t i ok

pub publish_law : {T : Type 0} (stands : T → LayerState) → PublishLaw stands
publish_law stands o slots id n addr size me es h ok st r deep at small = publishes stands o id n me es h st r at slots addr size ok

pub take_block_law : {T : Type 0} (stands : T → LayerState) → TakeBlockLaw stands
take_block_law stands o slots id n head b t addr me es h ok st r deep at small = takes_block stands o id n me es h st r at slots head b t addr ok

pub size_law : {T : Type 0} (stands : T → LayerState) → SizeLaw stands
size_law stands o slots id n head b t addr me es h ok st r deep at small = sizes_block stands o id n me es h st r at slots head b t addr ok
