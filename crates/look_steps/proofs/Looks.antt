-- The laws of words that are read with no entry.
use Rattle.std.proofs.Common.{◌≡◌, ℕ, ◌+◌, ◌*◌, ◌/◌, ◌%◌, ◌<◌, ◌≤◌, true, ◌&&◌, ◌==◌, List, [], ◌∷◌, get_or, refl, sym, ap, ◌∙◌, subst, arith, Option, Some, None, inl, inr, ⊎_elim, eqb, eq-eqb}
use Rattle.std.specs.Prelude.{unwrap_or, option_map}
use Rattle.std.specs.List.{list_any}
use Rattle.std.proofs.lemmas.Bool.{and_parts, eqb-true, or_left}
use mathlib.Core.Option.{none, some}
use lib.ListN.{get_elem?}
use Rattle.atomic_table.specs.Table.{State, Me, Act, step, keeps, stepped, carried_after, Valid}
use Rattle.heap_model.specs.declared.Entry.{Entry}
use Rattle.heap_model.specs.declared.Kind.TheVariants as kinds
use Rattle.heap_model.specs.declared.Limits.{Limits}
use Rattle.heap_model.specs.declared.What.TheVariants as whats
use Rattle.heap_model.specs.Bits.{bits_of}
use Rattle.heap_model.specs.State.{Setting, Span, Place, BackPart, GateAndLocks, is_kind, is_caller, holds}
use Rattle.heap_model.specs.CallState.{Configuration}
use Rattle.heap_model.specs.Search.{spans_of, is_span_of, begins_at, first_of, hint_or}
use Rattle.heap_model.specs.History.{configuration_after, configuration_of}
use Rattle.heap_soundness.proofs.Lists.{any_found}
use Rattle.heap_soundness.proofs.Enums.{kind_is}
use Rattle.heap_model.specs.declared.Opening.{Opening}
use Rattle.claim_rule.specs.declared.views.Owed.{Owed}
use Rattle.claim_rule.specs.declared.views.View.{View}
use Rattle.claim_rule.specs.Shown.{lfh_spans, bitmap_word, size_word, owed_or, tag_word, hint_word, is_head, are_made_by, MayWantTag, HintsAreHeads, MayBeOld, flag}
use Rattle.heap_model.specs.Layers.{LayerState}
use Rattle.claim_rule.specs.Entries.{IsSettingOf}
use Rattle.claim_rule.specs.Rule.{IsRuled, IsReady, ready_after}
use Rattle.claim_rule.specs.Plays.{number_of}
use Rattle.claim_rule.proofs.Holders.{back_holder_is}
use Rattle.claim_rule.proofs.Advance.{before, goes_of, role_of, setting_back, seen_behind}
use Rattle.step_parts.specs.Seen.{IsSeen}
use Rattle.claim_rule.specs.Places.{size_at, word_at_page, hint_at, tag_at, active_at}
use Rattle.look_steps.specs.Looks.{IsBitsWord, looked_bits, looked_size, IsHintWord, looked_hint, IsTagWord, looked_tag, asked_active}
use Rattle.look_steps.specs.Laws.{LookBitsLaw, LookSizeLaw, LookHintLaw, LookTagLaw, AskActiveLaw}
use Rattle.step_parts.proofs.FrontEnd.{IsFront, front_here}
use Rattle.step_parts.proofs.BlockWords.{in_lfh, into_lfh, span_found}
use Rattle.step_parts.proofs.Filters.{in_filter}
use Rattle.claim_rule.proofs.Ready.{holder_is_it, reads}
use Rattle.claim_rule.proofs.Wanting.{free_beside, maker_inside}
use Rattle.step_parts.proofs.Tags.{tagged}

---- One configuration

module _ (l : Limits) (m : Configuration) (f : IsFront l m.state.back.area m.state.lfh) where
  bits_word : (head word r : ℕ) → r ≡ bitmap_word m.state.lfh (lfh_spans m.state.back.area) head word → IsBitsWord m.state.lfh m.state.back.area head word r
  bits_word head word r e = record {
    shown = e;
    bits = λ x i at.
        let p = in_lfh m.state.back.area.spans x i in
        e ∙ (ap (λ (z : ℕ). bitmap_word m.state.lfh (lfh_spans m.state.back.area) z word) (sym at)
        ∙ ap (λ (o : Option Span). unwrap_or (option_map (λ y. bits_of m.state.lfh y word) o) 0) (span_found l m.state.back.area m.state.lfh f x p.0 p.1));
  }

  -- a head of the bucket and the slot is a subsegment
  head_seen : (b t head : ℕ) → is_head m.state.back.area b t head ≡ true → IsSeen m head b t
  head_seen b t head e =
      let w = any_found (begins_at head) (spans_of m.state.back.area b t) e in
      let p = in_filter (is_span_of b t) m.state.back.area.spans w.0 w.1 in
      let parts = and_parts (is_kind w.0.kind kinds.Lfh && w.0.bucket == b) (w.0.slot == t) p.1 in
      let kb = and_parts (is_kind w.0.kind kinds.Lfh) (w.0.bucket == b) parts.0 in
      let is = kind_is w.0.kind kinds.Lfh kb.0 in
      record { span = w.0; there = into_lfh m.state.back.area.spans w.0 p.0 is; begins = eqb-true w.0.first head w.2; bucket = eqb-true w.0.bucket b kb.1; slot = eqb-true w.0.slot t parts.1 }

  -- a hint that is not 0 names one
  hint_is_head : (b t word : ℕ) → HintsAreHeads m → word ≡ hint_word m.state.back.area m.now.span_history b t → (word ≡ 0 → ⊥) → is_head m.state.back.area b t word ≡ true
  hint_is_head b t word heads e nz = by (m.now.span_history.hints b t) refl e
    where
      lowest : (xs : List Span) → word ≡ unwrap_or (first_of xs) 0 → list_any (begins_at word) xs ≡ true
      lowest [] w = absurd (nz w)
      lowest (x ∷ xs) w = or_left (eqb x.first word) _ (eq-eqb x.first word (sym w))

      by : (w : Option ℕ) → m.now.span_history.hints b t ≡ w → word ≡ unwrap_or (hint_or w (first_of (spans_of m.state.back.area b t))) 0 → is_head m.state.back.area b t word ≡ true
      by (Some x) u v = heads b t word (u ∙ ap Some (sym v))
      by None u v = lowest (spans_of m.state.back.area b t) v

---- The laws

module _ {T : Type 0} (stands : T → LayerState) (o : Opening) (slots id n : ℕ) (me : Me (Option T) View) (es : List Entry) (h : IsReady n me.0 es) (st : State (Option T) View) (r : IsRuled stands o st) (at : get_elem? st.views id ≡ some me.0) where
  abbrev now_at : Setting → Configuration
  now_at s = configuration_after s (configuration_of s r.log) es

  abbrev Looking : (ℕ → Me (Option T) View → Type 0) → ℕ → Type 0
  Looking tells word = (w : View) × (a : Act (Option T)) × Valid st.homes me.1 a × IsRuled stands o (stepped st word (get_or st.words word 0) id me.1 w a) × tells (get_or st.words word 0) (w, carried_after me.1 a)

  -- what the words owe, as the holder of Back knows it
  owed_here : (s : Setting) → IsSettingOf o r.lead.roll s → holds (now_at s).state.gate n whats.Back ≡ true → me.0.owes ≡ r.owes
  owed_here s q e =
      let d = before stands o st r id n me.0 es at h s q in
      (role_of stands o st r id n me.0 at h.role).5 (back_holder_is s r.log ∙ (sym (ap (λ (z : GateAndLocks). z.locks.back) d.carried.gate) ∙ holder_is_it n (now_at s).state.gate.locks.back e))

  -- the number is that of the view
  by_number : (P : ℕ → Type 0) → P n → P (number_of me.0.role)
  by_number P p = subst P (sym (ap number_of h.role)) p

  -- an active word
  pub asks_active : (b : ℕ) → b < 128 → Looking (asked_active es b (step slots (active_at b) 0 0 none) me) (active_at b)
  asks_active b lt =
      let a = reads stands o slots id n me es h st r at (active_at b) in (
        a.0,
        keeps,
        tt,
        a.1,
        record {
          goes = goes_of me (a.0, me.1) n es [] h.role a.2;
          slot = refl;
          owes = a.3;
          tells = λ s q.
              let g = setting_back stands o st r id n me.0 es at h a.0 s a.2.opening a.5 q in
              (before stands o st r id n me.0 es at h s g).words.lfh.active b lt ∙ ap (λ (m : Configuration). flag (m.state.vs.active (b + 1))) (sym (seen_behind stands o st r id n me.0 es at h a.0 s [] a.4));
        },
      )

  -- a word of a bitmap
  pub looks_bits : (head word : ℕ) → word < 4 → head < 256 * o.limits.segments → Looking (looked_bits es head word (step slots (word_at_page o.limits head word) 0 0 none) me) (word_at_page o.limits head word)
  looks_bits head word few low =
      let a = reads stands o slots id n me es h st r at (word_at_page o.limits head word) in (
        a.0,
        keeps,
        tt,
        a.1,
        record {
          goes = goes_of me (a.0, me.1) n es [] h.role a.2;
          slot = refl;
          owes = a.3;
          tells = λ s q.
              let g = setting_back stands o st r id n me.0 es at h a.0 s a.2.opening a.5 q in
              subst (λ (m : Configuration). IsBitsWord m.state.lfh m.state.back.area head word (get_or st.words (word_at_page o.limits head word) 0)) (sym (seen_behind stands o st r id n me.0 es at h a.0 s [] a.4)) (here s g);
          owner = λ s q own.
              let g = setting_back stands o st r id n me.0 es at h a.0 s a.2.opening a.5 q in
              let same = (before stands o st r id n me.0 es at h s g).carried.agrees.owned (subst (λ (k : ℕ). is_caller k (ready_after s me.0 es).state.gate.owner ≡ true) (ap number_of h.role) own) in
              subst (λ (z : List Place × BackPart). IsBitsWord z.0 z.1.area head word (get_or st.words (word_at_page o.limits head word) 0)) (λ j. (same.lfh j, same.back j)) (here s g);
        },
      )
    where
      here : (s : Setting) → IsSettingOf o r.lead.roll s → IsBitsWord (now_at s).state.lfh (now_at s).state.back.area head word (get_or st.words (word_at_page o.limits head word) 0)
      here s g =
          let at_page : (4 * head + word) / 4 ≡ head = omega (arith, few) in
          let at_word : (4 * head + word) % 4 ≡ word = omega (arith, few) in
          bits_word o.limits (now_at s) (front_here stands o st r id n me.0 es at h s g) head word (get_or st.words (word_at_page o.limits head word) 0)
          ((before stands o st r id n me.0 es at h s g).words.lfh.bitmaps (4 * head + word) (omega (arith, few, low))
          ∙ ap (λ (z : ℕ × ℕ). bitmap_word (now_at s).state.lfh (lfh_spans (now_at s).state.back.area) z.0 z.1) (λ j. (at_page j, at_word j)))

  -- a size word
  pub looks_size : (addr : ℕ) → addr / 16 < 65536 * o.limits.segments → Looking (looked_size es addr (step slots (size_at o.limits addr) 0 0 none) me) (size_at o.limits addr)
  looks_size addr low =
      let a = reads stands o slots id n me es h st r at (size_at o.limits addr) in (
        a.0,
        keeps,
        tt,
        a.1,
        record {
          goes = goes_of me (a.0, me.1) n es [] h.role a.2;
          slot = refl;
          owes = a.3;
          tells = λ s q.
              let g = setting_back stands o st r id n me.0 es at h a.0 s a.2.opening a.5 q in
              (before stands o st r id n me.0 es at h s g).words.lfh.sizes (addr / 16) low ∙ ap (λ (m : Configuration). size_word m.state.lfh (addr / 16)) (sym (seen_behind stands o st r id n me.0 es at h a.0 s [] a.4));
          owner = λ s q own.
              let g = setting_back stands o st r id n me.0 es at h a.0 s a.2.opening a.5 q in
              let d = before stands o st r id n me.0 es at h s g in
              let same = d.carried.agrees.owned (subst (λ (k : ℕ). is_caller k (ready_after s me.0 es).state.gate.owner ≡ true) (ap number_of h.role) own) in
              d.words.lfh.sizes (addr / 16) low ∙ ap (λ (ps : List Place). size_word ps (addr / 16)) same.lfh;
        },
      )

  -- a hint
  pub looks_hint : (b t : ℕ) → 1 ≤ b → b ≤ 128 → t < 16 → Looking (looked_hint es b t (step slots (hint_at b t) 0 0 none) me) (hint_at b t)
  looks_hint b t lb hb ft =
      let a = reads stands o slots id n me es h st r at (hint_at b t) in (
        a.0,
        keeps,
        tt,
        a.1,
        record {
          goes = goes_of me (a.0, me.1) n es [] h.role a.2;
          slot = refl;
          owes = a.3;
          tells = λ s q. by_number (λ k. IsHintWord (configuration_of s a.0.seen) k b t me.0.owes (get_or st.words (hint_at b t) 0))
              (subst (λ (m : Configuration). IsHintWord m n b t me.0.owes (get_or st.words (hint_at b t) 0)) (sym (seen_behind stands o st r id n me.0 es at h a.0 s [] a.4)) (here s (setting_back stands o st r id n me.0 es at h a.0 s a.2.opening a.5 q)));
        },
      )
    where
      here : (s : Setting) → IsSettingOf o r.lead.roll s → IsHintWord (now_at s) n b t me.0.owes (get_or st.words (hint_at b t) 0)
      here s g =
          let d = before stands o st r id n me.0 es at h s g in
          let k = d.words.lfh.hints b t lb hb ft in
          let f = front_here stands o st r id n me.0 es at h s g in
          let exact : (now_at s).state.gate.locks.back ≡ None → get_or st.words (hint_at b t) 0 ≡ hint_word (now_at s).state.back.area (now_at s).now.span_history b t =
          λ e. k.0 ∙ ap (λ (z : List Owed). owed_or z (118 + 16 * b + t) (hint_word (now_at s).state.back.area (now_at s).now.span_history b t)) (d.words.lfh.paid e) in
          record {
            shown = k.1;
            free = exact;
            alone = λ own e. exact (free_beside (now_at s) n d.gate own e);
            mine = λ e. k.0 ∙ ap (λ (z : List Owed). owed_or z (118 + 16 * b + t) (hint_word (now_at s).state.back.area (now_at s).now.span_history b t)) (sym (owed_here s g e));
            seen = λ nz. head_seen o.limits (now_at s) f b t (get_or st.words (hint_at b t) 0) (⊎_elim
                (λ (z : get_or st.words (hint_at b t) 0 ≡ hint_word (now_at s).state.back.area (now_at s).now.span_history b t). hint_is_head o.limits (now_at s) f b t (get_or st.words (hint_at b t) 0) d.words.lfh.heads z nz)
                (λ (z : MayBeOld (now_at s) b t (get_or st.words (hint_at b t) 0)). ⊎_elim
                (λ (u : (get_or st.words (hint_at b t) 0 ≡ 0) × (are_made_by (now_at s).state.back.area (now_at s).now.span_history z.0 b t ≡ true)). absurd (nz u.0))
                (λ (u : is_head (now_at s).state.back.area b t (get_or st.words (hint_at b t) 0) ≡ true). u) z.2)
                k.1);
          }

  -- a tag
  pub looks_tag : (page : ℕ) → page < 256 * o.limits.segments → Looking (looked_tag es page (step slots (tag_at page) 0 0 none) me) (tag_at page)
  looks_tag page low =
      let a = reads stands o slots id n me es h st r at (tag_at page) in (
        a.0,
        keeps,
        tt,
        a.1,
        record {
          goes = goes_of me (a.0, me.1) n es [] h.role a.2;
          slot = refl;
          owes = a.3;
          tells = λ s q. by_number (λ k. IsTagWord (configuration_of s a.0.seen) k page me.0.owes (get_or st.words (tag_at page) 0))
              (subst (λ (m : Configuration). IsTagWord m n page me.0.owes (get_or st.words (tag_at page) 0)) (sym (seen_behind stands o st r id n me.0 es at h a.0 s [] a.4)) (here s (setting_back stands o st r id n me.0 es at h a.0 s a.2.opening a.5 q)));
        },
      )
    where
      here : (s : Setting) → IsSettingOf o r.lead.roll s → IsTagWord (now_at s) n page me.0.owes (get_or st.words (tag_at page) 0)
      here s g =
          let d = before stands o st r id n me.0 es at h s g in
          let k = d.words.lfh.tags page low in
          let f = front_here stands o st r id n me.0 es at h s g in
          let exact : (now_at s).state.gate.locks.back ≡ None → get_or st.words (tag_at page) 0 ≡ tag_word (lfh_spans (now_at s).state.back.area) page =
          λ e. k.0 ∙ ap (λ (z : List Owed). owed_or z (2182 + page) (tag_word (lfh_spans (now_at s).state.back.area) page)) (d.words.lfh.paid e) in
          record {
            shown = ⊎_elim (λ (z : get_or st.words (tag_at page) 0 ≡ tag_word (lfh_spans (now_at s).state.back.area) page). inl z) (λ (z : (get_or st.words (tag_at page) 0 ≡ 0) × MayWantTag (now_at s) page). inr z.0) k.1;
            free = exact;
            alone = λ own e. exact (free_beside (now_at s) n d.gate own e);
            wanting = λ e inside none_held. maker_inside (now_at s) n r.owes page (get_or st.words (tag_at page) 0) d.gate exact k e inside none_held;
            mine = λ e. k.0 ∙ ap (λ (z : List Owed). owed_or z (2182 + page) (tag_word (lfh_spans (now_at s).state.back.area) page)) (sym (owed_here s g e));
            tagged = λ nz. ⊎_elim
                (λ (z : get_or st.words (tag_at page) 0 ≡ tag_word (lfh_spans (now_at s).state.back.area) page). tagged o.limits (now_at s) f r.numbers.limits.slots page (get_or st.words (tag_at page) 0) z nz)
                (λ (z : (get_or st.words (tag_at page) 0 ≡ 0) × MayWantTag (now_at s) page). absurd (nz z.0)) k.1;
          }

pub look_bits_law : {T : Type 0} (stands : T → LayerState) → LookBitsLaw stands
look_bits_law stands o slots id n head word me es h few low st r deep at small = looks_bits stands o slots id n me es h st r at head word few low

pub look_size_law : {T : Type 0} (stands : T → LayerState) → LookSizeLaw stands
look_size_law stands o slots id n addr me es h low st r deep at small = looks_size stands o slots id n me es h st r at addr low

pub look_hint_law : {T : Type 0} (stands : T → LayerState) → LookHintLaw stands
look_hint_law stands o slots id n b t me es h lb hb ft st r deep at small = looks_hint stands o slots id n me es h st r at b t lb hb ft

pub look_tag_law : {T : Type 0} (stands : T → LayerState) → LookTagLaw stands
look_tag_law stands o slots id n page me es h low st r deep at small = looks_tag stands o slots id n me es h st r at page low

pub ask_active_law : {T : Type 0} (stands : T → LayerState) → AskActiveLaw stands
ask_active_law stands o slots id n b me es h lt st r deep at small = asks_active stands o slots id n me es h st r at b lt
