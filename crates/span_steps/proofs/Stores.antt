-- The laws of active words, tags and hints that are stored.
use Rattle.std.proofs.Common.{◌≡◌, ◌⊎◌, ℕ, ◌+◌, ◌*◌, ◌<◌, ◌≤◌, true, false, List, [], ◌∷◌, Option, Some, None, refl, sym, ap, ◌∙◌, subst, arith, inl, inr, ⊎_elim, eqb, eq-eqb, ne_eqb}
use Rattle.std.specs.Prelude.{is_some}
use Rattle.std.proofs.lemmas.Bool.{cases_Bool, cases_eq, eqb-true}
use mathlib.Core.Option.{none, some}
use lib.ListN.{get_elem?}
use Rattle.atomic_table.specs.Table.{State, Me, Act, step, keeps, stepped, carried_after, Valid}
use Rattle.heap_model.specs.declared.Act.{Act as Deed}
use Rattle.heap_model.specs.declared.Act.TheVariants as acts
use Rattle.heap_model.specs.declared.Entry.{Entry}
use Rattle.heap_model.specs.declared.Limits.{Limits}
use Rattle.heap_model.specs.declared.What.TheVariants as whats
use Rattle.heap_model.specs.State.{Setting, BackPart, GateAndLocks, holds, is_caller}
use Rattle.heap_model.specs.CallState.{Configuration, CallState, SpanHistory}
use Rattle.heap_model.specs.Legal.{after}
use Rattle.heap_model.specs.History.{configuration_after, configuration_of}
use Rattle.heap_model.specs.declared.Opening.{Opening}
use Rattle.claim_rule.specs.declared.views.Owed.{Owed}
use Rattle.claim_rule.specs.declared.views.View.{View}
use Rattle.claim_rule.specs.Shown.{lfh_spans, owed_or, tag_word, hint_word, MayBeOld, MayWantTag, back_holder}
use Rattle.heap_model.specs.Layers.{LayerState}
use Rattle.claim_rule.specs.Entries.{IsSettingOf, setting_of, entry}
use Rattle.claim_rule.specs.Rule.{IsRuled, IsReady, ready_after}
use Rattle.claim_rule.proofs.Holders.{back_holder_is}
use Rattle.claim_rule.proofs.Slots.{homes_kept, SameGuarded, homes_but}
use Rattle.claim_rule.proofs.Advance.{before, acts, leaves, adds_of, goes_of, setting_in, role_of, some_setting, holder_behind}
use Rattle.claim_rule.proofs.Gate.{one_by, one_follows}
use Rattle.claim_rule.specs.Places.{hint_at, active_at, tag_at}
use Rattle.span_steps.specs.Stores.{MayActivate, activated, paid_off, owed_zero, put_word}
use Rattle.span_steps.specs.Laws.{ActivateLaw, PutTagLaw, PutHintLaw, ClearTagLaw}
use Rattle.claim_rule.proofs.Behind.{stays, IsBehind, IsOwedSoundly, owed_soundly, shown_behind, still_owed, locks_stay}
use Rattle.claim_rule.proofs.Ready.{stable_here, holder_is_it}
use Rattle.heap_model.specs.declared.What.{What}
use Rattle.claim_rule.specs.Home.{HasSlot}

---- Owed words

paid_else : (i j x : ℕ) (owes : List Owed) → (j ≡ i → ⊥) → owed_or (paid_off i owes) j x ≡ owed_or owes j x
paid_else i j x [] ne = refl
paid_else i j x (w ∷ ws) ne = elim (cases_Bool (eqb w.word i)) [
  | inl e ↦
      let not_j : eqb w.word j ≡ false = ne_eqb w.word j (λ f. ne (sym f ∙ eqb-true w.word i e)) in
      rw (e, not_j) (paid_else i j x ws ne)
  | inr e ↦ elim (cases_Bool (eqb w.word j)) [ inl f ↦ rw (e, f) refl | inr f ↦ rw (e, f) (paid_else i j x ws ne) ]
]

paid_here : (i x : ℕ) (owes : List Owed) → owed_or (paid_off i owes) i x ≡ x
paid_here i x [] = refl
paid_here i x (w ∷ ws) = elim (cases_Bool (eqb w.word i)) [ inl e ↦ rw e (paid_here i x ws) | inr e ↦ rw (e, e) (paid_here i x ws) ]

zero_else : (i j x : ℕ) (owes : List Owed) → (j ≡ i → ⊥) → owed_or (owed_zero i owes) j x ≡ owed_or owes j x
zero_else i j x owes ne = rw (ne_eqb i j (λ e. ne (sym e))) refl

zero_here : (i x : ℕ) (owes : List Owed) → owed_or (owed_zero i owes) i x ≡ 0
zero_here i x owes = rw (eq-eqb i i refl) refl

-- the words where one of the tags or the hints is stored, and the heap is as it was
module _ (l : Limits) (m : Configuration) (owes' owes : List Owed) (i v : ℕ) (other : (j x : ℕ) → (j ≡ i → ⊥) → owed_or owes' j x ≡ owed_or owes j x)
    (tag_is : (page : ℕ) → page < 256 * l.segments → 2182 + page ≡ i → (v ≡ owed_or owes' (2182 + page) (tag_word (lfh_spans m.state.back.area) page)) × ((v ≡ tag_word (lfh_spans m.state.back.area) page) ⊎ ((v ≡ 0) × MayWantTag m page)))
    (hint_is : (b t : ℕ) → 1 ≤ b → b ≤ 128 → t < 16 → 118 + 16 * b + t ≡ i → (v ≡ owed_or owes' (118 + 16 * b + t) (hint_word m.state.back.area m.now.span_history b t)) × (v ≡ hint_word m.state.back.area m.now.span_history b t)) where
  owed_behind : 134 ≤ i → i < 2182 + 256 * l.segments → IsBehind l m m owes' owes i v
  owed_behind low high = record {
    gate = stays i v 1 _ _ (λ k. omega arith) refl;
    locks = locks_stay i v _ _ (inr (omega arith)) refl;
    active = λ k lk. stays i v (6 + k) _ _ (λ g. omega arith) refl;
    hints = λ b t lb hb ft. record { here = λ g. (hint_is b t lb hb ft (sym g)).0; else = λ g. other (118 + 16 * b + t) _ (λ z. g (sym z)) };
    tags = λ page lp. record { here = λ g. (tag_is page lp (sym g)).0; else = λ g. other (2182 + page) _ (λ z. g (sym z)) };
    bitmaps = λ k lk. stays i v (2182 + 256 * l.segments + k) _ _ (λ g. omega arith) refl;
    sizes = λ k lk. stays i v (2182 + 1280 * l.segments + k) _ _ (λ g. omega arith) refl;
    stored = λ k lk. stays i v (2182 + 66816 * l.segments + k) _ _ (λ g. omega arith) refl;
  }

  owed_soundly_still : (n : ℕ) → m.state.gate.locks.back ≡ Some n → IsOwedSoundly l m owes → IsOwedSoundly l m owes'
  owed_soundly_still n held f = record {
    tags = λ page lp. elim (cases_eq (2182 + page) i) [
      | inl e ↦ let k = tag_is page lp e in ⊎_elim (λ (z : v ≡ tag_word (lfh_spans m.state.back.area) page). inl (sym k.0 ∙ z)) (λ (z : (v ≡ 0) × MayWantTag m page). inr (sym k.0 ∙ z.0, z.1)) k.1
      | inr ne ↦
          let e = other (2182 + page) (tag_word (lfh_spans m.state.back.area) page) ne in
          ⊎_elim (λ (z : owed_or owes (2182 + page) (tag_word (lfh_spans m.state.back.area) page) ≡ tag_word (lfh_spans m.state.back.area) page). inl (e ∙ z)) (λ (z : (owed_or owes (2182 + page) (tag_word (lfh_spans m.state.back.area) page) ≡ 0) × MayWantTag m page). inr (e ∙ z.0, z.1)) (f.tags page lp)
    ];
    heads = f.heads;
    hints = λ b t lb hb ft. elim (cases_eq (118 + 16 * b + t) i) [
      | inl e ↦ let k = hint_is b t lb hb ft e in inl (sym k.0 ∙ k.1)
      | inr ne ↦
          let e = other (118 + 16 * b + t) (hint_word m.state.back.area m.now.span_history b t) ne in
          ⊎_elim (λ (z : owed_or owes (118 + 16 * b + t) (hint_word m.state.back.area m.now.span_history b t) ≡ hint_word m.state.back.area m.now.span_history b t). inl (e ∙ z))
          (λ (z : MayBeOld m b t (owed_or owes (118 + 16 * b + t) (hint_word m.state.back.area m.now.span_history b t))). inr (subst (MayBeOld m b t) (sym e) z)) (f.hints b t lb hb ft)
    ];
    paid = λ e. absurd (let z : None ≡ Some n = sym e ∙ held in let w : ⊥ = cc (z) in w);
  }

module _ {T : Type 0} (stands : T → LayerState) (o : Opening) (slots id n : ℕ) (me : Me (Option T) View) (es : List Entry) (h : IsReady n me.0 es) (st : State (Option T) View) (r : IsRuled stands o st) (at : get_elem? st.views id ≡ some me.0) where
  abbrev now_at : Setting → Configuration
  now_at s = configuration_after s (configuration_of s r.log) es

  abbrev in_view : (s : Setting) → IsSettingOf o r.lead.roll s → IsSettingOf me.0.opening me.0.roll s
  in_view s q = setting_in stands o st r id n me.0 es at h s q

  abbrev Storing : (ℕ → Me (Option T) View → Type 0) → ℕ → ℕ → ℕ → Type 0
  Storing tells word y said = (w : View) × (a : Act (Option T)) × Valid st.homes me.1 a × IsRuled stands o (stepped st word y id me.1 w a) × tells said (w, carried_after me.1 a)

  ---- Active words

  active_behind : (l : Limits) (s : Setting) (m : Configuration) (owes : List Owed) (b : ℕ) → b < 128 → IsBehind l (after s m (entry n (acts.Active (b + 1)))) m owes owes (active_at b) 1
  active_behind l s m owes b lt = record {
    gate = stays (active_at b) 1 1 _ _ (λ k. omega arith) refl;
    locks = locks_stay (active_at b) 1 _ _ (inr (omega arith)) refl;
    active = λ k lk. record {
      here = λ g. let same : k + 1 ≡ b + 1 = omega arith in let e = eq-eqb (k + 1) (b + 1) same in rw e refl;
      else = λ g. let e = ne_eqb (k + 1) (b + 1) (λ z. g (omega arith)) in rw e refl;
    };
    hints = λ c t lb hb ft. stays (active_at b) 1 (118 + 16 * c + t) _ _ (λ g. omega arith) refl;
    tags = λ page lp. stays (active_at b) 1 (2182 + page) _ _ (λ g. omega arith) refl;
    bitmaps = λ k lk. stays (active_at b) 1 (2182 + 256 * l.segments + k) _ _ (λ g. omega arith) refl;
    sizes = λ k lk. stays (active_at b) 1 (2182 + 1280 * l.segments + k) _ _ (λ g. omega arith) refl;
    stored = λ k lk. stays (active_at b) 1 (2182 + 66816 * l.segments + k) _ _ (λ g. omega arith) refl;
  }

  -- what the other locks guard stays
  vs_else : (s : Setting) (b : ℕ) (what : What) → HasSlot what → (what ≡ whats.Vs → ⊥) → SameGuarded what (after s (now_at s) (entry n (acts.Active (b + 1)))).state (now_at s).state
  vs_else s b whats.Vs has ne = absurd (ne refl)
  vs_else s b whats.Back has ne = refl
  vs_else s b whats.Large has ne = refl
  vs_else s b whats.Gate has ne = absurd has
  vs_else s b whats.Lfh has ne = absurd has

  -- a bucket becomes active
  pub activates : (b : ℕ) → b < 128 → ((s : Setting) → IsSettingOf me.0.opening me.0.roll s → MayActivate s (ready_after s me.0 es) n b)
      → Storing (λ z m'. activated es b (step slots (active_at b) 1 0 none) me 1 m') (active_at b) 1 1
  activates b lt ok =
      let deed : Deed = acts.Active (b + 1) in
      let a = acts stands o st r id n me.0 es at h me.1 (active_at b) 1 keeps (entry n deed ∷ []) (one_by n deed) (λ k. refl)
      (λ s q.
      let d = before stands o st r id n me.0 es at h s q in
      let k = ok s (in_view s q) in
      let mine : (now_at s).state.gate.locks.vs ≡ Some n = holder_is_it n (now_at s).state.gate.locks.vs (d.carried.agrees.locks whats.Vs ∙ k.holds_it) in
      let locked : (now_at s).state.gate.locks.vs ≡ None → ⊥ = λ e. let z : Some n ≡ None = sym mine ∙ e in cc (z) in (
        one_follows s (now_at s) n deed d.whole (ap (λ (c : CallState). is_some c.call) d.carried.agrees.call ∙ k.begun)
            (stable_here s n (now_at s) (ready_after s me.0 es) deed d.carried.agrees d.whole (h.whole s (in_view s q)) k.old k.begun k.ok),
        refl,
        shown_behind o.limits r.lead.counted (after s (now_at s) (entry n deed)) (now_at s) r.owes r.owes st.words (active_at b) 1 (omega arith) (omega arith)
            (active_behind o.limits s (now_at s) r.owes b lt)
            (still_owed o.limits (after s (now_at s) (entry n deed)) (now_at s) r.owes refl refl refl refl (owed_soundly o.limits r.lead.counted (now_at s) r.owes st.words d.words)) d.words,
        homes_kept stands o (after s (now_at s) (entry n deed)).state (now_at s).state st.homes (homes_but _ _ whats.Vs refl locked (vs_else s b)) d.home,
      )) in
      (a.0, keeps, tt, a.1, record { adds = adds_of me (a.0, me.1) n es deed h.role a.2; slot = refl; owes = a.3 })

  ---- The holder of Back stores a tag or a hint

  module _ (i v : ℕ) (owed : List Owed → List Owed) (low : 134 ≤ i) (high : i < 2182 + 256 * o.limits.segments)
      (held : (s : Setting) → IsSettingOf me.0.opening me.0.roll s → holds (ready_after s me.0 es).state.gate n whats.Back ≡ true)
      (other : (owes : List Owed) (j x : ℕ) → (j ≡ i → ⊥) → owed_or (owed owes) j x ≡ owed_or owes j x)
      (tag_is : (s : Setting) → IsSettingOf o r.lead.roll s → (page : ℕ) → page < 256 * o.limits.segments → 2182 + page ≡ i
      → (v ≡ owed_or (owed r.owes) (2182 + page) (tag_word (lfh_spans (now_at s).state.back.area) page)) × ((v ≡ tag_word (lfh_spans (now_at s).state.back.area) page) ⊎ ((v ≡ 0) × MayWantTag (now_at s) page)))
      (hint_is : (s : Setting) → IsSettingOf o r.lead.roll s → (b t : ℕ) → 1 ≤ b → b ≤ 128 → t < 16 → 118 + 16 * b + t ≡ i
      → (v ≡ owed_or (owed r.owes) (118 + 16 * b + t) (hint_word (now_at s).state.back.area (now_at s).now.span_history b t)) × (v ≡ hint_word (now_at s).state.back.area (now_at s).now.span_history b t)) where
    held_here : (s : Setting) → IsSettingOf o r.lead.roll s → (now_at s).state.gate.locks.back ≡ Some n
    held_here s q = holder_is_it n (now_at s).state.gate.locks.back ((before stands o st r id n me.0 es at h s q).carried.agrees.locks whats.Back ∙ held s (in_view s q))

    log_held : back_holder r.log ≡ Some n
    log_held =
        let s0 = setting_of o r.lead.roll in
        let q0 = some_setting o r.lead.roll in
        back_holder_is s0 r.log ∙ (sym (ap (λ (z : GateAndLocks). z.locks.back) (before stands o st r id n me.0 es at h s0 q0).carried.gate) ∙ held_here s0 q0)

    -- a tag or a hint is stored, and the list of what is owed changes
    pub puts : Storing (λ z m'. put_word es owed (step slots i v 0 none) me v m') i v v
    puts =
        let a = leaves stands o st r id n me.0 es at h me.1 i v keeps [] (owed r.owes) (owed me.0.owes) refl
        (record { same = inr (holder_behind stands o st r id n me.0 es at h [] ∙ log_held); known = λ e. ap owed ((role_of stands o st r id n me.0 at h.role).5 log_held) })
        (λ s q.
        let d = before stands o st r id n me.0 es at h s q in (
          refl,
          d.whole,
          shown_behind o.limits r.lead.counted (now_at s) (now_at s) (owed r.owes) r.owes st.words i v (omega arith) (omega arith)
              (owed_behind o.limits (now_at s) (owed r.owes) r.owes i v (other r.owes) (tag_is s q) (hint_is s q) low high)
              (owed_soundly_still o.limits (now_at s) (owed r.owes) r.owes i v (other r.owes) (tag_is s q) (hint_is s q) n (held_here s q) (owed_soundly o.limits r.lead.counted (now_at s) r.owes st.words d.words)) d.words,
          d.home,
        )) in
        (a.0, keeps, tt, a.1, record { goes = goes_of me (a.0, me.1) n es [] h.role a.2; slot = refl; owes = a.3 })

  -- the tag of the state
  pub puts_tag : (page v : ℕ) → page < 256 * o.limits.segments
      → ((s : Setting) → IsSettingOf me.0.opening me.0.roll s → (holds (ready_after s me.0 es).state.gate n whats.Back ≡ true) × (tag_word (lfh_spans (ready_after s me.0 es).state.back.area) page ≡ v))
      → Storing (λ z m'. put_word es (paid_off (tag_at page)) (step slots (tag_at page) v 0 none) me v m') (tag_at page) v v
  puts_tag page v lt ok =
      puts (tag_at page) v (paid_off (tag_at page)) (omega arith) (omega arith) (λ s q. (ok s q).0) (λ owes j x ne. paid_else (tag_at page) j x owes ne)
      (λ s q p lp e.
      let k = ok s (in_view s q) in
      let same : p ≡ page = omega arith in
      let is : v ≡ tag_word (lfh_spans (now_at s).state.back.area) p = sym (ap (λ (z : BackPart × ℕ). tag_word (lfh_spans z.0.area) z.1) (λ j. ((before stands o st r id n me.0 es at h s q).carried.agrees.back k.0 j, same j)) ∙ k.1) in
      (is ∙ sym (subst (λ (z : ℕ). owed_or (paid_off (tag_at page) r.owes) z (tag_word (lfh_spans (now_at s).state.back.area) p) ≡ tag_word (lfh_spans (now_at s).state.back.area) p) (sym e) (paid_here (tag_at page) (tag_word (lfh_spans (now_at s).state.back.area) p) r.owes)), inl is))
      (λ s q b t lb hb ft e. absurd (omega arith))

  -- the heap lock has an owner where the caller knows that it is that
  has_owner : (s : Setting) → IsSettingOf o r.lead.roll s → is_caller n (ready_after s me.0 es).state.gate.owner ≡ true → is_some (now_at s).state.gate.owner ≡ true
  has_owner s q own = ap is_some (holder_is_it n (now_at s).state.gate.owner ((before stands o st r id n me.0 es at h s q).carried.agrees.owner ∙ own))

  -- 0 in place of a tag, by the owner of the heap lock
  pub clears_tag : (page : ℕ) → page < 256 * o.limits.segments
      → ((s : Setting) → IsSettingOf me.0.opening me.0.roll s → (holds (ready_after s me.0 es).state.gate n whats.Back ≡ true) × (is_caller n (ready_after s me.0 es).state.gate.owner ≡ true))
      → Storing (λ z m'. put_word es (owed_zero (tag_at page)) (step slots (tag_at page) 0 0 none) me 0 m') (tag_at page) 0 0
  clears_tag page lt ok =
      puts (tag_at page) 0 (owed_zero (tag_at page)) (omega arith) (omega arith) (λ s q. (ok s q).0) (λ owes j x ne. zero_else (tag_at page) j x owes ne)
      (λ s q p lp e. (sym (subst (λ (z : ℕ). owed_or (owed_zero (tag_at page) r.owes) z (tag_word (lfh_spans (now_at s).state.back.area) p) ≡ 0) (sym e) (zero_here (tag_at page) (tag_word (lfh_spans (now_at s).state.back.area) p) r.owes)), inr (refl, inl (has_owner s q (ok s (in_view s q)).1))))
      (λ s q b t lb hb ft e. absurd (omega arith))

  -- the hint of the state
  pub puts_hint : (b t v : ℕ) → 1 ≤ b → b ≤ 128 → t < 16
      → ((s : Setting) → IsSettingOf me.0.opening me.0.roll s → (holds (ready_after s me.0 es).state.gate n whats.Back ≡ true) × (hint_word (ready_after s me.0 es).state.back.area (ready_after s me.0 es).now.span_history b t ≡ v))
      → Storing (λ z m'. put_word es (paid_off (hint_at b t)) (step slots (hint_at b t) v 0 none) me v m') (hint_at b t) v v
  puts_hint b t v lb hb ft ok =
      puts (hint_at b t) v (paid_off (hint_at b t)) (omega arith) (omega arith) (λ s q. (ok s q).0) (λ owes j x ne. paid_else (hint_at b t) j x owes ne)
      (λ s q p lp e. absurd (omega arith))
      (λ s q c u lc hc fu e.
      let k = ok s (in_view s q) in
      let d = before stands o st r id n me.0 es at h s q in
      let sb : c ≡ b = omega arith in
      let su : u ≡ t = omega arith in
      let is : v ≡ hint_word (now_at s).state.back.area (now_at s).now.span_history c u = sym (ap (λ (z : (BackPart × SpanHistory) × (ℕ × ℕ)). hint_word z.0.0.area z.0.1 z.1.0 z.1.1) (λ j. ((d.carried.agrees.back k.0 j, d.carried.agrees.span_history k.0 j), (sb j, su j))) ∙ k.1) in
      (is ∙ sym (subst (λ (z : ℕ). owed_or (paid_off (hint_at b t) r.owes) z (hint_word (now_at s).state.back.area (now_at s).now.span_history c u) ≡ hint_word (now_at s).state.back.area (now_at s).now.span_history c u) (sym e) (paid_here (hint_at b t) (hint_word (now_at s).state.back.area (now_at s).now.span_history c u) r.owes)), is))

pub activate_law : {T : Type 0} (stands : T → LayerState) → ActivateLaw stands
activate_law stands o slots id n b me es h lt ok st r deep at small = activates stands o slots id n me es h st r at b lt ok

pub put_tag_law : {T : Type 0} (stands : T → LayerState) → PutTagLaw stands
put_tag_law stands o slots id n page v me es h lt ok st r deep at small = puts_tag stands o slots id n me es h st r at page v lt ok

pub put_hint_law : {T : Type 0} (stands : T → LayerState) → PutHintLaw stands
put_hint_law stands o slots id n b t v me es h lb hb ft ok st r deep at small = puts_hint stands o slots id n me es h st r at b t v lb hb ft ok

pub clear_tag_law : {T : Type 0} (stands : T → LayerState) → ClearTagLaw stands
clear_tag_law stands o slots id n page me es h lt ok st r deep at small = clears_tag stands o slots id n me es h st r at page lt ok
