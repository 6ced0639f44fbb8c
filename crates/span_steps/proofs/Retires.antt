-- The law of a subsegment that goes back with the store of the hint.
use Rattle.std.proofs.Common.{◌≡◌, ℕ, ◌+◌, ◌<◌, ◌≤◌, Bool, true, false, not, List, [], ◌∷◌, Option, Some, None, refl, sym, ap, ◌∙◌, subst, inr}
use Rattle.std.specs.Prelude.{is_some}
use Rattle.std.proofs.lemmas.Bool.{and_parts, eqb-true, false≢true}
use mathlib.Core.Option.{none, some}
use lib.ListN.{get_elem?}
use Rattle.atomic_table.specs.Table.{State, Me, Act, step, keeps, stepped, carried_after, Valid}
use Rattle.heap_model.specs.declared.Act.{Act as Deed}
use Rattle.heap_model.specs.declared.Act.TheVariants as acts
use Rattle.heap_model.specs.declared.Entry.{Entry}
use Rattle.heap_model.specs.declared.Kind.TheVariants as kinds
use Rattle.heap_model.specs.declared.What.TheVariants as whats
use Rattle.heap_model.specs.State.{Setting, Span, BackPart, GateAndLocks, holds, remove_found, updated}
use Rattle.heap_model.specs.Ranges.{is_of_kind}
use Rattle.heap_model.specs.CallState.{Configuration, CallState, SpanHistory, caller_view}
use Rattle.heap_model.specs.Search.{begins_at, span_at}
use Rattle.heap_model.specs.Legal.{may, after, forget_hint, has_place, is_unused}
use Rattle.heap_model.specs.History.{configuration_after, configuration_of}
use Rattle.heap_model.proofs.ListLemmas.{filter-remove_found, for_some_parts}
use Rattle.heap_model.proofs.Others.{unspan_locks}
use Rattle.heap_soundness.specs.Sound.{IsOneOf}
use Rattle.heap_soundness.proofs.Lists.{found_in, found_passes}
use Rattle.heap_soundness.proofs.Spans.{same_first}
use Rattle.heap_model.specs.declared.Opening.{Opening}
use Rattle.claim_rule.specs.declared.views.Owed.{Owed}
use Rattle.claim_rule.specs.declared.views.View.{View}
use Rattle.claim_rule.specs.Shown.{lfh_spans, owed_or, tag_word, hint_word, back_holder}
use Rattle.heap_model.specs.Layers.{LayerState}
use Rattle.claim_rule.specs.Entries.{IsSettingOf, setting_of, entry}
use Rattle.claim_rule.specs.Rule.{IsRuled, IsReady, ready_after}
use Rattle.claim_rule.proofs.Holders.{back_holder_is}
use Rattle.claim_rule.proofs.Slots.{homes_kept, SameGuarded, homes_but}
use Rattle.claim_rule.proofs.Advance.{before, leaves, adds_of, setting_in, role_of, some_setting, holder_behind}
use Rattle.claim_rule.proofs.Gate.{one_by, one_follows}
use Rattle.claim_rule.specs.Places.{hint_at}
use Rattle.span_steps.specs.Retires.{owed_by_retire, MayRetire, retired}
use Rattle.span_steps.specs.Laws.{RetireLaw}
use Rattle.claim_rule.proofs.Behind.{owed_soundly}
use Rattle.step_parts.proofs.FrontEnd.{front_here}
use Rattle.claim_rule.proofs.Ready.{holder_is_it, stable_here}
use Rattle.span_steps.proofs.RetiredSubsegment.{freed_shown, found}
use Rattle.heap_model.specs.declared.What.{What}
use Rattle.claim_rule.specs.Home.{HasSlot}

not_is : (z : Bool) → not z ≡ true → z ≡ false
not_is true h = absurd (false≢true h)
not_is false h = refl

module _ {T : Type 0} (stands : T → LayerState) (o : Opening) (slots id n first pages b t v : ℕ) (me : Me (Option T) View) (es : List Entry) (h : IsReady n me.0 es) (low : 1 ≤ b) (high : b ≤ 128) (few : t < 16)
    (ok : (s : Setting) → IsSettingOf me.0.opening me.0.roll s → MayRetire s (ready_after s me.0 es) n first pages b t v me.0.owes)
    (st : State (Option T) View) (r : IsRuled stands o st) (at : get_elem? st.views id ≡ some me.0) where
  abbrev now_at : Setting → Configuration
  now_at s = configuration_after s (configuration_of s r.log) es

  abbrev deed : Deed
  deed = acts.Unspan first

  abbrev x : Span
  x = record { first = first; pages = pages; kind = kinds.Lfh; bucket = b; slot = t }

  in_view : (s : Setting) → IsSettingOf o r.lead.roll s → IsSettingOf me.0.opening me.0.roll s
  in_view s q = setting_in stands o st r id n me.0 es at h s q

  ready_at : (s : Setting) → IsSettingOf o r.lead.roll s → MayRetire s (ready_after s me.0 es) n first pages b t v me.0.owes
  ready_at s q = ok s (in_view s q)

  -- what the row needs of the locks
  holds_it : (s : Setting) → IsSettingOf o r.lead.roll s → holds (ready_after s me.0 es).state.gate n whats.Back ≡ true
  holds_it s q = (unspan_locks s (ready_after s me.0 es) n first (ready_at s q).ok).0

  held : (s : Setting) → IsSettingOf o r.lead.roll s → (now_at s).state.gate.locks.back ≡ Some n
  held s q = holder_is_it n (now_at s).state.gate.locks.back ((before stands o st r id n me.0 es at h s q).carried.agrees.locks whats.Back ∙ holds_it s q)

  log_held : back_holder r.log ≡ Some n
  log_held =
      let s0 = setting_of o r.lead.roll in
      let q0 = some_setting o r.lead.roll in
      back_holder_is s0 r.log ∙ (sym (ap (λ (z : GateAndLocks). z.locks.back) (before stands o st r id n me.0 es at h s0 q0).carried.gate) ∙ held s0 q0)

  owed_same : me.0.owes ≡ r.owes
  owed_same = (role_of stands o st r id n me.0 at h.role).5 log_held

  back_same : (s : Setting) → IsSettingOf o r.lead.roll s → (now_at s).state.back ≡ (ready_after s me.0 es).state.back
  back_same s q = (before stands o st r id n me.0 es at h s q).carried.agrees.back (holds_it s q)

  -- the row, in the history
  ok_here : (s : Setting) → IsSettingOf o r.lead.roll s → may s (now_at s) n deed ≡ true
  ok_here s q =
      let d = before stands o st r id n me.0 es at h s q in
      let k = ready_at s q in
      stable_here s n (now_at s) (ready_after s me.0 es) deed d.carried.agrees d.whole (h.whole s (in_view s q)) refl k.begun k.ok

  there : (s : Setting) → IsSettingOf o r.lead.roll s → IsOneOf x (now_at s).state.back.area.spans
  there s q = subst (λ (z : BackPart). IsOneOf x z.area.spans) (sym (back_same s q)) (ready_at s q).there

  unused : (s : Setting) → IsSettingOf o r.lead.roll s → has_place 4096 (now_at s).state.lfh x ≡ false
  unused s q =
      let m = now_at s in
      let w = for_some_parts (span_at m.state.back.area first) (is_unused m.state (caller_view m n)) (unspan_locks s m n first (ok_here s q)).1 in
      let same : w.0 ≡ x = same_first 0 m.state.back.area.spans w.0 x (front_here stands o st r id n me.0 es at h s q).order (found_in (begins_at first) m.state.back.area.spans w.0 w.1) (there s q) (eqb-true w.0.first first (found_passes (begins_at first) m.state.back.area.spans w.0 w.1)) in
      let free : is_unused m.state (caller_view m n) x ≡ true = subst (λ (z : Span). is_unused m.state (caller_view m n) z ≡ true) same w.2 in
      not_is (has_place 4096 m.state.lfh x) (and_parts _ (not (has_place 4096 m.state.lfh x)) free).1

  zeros : (s : Setting) → IsSettingOf o r.lead.roll s → (page : ℕ) → first ≤ page → page < first + pages → owed_or r.owes (2182 + page) (tag_word (lfh_spans (now_at s).state.back.area) page) ≡ 0
  zeros s q page lo hi = ap (λ (z : List Owed × BackPart). owed_or z.0 (2182 + page) (tag_word (lfh_spans z.1.area) page)) (λ j. (sym owed_same j, back_same s q j)) ∙ (ready_at s q).tags page lo hi

  value : (s : Setting) → IsSettingOf o r.lead.roll s → hint_word (after s (now_at s) (entry n deed)).state.back.area (after s (now_at s) (entry n deed)).now.span_history b t ≡ v
  value s q =
      ap (λ (z : BackPart × SpanHistory). hint_word (record { reserved = z.0.area.reserved; committed = z.0.area.committed; spans = remove_found (begins_at first) z.0.area.spans }) (record { hints = forget_hint first z.1.hints; makers = updated z.1.makers first None }) b t)
      (λ j. (back_same s q j, (before stands o st r id n me.0 es at h s q).carried.agrees.span_history (holds_it s q) j))
      ∙ (ready_at s q).value

  -- what the other locks guard stays
  back_else : (s : Setting) → IsSettingOf o r.lead.roll s → (what : What) → HasSlot what → (what ≡ whats.Back → ⊥) → SameGuarded what (after s (now_at s) (entry n deed)).state (now_at s).state
  back_else s q whats.Vs has ne = (
    refl,
    filter-remove_found (is_of_kind kinds.Vs) (begins_at first) (now_at s).state.back.area.spans
        (λ z e. ap (is_of_kind kinds.Vs) (found o.limits s (now_at s) n first pages b t (front_here stands o st r id n me.0 es at h s q) (there s q) (unused s q) (held s q) low high few r.owes
        (owed_soundly o.limits r.lead.counted (now_at s) r.owes st.words (before stands o st r id n me.0 es at h s q).words) (zeros s q) z e)),
  )
  back_else s q whats.Back has ne = absurd (ne refl)
  back_else s q whats.Large has ne = refl
  back_else s q whats.Gate has ne = absurd has
  back_else s q whats.Lfh has ne = absurd has

  -- the subsegment goes
  pub retires : (w : View) × (a : Act (Option T)) × Valid st.homes me.1 a × IsRuled stands o (stepped st (hint_at b t) v id me.1 w a)
      × retired es first pages b t (step slots (hint_at b t) v 0 none) me v (w, carried_after me.1 a)
  retires =
      let a = leaves stands o st r id n me.0 es at h me.1 (hint_at b t) v keeps (entry n deed ∷ []) (owed_by_retire b t first pages r.owes) (owed_by_retire b t first pages me.0.owes) (one_by n deed)
      (record { same = inr (holder_behind stands o st r id n me.0 es at h (entry n deed ∷ []) ∙ log_held); known = λ e. ap (owed_by_retire b t first pages) owed_same })
      (λ s q.
      let d = before stands o st r id n me.0 es at h s q in
      let f = front_here stands o st r id n me.0 es at h s q in
      let w = owed_soundly o.limits r.lead.counted (now_at s) r.owes st.words d.words in (
        one_follows s (now_at s) n deed d.whole (ap (λ (c : CallState). is_some c.call) d.carried.agrees.call ∙ (ready_at s q).begun) (ok_here s q),
        refl,
        freed_shown o.limits s (now_at s) n first pages b t f (there s q) (unused s q) (held s q) low high few r.owes w (zeros s q) r.lead.counted v st.words (value s q) d.words,
        homes_kept stands o (after s (now_at s) (entry n deed)).state (now_at s).state st.homes (homes_but _ _ whats.Back refl (λ e. let z : None ≡ Some n = sym e ∙ held s q in let y : ⊥ = cc (z) in y) (back_else s q)) d.home,
      )) in
      (a.0, keeps, tt, a.1, record { adds = adds_of me (a.0, me.1) n es deed h.role a.2; slot = refl; owes = a.3 })

pub retire_law : {T : Type 0} (stands : T → LayerState) → RetireLaw stands
retire_law stands o slots id n first pages b t v me es h low high few ok st r deep at small = retires stands o slots id n first pages b t v me es h low high few ok st r at
