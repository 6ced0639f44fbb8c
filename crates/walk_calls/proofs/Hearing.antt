-- The law of a load behind which a caller knows that the words show the heap.
use Rattle.std.proofs.Common.{◌≡◌, ℕ, List, [], get_or, Option, refl, sym, ap, ◌∙◌, subst}
use mathlib.Core.Option.{none}
use Rattle.atomic_table.specs.Table.{Me, step, keeps, Allows}
use Rattle.heap_model.specs.declared.Entry.{Entry}
use Rattle.heap_model.specs.declared.Limits.{Limits}
use Rattle.heap_model.specs.declared.Opening.{Opening}
use Rattle.heap_model.specs.State.{Setting}
use Rattle.heap_model.specs.CallState.{Configuration}
use Rattle.heap_model.specs.History.{configuration_after, configuration_of}
use Rattle.heap_model.specs.Layers.{LayerState}
use Rattle.claim_rule.specs.declared.views.Owed.{Owed}
use Rattle.claim_rule.specs.declared.views.View.{View}
use Rattle.claim_rule.specs.Rule.{IsRuled, IsReady}
use Rattle.claim_rule.specs.Shown.{AreAllShown}
use Rattle.claim_rule.proofs.Advance.{before, acts, goes_of, role_of, setting_back, seen_behind}
use Rattle.claim_rule.proofs.Words.{all_kept}
use Rattle.step_parts.proofs.FrontEnd.{usual, keeps_here, valid_setting}
use Rattle.walk_calls.specs.Words.{IsKnownFor, HasWords, heard_words}

module _ {T : Type 0} (stands : T → LayerState) (o : Opening) where
  pub hears : (slots id n i : ℕ) (me : Me (Option T) View) (es : List Entry) → IsReady n me.0 es → Allows (IsRuled stands o) slots id me i (λ x. x) (heard_words es (step slots i 0 0 none) me)
  hears slots id n i me es h st r deep at small =
      let a = acts stands o st r id n me.0 es at h me.1 i (get_or st.words i 0) keeps [] refl (λ g. refl)
      (λ s q.
      let b = before stands o st r id n me.0 es at h s q in
      (refl, b.whole, all_kept o.limits r.lead.counted _ _ st.words i b.words, b.home)) in
      let p = role_of stands o st r id n me.0 at h.role in
      let opened : a.0.opening ≡ o = a.2.opening ∙ p.4 in
      let back : (s : Setting) → Rattle.claim_rule.specs.Entries.IsSettingOf a.0.opening a.0.roll s → Rattle.claim_rule.specs.Entries.IsSettingOf o r.lead.roll s =
      λ s q. setting_back stands o st r id n me.0 es at h a.0 s a.2.opening a.5 q in
      let behind : Setting → Configuration = λ s. configuration_after s (configuration_of s r.log) es in
      let seen : (s : Setting) → configuration_of s a.0.seen ≡ behind s = λ s. seen_behind stands o st r id n me.0 es at h a.0 s [] a.4 in (
        a.0,
        keeps,
        tt,
        a.1,
        record {
          goes = goes_of me (a.0, me.1) n es [] h.role a.2;
          slot = refl;
          owes = a.3;
          sound = λ s q.
              let here : IsKnownFor o (behind s) = record {
                setting = usual stands o st r id n me.0 es at h s (back s q);
                limits = refl;
                seed = refl;
                valid = valid_setting o r.lead.roll r.numbers.limits r.numbers.slots;
                keeps = keeps_here stands o st r id n me.0 es at h s (back s q);
              } in
              subst (λ (y : Opening). IsKnownFor y (configuration_of s a.0.seen)) (sym opened) (subst (IsKnownFor o) (sym (seen s)) here);
          words = λ s q free.
              let b = before stands o st r id n me.0 es at h s (back s q) in
              let none_owed : r.owes ≡ [] = b.words.lfh.paid (ap (λ (m : Configuration). m.state.gate.locks.back) (sym (seen s)) ∙ free) in
              let here : HasWords o.limits (behind s) = record {
                words = st.words;
                made = r.lead.counted;
                shown = subst (λ (owes : List Owed). AreAllShown o.limits r.lead.counted (behind s) owes st.words) none_owed b.words;
                few = r.numbers.counted;
              } in
              subst (λ (l : Limits). HasWords l (configuration_of s a.0.seen)) (ap (λ (x : Opening). x.limits) (sym opened)) (subst (HasWords o.limits) (sym (seen s)) here);
        },
      )
