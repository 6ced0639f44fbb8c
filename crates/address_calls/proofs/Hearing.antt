-- The law of a load that tells that each caller has a slot of the heap.
use Rattle.std.proofs.Common.{◌≡◌, ℕ, true, List, [], get_or, Option, refl, sym, ◌∙◌, subst}
use mathlib.Core.Option.{none}
use Rattle.atomic_table.specs.Table.{Me, step, keeps, Allows}
use Rattle.heap_model.specs.declared.Entry.{Entry}
use Rattle.heap_model.specs.declared.Opening.{Opening}
use Rattle.heap_model.specs.Layers.{LayerState}
use Rattle.claim_rule.specs.declared.views.Assignment.{Assignment}
use Rattle.claim_rule.specs.declared.views.View.{View}
use Rattle.claim_rule.specs.Entries.{have_slots}
use Rattle.claim_rule.specs.Rule.{IsRuled, IsReady}
use Rattle.claim_rule.proofs.Advance.{before, acts, goes_of, role_of}
use Rattle.claim_rule.proofs.Words.{all_kept}
use Rattle.address_calls.specs.Slots.{heard_slots}

module _ {T : Type 0} (stands : T → LayerState) (o : Opening) where
  pub hears : (slots id n i : ℕ) (me : Me (Option T) View) (es : List Entry) → IsReady n me.0 es → Allows (IsRuled stands o) slots id me i (λ x. x) (heard_slots es (step slots i 0 0 none) me)
  hears slots id n i me es h st r deep at small =
      let a = acts stands o st r id n me.0 es at h me.1 i (get_or st.words i 0) keeps [] refl (λ g. refl)
      (λ s q.
      let b = before stands o st r id n me.0 es at h s q in
      (refl, b.whole, all_kept o.limits r.lead.counted _ _ st.words i b.words, b.home)) in
      let p = role_of stands o st r id n me.0 at h.role in
      let opened : a.0.opening ≡ o = a.2.opening ∙ p.4 in
      let more : have_slots a.0.opening.limits.slots r.lead.roll ≡ true = subst (λ (x : Opening). have_slots x.limits.slots r.lead.roll ≡ true) (sym opened) r.numbers.slots in (
        a.0,
        keeps,
        tt,
        a.1,
        record {
          goes = goes_of me (a.0, me.1) n es [] h.role a.2;
          slot = refl;
          owes = a.3;
          slots = subst (λ (l : List Assignment). have_slots a.0.opening.limits.slots l ≡ true) (sym a.5) more;
        },
      )
