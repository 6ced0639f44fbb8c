-- The law of a load that tells which callers have entries, and that each has a slot of the heap.
use Rattle.std.proofs.Common.{◌≡◌, ℕ, true, List, [], ◌++◌, length, get_or, Option, refl, sym, ◌∙◌, subst}
use mathlib.Core.Option.{none}
use Rattle.atomic_table.specs.Table.{Me, step, keeps, Allows}
use Rattle.heap_model.specs.declared.Entry.{Entry}
use Rattle.heap_model.specs.declared.Opening.{Opening}
use Rattle.heap_model.specs.Layers.{LayerState}
use Rattle.claim_rule.specs.declared.views.Assignment.{Assignment}
use Rattle.claim_rule.specs.declared.views.View.{View}
use Rattle.claim_rule.specs.Entries.{have_slots, is_named}
use Rattle.claim_rule.specs.Rule.{IsRuled, IsReady}
use Rattle.claim_rule.proofs.Advance.{before, acts, by, goes_of, role_of}
use Rattle.claim_rule.proofs.Lists.{by-append, named-append, named_by}
use Rattle.claim_rule.proofs.Words.{all_kept}
use Rattle.stay_calls.specs.Heard.{heard_callers}

module _ {T : Type 0} (stands : T → LayerState) (o : Opening) where
  pub hears : (slots id n i : ℕ) (me : Me (Option T) View) (es : List Entry) → IsReady n me.0 es → Allows (IsRuled stands o) slots id me i (λ x. x) (heard_callers es (step slots i 0 0 none) me)
  hears slots id n i me es h st r deep at small =
      let a = acts stands o st r id n me.0 es at h me.1 i (get_or st.words i 0) keeps [] refl (λ g. refl)
      (λ s q.
      let b = before stands o st r id n me.0 es at h s q in
      (refl, b.whole, all_kept o.limits r.lead.counted _ _ st.words i b.words, b.home)) in
      let p = role_of stands o st r id n me.0 at h.role in
      let opened : a.0.opening ≡ o = a.2.opening ∙ p.4 in
      let its = by stands o st r id n me.0 es at h in
      let log_names = named-append (length r.lead.roll) r.log (es ++ []) r.numbers.names (named_by (length r.lead.roll) n (es ++ []) p.0 (by-append n es [] its refl)) in
      let more : have_slots a.0.opening.limits.slots r.lead.roll ≡ true = subst (λ (x : Opening). have_slots x.limits.slots r.lead.roll ≡ true) (sym opened) r.numbers.slots in (
        a.0,
        keeps,
        tt,
        a.1,
        record {
          goes = goes_of me (a.0, me.1) n es [] h.role a.2;
          slot = refl;
          owes = a.3;
          names = subst (λ (z : List Assignment × List Entry). is_named (length z.0) z.1 ≡ true) (λ i. (sym a.5 i, sym a.4 i)) log_names;
          slots = subst (λ (l : List Assignment). have_slots a.0.opening.limits.slots l ≡ true) (sym a.5) more;
        },
      )
