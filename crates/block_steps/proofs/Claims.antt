-- The law of a claim: one fetch_or places the block that the search has picked, or finds that another has it.
use Rattle.std.proofs.Common.{◌≡◌, ℕ, ◌+◌, ◌*◌, ◌/◌, ◌%◌, ◌<◌, Bool, true, false, List, [], ◌∷◌, ◌++◌, get_or, set, bit_or, refl, sym, ap, ◌∙◌, subst, Option, Some, inl, inr}
use Rattle.std.proofs.lemmas.Bool.{both_ways, cases_Bool}
use mathlib.Core.Option.{none, some}
use lib.ListN.{get_elem?}
use Rattle.atomic_table.specs.Table.{State, Me, Act, step, keeps, stepped, carried_after, Valid}
use Rattle.heap_model.specs.declared.Act.{Act as Deed}
use Rattle.heap_model.specs.declared.Act.TheVariants as acts
use Rattle.heap_model.specs.declared.Entry.{Entry}
use Rattle.heap_model.specs.declared.Layer.TheVariants as layers
use Rattle.heap_model.specs.declared.What.TheVariants as whats
use Rattle.heap_model.specs.Bits.{starts_at, has_bit}
use Rattle.heap_model.specs.Buckets.{block_size, block_address}
use Rattle.heap_model.specs.State.{Setting, GateAndLocks}
use Rattle.heap_model.specs.CallState.{Configuration}
use Rattle.heap_model.specs.Legal.{after}
use Rattle.heap_model.specs.History.{configuration_after, configuration_of}
use Rattle.heap_model.specs.declared.Opening.{Opening}
use Rattle.claim_rule.specs.declared.views.Owed.{Owed}
use Rattle.claim_rule.specs.declared.views.View.{View}
use Rattle.claim_rule.specs.Places.{bitmap_at, bit_of_block}
use Rattle.claim_rule.specs.Shown.{AreAllShown, owed_or, hint_word, back_holder}
use Rattle.heap_model.specs.Layers.{LayerState}
use Rattle.claim_rule.specs.Entries.{IsSettingOf, setting_of, entry}
use Rattle.claim_rule.specs.Rule.{IsRuled, IsReady, ready_after}
use Rattle.claim_rule.specs.Laws.{IsOwing}
use Rattle.claim_rule.proofs.Holders.{back_holder_is}
use Rattle.claim_rule.proofs.Slots.{homes_still, homes_kept}
use Rattle.claim_rule.proofs.Words.{all_same, all_kept}
use Rattle.claim_rule.specs.Plays.{number_of}
use Rattle.claim_rule.proofs.Advance.{before, acts, leaves, adds_of, setting_in, role_of, some_setting, owes_still, holder_behind, setting_back, seen_behind}
use Rattle.step_parts.specs.InHand.{HasBlock}
use Rattle.step_parts.proofs.BlocksInHand.{placed_held}
use Rattle.claim_rule.proofs.Gate.{one_by, one_follows}
use Rattle.step_parts.specs.Claims.{CanClaim, MayClaim, owed_by_place, IsUnder}
use Rattle.block_steps.specs.Claims.{claimed}
use Rattle.block_steps.specs.Laws.{ClaimLaw}
use Rattle.step_parts.proofs.FrontEnd.{front_here}
use Rattle.step_parts.proofs.Stays.{seen_still}
use Rattle.step_parts.proofs.Placed.{claim_same, under_same, placed, lost, bit_is}
use Rattle.claim_rule.proofs.Ready.{holder_is_it}

module _ {T : Type 0} (stands : T → LayerState) (o : Opening) (slots id n head b t i : ℕ) (back : Bool) (hint : ℕ) (me : Me (Option T) View) (es : List Entry) (h : IsReady n me.0 es) (ft : t < 16)
    (ok : (s : Setting) → IsSettingOf me.0.opening me.0.roll s → MayClaim s (ready_after s me.0 es) n head b t i × IsUnder (ready_after s me.0 es) n b t back hint me.0.owes)
    (st : State (Option T) View) (r : IsRuled stands o st) (at : get_elem? st.views id ≡ some me.0) where
  abbrev word : ℕ
  word = bitmap_at o.limits head i

  abbrev found : ℕ
  found = get_or st.words word 0

  abbrev there : Setting → Configuration
  there s = configuration_after s (configuration_of s r.log) es

  abbrev Claiming : ℕ → Type 0
  Claiming y = (w : View) × (a : Act (Option T)) × Valid st.homes me.1 a × IsRuled stands o (stepped st word y id me.1 w a)
      × claimed es head b t i back hint (step slots word (bit_of_block i) 0 none) me found (w, carried_after me.1 a)

  can : (s : Setting) → IsSettingOf o r.lead.roll s → CanClaim s (there s) n head b t i
  can s q =
      let k = ok s (setting_in stands o st r id n me.0 es at h s q) in
      claim_same s n head b t i (there s) (ready_after s me.0 es) (before stands o st r id n me.0 es at h s q).carried.agrees
      (seen_still stands o st r id n me.0 es at h s q k.0.can.inside head b t) k.0

  bits : (s : Setting) (q : IsSettingOf o r.lead.roll s) → has_bit found (i % 64) ≡ starts_at (there s).state.lfh (block_address b head i)
  bits s q = bit_is o.limits r.lead.counted s (there s) n i back r.owes st.words (front_here stands o st r id n me.0 es at h s q) (before stands o st r id n me.0 es at h s q).words head b t (can s q)

  miss : has_bit found (i % 64) ≡ true → Claiming (bit_or found (bit_of_block i))
  miss z =
      let a = acts stands o st r id n me.0 es at h me.1 word (bit_or found (bit_of_block i)) keeps (entry n (acts.Lost head i) ∷ []) (one_by n (acts.Lost head i)) (λ k. refl)
      (λ s q.
      let d = before stands o st r id n me.0 es at h s q in
      let c = can s q in
      let g = lost o.limits r.lead.counted s (there s) n i back r.owes st.words (front_here stands o st r id n me.0 es at h s q) d.words head b t c (sym (bits s q) ∙ z) in (
        one_follows s (there s) n (acts.Lost head i) d.whole c.begun g.ok,
        refl,
        subst (λ (y : ℕ). AreAllShown o.limits r.lead.counted (after s (there s) (entry n (acts.Lost head i))) r.owes (set st.words word y)) (sym g.same)
            (all_kept o.limits r.lead.counted (after s (there s) (entry n (acts.Lost head i))) r.owes st.words word
            (all_same o.limits r.lead.counted (after s (there s) (entry n (acts.Lost head i))) (there s) r.owes st.words (record { lfh = refl; words = refl; active = refl; spans = refl; hints = λ k x y. refl; makers = λ x k. refl }) refl d.words)),
        d.home,
      )) in
      (a.0, keeps, tt, a.1, record { free = λ e. absurd (both_ways (has_bit found (i % 64)) e z); taken = λ _. record { adds = adds_of me (a.0, me.1) n es (acts.Lost head i) h.role a.2; slot = refl; owes = a.3 } })

  -- the holder of Back by the entries, where the caller holds it
  holder_log : (s : Setting) → IsSettingOf o r.lead.roll s → back ≡ true → back_holder r.log ≡ Some n
  holder_log s q e =
      let d = before stands o st r id n me.0 es at h s q in
      let k = (ok s (setting_in stands o st r id n me.0 es at h s q)).1 in
      back_holder_is s r.log ∙ (sym (ap (λ (z : GateAndLocks). z.locks.back) d.carried.gate) ∙ holder_is_it n (there s).state.gate.locks.back (d.carried.agrees.locks whats.Back ∙ (k.holds_it ∙ e)))

  owing : IsOwing stands n r.owes (owed_by_place back b t hint r.owes) (owed_by_place back b t hint me.0.owes) (r.log ++ (es ++ entry n (acts.Place (block_address b head i) (block_size b / 16) layers.Lfh) ∷ []))
  owing = by_back back refl
    where
      deed : List Entry
      deed = entry n (acts.Place (block_address b head i) (block_size b / 16) layers.Lfh) ∷ []

      by_back : (z : Bool) → z ≡ back → IsOwing stands n r.owes (owed_by_place back b t hint r.owes) (owed_by_place back b t hint me.0.owes) (r.log ++ (es ++ entry n (acts.Place (block_address b head i) (block_size b / 16) layers.Lfh) ∷ []))
      by_back true e =
          let mine = holder_log (setting_of o r.lead.roll) (some_setting o r.lead.roll) (sym e) in
          record { same = inr (holder_behind stands o st r id n me.0 es at h (entry n (acts.Place (block_address b head i) (block_size b / 16) layers.Lfh) ∷ []) ∙ mine); known = λ k. ap (owed_by_place back b t hint) ((role_of stands o st r id n me.0 at h.role).5 mine) }
      by_back false e = subst (λ (z : Bool). IsOwing stands n r.owes (owed_by_place z b t hint r.owes) (owed_by_place z b t hint me.0.owes) (r.log ++ (es ++ entry n (acts.Place (block_address b head i) (block_size b / 16) layers.Lfh) ∷ []))) e
          (owes_still stands o st r id n me.0 es at h (entry n (acts.Place (block_address b head i) (block_size b / 16) layers.Lfh) ∷ []) (λ k. refl))

  hit : has_bit found (i % 64) ≡ false → Claiming (bit_or found (bit_of_block i))
  hit z =
      let deed : Deed = acts.Place (block_address b head i) (block_size b / 16) layers.Lfh in
      let a = leaves stands o st r id n me.0 es at h me.1 word (bit_or found (bit_of_block i)) keeps (entry n (acts.Place (block_address b head i) (block_size b / 16) layers.Lfh) ∷ []) (owed_by_place back b t hint r.owes) (owed_by_place back b t hint me.0.owes) (one_by n deed) owing
      (λ s q.
      let d = before stands o st r id n me.0 es at h s q in
      let c = can s q in
      let u = under_same n b t hint back me.0.owes (there s) (ready_after s me.0 es) d.carried.agrees (ok s (setting_in stands o st r id n me.0 es at h s q)).1 in
      let g = placed o.limits r.lead.counted s (there s) n i back r.owes st.words (front_here stands o st r id n me.0 es at h s q) d.words head b t c hint ft
      (record { holds_it = u.holds_it; hint_is = λ e. ap (λ (z : List Owed). owed_or z (118 + 16 * b + t) (hint_word (there s).state.back.area (there s).now.span_history b t)) (sym ((role_of stands o st r id n me.0 at h.role).5 (holder_log s q e))) ∙ u.hint_is e }) (sym (bits s q) ∙ z) in (
        one_follows s (there s) n deed d.whole c.begun g.ok,
        refl,
        g.shown,
        homes_kept stands o (after s (there s) (entry n deed)).state (there s).state st.homes (homes_still _ _ refl refl) d.home,
      )) in (
        a.0,
        keeps,
        tt,
        a.1,
        record {
          free = λ _. record {
            adds = adds_of me (a.0, me.1) n es deed h.role a.2;
            slot = refl;
            owes = a.3;
            tells = λ s q.
                let g = setting_back stands o st r id n me.0 es at h a.0 s a.2.opening a.5 q in
                subst (λ (k : ℕ). HasBlock (configuration_of s a.0.seen) k b (block_address b head i)) (sym (ap number_of h.role))
                (subst (λ (m : Configuration). HasBlock m n b (block_address b head i)) (sym (seen_behind stands o st r id n me.0 es at h a.0 s (entry n deed ∷ []) a.4)) (placed_held s (there s) n b (block_address b head i) (can s g).begun));
          };
          taken = λ e. absurd (both_ways (has_bit found (i % 64)) z e);
        },
      )

  -- the bit is set, and was 0 or 1
  pub claims : Claiming (bit_or found (bit_of_block i))
  claims = elim (cases_Bool (has_bit found (i % 64))) [ inl e ↦ miss e | inr e ↦ hit e ]

pub claim_law : {T : Type 0} (stands : T → LayerState) → ClaimLaw stands
claim_law stands o slots id n head b t i back hint me es h ft ok st r deep at small = claims stands o slots id n head b t i back hint me es h ft ok st r at
