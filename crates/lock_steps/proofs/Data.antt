-- The laws of data words.
use Rattle.std.proofs.Common.{inr, ◌≡◌, ℕ, ◌+◌, ◌*◌, ◌<◌, true, ◌&&◌, ◌==◌, List, [], ◌∷◌, get_or, Option, refl, sym, ap, ◌∙◌, subst, arith, eq-eqb, ne_eqb}
use Rattle.std.specs.Prelude.{is_some, nat_lt}
use Rattle.std.proofs.lemmas.Bool.{and_from, lt-ltb}
use mathlib.Core.Option.{none, some}
use lib.ListN.{get_elem?}
use Rattle.atomic_table.specs.Table.{State, Me, Act, step, keeps, stepped, carried_after, Valid}
use Rattle.heap_model.specs.declared.Act.{Act as Deed}
use Rattle.heap_model.specs.declared.Act.TheVariants as acts
use Rattle.heap_model.specs.declared.Entry.{Entry}
use Rattle.heap_model.specs.declared.Limits.{Limits}
use Rattle.heap_model.specs.State.{Setting, is_entered}
use Rattle.heap_model.specs.CallState.{Configuration, CallerView, CallState}
use Rattle.heap_model.specs.Legal.{after, data_words}
use Rattle.heap_model.specs.History.{configuration_after, configuration_of}
use Rattle.heap_model.proofs.Stable.{caller_view_same}
use Rattle.heap_model.specs.declared.Opening.{Opening}
use Rattle.claim_rule.specs.declared.views.Owed.{Owed}
use Rattle.claim_rule.specs.declared.views.View.{View}
use Rattle.heap_model.specs.Layers.{LayerState}
use Rattle.claim_rule.specs.Entries.{IsSettingOf, entry}
use Rattle.claim_rule.specs.Rule.{IsRuled, IsReady, ready_after}
use Rattle.claim_rule.proofs.Slots.{homes_still, homes_kept}
use Rattle.claim_rule.proofs.Words.{all_same, all_kept}
use Rattle.claim_rule.proofs.Advance.{before, acts, adds_of, setting_in}
use Rattle.claim_rule.proofs.Gate.{one_by, one_follows}
use Rattle.claim_rule.specs.Places.{data_at, data_count}
use Rattle.lock_steps.specs.Data.{IsInside, loaded, stored}
use Rattle.lock_steps.specs.Laws.{LoadDataLaw, StoreDataLaw}
use Rattle.claim_rule.proofs.Behind.{stays, IsBehind, owed_soundly, shown_behind, still_owed, locks_stay}

module _ {T : Type 0} (stands : T → LayerState) (o : Opening) (slots id n : ℕ) (me : Me (Option T) View) (es : List Entry) (h : IsReady n me.0 es) (st : State (Option T) View) (r : IsRuled stands o st) (at : get_elem? st.views id ≡ some me.0) where
  abbrev now_at : Setting → Configuration
  now_at s = configuration_after s (configuration_of s r.log) es

  abbrev in_view : (s : Setting) → IsSettingOf o r.lead.roll s → IsSettingOf me.0.opening me.0.roll s
  in_view s q = setting_in stands o st r id n me.0 es at h s q

  abbrev Storing : (ℕ → Me (Option T) View → Type 0) → ℕ → ℕ → ℕ → Type 0
  Storing tells word y said = (w : View) × (a : Act (Option T)) × Valid st.homes me.1 a × IsRuled stands o (stepped st word y id me.1 w a) × tells said (w, carried_after me.1 a)

  inside_here : (s : Setting) (q : IsSettingOf o r.lead.roll s) → IsInside (ready_after s me.0 es) n → IsInside (now_at s) n
  inside_here s q k =
      let d = before stands o st r id n me.0 es at h s q in
      record { begun = ap (λ (c : CallState). is_some c.call) d.carried.agrees.call ∙ k.begun; inside = ap (λ (x : CallerView). x.entered) (caller_view_same n (now_at s) (ready_after s me.0 es) d.carried.agrees) ∙ k.inside }

  ---- Data words

  -- a data word is loaded
  pub loads_data : (w : ℕ) → w < data_count o.limits → ((s : Setting) → IsSettingOf me.0.opening me.0.roll s → IsInside (ready_after s me.0 es) n)
      → Storing (loaded es w (step slots (data_at o.limits w) 0 0 none) me) (data_at o.limits w) (get_or st.words (data_at o.limits w) 0) (get_or st.words (data_at o.limits w) 0)
  loads_data w lt ok =
      let deed : Deed = acts.Load w (get_or st.words (data_at o.limits w) 0) in
      let a = acts stands o st r id n me.0 es at h me.1 (data_at o.limits w) (get_or st.words (data_at o.limits w) 0) keeps (entry n deed ∷ []) (one_by n deed) (λ k. refl)
      (λ s q.
      let d = before stands o st r id n me.0 es at h s q in
      let k = inside_here s q (ok s (in_view s q)) in
      let word = d.words.stored w lt in (
        one_follows s (now_at s) n deed d.whole k.begun
            (and_from (is_entered (now_at s).state.gate n && (now_at s).state.words w == get_or st.words (data_at o.limits w) 0) (nat_lt w (data_words s))
            (and_from (is_entered (now_at s).state.gate n) ((now_at s).state.words w == get_or st.words (data_at o.limits w) 0) k.inside (eq-eqb _ _ (sym word)))
            (subst (λ (l : Limits). nat_lt w (131072 * l.segments + 512 * l.large_pages) ≡ true) (sym q.limits) (lt-ltb w (data_count o.limits) lt))),
        refl,
        all_kept o.limits r.lead.counted (after s (now_at s) (entry n deed)) r.owes st.words (data_at o.limits w)
            (all_same o.limits r.lead.counted (after s (now_at s) (entry n deed)) (now_at s) r.owes st.words (record { lfh = refl; words = refl; active = refl; spans = refl; hints = λ k x y. refl; makers = λ x k. refl }) refl d.words),
        d.home,
      )) in
      (a.0, keeps, tt, a.1, record { adds = adds_of me (a.0, me.1) n es deed h.role a.2; slot = refl; owes = a.3 })

  data_behind : (l : Limits) (s : Setting) (m : Configuration) (owes : List Owed) (w v : ℕ) → w < data_count l → IsBehind l (after s m (entry n (acts.Store w v))) m owes owes (data_at l w) v
  data_behind l s m owes w v lt = record {
    gate = stays (data_at l w) v 1 _ _ (λ k. omega arith) refl;
    locks = locks_stay (data_at l w) v _ _ (inr (omega arith)) refl;
    active = λ k lk. stays (data_at l w) v (6 + k) _ _ (λ g. omega arith) refl;
    hints = λ b t lb hb ft. stays (data_at l w) v (118 + 16 * b + t) _ _ (λ g. omega arith) refl;
    tags = λ page lp. stays (data_at l w) v (2182 + page) _ _ (λ g. omega arith) refl;
    bitmaps = λ k lk. stays (data_at l w) v (2182 + 256 * l.segments + k) _ _ (λ g. omega arith) refl;
    sizes = λ k lk. stays (data_at l w) v (2182 + 1280 * l.segments + k) _ _ (λ g. omega arith) refl;
    stored = λ k lk. record {
      here = λ g. let same : k ≡ w = omega arith in let e = eq-eqb k w same in rw e refl;
      else = λ g. let e = ne_eqb k w (λ z. g (omega arith)) in rw e refl;
    };
  }

  -- a data word is stored
  pub stores_data : (w v : ℕ) → w < data_count o.limits → ((s : Setting) → IsSettingOf me.0.opening me.0.roll s → IsInside (ready_after s me.0 es) n)
      → Storing (λ z m'. stored es w (step slots (data_at o.limits w) v 0 none) me v m') (data_at o.limits w) v v
  stores_data w v lt ok =
      let deed : Deed = acts.Store w v in
      let a = acts stands o st r id n me.0 es at h me.1 (data_at o.limits w) v keeps (entry n deed ∷ []) (one_by n deed) (λ k. refl)
      (λ s q.
      let d = before stands o st r id n me.0 es at h s q in
      let k = inside_here s q (ok s (in_view s q)) in (
        one_follows s (now_at s) n deed d.whole k.begun
            (and_from (is_entered (now_at s).state.gate n) (nat_lt w (data_words s)) k.inside (subst (λ (l : Limits). nat_lt w (131072 * l.segments + 512 * l.large_pages) ≡ true) (sym q.limits) (lt-ltb w (data_count o.limits) lt))),
        refl,
        shown_behind o.limits r.lead.counted (after s (now_at s) (entry n deed)) (now_at s) r.owes r.owes st.words (data_at o.limits w) v (omega arith) (omega arith)
            (data_behind o.limits s (now_at s) r.owes w v lt)
            (still_owed o.limits (after s (now_at s) (entry n deed)) (now_at s) r.owes refl refl refl refl (owed_soundly o.limits r.lead.counted (now_at s) r.owes st.words d.words)) d.words,
        homes_kept stands o (after s (now_at s) (entry n deed)).state (now_at s).state st.homes (homes_still _ _ refl refl) d.home,
      )) in
      (a.0, keeps, tt, a.1, record { adds = adds_of me (a.0, me.1) n es deed h.role a.2; slot = refl; owes = a.3 })

pub load_data_law : {T : Type 0} (stands : T → LayerState) → LoadDataLaw stands
load_data_law stands o slots id n w me es h lt ok st r deep at small = loads_data stands o slots id n me es h st r at w lt ok

pub store_data_law : {T : Type 0} (stands : T → LayerState) → StoreDataLaw stands
store_data_law stands o slots id n w v me es h lt ok st r deep at small = stores_data stands o slots id n me es h st r at w v lt ok
