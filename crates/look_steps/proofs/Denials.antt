-- The laws of the steps with which a caller says that no live block has an address.
use Rattle.std.proofs.Common.{◌≡◌, ℕ, ◌+◌, ◌%◌, ◌<◌, true, ◌==◌, List, [], ◌∷◌, get_or, Option, refl, sym, ap, ◌∙◌, subst, arith, inl, eq-eqb}
use Rattle.std.specs.Prelude.{is_some}
use Rattle.std.proofs.lemmas.Bool.{and_from}
use mathlib.Core.Option.{none, some}
use lib.ListN.{get_elem?}
use Rattle.atomic_table.specs.Table.{rest, State, Me, Act, step, keeps, stepped, carried_after, Valid}
use Rattle.heap_model.specs.declared.Act.{Act as Deed}
use Rattle.heap_model.specs.declared.Act.TheVariants as acts
use Rattle.heap_model.specs.declared.Entry.{Entry}
use Rattle.heap_model.specs.State.{Setting, gate_word, hands}
use Rattle.heap_model.specs.CallState.{Configuration, CallState, CallerView, caller_view}
use Rattle.heap_model.specs.Legal.{may, after, may_leave}
use Rattle.heap_model.specs.History.{configuration_after, configuration_of}
use Rattle.heap_model.specs.declared.Opening.{Opening}
use Rattle.claim_rule.specs.declared.views.View.{View}
use Rattle.heap_model.specs.Layers.{LayerState}
use Rattle.claim_rule.specs.Entries.{IsSettingOf, entry, is_by}
use Rattle.claim_rule.specs.Rule.{IsRuled, IsReady, ready_after}
use Rattle.claim_rule.specs.Steps.{MayGoOut}
use Rattle.claim_rule.specs.Plays.{Goes, number_of}
use Rattle.claim_rule.proofs.Counts.{length-without}
use Rattle.claim_rule.proofs.Lists.{follow_join}
use Rattle.claim_rule.proofs.Slots.{homes_still, homes_kept}
use Rattle.claim_rule.proofs.Words.{all_same, all_kept}
use Rattle.claim_rule.proofs.Behind.{all_gate}
use Rattle.claim_rule.proofs.Advance.{before, acts, adds_of, setting_in}
use Rattle.claim_rule.proofs.Gate.{leaver_counted, one_by, one_follows, out_same}
use Rattle.look_steps.specs.Denials.{MayDeny, denied, denied_left}
use Rattle.look_steps.specs.Laws.{DenyLaw, DenyGiveLaw, DenyLeaveLaw}
use Rattle.step_parts.proofs.FrontEnd.{keeps_here, usual}
use Rattle.step_parts.proofs.Stays.{still_there}
use Rattle.lock_steps.proofs.Locks.{view_denied, gives_denied}
use Rattle.look_steps.proofs.NoLiveBlock.{denied_ok}

module _ {T : Type 0} (stands : T → LayerState) (o : Opening) (slots id n a : ℕ) (me : Me (Option T) View) (es : List Entry) (h : IsReady n me.0 es)
    (ok : (s : Setting) → IsSettingOf me.0.opening me.0.roll s → MayDeny o.limits (ready_after s me.0 es) n a)
    (st : State (Option T) View) (r : IsRuled stands o st) (at : get_elem? st.views id ≡ some me.0) where
  abbrev now_at : Setting → Configuration
  now_at s = configuration_after s (configuration_of s r.log) es

  abbrev deed : Deed
  deed = acts.NotLive a

  -- the denial may come in the history
  pub not_there : (s : Setting) → IsSettingOf o r.lead.roll s → may s (now_at s) n deed ≡ true
  not_there s q =
      let d = before stands o st r id n me.0 es at h s q in
      let k = ok s (setting_in stands o st r id n me.0 es at h s q) in
      denied_ok (usual stands o st r id n me.0 es at h s q) (now_at s) (ready_after s me.0 es) n a (keeps_here stands o st r id n me.0 es at h s q) d.carried.agrees (λ x i. still_there stands o st r id n me.0 es at h s q x k.inside i) o.limits refl k s

  begun_here : (s : Setting) → IsSettingOf o r.lead.roll s → is_some ((now_at s).now.calls n).call ≡ true
  begun_here s q = ap (λ (c : CallState). is_some c.call) (before stands o st r id n me.0 es at h s q).carried.agrees.call ∙ (ok s (setting_in stands o st r id n me.0 es at h s q)).begun

  -- with a load
  pub denies : (i : ℕ) → (w : View) × (b : Act (Option T)) × Valid st.homes me.1 b × IsRuled stands o (stepped st i (get_or st.words i 0) id me.1 w b) × denied es a (step slots i 0 0 none) me (get_or st.words i 0) (w, carried_after me.1 b)
  denies i =
      let x = acts stands o st r id n me.0 es at h me.1 i (get_or st.words i 0) keeps (entry n deed ∷ []) (one_by n deed) (λ k. refl)
      (λ s q.
      let d = before stands o st r id n me.0 es at h s q in (
        one_follows s (now_at s) n deed d.whole (begun_here s q) (not_there s q),
        refl,
        all_kept o.limits r.lead.counted (after s (now_at s) (entry n deed)) r.owes st.words i
            (all_same o.limits r.lead.counted (after s (now_at s) (entry n deed)) (now_at s) r.owes st.words (record { lfh = refl; words = refl; active = refl; spans = refl; hints = λ k x y. refl; makers = λ x k. refl }) refl d.words),
        d.home,
      )) in
      (x.0, keeps, tt, x.1, record { adds = adds_of me (x.0, me.1) n es deed h.role x.2; slot = refl; owes = x.3 })

  -- with leaving
  pub leaves_denied : (out : (s : Setting) → IsSettingOf me.0.opening me.0.roll s → MayGoOut (ready_after s me.0 es) n) → get_or st.words 1 0 < 18446744073709551616
      → (w : View) × (b : Act (Option T)) × Valid st.homes me.1 b × IsRuled stands o (stepped st 1 ((get_or st.words 1 0 + 18446744073709551615) % 18446744073709551616) id me.1 w b) × denied_left es a (step slots 1 1 0 none) me (get_or st.words 1 0) (w, carried_after me.1 b)
  leaves_denied out small =
      let x : ℕ = get_or st.words 1 0 in
      let c = acts stands o st r id n me.0 es at h me.1 1 ((x + 18446744073709551615) % 18446744073709551616) keeps (entry n deed ∷ entry n acts.Leave ∷ [])
      (and_from (n == n) (is_by n (entry n acts.Leave ∷ [])) (eq-eqb n n refl) (one_by n acts.Leave)) (λ g. refl)
      (λ s q.
      let b = before stands o st r id n me.0 es at h s q in
      let m : Configuration = now_at s in
      let first : Configuration = after s m (entry n deed) in
      let view : caller_view first n ≡ caller_view m n = view_denied s m n a in
      let p = out_same s n m (ready_after s me.0 es) b.carried.agrees (out s (setting_in stands o st r id n me.0 es at h s q)) in
      let is : x ≡ gate_word m.state.gate = b.words.gate.gate in
      let fits : x < 18446744073709551616 = small in
      let one = length-without n m.state.gate.counted b.counted.apart (leaver_counted m n b.counted p.may) in
      let y : (x + 18446744073709551615) % 18446744073709551616 ≡ gate_word (after s first (entry n acts.Leave)).state.gate = omega arith in (
        follow_join s m (entry n deed ∷ []) (entry n acts.Leave ∷ []) (one_follows s m n deed b.whole p.begun (not_there s q))
            (one_follows s first n acts.Leave refl (ap (λ (v : CallerView). is_some v.call.call) view ∙ p.begun) (ap (λ (v : CallerView). may_leave v (hands m.state n)) view ∙ p.may)),
        refl,
        all_gate o.limits r.lead.counted (after s first (entry n acts.Leave)) m _ st.words ((x + 18446744073709551615) % 18446744073709551616)
            (record { lfh = refl; words = refl; active = refl; spans = refl; hints = λ k b t. refl; makers = λ f k. refl }) refl (inl (λ own. own)) y b.words,
        homes_kept stands o (after s first (entry n acts.Leave)).state m.state st.homes (homes_still _ _ refl refl) b.home,
      )) in (
        c.0,
        keeps,
        tt,
        c.1,
        record {
          goes = subst (λ (k : ℕ). Goes k me.0 c.0 es (entry k (acts.NotLive a) ∷ entry k acts.Leave ∷ [])) (sym (ap number_of h.role)) c.2;
          slot = refl;
          owes = c.3;
        },
      )

pub deny_law : {T : Type 0} (stands : T → LayerState) → DenyLaw stands
deny_law stands o slots id n a i me es h ok st r deep at small = denies stands o slots id n a me es h ok st r at i

pub deny_give_law : {T : Type 0} (stands : T → LayerState) → DenyGiveLaw stands
deny_give_law stands o slots id n a what me es state more has h top paid back ok st r deep at small =
    let g = gives_denied stands o slots id n what me es state more has h top paid back st r at a (λ s q. not_there stands o slots id n a me es h ok st r at s q) in
    (g.0, g.1, g.2, g.3, record { goes = g.4; slot = λ t more' e. g.6 ∙ ap rest e; owes = g.5 })

pub deny_leave_law : {T : Type 0} (stands : T → LayerState) → DenyLeaveLaw stands
deny_leave_law stands o slots id n a me es h out ok st r deep at small = leaves_denied stands o slots id n a me es h ok st r at out small
