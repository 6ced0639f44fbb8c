-- What a caller has seen in this stay is still there: while it is inside, no subsegment goes.
use Rattle.std.proofs.Common.{◌≡◌, ℕ, true, not, ◌&&◌, List, [], ◌∷◌, ◌++◌, length, Option, refl, sym, ap, ◌∙◌, subst, inl, inr, eqb}
use Rattle.std.specs.Prelude.{nat_lt}
use Rattle.std.proofs.lemmas.Bool.{cases_Bool, and_parts, and_from, eqb-false}
use mathlib.Core.Option.{some}
use lib.ListN.{get_elem?}
use Rattle.atomic_table.specs.Table.{State as TableState}
use Rattle.heap_model.specs.declared.Entry.{Entry}
use Rattle.heap_model.specs.declared.Kind.TheVariants as kinds
use Rattle.heap_model.specs.State.{Setting, IsValidSetting, GateAndLocks, Span, is_among, is_entered}
use Rattle.heap_model.specs.CallState.{Configuration}
use Rattle.heap_model.specs.Legal.{may_follow, after}
use Rattle.heap_model.specs.History.{configuration_after, configuration_of, first_configuration, may_all_follow, own}
use Rattle.heap_model.proofs.Others.{agrees_self}
use Rattle.heap_soundness.specs.Sound.{IsOneOf}
use Rattle.heap_soundness.specs.Invariant.{Keeps}
use Rattle.heap_soundness.proofs.Kept.{keeps_all, keeps_after}
use Rattle.heap_soundness.proofs.Whole.{step_stable}
use Rattle.heap_model.specs.declared.Opening.{Opening}
use Rattle.claim_rule.specs.declared.views.View.{View}
use Rattle.claim_rule.specs.Shown.{lfh_spans}
use Rattle.heap_model.specs.Layers.{LayerState}
use Rattle.claim_rule.specs.Entries.{IsSettingOf, is_named}
use Rattle.claim_rule.specs.Rule.{IsRuled, IsReady, ready_after}
use Rattle.claim_rule.proofs.Lists.{after-append, follow_parts, legal_parts, none_between}
use Rattle.claim_rule.proofs.Prepared.{carried}
use Rattle.claim_rule.proofs.Advance.{before, role_of, some_setting, setting_in}
use Rattle.step_parts.proofs.FrontEnd.{usual, valid_setting, through_same}
use Rattle.step_parts.proofs.BlockWords.{in_lfh, into_lfh}
use Rattle.step_parts.specs.Seen.{IsSeen}

spans_through : (s : Setting) (m : Configuration) (fs : List Entry) (c : ℕ) → IsValidSetting s → Keeps s m → may_all_follow s m fs ≡ true → own c fs ≡ [] → is_entered m.state.gate c ≡ true →
    (x : Span) → x.kind ≡ kinds.Lfh → IsOneOf x m.state.back.area.spans → IsOneOf x (configuration_after s m fs).state.back.area.spans
spans_through s m [] c g w l o i x k there = there
spans_through s m (e ∷ fs) c g w l o i x k there = elim (cases_Bool (eqb e.caller c)) [
  | inl f ↦ let z : e ∷ own c fs ≡ [] = (rw f at o) in absurd (let no : ⊥ = cc in no)
  | inr f ↦
      let p = and_parts (may_follow s m e) (may_all_follow s (after s m e) fs) l in
      let t = step_stable s m e w p.0 in
      let r = t.others c (eqb-false e.caller c f) in
      let counted = r.counted in
      let turning = r.turning in
      let inside : is_entered (after s m e).state.gate c ≡ is_entered m.state.gate c = both counted turning in
      spans_through s (after s m e) fs c g (keeps_after s m e g p.0 w) p.1 (rw f at o) (inside ∙ i) x k (t.lfh c i x k there)
]
  where
    both : is_among c (after s m e).state.gate.counted ≡ is_among c m.state.gate.counted → is_among c (after s m e).state.gate.turning ≡ is_among c m.state.gate.turning → is_entered (after s m e).state.gate c ≡ is_entered m.state.gate c
    both a b = ap (λ x. x && not (is_among c (after s m e).state.gate.turning)) a ∙ ap (λ x. is_among c m.state.gate.counted && not x) b

named_front : (k : ℕ) (xs ys : List Entry) → is_named k (xs ++ ys) ≡ true → is_named k xs ≡ true
named_front k [] ys h = refl
named_front k (x ∷ xs) ys h = let p = and_parts (nat_lt x.caller k) (is_named k (xs ++ ys)) h in and_from (nat_lt x.caller k) (is_named k xs) p.0 (named_front k xs ys p.1)

module _ {T : Type 0} (stands : T → LayerState) (o : Opening) (st : TableState (Option T) View) (r : IsRuled stands o st) (id n : ℕ) (v : View) (es : List Entry) (at : get_elem? st.views id ≡ some v) (h : IsReady n v es)
    (s : Setting) (q : IsSettingOf o r.lead.roll s) where
  -- the setting of the callers
  abbrev pub home : Setting
  home = usual stands o st r id n v es at h s q

  -- what the caller has seen is the same there
  pub seen_same : configuration_of s v.seen ≡ configuration_of home v.seen
  seen_same =
      let k = r.known id v at in
      let names = named_front (length r.lead.roll) v.seen k.seen.list_begins.0 (ap (is_named (length r.lead.roll)) k.seen.list_begins.1 ∙ r.numbers.names) in
      through_same s home (length r.lead.roll) first_configuration v.seen (λ c lt. record { seed = q.seed; slot = q.slot c lt; stream = q.stream c lt }) names

  -- the history is the same there
  pub log_same : configuration_of home r.log ≡ configuration_of s r.log
  log_same = through_same home s (length r.lead.roll) first_configuration r.log (λ c lt. record { seed = sym q.seed; slot = sym (q.slot c lt); stream = sym (q.stream c lt) }) r.numbers.names

  -- a subsegment that the caller has seen in this stay is there behind the entries that it carries
  pub still_there : (x : Span) → is_entered (ready_after s v es).state.gate n ≡ true → IsOneOf x (lfh_spans (ready_after s v es).state.back.area) → IsOneOf x (lfh_spans (configuration_after s (configuration_of s r.log) es).state.back.area)
  still_there x inside i =
      let k = r.known id v at in
      let p = role_of stands o st r id n v at h.role in
      let q' = setting_in stands o st r id n v es at h s q in
      let mine = carried s n (configuration_of s v.seen) (configuration_of s v.seen) es (agrees_self n (configuration_of s v.seen)) refl (h.prepared s q') in
      let all = (before stands o st r id n v es at h s q).carried in
      let x0 = in_lfh (configuration_of s v.seen).state.back.area.spans x (subst (IsOneOf x) mine.shown.spans i) in
      let in0 : is_entered (configuration_of s v.seen).state.gate n ≡ true = ap (λ (f : GateAndLocks). is_entered f n) (sym mine.gate) ∙ inside in
      let legal = (legal_parts home r.log (r.shown home (some_setting o r.lead.roll)).legal).0 in
      let parts = follow_parts home first_configuration v.seen k.seen.list_begins.0 (ap (may_all_follow home first_configuration) k.seen.list_begins.1 ∙ legal) in
      let valid = valid_setting o r.lead.roll r.numbers.limits r.numbers.slots in
      let x1 = spans_through home (configuration_of home v.seen) k.seen.list_begins.0 n valid (keeps_all home v.seen valid parts.0) parts.1 (none_between n r.log v.seen k.seen.list_begins p.3)
      (subst (λ (m : Configuration). is_entered m.state.gate n ≡ true) seen_same in0) x x0.1 (subst (λ (m : Configuration). IsOneOf x m.state.back.area.spans) seen_same x0.0) in
      let is : configuration_after home (configuration_of home v.seen) k.seen.list_begins.0 ≡ configuration_of s r.log = sym (after-append home first_configuration v.seen k.seen.list_begins.0) ∙ (ap (configuration_of home) k.seen.list_begins.1 ∙ log_same) in
      subst (IsOneOf x) (sym all.shown.spans) (into_lfh (configuration_of s r.log).state.back.area.spans x (subst (λ (m : Configuration). IsOneOf x m.state.back.area.spans) is x1) x0.1)

  -- .. with its bucket and slot
  pub seen_still : is_entered (ready_after s v es).state.gate n ≡ true → (head b t : ℕ) → IsSeen (ready_after s v es) head b t → IsSeen (configuration_after s (configuration_of s r.log) es) head b t
  seen_still inside head b t z = record { span = z.span; there = still_there z.span inside z.there; begins = z.begins; bucket = z.bucket; slot = z.slot }
