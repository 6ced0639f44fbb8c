-- What others did while a caller is inside, and its search.
use Rattle.std.proofs.Common.{◌≡◌, ℕ, Bool, true, false, not, ◌&&◌, List, [], ◌∷◌, Option, refl, sym, ap, ◌∙◌, subst, inl, inr, eqb}
use Rattle.std.proofs.lemmas.Bool.{cases_Bool, and_parts, and_from, both_ways, false≢true, true≢false, not-true}
use mathlib.Core.Option.{some}
use lib.ListN.{get_elem?}
use Rattle.atomic_table.specs.Table.{State as TableState}
use Rattle.heap_model.specs.declared.Act.{Act}
use Rattle.heap_model.specs.declared.Act.TheVariants as acts
use Rattle.heap_model.specs.declared.Entry.{Entry}
use Rattle.heap_model.specs.State.{Setting, Area, Span, GateAndLocks, BackPart, is_entered, updated}
use Rattle.heap_model.specs.CallState.{Configuration, SpanHistory}
use Rattle.heap_model.specs.Search.{spans_of, hint, hint_or, first_of}
use Rattle.heap_model.specs.Legal.{may, after, disturbed_after}
use Rattle.heap_model.specs.History.{configuration_after, configuration_of, first_configuration, may_all_follow, own}
use Rattle.heap_model.specs.Agreement.{SameHeap}
use Rattle.heap_model.proofs.GateSound.{row_of, gate_sound_after, gate_sound_first}
use Rattle.heap_model.proofs.Others.{agrees_self}
use Rattle.heap_model.proofs.Undisturbed.{undisturbed_others}
use Rattle.heap_soundness.specs.Invariant.{Keeps}
use Rattle.heap_soundness.proofs.Kept.{keeps_all}
use Rattle.heap_model.specs.declared.Opening.{Opening}
use Rattle.claim_rule.specs.declared.views.View.{View}
use Rattle.claim_rule.specs.Shown.{HintsAreHeads, is_head}
use Rattle.heap_model.specs.Layers.{LayerState}
use Rattle.claim_rule.specs.Entries.{IsSettingOf, entry, leaves_words, are_prepared}
use Rattle.claim_rule.specs.Rule.{IsRuled, IsReady, ready_after}
use Rattle.claim_rule.proofs.Lists.{after-append, follow_parts, legal_parts, none_between}
use Rattle.claim_rule.proofs.Prepared.{carried, ready_entry}
use Rattle.claim_rule.proofs.Quiet.{spans_of_same, leaves_gate}
use Rattle.claim_rule.proofs.Advance.{before, role_of, some_setting, setting_in}
use Rattle.step_parts.proofs.FrontEnd.{usual, valid_setting}
use Rattle.step_parts.proofs.Stays.{seen_same}
use Rattle.claim_rule.proofs.Counts.{or_parts}

-- The entry disturbs nobody: it neither begins a call nor enters.
abbrev pub leaves_undisturbed : Act → Bool
leaves_undisturbed (acts.Begin call) = false
leaves_undisturbed acts.Enter = false
leaves_undisturbed _ = true

-- none of the entries disturbs anybody
abbrev pub leave_undisturbed : List Entry → Bool
leave_undisturbed [] = true
leave_undisturbed (e ∷ es) = leaves_undisturbed e.act && leave_undisturbed es

undisturbed_act : (s : Setting) (m : Configuration) (e : Entry) (act : Act) → leaves_undisturbed act ≡ true → (after s m (record { caller = e.caller; act = act })).now.disturbed ≡ m.now.disturbed
undisturbed_act s m e (acts.Begin call) h = absurd (false≢true h)
undisturbed_act s m e acts.Enter h = absurd (false≢true h)
undisturbed_act s m e _ h = refl

-- through such entries nobody is disturbed more than before
pub undisturbed_through : (s : Setting) (m : Configuration) (es : List Entry) → leave_undisturbed es ≡ true → (configuration_after s m es).now.disturbed ≡ m.now.disturbed
undisturbed_through s m [] h = refl
undisturbed_through s m (e ∷ es) h =
    let p = and_parts (leaves_undisturbed e.act) (leave_undisturbed es) h in
    undisturbed_through s (after s m e) es p.1 ∙ undisturbed_act s m e e.act p.0

-- what a caller that is inside prepares disturbs nobody
undisturbed_row : (s : Setting) (m : Configuration) (c : ℕ) (act : Act) → is_entered m.state.gate c ≡ true → may s m c act ≡ true → leaves_words m c act ≡ true → leaves_undisturbed act ≡ true
undisturbed_row s m c (acts.Begin call) i h q =
    let out = (and_parts _ _ (and_parts _ _ (and_parts _ _ h).0).0).1 in
    absurd (both_ways (is_entered m.state.gate c) (not-true (is_entered m.state.gate c) (and_parts (not (is_entered m.state.gate c)) _ out).0) i)
undisturbed_row s m c acts.Enter i h q = absurd (false≢true q)
undisturbed_row s m c _ i h q = refl

-- prepared entries are such
pub prepared_undisturbed : (s : Setting) (m : Configuration) (c : ℕ) (es : List Entry) → is_entered m.state.gate c ≡ true → are_prepared s m c es ≡ true → leave_undisturbed es ≡ true
prepared_undisturbed s m c [] i h = refl
prepared_undisturbed s m c (e ∷ es) i h =
    let p = ready_entry s c m e (are_prepared s (after s m e) c es) h in
    let row = row_of s m (entry c e.act) p.0.follows in
    let is : e ≡ entry c e.act = ap (λ (x : ℕ). entry x e.act) p.0.by in
    let gate : (after s m e).state.gate ≡ m.state.gate = ap (λ (x : Entry). (after s m x).state.gate) is ∙ leaves_gate s m c e.act p.0.quiet in
    and_from (leaves_undisturbed e.act) (leave_undisturbed es) (undisturbed_row s m c e.act i row p.0.quiet) (prepared_undisturbed s (after s m e) c es (ap (λ (f : GateAndLocks). is_entered f c) gate ∙ i) p.1)

---- Others disturb for good

other_one : {A : Type 0} (f : ℕ → A) (c n : ℕ) (x : A) → (c ≡ n → ⊥) → updated f c x n ≡ f n
other_one f c n x ne = let e : eqb n c ≡ false = Rattle.std.proofs.lemmas.Bool.ne_eqb n c (λ q. ne (sym q)) in rw e refl

undisturbed_before : (s : Setting) (m : Configuration) (c n : ℕ) (act : Act) → (c ≡ n → ⊥) → disturbed_after m.state.gate m.now.disturbed c act n ≡ false → m.now.disturbed n ≡ false
undisturbed_before s m c n (acts.Begin call) ne e = sym (other_one m.now.disturbed c n _ ne) ∙ e
undisturbed_before s m c n acts.Enter ne e = (or_parts (not (eqb n c)) (m.now.disturbed n) e).1
undisturbed_before s m c n _ ne e = e

-- who was disturbed stays so
pub undisturbed_on : (s : Setting) (m : Configuration) (n : ℕ) (es : List Entry) → own n es ≡ [] → (configuration_after s m es).now.disturbed n ≡ false → m.now.disturbed n ≡ false
undisturbed_on s m n [] o e = e
undisturbed_on s m n (x ∷ es) o e = elim (cases_Bool (eqb x.caller n)) [
  | inl f ↦ let g : x ∷ own n es ≡ [] = (rw f at o) in absurd (let z : ⊥ = cc in z)
  | inr f ↦ undisturbed_before s m x.caller n x.act (Rattle.std.proofs.lemmas.Bool.eqb-false x.caller n f) (undisturbed_on s (after s m x) n es (rw f at o) e)
]

-- What n relies on in m, where k is what it knows: it stays disturbed, and where it is not, spans and hints are as it knows them.
pub record IsSince (n : ℕ) (m k : Configuration) : Type 0 where
  pub later : k.now.disturbed n ≡ true → m.now.disturbed n ≡ true
  pub alone : m.now.disturbed n ≡ false → (b t : ℕ) → hint m.state.back.area m.now.span_history b t ≡ hint k.state.back.area k.now.span_history b t

hint_parts : (a c : Area) (r u : SpanHistory) (b t : ℕ) → spans_of a b t ≡ spans_of c b t → r.hints b t ≡ u.hints b t → hint a r b t ≡ hint c u b t
hint_parts a c r u b t e f = ap (λ (z : Option ℕ × List Span). hint_or z.0 (first_of z.1)) (λ j. (f j, e j))

module _ {T : Type 0} (stands : T → LayerState) (o : Opening) (st : TableState (Option T) View) (r : IsRuled stands o st) (id n : ℕ) (v : View) (es : List Entry) (at : get_elem? st.views id ≡ some v) (h : IsReady n v es)
    (s : Setting) (q : IsSettingOf o r.lead.roll s) where
  -- what is so behind what others did
  pub since : is_entered (ready_after s v es).state.gate n ≡ true → IsSince n (configuration_after s (configuration_of s r.log) es) (ready_after s v es)
  since inside =
      let k = r.known id v at in
      let p = role_of stands o st r id n v at h.role in
      let q' = setting_in stands o st r id n v es at h s q in
      let c0 : Configuration = configuration_of s v.seen in
      let c1 : Configuration = configuration_of s r.log in
      let d = before stands o st r id n v es at h s q in
      let mine = carried s n (configuration_of s v.seen) (configuration_of s v.seen) es (agrees_self n (configuration_of s v.seen)) refl (h.prepared s q') in
      let in0 : is_entered c0.state.gate n ≡ true = ap (λ (f : GateAndLocks). is_entered f n) (sym mine.gate) ∙ inside in
      let quiet = prepared_undisturbed s (configuration_of s v.seen) n es in0 (h.prepared s q') in
      let m_same = undisturbed_through s (configuration_of s r.log) es quiet in
      let k_same = undisturbed_through s (configuration_of s v.seen) es quiet in
      let own_is = none_between n r.log v.seen k.seen.list_begins p.3 in
      let is : configuration_after s (configuration_of s v.seen) k.seen.list_begins.0 ≡ configuration_of s r.log = sym (after-append s first_configuration v.seen k.seen.list_begins.0) ∙ ap (configuration_of s) k.seen.list_begins.1 in
      let legal = (legal_parts s r.log (r.shown s q).legal).0 in
      let parts = follow_parts s first_configuration v.seen k.seen.list_begins.0 (ap (may_all_follow s first_configuration) k.seen.list_begins.1 ∙ legal) in
      let us = usual stands o st r id n v es at h s q in
      let valid = valid_setting o r.lead.roll r.numbers.limits r.numbers.slots in
      let legal' = (legal_parts us r.log (r.shown us (some_setting o r.lead.roll)).legal).0 in
      let parts' = follow_parts us first_configuration v.seen k.seen.list_begins.0 (ap (may_all_follow us first_configuration) k.seen.list_begins.1 ∙ legal') in
      let keep0 = subst (Keeps us) (sym (seen_same stands o st r id n v es at h s q)) (keeps_all us v.seen valid parts'.0) in
      let heads1 : HintsAreHeads c1 = (r.shown s q).words.lfh.heads in
      let down : c1.now.disturbed n ≡ false → c0.now.disturbed n ≡ false = λ e. undisturbed_on s (configuration_of s v.seen) n k.seen.list_begins.0 own_is (ap (λ (m : Configuration). m.now.disturbed n) is ∙ e) in
      record {
        later = λ e. up ((configuration_after s (configuration_of s r.log) es).now.disturbed n)
            (λ f. true≢false (sym e ∙ (ap (λ (g : ℕ → Bool). g n) k_same ∙ down (sym (ap (λ (g : ℕ → Bool). g n) m_same) ∙ f))));
        alone = λ e b t.
            let same = undisturbed_others s (configuration_of s v.seen) n k.seen.list_begins.0 own_is parts.1 (gate_sound_after s first_configuration v.seen parts.0 gate_sound_first) keep0.alone in0
            (ap (λ (m : Configuration). m.now.disturbed n) is ∙ (sym (ap (λ (g : ℕ → Bool). g n) m_same) ∙ e)) in
            let heap : SameHeap (configuration_of s r.log) (configuration_of s v.seen) = subst (λ (m : Configuration). SameHeap m (configuration_of s v.seen)) is same in
            let heads0 : HintsAreHeads c0 = λ x y first z. ap (λ (w : BackPart). is_head w.area x y first) (sym heap.back) ∙ heads1 x y first (ap (λ (w : SpanHistory). w.hints x y) heap.span_history ∙ z) in
            let m = configuration_after s (configuration_of s r.log) es in
            let kk = ready_after s v es in
            let one = hint_parts m.state.back.area (configuration_of s r.log).state.back.area m.now.span_history (configuration_of s r.log).now.span_history b t (spans_of_same m.state.back.area (configuration_of s r.log).state.back.area b t d.carried.shown.spans) (d.carried.shown.hints heads1 b t) in
            let two = hint_parts (configuration_of s r.log).state.back.area (configuration_of s v.seen).state.back.area (configuration_of s r.log).now.span_history (configuration_of s v.seen).now.span_history b t (ap (λ (w : BackPart). spans_of w.area b t) heap.back) (ap (λ (w : SpanHistory). w.hints b t) heap.span_history) in
            let three = hint_parts kk.state.back.area (configuration_of s v.seen).state.back.area kk.now.span_history (configuration_of s v.seen).now.span_history b t (spans_of_same kk.state.back.area (configuration_of s v.seen).state.back.area b t mine.shown.spans) (mine.shown.hints heads0 b t) in
            one ∙ (two ∙ sym three);
      }
    where
      up : (x : Bool) → (x ≡ false → ⊥) → x ≡ true
      up true f = refl
      up false f = absurd (f refl)
