-- The laws of the heap lock: take it, or find a gate word that is not 0; give it back.
use Rattle.std.proofs.Common.{◌≡◌, ℕ, ◌+◌, ◌-◌, ◌*◌, ◌%◌, ◌^◌, ◌<◌, Bool, true, false, not, ◌&&◌, ◌==◌, cond, List, [], ◌∷◌, get_or, refl, sym, ap, ◌∙◌, subst, arith, Option, Some, None, inl, inr, eq-eqb, ne_eqb, eqb}
use Rattle.std.specs.Prelude.{is_some}
use Rattle.std.proofs.lemmas.Bool.{and_parts, and_from, eqb-true, false≢true, not-true}
use mathlib.Core.Option.{none, some}
use lib.ListN.{get_elem?}
use prog.Atomic.{either}
use Rattle.atomic_table.specs.Table.{State, Me, Act, step, keeps, stepped, carried_after, Valid, Allows}
use Rattle.atomic_table.proofs.Lists.{exchanged}
use Rattle.heap_model.specs.declared.Act.{Act as Deed}
use Rattle.heap_model.specs.declared.Act.TheVariants as acts
use Rattle.heap_model.specs.declared.Entry.{Entry}
use Rattle.heap_model.specs.declared.What.TheVariants as whats
use Rattle.heap_model.specs.State.{Setting, GateAndLocks, is_caller, gate_word, caller_word}
use Rattle.heap_model.specs.Stay.{for_some}
use Rattle.heap_model.specs.CallState.{Configuration, CallerView, CallState, caller_view, is_outside, holds_none}
use Rattle.heap_model.specs.Legal.{may, after, is_lock_or_compact, may_unlock, gate_blocked}
use Rattle.heap_model.specs.History.{configuration_after, configuration_of}
use Rattle.heap_model.specs.Agreement.{AgreesFor}
use Rattle.heap_model.proofs.Stable.{caller_view_same}
use Rattle.heap_model.specs.declared.Opening.{Opening}
use Rattle.claim_rule.specs.declared.views.View.{View}
use Rattle.heap_model.specs.Layers.{LayerState}
use Rattle.claim_rule.specs.Entries.{IsSettingOf, entry}
use Rattle.claim_rule.specs.Rule.{IsRuled, IsReady, ready_after}
use Rattle.claim_rule.specs.Steps.{MayTryLock, MayGiveUp}
use Rattle.claim_rule.specs.Plays.{Adds, locked, unlocked}
use Rattle.claim_rule.proofs.Slots.{homes_still, homes_kept}
use Rattle.claim_rule.proofs.Behind.{all_gate}
use Rattle.claim_rule.proofs.Wanting.{free_beside}
use Rattle.claim_rule.proofs.Words.{all_kept, all_same}
use Rattle.claim_rule.proofs.Advance.{before, acts, adds_of, setting_in, role_of}
use Rattle.claim_rule.proofs.Gate.{one_by, one_follows, for_some_is}

pub try_same : (n : ℕ) (m k : Configuration) → AgreesFor n m k → MayTryLock k n → MayTryLock m n
try_same n m k r h =
    let v = caller_view_same n m k r in
    record { outside = ap is_outside v ∙ h.outside; owns = ap (λ (x : CallerView). x.owns) v ∙ h.owns; call = ap (λ (c : CallState). for_some c.call is_lock_or_compact) r.call ∙ h.call }

pub give_same : (n : ℕ) (m k : Configuration) → AgreesFor n m k → MayGiveUp k n → MayGiveUp m n
give_same n m k r h = record { begun = ap (λ (c : CallState). is_some c.call) r.call ∙ h.begun; may = ap may_unlock (caller_view_same n m k r) ∙ h.may }

-- the heap lock has no owner, and nobody is counted
no_owner : (f : GateAndLocks) (d : ℕ) → gate_word f ≡ 0 → f.owner ≡ Some d → ⊥
no_owner f d z e = let w : caller_word f.owner ≡ d + 1 = ap caller_word e in omega arith

owner_is : (n : ℕ) (o : Option ℕ) → is_caller n o ≡ true → o ≡ Some n
owner_is n None h = absurd (false≢true h)
owner_is n (Some d) h = ap Some (eqb-true d n h)

some_same : (a b : ℕ) → Some a ≡ Some b → a ≡ b
some_same a b e = cc (e)

for_some_if : {A : Type 0} (o : Option A) (t u v : A → Bool) → for_some o t ≡ true → ((x : A) → u x ≡ true) → for_some o (λ x. cond (t x) (u x) (v x)) ≡ true
for_some_if None t u v h k = h
for_some_if (Some x) t u v h k = rw h (k x)

-- a call of lock leaves the gate as it was
stays : (f : GateAndLocks) (n : ℕ) (k : CallState) → for_some k.call is_lock_or_compact ≡ true → gate_blocked f n k ≡ f
stays f n k h = rw h refl

blocked_ok : (s : Setting) (m : Configuration) (n x : ℕ) → MayTryLock m n → x ≡ gate_word m.state.gate → (x ≡ 0 → ⊥) → may s m n (acts.Blocked whats.Gate x) ≡ true
blocked_ok s m n x p is z =
    and_from (is_outside (caller_view m n) && (x == gate_word m.state.gate)) _
    (and_from (is_outside (caller_view m n)) (x == gate_word m.state.gate) p.outside (eq-eqb x (gate_word m.state.gate) is))
    (for_some_if (m.now.calls n).call is_lock_or_compact (λ call. not (caller_view m n).owns && not (x == 0)) _ p.call
    (λ call. and_from (not (caller_view m n).owns) (not (x == 0)) (ap not p.owns) (ap not (ne_eqb x 0 z))))

-- who holds no lock does not hold Back
no_back : (v : CallerView) → holds_none v ≡ true → v.back ≡ false
no_back v h = not-true v.back (and_parts (not v.lfh && not v.vs) (not v.back) (and_parts (not v.lfh && not v.vs && not v.back) (not v.large) h).0).1

module _ {T : Type 0} (stands : T → LayerState) (o : Opening) where
  abbrev Locking : ℕ → ℕ → ℕ → Me (Option T) View → List Entry → State (Option T) View → ℕ → Type 0
  Locking slots id n me es st y =
      (w : View) × (a : Act (Option T)) × Valid st.homes me.1 a × IsRuled stands o (stepped st 1 y id me.1 w a)
      × locked es (step slots 1 0 (65536 * (n + 1)) none) me (get_or st.words 1 0) (w, carried_after me.1 a)

  lock_hit : (slots id n : ℕ) (me : Me (Option T) View) (es : List Entry) → IsReady n me.0 es
      → ((s : Setting) → IsSettingOf me.0.opening me.0.roll s → MayTryLock (ready_after s me.0 es) n)
      → (st : State (Option T) View) (r : IsRuled stands o st) → get_elem? st.views id ≡ some me.0 → get_or st.words 1 0 ≡ 0 → Locking slots id n me es st (65536 * (n + 1))
  lock_hit slots id n me es h may st r at z =
      let x : ℕ = get_or st.words 1 0 in
      let a = acts stands o st r id n me.0 es at h me.1 1 (65536 * (n + 1)) keeps (entry n acts.Lock ∷ []) (one_by n acts.Lock) (λ g. refl)
      (λ s q.
      let b = before stands o st r id n me.0 es at h s q in
      let m : Configuration = configuration_after s (configuration_of s r.log) es in
      let p = try_same n m (ready_after s me.0 es) b.carried.agrees (may s (setting_in stands o st r id n me.0 es at h s q)) in
      let zero : gate_word m.state.gate ≡ 0 = sym b.words.gate.gate ∙ z in
      let y : 65536 * (n + 1) ≡ gate_word (after s m (entry n acts.Lock)).state.gate = omega arith in (
        one_follows s m n acts.Lock b.whole (for_some_is (m.now.calls n).call is_lock_or_compact p.call) (eq-eqb (gate_word m.state.gate) 0 zero),
        refl,
        all_gate o.limits r.lead.counted (after s m (entry n acts.Lock)) m _ st.words (65536 * (n + 1))
            (record { lfh = refl; words = refl; active = refl; spans = refl; hints = λ k b t. refl; makers = λ f k. refl }) refl (inl (λ own. refl)) y b.words,
        homes_kept stands o (after s m (entry n acts.Lock)).state m.state st.homes (homes_still _ _ refl refl) b.home,
      )) in
      let W : View = a.0 in
      (W, keeps, tt, a.1, (subst (λ (d : Deed). Adds es d me (W, me.1)) (sym (ap (λ (b : Bool). cond b acts.Lock (acts.Blocked whats.Gate x)) (eq-eqb x 0 z))) (adds_of me (W, me.1) n es acts.Lock h.role a.2), refl, a.3))

  lock_miss : (slots id n : ℕ) (me : Me (Option T) View) (es : List Entry) → IsReady n me.0 es
      → ((s : Setting) → IsSettingOf me.0.opening me.0.roll s → MayTryLock (ready_after s me.0 es) n)
      → (st : State (Option T) View) (r : IsRuled stands o st) → get_elem? st.views id ≡ some me.0 → (get_or st.words 1 0 ≡ 0 → ⊥) → Locking slots id n me es st (get_or st.words 1 0)
  lock_miss slots id n me es h may st r at z =
      let x : ℕ = get_or st.words 1 0 in
      let d : Deed = acts.Blocked whats.Gate x in
      let a = acts stands o st r id n me.0 es at h me.1 1 x keeps (entry n (acts.Blocked whats.Gate x) ∷ []) (one_by n (acts.Blocked whats.Gate x)) (λ g. refl)
      (λ s q.
      let b = before stands o st r id n me.0 es at h s q in
      let m : Configuration = configuration_after s (configuration_of s r.log) es in
      let p = try_same n m (ready_after s me.0 es) b.carried.agrees (may s (setting_in stands o st r id n me.0 es at h s q)) in
      let is : x ≡ gate_word m.state.gate = b.words.gate.gate in
      let same = stays m.state.gate n (m.now.calls n) p.call in (
        one_follows s m n (acts.Blocked whats.Gate x) b.whole (for_some_is (m.now.calls n).call is_lock_or_compact p.call) (blocked_ok s m n x p is z),
        refl,
        all_kept o.limits r.lead.counted (after s m (entry n (acts.Blocked whats.Gate x))) _ st.words 1
            (all_same o.limits r.lead.counted (after s m (entry n (acts.Blocked whats.Gate x))) m _ st.words
            (record { lfh = refl; words = refl; active = refl; spans = refl; hints = λ k b t. refl; makers = λ f k. refl }) same b.words),
        homes_kept stands o (after s m (entry n (acts.Blocked whats.Gate x))).state m.state st.homes (homes_still _ _ (ap (λ (f : GateAndLocks). f.locks) same) refl) b.home,
      )) in
      let W : View = a.0 in
      (W, keeps, tt, a.1, (subst (λ (d : Deed). Adds es d me (W, me.1)) (sym (ap (λ (b : Bool). cond b acts.Lock (acts.Blocked whats.Gate x)) (ne_eqb x 0 z))) (adds_of me (W, me.1) n es (acts.Blocked whats.Gate x) h.role a.2), refl, a.3))

  pub locks : (slots id n : ℕ) (me : Me (Option T) View) (es : List Entry) → IsReady n me.0 es
      → ((s : Setting) → IsSettingOf me.0.opening me.0.roll s → MayTryLock (ready_after s me.0 es) n)
      → Allows (IsRuled stands o) slots id me 1 (λ x. either (eqb x 0) (65536 * (n + 1)) x) (locked es (step slots 1 0 (65536 * (n + 1)) none) me)
  locks slots id n me es h may st r deep at small =
      exchanged (get_or st.words 1 0) 0 (65536 * (n + 1)) (Locking slots id n me es st) (lock_hit slots id n me es h may st r at) (lock_miss slots id n me es h may st r at)

  pub unlocks : (slots id n : ℕ) (me : Me (Option T) View) (es : List Entry) → IsReady n me.0 es
      → ((s : Setting) → IsSettingOf me.0.opening me.0.roll s → MayGiveUp (ready_after s me.0 es) n)
      → Allows (IsRuled stands o) slots id me 1 (λ x. (x + (2 ^ 64 - 65536 * (n + 1))) % 2 ^ 64) (unlocked es (step slots 1 (65536 * (n + 1)) 0 none) me)
  unlocks slots id n me es h may st r deep at small =
      let x : ℕ = get_or st.words 1 0 in
      let limits = r.numbers.limits in
      let dealt = r.numbers.dealt in
      let counted = r.numbers.counted in
      let top = limits.callers in
      let number = (role_of stands o st r id n me.0 at h.role).0 in
      let few : n < 64 = omega arith in
      let a = acts stands o st r id n me.0 es at h me.1 1 ((x + (18446744073709551616 - 65536 * (n + 1))) % 18446744073709551616) keeps (entry n acts.Unlock ∷ []) (one_by n acts.Unlock) (λ g. refl)
      (λ s q.
      let b = before stands o st r id n me.0 es at h s q in
      let m : Configuration = configuration_after s (configuration_of s r.log) es in
      let p = give_same n m (ready_after s me.0 es) b.carried.agrees (may s (setting_in stands o st r id n me.0 es at h s q)) in
      let is : x ≡ gate_word m.state.gate = b.words.gate.gate in
      let fits : x < 18446744073709551616 = small in
      let parts = and_parts _ (holds_none (caller_view m n)) p.may in
      let owns = (and_parts (caller_view m n).owns (not (caller_view m n).entered) parts.0).0 in
      let mine : m.state.gate.owner ≡ Some n = owner_is n m.state.gate.owner owns in
      let word : caller_word m.state.gate.owner ≡ n + 1 = ap caller_word mine in
      let free = free_beside m n b.gate owns (no_back (caller_view m n) parts.1) in
      let y : (x + (18446744073709551616 - 65536 * (n + 1))) % 18446744073709551616 ≡ gate_word (after s m (entry n acts.Unlock)).state.gate = omega arith in (
        one_follows s m n acts.Unlock b.whole p.begun p.may,
        refl,
        all_gate o.limits r.lead.counted (after s m (entry n acts.Unlock)) m _ st.words ((x + (18446744073709551616 - 65536 * (n + 1))) % 18446744073709551616)
            (record { lfh = refl; words = refl; active = refl; spans = refl; hints = λ k b t. refl; makers = λ f k. refl }) refl
            (inr free) y b.words,
        homes_kept stands o (after s m (entry n acts.Unlock)).state m.state st.homes (homes_still _ _ refl refl) b.home,
      )) in
      (a.0, keeps, tt, a.1, (adds_of me (a.0, me.1) n es acts.Unlock h.role a.2, refl, a.3))
