-- The laws of a load, and of the steps at the gate: enter, and leave or turn back.
use Rattle.std.proofs.Common.{◌≡◌, ℕ, ◌+◌, ◌-◌, ◌*◌, ◌/◌, ◌%◌, ◌^◌, ◌<◌, Bool, true, false, not, ◌&&◌, ◌||◌, ◌==◌, cond, List, [], ◌∷◌, length, get_or, refl, sym, ap, ◌∙◌, subst, arith, Option, Some, None, eq-eqb, ne_eqb, inl, inr}
use Rattle.std.specs.Prelude.{is_some, is_none}
use Rattle.std.proofs.lemmas.Bool.{and_parts, and_from, or_left, or_right, or_cases, cases_Bool, eqb-true, false≢true}
use mathlib.Core.Option.{none}
use Rattle.atomic_table.specs.Table.{Me, step, keeps, Allows}
use Rattle.heap_model.specs.declared.Act.{Act as Deed}
use Rattle.heap_model.specs.declared.Act.TheVariants as acts
use Rattle.heap_model.specs.declared.Entry.{Entry}
use Rattle.heap_model.specs.declared.What.TheVariants as whats
use Rattle.heap_model.specs.State.{Setting, is_among, is_caller, is_another, gate_word, caller_word, hands}
use Rattle.heap_model.specs.Stay.{for_some}
use Rattle.heap_model.specs.CallState.{Configuration, CallerView, CallState, Nothing, caller_view, is_outside}
use Rattle.heap_model.specs.Legal.{may, may_follow, after, meets_demand, is_begin, is_lock_or_compact, may_leave}
use Rattle.heap_model.specs.History.{configuration_after, configuration_of, may_all_follow}
use Rattle.heap_model.specs.Agreement.{AgreesFor}
use Rattle.heap_model.proofs.Stable.{caller_view_same, same_hands}
use Rattle.heap_model.specs.declared.Opening.{Opening}
use Rattle.claim_rule.specs.declared.views.View.{View}
use Rattle.heap_model.specs.Layers.{LayerState}
use Rattle.claim_rule.specs.Shown.{holder_from}
use Rattle.claim_rule.specs.Entries.{IsSettingOf, entry, is_by}
use Rattle.claim_rule.specs.Rule.{IsRuled, IsReady, ready_after}
use Rattle.claim_rule.specs.Steps.{MayPass, MayGoOut}
use Rattle.claim_rule.specs.Plays.{Adds, number_of, gate_act, looked, entered, left}
use Rattle.claim_rule.proofs.Counts.{IsCounted, length-without}
use Rattle.claim_rule.proofs.Slots.{homes_still, SameHomes, homes_kept}
use Rattle.claim_rule.proofs.Quiet.{SameShown}
use Rattle.claim_rule.proofs.Behind.{all_gate}
use Rattle.claim_rule.proofs.Words.{all_kept}
use Rattle.claim_rule.proofs.Advance.{before, acts, adds_of, goes_of}

pub one_by : (n : ℕ) (d : Deed) → is_by n (entry n d ∷ []) ≡ true
one_by n d = ap (λ (b : Bool). b && true) (eq-eqb n n refl)

-- one entry more, behind which nothing was demanded
pub one_follows : (s : Setting) (m : Configuration) (n : ℕ) (d : Deed) → m.now.demand ≡ Nothing → is_some (m.now.calls n).call ≡ true → may s m n d ≡ true → may_all_follow s m (entry n d ∷ []) ≡ true
one_follows s m n d w b ok =
    and_from (may_follow s m (entry n d)) true
    (and_from (meets_demand m.state.back.area (entry n d) m.now.demand && (is_begin d || is_some (m.now.calls n).call)) (may s m n d)
    (and_from (meets_demand m.state.back.area (entry n d) m.now.demand) (is_begin d || is_some (m.now.calls n).call) (ap (meets_demand m.state.back.area (entry n d)) w) (or_right (is_begin d) (is_some (m.now.calls n).call) b))
    ok)
    refl

-- a test that an option passes has a value to pass
pub for_some_is : {A : Type 0} (o : Option A) (t : A → Bool) → for_some o t ≡ true → is_some o ≡ true
for_some_is None t h = h
for_some_is (Some x) t h = refl

pub for_some_not : {A : Type 0} (o : Option A) (t : A → Bool) → for_some o (λ x. not (t x)) ≡ true → for_some o t ≡ false
for_some_not None t h = refl
for_some_not (Some x) t h = Rattle.std.proofs.lemmas.Bool.not-true (t x) h

for_some_else : {A : Type 0} (o : Option A) (t u v : A → Bool) → for_some o (λ x. not (t x)) ≡ true → ((x : A) → v x ≡ true) → for_some o (λ x. cond (t x) (u x) (v x)) ≡ true
for_some_else None t u v h k = h
for_some_else (Some x) t u v h k = let e = Rattle.std.proofs.lemmas.Bool.not-true (t x) h in rw e (k x)

---- What a caller does who finds a gate word

pub gate_enters_free : (n x : ℕ) → x / 65536 ≡ 0 → gate_act n x ≡ acts.Enter
gate_enters_free n x e = ap (λ (b : Bool). cond (b || (x / 65536 == n + 1)) acts.Enter (acts.Blocked whats.Gate x)) (eq-eqb (x / 65536) 0 e)

pub gate_enters_own : (n x : ℕ) → x / 65536 ≡ n + 1 → gate_act n x ≡ acts.Enter
gate_enters_own n x e = go (x / 65536 == 0)
  where
    go : (a : Bool) → cond (a || (x / 65536 == n + 1)) acts.Enter (acts.Blocked whats.Gate x) ≡ acts.Enter
    go true = refl
    go false = ap (λ (b : Bool). cond b acts.Enter (acts.Blocked whats.Gate x)) (eq-eqb (x / 65536) (n + 1) e)

pub gate_blocks : (n x : ℕ) → (x / 65536 ≡ 0 → ⊥) → (x / 65536 ≡ n + 1 → ⊥) → gate_act n x ≡ acts.Blocked whats.Gate x
gate_blocks n x a b = ap (λ (t : Bool). cond (t || (x / 65536 == n + 1)) acts.Enter (acts.Blocked whats.Gate x)) (ne_eqb (x / 65536) 0 a) ∙ ap (λ (t : Bool). cond t acts.Enter (acts.Blocked whats.Gate x)) (ne_eqb (x / 65536) (n + 1) b)

pub pass_same : (n : ℕ) (m k : Configuration) → AgreesFor n m k → MayPass k n → MayPass m n
pass_same n m k r h =
    let v = caller_view_same n m k r in
    record {
      outside = ap is_outside v ∙ h.outside;
      fresh = ap (λ (c : CallState). c.entered) r.call ∙ h.fresh;
      call = ap (λ (c : CallState). for_some c.call (λ call. not (is_lock_or_compact call))) r.call ∙ h.call;
    }

module _ (s : Setting) (m : Configuration) (n x : ℕ) (h : MayPass m n) (is : x ≡ gate_word m.state.gate) (lt : length m.state.gate.counted < 65536) where
  enter_ok : (is_none m.state.gate.owner || is_caller n m.state.gate.owner) ≡ true → may s m n acts.Enter ≡ true
  enter_ok o =
      and_from (is_outside (caller_view m n) && not (m.now.calls n).entered) (is_none m.state.gate.owner || is_caller n m.state.gate.owner)
      (and_from (is_outside (caller_view m n)) (not (m.now.calls n).entered) h.outside (ap not h.fresh)) o

  blocked_ok : is_another n m.state.gate.owner ≡ true → may s m n (acts.Blocked whats.Gate x) ≡ true
  blocked_ok o =
      and_from (is_outside (caller_view m n) && (x == gate_word m.state.gate)) _
      (and_from (is_outside (caller_view m n)) (x == gate_word m.state.gate) h.outside (eq-eqb x (gate_word m.state.gate) is))
      (for_some_else (m.now.calls n).call is_lock_or_compact (λ call. not (caller_view m n).owns && not (x == 0)) (λ call. is_another n m.state.gate.owner) h.call (λ call. o))

  pub enter_may : may s m n (gate_act n x) ≡ true
  enter_may = by_owner m.state.gate.owner refl
    where
      by_owner : (o : Option ℕ) → m.state.gate.owner ≡ o → may s m n (gate_act n x) ≡ true
      by_owner None e =
          let w : caller_word m.state.gate.owner ≡ 0 = ap caller_word e in
          subst (λ (d : Deed). may s m n d ≡ true) (sym (gate_enters_free n x (omega arith))) (enter_ok (or_left (is_none m.state.gate.owner) _ (ap is_none e)))
      by_owner (Some d) e =
          let w : caller_word m.state.gate.owner ≡ d + 1 = ap caller_word e in
          elim (cases_Bool (d == n)) [
            | inl f ↦
                let same : d ≡ n = eqb-true d n f in
                subst (λ (a : Deed). may s m n a ≡ true) (sym (gate_enters_own n x (omega arith))) (enter_ok (or_right (is_none m.state.gate.owner) _ (ap (is_caller n) e ∙ f)))
            | inr f ↦
                let ne = Rattle.std.proofs.lemmas.Bool.eqb-false d n f in
                subst (λ (a : Deed). may s m n a ≡ true) (sym (gate_blocks n x (λ z. omega arith) (λ z. ne (omega arith)))) (blocked_ok (ap (is_another n) e ∙ ap not f))
          ]

  -- what the step leaves, and how it counts
  pub record IsPassed (m' : Configuration) : Type 0 where
    pub word : x + 1 ≡ gate_word m'.state.gate
    pub shown : SameShown m' m
    pub locks : m'.state.gate.locks ≡ m.state.gate.locks
    pub owner : m'.state.gate.owner ≡ m.state.gate.owner
    pub demand : m'.now.demand ≡ Nothing
    pub homes : SameHomes m'.state m.state

  passed : (b : Bool) → IsPassed (after s m (entry n (cond b acts.Enter (acts.Blocked whats.Gate x))))
  passed true = record {
    word = omega arith;
    shown = record { lfh = refl; words = refl; active = refl; spans = refl; hints = λ k b t. refl; makers = λ f k. refl };
    locks = refl;
    owner = refl;
    demand = refl;
    homes = homes_still _ _ refl refl;
  }
  passed false = record {
    word = counted (for_some (m.now.calls n).call is_lock_or_compact) (for_some_not (m.now.calls n).call is_lock_or_compact h.call);
    shown = record { lfh = refl; words = refl; active = refl; spans = refl; hints = λ k b t. refl; makers = λ f k. refl };
    locks = refl;
    owner = refl;
    demand = refl;
    homes = homes_still _ _ refl refl;
  }
    where
      counted : (b : Bool) → b ≡ false → x + 1 ≡ length (cond b m.state.gate.counted (n ∷ m.state.gate.counted)) + 65536 * caller_word m.state.gate.owner
      counted true e = absurd (false≢true (sym e))
      counted false e = omega arith

  pub pass_leaves : IsPassed (after s m (entry n (gate_act n x)))
  pass_leaves = passed ((x / 65536 == 0) || (x / 65536 == n + 1))

pub gate_holder : (h : Option ℕ) (n x : ℕ) → holder_from h (entry n (gate_act n x) ∷ []) ≡ h
gate_holder h n x = go ((x / 65536 == 0) || (x / 65536 == n + 1))
  where
    go : (b : Bool) → holder_from h (entry n (cond b acts.Enter (acts.Blocked whats.Gate x)) ∷ []) ≡ h
    go true = refl
    go false = refl

pub out_same : (s : Setting) (n : ℕ) (m k : Configuration) → AgreesFor n m k → MayGoOut k n → MayGoOut m n
out_same s n m k r h = record {
  begun = ap (λ (c : CallState). is_some c.call) r.call ∙ h.begun;
  may = ap (λ (v : CallerView). may_leave v (hands m.state n)) (caller_view_same n m k r) ∙ (ap (may_leave (caller_view k n)) (same_hands s n m k r) ∙ h.may);
}

-- who may leave is counted
pub leaver_counted : (m : Configuration) (n : ℕ) → IsCounted m.state.gate → may_leave (caller_view m n) (hands m.state n) ≡ true → is_among n m.state.gate.counted ≡ true
leaver_counted m n k h = elim (or_cases (is_among n m.state.gate.turning) _ h) [
  | inl t ↦ k.turning n t
  | inr t ↦ (and_parts (is_among n m.state.gate.counted) _ (and_parts (caller_view m n).entered _ (and_parts _ _ t).0).0).0
]

module _ {T : Type 0} (stands : T → LayerState) (o : Opening) where
  pub looks : (slots id n i : ℕ) (me : Me (Option T) View) (es : List Entry) → IsReady n me.0 es → Allows (IsRuled stands o) slots id me i (λ x. x) (looked es (step slots i 0 0 none) me)
  looks slots id n i me es h st r deep at small =
      let a = acts stands o st r id n me.0 es at h me.1 i (get_or st.words i 0) keeps [] refl (λ g. refl)
      (λ s q.
      let b = before stands o st r id n me.0 es at h s q in
      (refl, b.whole, all_kept o.limits r.lead.counted _ _ st.words i b.words, b.home)) in
      (a.0, keeps, tt, a.1, (goes_of me (a.0, me.1) n es [] h.role a.2, refl, a.3))

  pub enters : (slots id n : ℕ) (me : Me (Option T) View) (es : List Entry) → IsReady n me.0 es
      → ((s : Setting) → IsSettingOf me.0.opening me.0.roll s → MayPass (ready_after s me.0 es) n)
      → Allows (IsRuled stands o) slots id me 1 (λ x. (x + 1) % 2 ^ 64) (entered es (step slots 1 1 0 none) me)
  enters slots id n me es h may st r deep at small =
      let x : ℕ = get_or st.words 1 0 in
      let limits = r.numbers.limits in
      let dealt = r.numbers.dealt in
      let counted = r.numbers.counted in
      let top = limits.callers in
      let a = acts stands o st r id n me.0 es at h me.1 1 ((x + 1) % 2 ^ 64) keeps (entry n (gate_act n x) ∷ []) (one_by n (gate_act n x)) (λ h. gate_holder h n x)
      (λ s q.
      let b = before stands o st r id n me.0 es at h s q in
      let m : Configuration = configuration_after s (configuration_of s r.log) es in
      let p = pass_same n m (ready_after s me.0 es) b.carried.agrees (may s (Rattle.claim_rule.proofs.Advance.setting_in stands o st r id n me.0 es at h s q)) in
      let is : x ≡ gate_word m.state.gate = b.words.gate.gate in
      let few = b.few in
      let lt : length m.state.gate.counted < 65536 = omega arith in
      let d = pass_leaves s m n x p is lt in
      let word = d.word in
      let owned = b.owner in
      let y : (x + 1) % 18446744073709551616 ≡ x + 1 = omega arith in (
        one_follows s m n (gate_act n x) b.whole (for_some_is (m.now.calls n).call _ p.call) (enter_may s m n x p is lt),
        d.demand,
        all_gate o.limits r.lead.counted (after s m (entry n (gate_act n x))) m _ st.words ((x + 1) % 2 ^ 64) d.shown d.locks (inl (λ own. ap is_some d.owner ∙ own)) (y ∙ word) b.words,
        homes_kept stands o (after s m (entry n (gate_act n x))).state m.state st.homes d.homes b.home,
      )) in
      (a.0, keeps, tt, a.1, (subst (λ (k : ℕ). Adds es (gate_act k x) me (a.0, me.1)) (sym (ap number_of h.role)) (adds_of me (a.0, me.1) n es (gate_act n x) h.role a.2), refl, a.3))

  pub leaves : (slots id n : ℕ) (me : Me (Option T) View) (es : List Entry) → IsReady n me.0 es
      → ((s : Setting) → IsSettingOf me.0.opening me.0.roll s → MayGoOut (ready_after s me.0 es) n)
      → Allows (IsRuled stands o) slots id me 1 (λ x. (x + (2 ^ 64 - 1)) % 2 ^ 64) (left es (step slots 1 1 0 none) me)
  leaves slots id n me es h may st r deep at small =
      let x : ℕ = get_or st.words 1 0 in
      let a = acts stands o st r id n me.0 es at h me.1 1 ((x + 18446744073709551615) % 18446744073709551616) keeps (entry n acts.Leave ∷ []) (one_by n acts.Leave) (λ g. refl)
      (λ s q.
      let b = before stands o st r id n me.0 es at h s q in
      let m : Configuration = configuration_after s (configuration_of s r.log) es in
      let p = out_same s n m (ready_after s me.0 es) b.carried.agrees (may s (Rattle.claim_rule.proofs.Advance.setting_in stands o st r id n me.0 es at h s q)) in
      let is : x ≡ gate_word m.state.gate = b.words.gate.gate in
      let fits : x < 18446744073709551616 = small in
      let one = length-without n m.state.gate.counted b.counted.apart (leaver_counted m n b.counted p.may) in
      let y : (x + 18446744073709551615) % 18446744073709551616 ≡ gate_word (after s m (entry n acts.Leave)).state.gate = omega arith in (
        one_follows s m n acts.Leave b.whole p.begun p.may,
        refl,
        all_gate o.limits r.lead.counted (after s m (entry n acts.Leave)) m _ st.words ((x + 18446744073709551615) % 18446744073709551616)
            (record { lfh = refl; words = refl; active = refl; spans = refl; hints = λ k b t. refl; makers = λ f k. refl }) refl (inl (λ own. own)) y b.words,
        homes_kept stands o (after s m (entry n acts.Leave)).state m.state st.homes (homes_still _ _ refl refl) b.home,
      )) in
      (a.0, keeps, tt, a.1, (adds_of me (a.0, me.1) n es acts.Leave h.role a.2, refl, a.3))
