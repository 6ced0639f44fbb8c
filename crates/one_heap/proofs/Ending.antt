-- The end: the list that the root has seen is that of the only caller.
use Rattle.std.proofs.Common.{◌≡◌, ℕ, zero, suc, ◌<◌, Bool, true, ◌&&◌, List, [], ◌∷◌, length, refl, sym, ap, subst, ◌∙◌, arith}
use Rattle.std.specs.Prelude.{nat_lt}
use Rattle.std.proofs.lemmas.Bool.{lt-ltb}
use Rattle.heap_model.specs.declared.Opening.{Opening}
use Rattle.heap_model.specs.Limits.{AreValid}
use Rattle.heap_model.specs.State.{Setting, State, is_among, hands}
use Rattle.heap_model.specs.CallState.{Configuration}
use Rattle.heap_model.specs.Alone.{alone}
use Rattle.heap_model.specs.History.{IsLegal, is_legal, configuration_of, may_all_follow, first_configuration, own}
use Rattle.heap_model.specs.Serial.{IsIdle}
use Rattle.claim_rule.specs.declared.views.Assignment.{Assignment}
use Rattle.claim_rule.specs.Entries as rolls
use Rattle.claim_rule.specs.Entries.{IsSettingOf, IsLegalWith, have_slots, slot_at, stream_at}
use Rattle.claim_rule.proofs.Lists.{follow_parts, legal_parts, own_by}
use Rattle.heap_gate.specs.Token.{HeapToken, Token}
use Rattle.heap_gate.specs.Roots.{RootToken, HasJoined, IsAtRest}
use Rattle.heap_closing.specs.Receipts.{last_of}
use Rattle.one_heap.specs.Lone.{IsLone, only_one, seen_by, setting_of, history_of, behind}
use Rattle.one_heap.proofs.Only.{first_only, all_zero, zero_acts}

no_slot : (n : ℕ) → slot_at only_one n ≡ 0
no_slot zero = refl
no_slot (suc n) = refl

no_stream : (n : ℕ) → stream_at only_one n ≡ 0
no_stream zero = refl
no_stream (suc n) = refl

alone_is : (o : Opening) → rolls.setting_of o only_one ≡ alone o.limits o.seed
alone_is o = λ i. record { limits = o.limits; seed = o.seed; slot = λ n. no_slot n i; stream = λ n. no_stream n i }

alone_of : (o : Opening) → IsSettingOf o only_one (alone o.limits o.seed)
alone_of o = record { limits = refl; seed = refl; slot = λ n lt. sym (no_slot n); stream = λ n lt. sym (no_stream n) }

first_alone : (n : ℕ) → n < 1 → is_among n (0 ∷ []) ≡ true
first_alone zero lt = refl
first_alone (suc n) lt = absurd (omega arith)

module _ (h : HeapToken) (r : RootToken) (c : Token) (k : IsLone h r c) (q : RootToken) (j : HasJoined r c q) where
  pub opened : q.opening ≡ h.opening
  opened = j.opening ∙ k.root.opening

  pub table : q.table ≡ h.table
  table = j.table ∙ k.root.table

  rolled : q.roll ≡ only_one
  rolled = j.roll ∙ k.roll

  pub all_joined : (n : ℕ) → n < length q.roll → is_among n q.joined ≡ true
  all_joined n lt =
      let joined : q.joined ≡ 0 ∷ [] = j.joined ∙ (ap (λ (x : ℕ). x ∷ r.joined) k.number ∙ ap (λ (ns : List ℕ). 0 ∷ ns) k.joined) in
      ap (is_among n) joined ∙ first_alone n (subst (λ (l : List Assignment). n < length l) rolled lt)

  pub slots : AreValid h.opening.limits → have_slots q.opening.limits.slots q.roll ≡ true
  slots v =
      let few : nat_lt 0 h.opening.limits.slots ≡ true = lt-ltb 0 h.opening.limits.slots v.some_slots in
      ap (λ (l : List Assignment). have_slots q.opening.limits.slots l) rolled
      ∙ (ap (λ (o : Opening). nat_lt 0 o.limits.slots && true) opened ∙ ap (λ (b : Bool). b && true) few)

  abbrev s : Setting
  s = setting_of (seen_by h c)

  legal : IsLegalWith q.opening q.roll q.seen → is_legal s q.seen ≡ true
  legal l =
      l s (subst (λ (o : Opening). IsSettingOf o q.roll s) (sym opened) (subst (λ (x : List Assignment). IsSettingOf h.opening x s) (sym rolled) (alone_of h.opening)))

  list_is : IsLegalWith q.opening q.roll q.seen → q.seen ≡ history_of (seen_by h c)
  list_is l =
      let follows = (legal_parts s q.seen (legal l)).0 in
      let parts = follow_parts s first_configuration c.seen j.theirs.0 (ap (may_all_follow s first_configuration) j.theirs.1 ∙ follows) in
      let all = all_zero s first_configuration q.seen k.few first_only follows in
      let its = all_zero s first_configuration c.seen k.few first_only parts.0 in
      let same : own 0 q.seen ≡ own 0 c.seen = subst (λ (n : ℕ). own n q.seen ≡ own n c.seen) k.number j.own in
      sym (own_by 0 q.seen all) ∙ (same ∙ (own_by 0 c.seen its ∙ sym (zero_acts c.seen its)))

  pub legal_is : IsLegalWith q.opening q.roll q.seen → IsLegal s (history_of (seen_by h c))
  legal_is l = ap (is_legal s) (sym (list_is l)) ∙ legal l

  setting_is : rolls.setting_of q.opening q.roll ≡ s
  setting_is = ap (rolls.setting_of q.opening) rolled ∙ (ap (λ (o : Opening). rolls.setting_of o only_one) opened ∙ alone_is h.opening)

  last_is : IsLegalWith q.opening q.roll q.seen → last_of q ≡ behind (seen_by h c)
  last_is l = ap (λ (t : Setting). configuration_of t q.seen) setting_is ∙ ap (configuration_of s) (list_is l)

  -- what is so of the setting and of the last state
  pub at_end : IsLegalWith q.opening q.roll q.seen → (P : Setting → State → Type 0) → P (rolls.setting_of q.opening q.roll) (last_of q).state → P s (behind (seen_by h c)).state
  at_end l P p = subst (λ (t : Setting). P t (behind (seen_by h c)).state) setting_is (subst (λ (m : Configuration). P (rolls.setting_of q.opening q.roll) m.state) (last_is l) p)

  pub idle : IsLegalWith q.opening q.roll q.seen → IsAtRest (last_of q).state → IsIdle (behind (seen_by h c))
  idle l rest =
      let m = behind (seen_by h c) in
      let at : IsAtRest m.state = at_end l (λ t st. IsAtRest st) rest in
      record {
        outside = rw (at.counted, at.turning) refl;
        holds = rw at.locks refl;
        hands = at.hands 0;
        demand = (legal_parts s (history_of (seen_by h c)) (legal_is l)).1;
      }
