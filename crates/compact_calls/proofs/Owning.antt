-- Nobody holds the lock of a layer but the owner of the heap lock.
use Rattle.std.proofs.Common.{◌≡◌, ◌≢◌, ℕ, ◌==◌, true, false, not, ◌&&◌, ◌+◌, List, [], ◌∷◌, ◌++◌, Option, Some, None, refl, sym, ap, ◌∙◌, subst, inl, inr}
use Rattle.std.proofs.lemmas.Bool.{cases_Bool, and_parts, eq-eqb, eqb-true, eqb-false, ne_eqb, not-true}
use Rattle.heap_model.specs.declared.Act.TheVariants as acts
use Rattle.heap_model.specs.declared.Entry.{Entry}
use Rattle.heap_model.specs.declared.What.{What}
use Rattle.heap_model.specs.declared.What.TheVariants as whats
use Rattle.heap_model.specs.State.{Setting, GateAndLocks, holder_of, holds, is_caller}
use Rattle.heap_model.specs.CallState.{CallerView, Configuration, caller_view}
use Rattle.heap_model.specs.Stay.{for_some}
use Rattle.heap_model.specs.Legal.{may, may_follow, may_be_blocked, after}
use Rattle.heap_model.specs.History.{own, may_all_follow, configuration_of, first_configuration}
use Rattle.heap_model.specs.Agreement.{GateIsSound}
use Rattle.heap_model.proofs.GateSound.{row_of, gate_sound_act, gate_sound_after, gate_sound_first}
use Rattle.heap_model.proofs.ListLemmas.{for_some_parts}
use Rattle.heap_model.proofs.Others.{gate_other}
use Rattle.claim_rule.specs.Entries.{IsSettingOf, entry, setting_of}
use Rattle.claim_rule.proofs.Advance.{some_setting}
use Rattle.claim_rule.proofs.Lists.{own-append, legal_parts, follow_parts}
use Rattle.lfh_spans.proofs.Joined.{setting_of_old}
use Rattle.heap_gate.specs.Token.{Token, IsStanding}
use Rattle.heap_gate.specs.Calls.{Does, HasMissed}

---- What a step has added

pub cancel : {A : Type 0} (xs ys zs : List A) → xs ++ ys ≡ xs ++ zs → ys ≡ zs
cancel [] ys zs e = e
cancel (x ∷ xs) ys zs e = cancel xs ys zs (cc e)

-- the caller's own entries since
pub own_since : (a b : Token) (es : List Entry) (x : Does a b es) → a.prepared ≡ [] → own a.number x.seen.0 ≡ es
own_since a b es x none =
    cancel (own a.number a.seen) (own a.number x.seen.0) es
    (sym (own-append a.number a.seen x.seen.0) ∙ (ap (own a.number) x.seen.1 ∙ (x.own ∙ ap (λ (l : List Entry). own a.number a.seen ++ (l ++ es)) none)))

-- each entry since may follow those before it
pub legal_since : (a b : Token) (es : List Entry) (x : Does a b es) (s : Setting) → IsSettingOf b.opening b.roll s
    → (GateIsSound (configuration_of s a.seen).state.gate) × (may_all_follow s (configuration_of s a.seen) x.seen.0 ≡ true)
legal_since a b es x s q =
    let all = (legal_parts s b.seen (x.legal s q)).0 in
    let p = follow_parts s first_configuration a.seen x.seen.0 (ap (may_all_follow s first_configuration) x.seen.1 ∙ all) in
    (gate_sound_after s first_configuration a.seen p.0 gate_sound_first, p.1)

-- the caller owns the heap lock in what it has seen
pub owner_is : (a : Token) → IsStanding a → a.depth ≢ 0 → a.prepared ≡ [] → (s : Setting) → IsSettingOf a.opening a.roll s → is_caller a.number (configuration_of s a.seen).state.gate.owner ≡ true
owner_is a st owns none s q =
    ap (λ (ps : List Entry). is_caller a.number (Rattle.heap_model.specs.History.configuration_after s (configuration_of s a.seen) ps).state.gate.owner) (sym none)
    ∙ ((st s q).owns ∙ ap not (ne_eqb a.depth 0 owns))

---- No other holds a lock

other_owner : (n d : ℕ) (o : Option ℕ) → is_caller n o ≡ true → (d == n) ≡ false → is_caller d o ≡ false
other_owner n d None w ne = refl
other_owner n d (Some x) w ne = ne_eqb x d (λ e. eqb-false d n ne (sym e ∙ eqb-true x n w))

no_other_holds : (f : GateAndLocks) (n d : ℕ) (w : What) → GateIsSound f → is_caller n f.owner ≡ true → holder_of f.locks w ≡ Some d → (d == n) ≡ false → ⊥
no_other_holds f n d w g o e ne =
    let h : holds f d w ≡ true = ap (is_caller d) e ∙ eq-eqb d d refl in
    let i = g.inside d w h (other_owner n d f.owner o ne) in
    eqb-false d n ne (g.alone n d o i)

layer_row : (what : What) → what ≢ whats.Gate → (f : GateAndLocks) (c : ℕ) (k : CallerView) (word : ℕ) → may_be_blocked f c k word what ≡ for_some (holder_of f.locks what) (λ d. not (d == c) && word == d + 1)
layer_row whats.Gate ne f c k word = absurd (ne refl)
layer_row _ ne f c k word = refl

module _ (n : ℕ) (what : What) (word : ℕ) (layer : what ≢ whats.Gate) where
  blocked_here : (s : Setting) (m : Configuration) → is_caller n m.state.gate.owner ≡ true → GateIsSound m.state.gate → may s m n (acts.Blocked what word) ≡ true → ⊥
  blocked_here s m o g h =
      let r : for_some (holder_of m.state.gate.locks what) (λ d. not (d == n) && word == d + 1) ≡ true = sym (layer_row what layer m.state.gate n (caller_view m n) word) ∙ h in
      let q = for_some_parts (holder_of m.state.gate.locks what) (λ d. not (d == n) && word == d + 1) r in
      no_other_holds m.state.gate n q.0 what g o q.1 (not-true (q.0 == n) (and_parts (not (q.0 == n)) (word == q.0 + 1) q.2).0)

  blocked_since : (s : Setting) (m : Configuration) (es : List Entry) → own n es ≡ entry n (acts.Blocked what word) ∷ [] → is_caller n m.state.gate.owner ≡ true → GateIsSound m.state.gate → may_all_follow s m es ≡ true → ⊥
  blocked_since s m [] e o g h = let z : ⊥ = cc (e) in z
  blocked_since s m (x ∷ xs) e o g h =
      let p = and_parts (may_follow s m x) (may_all_follow s (after s m x) xs) h in
      let row = row_of s m x p.0 in
      elim (cases_Bool (x.caller == n)) [
        | inl q ↦
            let f : x ∷ own n xs ≡ entry n (acts.Blocked what word) ∷ [] = (rw q at e) in
            let is : x ≡ entry n (acts.Blocked what word) = cc (f) in
            blocked_here s m o g (subst (λ (y : Entry). may s m y.caller y.act ≡ true) is row)
        | inr q ↦
            let f : own n xs ≡ entry n (acts.Blocked what word) ∷ [] = (rw q at e) in
            let other = gate_other s m x.caller n (λ z. eqb-false x.caller n q z) x.act row in
            blocked_since s (after s m x) xs f (other.owner ∙ o) (gate_sound_act s m x.caller x.act row g) p.1
      ]

-- So the owner of the heap lock never finds the lock of a layer taken.
pub meets_none : (a b : Token) (what found : What) (word : ℕ) → what ≢ whats.Gate → IsStanding a → a.depth ≢ 0 → a.prepared ≡ [] → HasMissed a b what found word → ⊥
meets_none a b what found word layer st owns none x =
    let s = setting_of b.opening b.roll in
    let q = some_setting b.opening b.roll in
    let d = x.runs.does in
    let es = entry a.number (acts.Blocked what word) ∷ [] in
    let l = legal_since a b es d s q in
    blocked_since a.number what word layer s (configuration_of s a.seen) d.seen.0 (own_since a b es d none) (owner_is a st owns none s (setting_of_old a b es d s q)) l.0 l.1
