-- The first act of a move, behind acts that leave all that the caller holds: the block is found as it was, whatever others did.
use Rattle.std.proofs.Common.{◌≡◌, ℕ, ◌==◌, Bool, true, false, List, [], ◌∷◌, ◌++◌, refl, sym, ap, ◌∙◌, subst, inl, inr}
use Rattle.std.specs.List.{list_all}
use Rattle.std.proofs.lemmas.Bool.{cases_Bool, and_parts, and_from, false≢true}
use Rattle.heap_model.specs.declared.Act.{Act}
use Rattle.heap_model.specs.declared.Act.TheVariants as acts
use Rattle.heap_model.specs.declared.Entry.{Entry}
use Rattle.heap_model.specs.State.{Setting, State, hands}
use Rattle.heap_model.specs.CallState.{Configuration}
use Rattle.heap_model.specs.Legal.{may_follow, after}
use Rattle.heap_model.specs.History.{own, configuration_of, first_configuration, may_all_follow}
use Rattle.heap_model.specs.Agreement.{GateIsSound}
use Rattle.heap_model.specs.Moments.{Moment, moments, Before}
use Rattle.heap_model.specs.Shape.{begins_move}
use Rattle.heap_model.proofs.GateSound.{gate_sound_after, gate_sound_first}
use Rattle.heap_model.proofs.Moments.{moments-append}
use Rattle.claim_rule.specs.Entries.{IsLegalWith, entry}
use Rattle.claim_rule.proofs.Lists.{follow_parts, legal_parts}
use Rattle.call_laws.specs.Within.{by_all}
use Rattle.heap_gate.specs.Token.{Token}
use Rattle.call_parts.specs.Calls.{GoesOn}
use Rattle.move_front.specs.Front.{IsBesideFront, is_quiet}
use Rattle.move_front.proofs.Kept.{beside_self, beside_then}
use Rattle.move_front.proofs.Quiet.{quiet_keeps}
use Rattle.stay_calls.specs.Moments.{OfMoments}
use Rattle.stay_calls.proofs.Histories.{own_added}

pub quiet_stays : (act : Act) → is_quiet act ≡ true → begins_move act ≡ false
quiet_stays (acts.Active b) q = refl
quiet_stays (acts.Reserve segment) q = refl
quiet_stays (acts.Saw head word bits) q = refl
quiet_stays (acts.Lost head index) q = refl
quiet_stays (acts.NoHint bucket slot) q = refl
quiet_stays (acts.NoSpan bucket) q = refl
quiet_stays _ q = absurd (false≢true q)

same_act : (n : ℕ) (e : Entry) (act : Act) → e ≡ entry n act → e.act ≡ act
same_act n e act is = ap (λ (x : Entry). x.act) is

-- what holds wherever the caller has what it had, whatever others do, holds before its first act that begins a move
pub found_through : (s : Setting) (n : ℕ) (quiet : List Act) (begins : Act) (rest : List Act) (es : List Entry) (m : Configuration) → own n es ≡ by_all n (quiet ++ begins ∷ rest) → list_all is_quiet quiet ≡ true → begins_move begins ≡ true
    → may_all_follow s m es ≡ true → GateIsSound m.state.gate → (P : State → Type 0) → ((k : Configuration) → IsBesideFront n m k → hands k.state n ≡ hands m.state n → P k.state) → Before begins_move P (moments s n m es)
found_through s n [] begins rest [] m own_is q b l g P f = absurd (let no : ⊥ = cc (own_is) in no)
found_through s n (x ∷ xs) begins rest [] m own_is q b l g P f = absurd (let no : ⊥ = cc (own_is) in no)
found_through s n quiet begins rest (e ∷ es) m own_is q b l g P f = elim (cases_Bool (e.caller == n)) [
  | inl c ↦ mine (λ xs o q' f'. found_through s n xs begins rest es (after s m e) o q' b p.1 sound P f') quiet c (rw c at own_is) q
  | inr c ↦
      let step = quiet_keeps s n (e ∷ []) m one g (let none : own n (e ∷ []) ≡ [] = rw c refl in ap (list_all (λ (y : Entry). is_quiet y.act)) none) in
      rw c (found_through s n quiet begins rest es (after s m e) (rw c at own_is) q b p.1 sound P (λ k x h. f k (beside_then n m (after s m e) k step.0 x) (h ∙ step.1)))
]
  where
    p : (may_follow s m e ≡ true) × (may_all_follow s (after s m e) es ≡ true)
    p = and_parts (may_follow s m e) (may_all_follow s (after s m e) es) l

    one : may_all_follow s m (e ∷ []) ≡ true
    one = and_from (may_follow s m e) true p.0 refl

    sound : GateIsSound (after s m e).state.gate
    sound = gate_sound_after s m (e ∷ []) one g

    mine : ((xs : List Act) → own n es ≡ by_all n (xs ++ begins ∷ rest) → list_all is_quiet xs ≡ true → ((k : Configuration) → IsBesideFront n (after s m e) k → hands k.state n ≡ hands (after s m e).state n → P k.state) → Before begins_move P (moments s n (after s m e) es))
        → (quiet : List Act) → (e.caller == n) ≡ true → e ∷ own n es ≡ by_all n (quiet ++ begins ∷ rest) → list_all is_quiet quiet ≡ true → Before begins_move P (moments s n m (e ∷ es))
    mine again [] c is q =
        let first : e ≡ entry n begins = cc (is) in
        let begins_it : begins_move e.act ≡ true = ap begins_move (same_act n e begins first) ∙ b in
        rw c (rw begins_it (f m (beside_self n m) refl))
    mine again (x ∷ xs) c is q =
        let first : e ≡ entry n x = cc (is) in
        let later : own n es ≡ by_all n (xs ++ begins ∷ rest) = cc (is) in
        let two = and_parts (is_quiet x) (list_all is_quiet xs) q in
        let quiet_it : is_quiet e.act ≡ true = ap is_quiet (same_act n e x first) ∙ two.0 in
        let not_it : begins_move e.act ≡ false = quiet_stays e.act quiet_it in
        let own_is : own n (e ∷ []) ≡ e ∷ [] = rw c refl in
        let all : list_all (λ (y : Entry). is_quiet y.act) (e ∷ []) ≡ true = and_from (is_quiet e.act) true quiet_it refl in
        let step = quiet_keeps s n (e ∷ []) m one g (ap (list_all (λ (y : Entry). is_quiet y.act)) own_is ∙ all) in
        rw c (rw not_it (again xs later two.1 (λ k x h. f k (beside_then n m (after s m e) k step.0 x) (h ∙ step.1))))

-- .. of a caller that had prepared nothing
module _ (a e : Token) (quiet : List Act) (begins : Act) (rest : List Act) (g : GoesOn a e (quiet ++ begins ∷ rest)) (na : a.prepared ≡ []) (ne : e.prepared ≡ []) (legal : IsLegalWith e.opening e.roll e.seen)
    (q : list_all is_quiet quiet ≡ true) (b : begins_move begins ≡ true) (P : Setting → State → Type 0)
    (f : (s : Setting) → Rattle.claim_rule.specs.Entries.IsSettingOf e.opening e.roll s → (k : Configuration) → IsBesideFront a.number (configuration_of s a.seen) k → hands k.state a.number ≡ hands (configuration_of s a.seen).state a.number → P s k.state) where
  pub through : OfMoments (λ s c xs. Before begins_move (P s) xs) a e g.seen.0
  through s x =
      let all : may_all_follow s first_configuration (a.seen ++ g.seen.0) ≡ true = ap (may_all_follow s first_configuration) g.seen.1 ∙ (legal_parts s e.seen (legal s x)).0 in
      let two = follow_parts s first_configuration a.seen g.seen.0 all in
      found_through s a.number quiet begins rest g.seen.0 (configuration_of s a.seen) (own_added a e (quiet ++ begins ∷ rest) g na ne g.seen) q b two.1
      (gate_sound_after s first_configuration a.seen two.0 gate_sound_first) (P s) (f s x)

---- What comes behind

before_front : (test : Act → Bool) (P : State → Type 0) (xs ys : List Moment) → Before test P xs → Before test P (xs ++ ys)
before_front test P [] ys h = absurd h
before_front test P (x ∷ xs) ys h = elim (cases_Bool (test x.act)) [
  | inl e ↦ let k : P x.before.state = rw e at h in rw e k
  | inr e ↦ let k : Before test P xs = rw e at h in rw e (before_front test P xs ys k)
]

pub before_longer : (test : Act → Bool) (P : State → Type 0) (s : Setting) (n : ℕ) (m : Configuration) (es fs : List Entry) → Before test P (moments s n m es) → Before test P (moments s n m (es ++ fs))
before_longer test P s n m es fs h =
    subst (λ (xs : List Moment). Before test P xs) (sym (moments-append s n m es fs)) (before_front test P (moments s n m es) (moments s n (Rattle.heap_model.specs.History.configuration_after s m es) fs) h)
