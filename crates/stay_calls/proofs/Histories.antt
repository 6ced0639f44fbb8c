-- What the configurations in which a caller's acts came tell of the acts, and the acts of them.
use Rattle.std.proofs.Common.{◌≡◌, ℕ, ◌==◌, Bool, true, false, List, [], ◌∷◌, ◌++◌, map, Option, Some, refl, sym, ap, ◌∙◌, subst, append_assoc, inl, inr}
use Rattle.std.specs.List.{list_any}
use Rattle.std.proofs.lemmas.Bool.{cases_Bool, and_parts, and_from}
use Rattle.std.proofs.lemmas.List.{append-nil}
use mathlib.Core.List.{IsPrefix}
use Rattle.heap_model.specs.declared.Act.{Act}
use Rattle.heap_model.specs.declared.Entry.{Entry}
use Rattle.heap_model.specs.State.{Setting, State}
use Rattle.heap_model.specs.CallState.{Configuration}
use Rattle.heap_model.specs.Legal.{may_follow, after}
use Rattle.heap_model.specs.History.{own, configuration_of, configuration_after, first_configuration, may_all_follow}
use Rattle.heap_model.specs.Agreement.{AgreesFor, GateIsSound}
use Rattle.heap_model.specs.Moments.{moments, acts_of, In, Before}
use Rattle.heap_model.specs.Shape.{shape_of, shown}
use Rattle.heap_model.proofs.GateSound.{gate_sound_after, gate_sound_first}
use Rattle.heap_model.proofs.Moments.{moments_acts}
use Rattle.heap_model.proofs.Others.{agrees_others}
use Rattle.claim_rule.specs.Entries.{IsSettingOf, IsLegalWith, entry}
use Rattle.claim_rule.proofs.Lists.{own-append, after-append, follow_parts, legal_parts}
use Rattle.call_laws.specs.Within.{by_all}
use Rattle.call_laws.proofs.Told.{first_is_before}
use Rattle.heap_gate.specs.Token.{Token, now}
use Rattle.call_parts.specs.Calls.{GoesOn}

---- Own entries among all

cancelled : {A : Type 0} (xs ys zs : List A) → xs ++ ys ≡ xs ++ zs → ys ≡ zs
cancelled [] ys zs e = e
cancelled (x ∷ xs) ys zs e = cancelled xs ys zs (cc (e))

-- what a list has behind the first of three beginnings
pub joined : {A : Type 0} (xs ys zs : List A) (p : IsPrefix xs zs) (q : IsPrefix xs ys) (r : IsPrefix ys zs) → p.0 ≡ q.0 ++ r.0
joined xs ys zs p q r = cancelled xs p.0 (q.0 ++ r.0) (p.1 ∙ (sym r.1 ∙ (ap (λ l. l ++ r.0) (sym q.1) ∙ append_assoc xs q.0 r.0)))

-- the first own entry is behind others' entries
split_own : (n : ℕ) (rest : List Entry) (e : Entry) (more : List Entry) → own n rest ≡ e ∷ more → (first : List Entry) × (tail : List Entry) × (rest ≡ first ++ e ∷ tail) × (own n first ≡ []) × (own n tail ≡ more)
split_own n [] e more h = absurd (let no : ⊥ = cc (h) in no)
split_own n (x ∷ xs) e more h = elim (cases_Bool (x.caller == n)) [
  | inl q ↦
      let g : x ∷ own n xs ≡ e ∷ more = rw q at h in
      let same : x ≡ e = cc (g) in
      ([], xs, ap (λ (y : Entry). y ∷ xs) same, refl, cc (g))
  | inr q ↦
      let r = split_own n xs e more (rw q at h) in
      (x ∷ r.0, r.1, ap (λ (l : List Entry). x ∷ l) r.2, rw q r.3, r.4)
]

acts_again : (n : ℕ) (xs : List Act) → map (λ e. e.act) (by_all n xs) ≡ xs
acts_again n [] = refl
acts_again n (x ∷ xs) = ap (λ (l : List Act). x ∷ l) (acts_again n xs)

-- what was added is what is seen since, where nothing is prepared
pub own_added : (a b : Token) (xs : List Act) (g : GoesOn a b xs) → a.prepared ≡ [] → b.prepared ≡ [] → (p : IsPrefix a.seen b.seen) → own a.number p.0 ≡ by_all a.number xs
own_added a b xs g na nb p =
    let now_own : own a.number b.seen ≡ own a.number a.seen ++ by_all a.number xs =
    (λ j. own (sym g.number j) b.seen) ∙ (sym (append-nil (own b.number b.seen)) ∙ (ap (λ (l : List Entry). own b.number b.seen ++ l) (sym nb)
    ∙ (g.own ∙ ((λ j. (own a.number a.seen ++ na j) ++ by_all a.number xs) ∙ (λ j. append-nil (own a.number a.seen) j ++ by_all a.number xs))))) in
    cancelled (own a.number a.seen) (own a.number p.0) (by_all a.number xs) (sym (own-append a.number a.seen p.0) ∙ (ap (own a.number) p.1 ∙ now_own))

module _ (a b : Token) (xs : List Act) (g : GoesOn a b xs) (na : a.prepared ≡ []) (nb : b.prepared ≡ []) (p : IsPrefix a.seen b.seen) (s : Setting) (m : Configuration) where
  pub acts_added : acts_of (moments s a.number m p.0) ≡ xs
  acts_added = moments_acts s a.number m p.0 ∙ (ap (map (λ e. e.act)) (own_added a b xs g na nb p) ∙ acts_again a.number xs)

  pub shown_added : shown (moments s a.number m p.0) ≡ shape_of xs
  shown_added = ap shape_of acts_added

---- Before an act

-- Between two tokens of one caller the second one has added an act in front of all others. Before it only others had entries.
module _ (b d : Token) (act : Act) (ys : List Act) (g : GoesOn b d (act ∷ ys)) (nb : b.prepared ≡ []) (nd : d.prepared ≡ []) (legal : IsLegalWith d.opening d.roll d.seen) where
  pub parts : (first : List Entry) × (tail : List Entry) × (g.seen.0 ≡ first ++ entry b.number act ∷ tail) × (own b.number first ≡ []) × (own b.number tail ≡ by_all b.number ys)
  parts = split_own b.number g.seen.0 (entry b.number act) (by_all b.number ys) (own_added b d (act ∷ ys) g nb nd g.seen)

  -- the configuration in which it came
  abbrev pub met : Setting → Configuration
  met s = configuration_after s (configuration_of s b.seen) parts.0

  module _ (s : Setting) (q : IsSettingOf d.opening d.roll s) where
    all_follow : may_all_follow s first_configuration (b.seen ++ (parts.0 ++ entry b.number act ∷ parts.1)) ≡ true
    all_follow = ap (λ (l : List Entry). may_all_follow s first_configuration (b.seen ++ l)) (sym parts.2) ∙ (ap (may_all_follow s first_configuration) g.seen.1 ∙ (legal_parts s d.seen (legal s q)).0)

    before : (may_all_follow s first_configuration b.seen ≡ true) × (may_all_follow s (configuration_of s b.seen) (parts.0 ++ entry b.number act ∷ parts.1) ≡ true)
    before = follow_parts s first_configuration b.seen (parts.0 ++ entry b.number act ∷ parts.1) all_follow

    behind : (may_all_follow s (configuration_of s b.seen) parts.0 ≡ true) × (may_all_follow s (met s) (entry b.number act ∷ parts.1) ≡ true)
    behind = follow_parts s (configuration_of s b.seen) parts.0 (entry b.number act ∷ parts.1) before.1

    gate : GateIsSound (configuration_of s b.seen).state.gate
    gate = gate_sound_after s first_configuration b.seen before.0 gate_sound_first

    now_is : now s b ≡ configuration_of s b.seen
    now_is = ap (configuration_after s (configuration_of s b.seen)) nb

    -- what the caller alone decides was in it as the caller had it
    pub met_agrees : AgreesFor b.number (met s) (now s b)
    met_agrees = subst (AgreesFor b.number (met s)) (sym now_is) (agrees_others s (configuration_of s b.seen) b.number parts.0 parts.3 behind.0 gate)

    pub met_follows : may_follow s (met s) (entry b.number act) ≡ true
    met_follows = (and_parts (may_follow s (met s) (entry b.number act)) (may_all_follow s (after s (met s) (entry b.number act)) parts.1) behind.1).0

    -- where nothing of its own came behind the act, the caller has what the act left
    pub last_agrees : ys ≡ [] → AgreesFor b.number (now s d) (after s (met s) (entry b.number act))
    last_agrees none =
        let k = after s (met s) (entry b.number act) in
        let step = and_parts (may_follow s (met s) (entry b.number act)) (may_all_follow s k parts.1) behind.1 in
        let sound = gate_sound_after s (met s) (entry b.number act ∷ []) (and_from (may_follow s (met s) (entry b.number act)) true step.0 refl) (gate_sound_after s (configuration_of s b.seen) parts.0 behind.0 gate) in
        let others = agrees_others s k b.number parts.1 (parts.4 ∙ ap (by_all b.number) none) step.1 sound in
        let all : configuration_of s d.seen ≡ configuration_after s k parts.1 =
        ap (configuration_of s) (sym g.seen.1 ∙ ap (λ (l : List Entry). b.seen ++ l) parts.2)
        ∙ (after-append s first_configuration b.seen (parts.0 ++ entry b.number act ∷ parts.1) ∙ after-append s (configuration_of s b.seen) parts.0 (entry b.number act ∷ parts.1)) in
        let has : now s d ≡ configuration_after s k parts.1 = ap (configuration_after s (configuration_of s d.seen)) nd ∙ all in
        subst (λ (m : Configuration). AgreesFor b.number m k) (sym has) others

    -- The caller's first own act since an earlier token that passes a test is this one.
    module _ (a : Token) (xs : List Act) (ga : GoesOn a b xs) (na : a.prepared ≡ []) (p : IsPrefix a.seen d.seen) (test : Act → Bool) (passes : test act ≡ true) (none : list_any test xs ≡ false) (P : State → Type 0) where
      abbrev start : Configuration
      start = configuration_of s a.seen

      abbrev all_before : List Entry
      all_before = ga.seen.0 ++ parts.0

      more_is : p.0 ≡ all_before ++ entry b.number act ∷ parts.1
      more_is =
          cancelled a.seen p.0 (ga.seen.0 ++ g.seen.0) (p.1 ∙ (sym g.seen.1 ∙ (ap (λ (l : List Entry). l ++ g.seen.0) (sym ga.seen.1) ∙ append_assoc a.seen ga.seen.0 g.seen.0)))
          ∙ (ap (λ (l : List Entry). ga.seen.0 ++ l) parts.2 ∙ sym (append_assoc ga.seen.0 parts.0 (entry b.number act ∷ parts.1)))

      own_before : own b.number all_before ≡ by_all b.number xs
      own_before =
          own-append b.number ga.seen.0 parts.0
          ∙ ((λ j. own b.number ga.seen.0 ++ parts.3 j)
          ∙ (append-nil (own b.number ga.seen.0) ∙ ((λ j. own (ga.number j) ga.seen.0) ∙ (own_added a b xs ga na nb ga.seen ∙ (λ j. by_all (sym ga.number j) xs)))))

      none_before : list_any test (acts_of (moments s b.number start all_before)) ≡ false
      none_before = ap (list_any test) (moments_acts s b.number start all_before ∙ (ap (map (λ e. e.act)) own_before ∙ acts_again b.number xs)) ∙ none

      met_is : configuration_after s start all_before ≡ met s
      met_is =
          after-append s start ga.seen.0 parts.0
          ∙ ap (λ (m : Configuration). configuration_after s m parts.0) (sym (after-append s first_configuration a.seen ga.seen.0) ∙ ap (configuration_of s) ga.seen.1)

      pub found_before : P (met s).state → Before test P (moments s a.number start p.0)
      found_before h =
          subst (λ (n : ℕ). Before test P (moments s n start p.0)) ga.number
          (subst (λ (l : List Entry). Before test P (moments s b.number start l)) (sym more_is)
          (subst (λ (o : Option State). In o P) (sym (first_is_before s b.number start all_before parts.1 act test passes none_before ∙ ap (λ (m : Configuration). Some m.state) met_is)) h))
