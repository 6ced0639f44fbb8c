-- An act that a caller has added behind others of its own: what it alone decides was, when the act came, as it had it.
use Rattle.std.proofs.Common.{◌≡◌, ℕ, ◌==◌, Bool, true, false, List, [], ◌∷◌, ◌++◌, map, Option, Some, refl, sym, ap, ◌∙◌, subst, append_assoc, inl, inr}
use Rattle.std.specs.List.{list_all, list_any}
use Rattle.std.proofs.lemmas.Bool.{cases_Bool, and_parts, false≢true, eqb-true, eqb-false}
use Rattle.std.proofs.lemmas.List.{append-nil}
use mathlib.Core.List.{IsPrefix}
use Rattle.heap_model.specs.declared.Act.{Act}
use Rattle.heap_model.specs.declared.Act.TheVariants as acts
use Rattle.heap_model.specs.declared.Entry.{Entry}
use Rattle.heap_model.specs.State.{Setting, State}
use Rattle.heap_model.specs.CallState.{Configuration}
use Rattle.heap_model.specs.Legal.{may_follow, after}
use Rattle.heap_model.specs.History.{own, configuration_of, configuration_after, first_configuration, may_all_follow}
use Rattle.heap_model.specs.Agreement.{AgreesFor, GateIsSound, reveals_nothing}
use Rattle.heap_model.specs.Moments.{moments, acts_of, In, Before}
use Rattle.heap_model.proofs.GateSound.{row_of, gate_sound_act, gate_sound_after, gate_sound_first}
use Rattle.heap_model.proofs.Moments.{moments_acts}
use Rattle.heap_model.proofs.Others.{agrees_self, agrees_trans, act_other}
use Rattle.heap_model.proofs.Own.{act_agrees}
use Rattle.claim_rule.specs.Entries.{IsSettingOf, IsLegalWith, entry}
use Rattle.claim_rule.proofs.Lists.{own-append, after-append, follow_parts, legal_parts}
use Rattle.call_laws.specs.Within.{by_all}
use Rattle.call_laws.proofs.Told.{first_is_before}
use Rattle.heap_gate.specs.Token.{Token, now}
use Rattle.call_parts.specs.Calls.{GoesOn}
use Rattle.call_parts.proofs.Joining.{by_all-append}
use Rattle.stay_calls.proofs.Histories.{joined}

-- the act opens nothing to its caller, whatever stands
abbrev pub is_plain : Act → Bool
is_plain (acts.TakeLock what) = false
is_plain acts.Lock = false
is_plain (acts.Take a size) = false
is_plain (acts.Resize a granules size) = false
is_plain _ = true

abbrev pub are_plain : List Entry → Bool
are_plain es = list_all (λ e. is_plain e.act) es

reveals : (m : Configuration) (c : ℕ) (act : Act) → is_plain act ≡ true → reveals_nothing m c act ≡ true
reveals m c (acts.TakeLock what) h = absurd (false≢true h)
reveals m c acts.Lock h = absurd (false≢true h)
reveals m c (acts.Take a size) h = absurd (false≢true h)
reveals m c (acts.Resize a granules size) h = absurd (false≢true h)
reveals m c _ h = refl

-- Entries of others change nothing that c alone decides, and its own lead on as they would without them.
agrees_along : (s : Setting) (c : ℕ) (m k : Configuration) (es : List Entry) → AgreesFor c m k → may_all_follow s m es ≡ true → GateIsSound m.state.gate → are_plain (own c es) ≡ true → AgreesFor c (configuration_after s m es) (configuration_after s k (own c es))
agrees_along s c m k [] r f g p = r
agrees_along s c m k (e ∷ es) r f g p =
    let h = and_parts (may_follow s m e) (may_all_follow s (after s m e) es) f in
    let row = row_of s m e h.0 in
    let gate = gate_sound_act s m e.caller e.act row g in
    elim (cases_Bool (e.caller == c)) [
      | inl q ↦
          let is : e.caller ≡ c = eqb-true e.caller c q in
          let pp : are_plain (e ∷ own c es) ≡ true = rw q at p in
          let both = and_parts (is_plain e.act) (are_plain (own c es)) pp in
          let mine : Rattle.heap_model.specs.Legal.may s m c e.act ≡ true = subst (λ (x : ℕ). Rattle.heap_model.specs.Legal.may s m x e.act ≡ true) is row in
          let one = act_agrees s c m k r e.act mine (reveals k c e.act both.0) in
          let here : AgreesFor c (after s m e) (after s k e) = subst (λ (x : ℕ). AgreesFor c (after s m (record { caller = x; act = e.act })) (after s k (record { caller = x; act = e.act }))) (sym is) one in
          rw q (agrees_along s c (after s m e) (after s k e) es here h.1 gate both.1)
      | inr q ↦
          let other = act_other s m e.caller c e.act (eqb-false e.caller c q) row g in
          rw q (agrees_along s c (after s m e) k es (agrees_trans c (after s m e) m k other r) h.1 gate (rw q at p))
    ]

---- Lists of entries

cancelled : {A : Type 0} (xs ys zs : List A) → xs ++ ys ≡ xs ++ zs → ys ≡ zs
cancelled [] ys zs e = e
cancelled (x ∷ xs) ys zs e = cancelled xs ys zs (cc (e))

-- the first own entry is behind others' entries
split_one : (n : ℕ) (list : List Entry) (e : Entry) (more : List Entry) → own n list ≡ e ∷ more → (first : List Entry) × (tail : List Entry) × (list ≡ first ++ e ∷ tail) × (own n first ≡ []) × (own n tail ≡ more) × ((e.caller == n) ≡ true)
split_one n [] e more h = absurd (let no : ⊥ = cc (h) in no)
split_one n (x ∷ xs) e more h = elim (cases_Bool (x.caller == n)) [
  | inl q ↦
      let g : x ∷ own n xs ≡ e ∷ more = rw q at h in
      let same : x ≡ e = cc (g) in
      ([], xs, ap (λ (y : Entry). y ∷ xs) same, refl, cc (g), subst (λ (y : Entry). (y.caller == n) ≡ true) same q)
  | inr q ↦
      let r = split_one n xs e more (rw q at h) in
      (x ∷ r.0, r.1, ap (λ (l : List Entry). x ∷ l) r.2, rw q r.3, r.4, r.5)
]

own_first : (n : ℕ) (x : Entry) (zs : List Entry) → (x.caller == n) ≡ true → own n (x ∷ zs) ≡ x ∷ own n zs
own_first n x zs q = rw q refl

-- .. and one behind other own ones
split_at : (n : ℕ) (list es : List Entry) (e : Entry) (more : List Entry) → own n list ≡ es ++ e ∷ more → (first : List Entry) × (tail : List Entry) × (list ≡ first ++ e ∷ tail) × (own n first ≡ es)
split_at n list [] e more h = let r = split_one n list e more h in (r.0, r.1, r.2, r.3)
split_at n list (x ∷ es) e more h =
    let r = split_one n list x (es ++ e ∷ more) h in
    let q = split_at n r.1 es e more r.4 in (
      r.0 ++ x ∷ q.0,
      q.1,
      r.2 ∙ (ap (λ (l : List Entry). r.0 ++ x ∷ l) q.2 ∙ sym (append_assoc r.0 (x ∷ q.0) (e ∷ q.1))),
      own-append n r.0 (x ∷ q.0) ∙ ((λ i. r.3 i ++ own n (x ∷ q.0)) ∙ (own_first n x q.0 r.5 ∙ ap (λ (l : List Entry). x ∷ l) q.3)),
    )

acts_again : (n : ℕ) (xs : List Act) → map (λ e. e.act) (by_all n xs) ≡ xs
acts_again n [] = refl
acts_again n (x ∷ xs) = ap (λ (l : List Act). x ∷ l) (acts_again n xs)

-- what was added is what is seen since, and what is prepared
pub own_since : (a b : Token) (xs : List Act) → GoesOn a b xs → (p : IsPrefix a.seen b.seen) → own a.number p.0 ++ b.prepared ≡ a.prepared ++ by_all a.number xs
own_since a b xs g p =
    let n = a.number in
    let all : own n b.seen ++ b.prepared ≡ (own n a.seen ++ a.prepared) ++ by_all n xs = (λ j. own (sym g.number j) b.seen ++ b.prepared) ∙ g.own in
    cancelled (own n a.seen) (own n p.0 ++ b.prepared) (a.prepared ++ by_all n xs)
    (sym (append_assoc (own n a.seen) (own n p.0) b.prepared)
    ∙ (ap (λ (l : List Entry). l ++ b.prepared) (sym (own-append n a.seen p.0) ∙ ap (own n) p.1) ∙ (all ∙ append_assoc (own n a.seen) a.prepared (by_all n xs))))

---- The act

-- From c to d the caller has added this act behind the acts xs, which open nothing to it, as what it had prepared does not.
module _ (c d : Token) (xs : List Act) (act : Act) (ys : List Act) (g : GoesOn c d (xs ++ act ∷ ys)) (nd : d.prepared ≡ []) (legal : IsLegalWith d.opening d.roll d.seen) (plain : are_plain (c.prepared ++ by_all c.number xs) ≡ true) where
  -- what others and it have added up to the act
  pub parts : (first : List Entry) × (tail : List Entry) × (g.seen.0 ≡ first ++ entry c.number act ∷ tail) × (own c.number first ≡ c.prepared ++ by_all c.number xs)
  parts =
      let n = c.number in
      split_at n g.seen.0 (c.prepared ++ by_all n xs) (entry n act) (by_all n ys)
      (sym (append-nil (own n g.seen.0))
      ∙ (ap (λ (l : List Entry). own n g.seen.0 ++ l) (sym nd)
      ∙ (own_since c d (xs ++ act ∷ ys) g g.seen ∙ (ap (λ (l : List Entry). c.prepared ++ l) (by_all-append n xs (act ∷ ys)) ∙ sym (append_assoc c.prepared (by_all n xs) (entry n act ∷ by_all n ys))))))

  -- the configuration in which it came
  abbrev pub came : Setting → Configuration
  came s = configuration_after s (configuration_of s c.seen) parts.0

  module _ (s : Setting) (q : IsSettingOf d.opening d.roll s) where
    all_follow : may_all_follow s first_configuration (c.seen ++ (parts.0 ++ entry c.number act ∷ parts.1)) ≡ true
    all_follow = ap (λ (l : List Entry). may_all_follow s first_configuration (c.seen ++ l)) (sym parts.2) ∙ (ap (may_all_follow s first_configuration) g.seen.1 ∙ (legal_parts s d.seen (legal s q)).0)

    before : (may_all_follow s first_configuration c.seen ≡ true) × (may_all_follow s (configuration_of s c.seen) (parts.0 ++ entry c.number act ∷ parts.1) ≡ true)
    before = follow_parts s first_configuration c.seen (parts.0 ++ entry c.number act ∷ parts.1) all_follow

    behind : (may_all_follow s (configuration_of s c.seen) parts.0 ≡ true) × (may_all_follow s (came s) (entry c.number act ∷ parts.1) ≡ true)
    behind = follow_parts s (configuration_of s c.seen) parts.0 (entry c.number act ∷ parts.1) before.1

    -- what the caller alone decides was in it as its own acts alone would leave it
    pub came_agrees : AgreesFor c.number (came s) (configuration_after s (now s c) (by_all c.number xs))
    came_agrees =
        let m = configuration_of s c.seen in let n = c.number in
        let along = agrees_along s n m m parts.0 (agrees_self n m) behind.0 (gate_sound_after s first_configuration c.seen before.0 gate_sound_first) (ap are_plain parts.3 ∙ plain) in
        let same : configuration_after s m (own n parts.0) ≡ configuration_after s (now s c) (by_all n xs) = ap (configuration_after s m) parts.3 ∙ after-append s m c.prepared (by_all n xs) in
        subst (AgreesFor n (came s)) same along

    -- it is the first of its acts since an earlier token that passes a test
    module _ (a : Token) (zs : List Act) (ga : GoesOn a c zs) (na : a.prepared ≡ []) (p : IsPrefix a.seen d.seen) (test : Act → Bool) (passes : test act ≡ true) (none : list_any test (zs ++ xs) ≡ false) (P : State → Type 0) where
      abbrev start : Configuration
      start = configuration_of s a.seen

      abbrev all_before : List Entry
      all_before = ga.seen.0 ++ parts.0

      more_is : p.0 ≡ all_before ++ entry c.number act ∷ parts.1
      more_is =
          joined a.seen c.seen d.seen p ga.seen g.seen
          ∙ (ap (λ (l : List Entry). ga.seen.0 ++ l) parts.2 ∙ sym (append_assoc ga.seen.0 parts.0 (entry c.number act ∷ parts.1)))

      own_before : own c.number all_before ≡ by_all c.number (zs ++ xs)
      own_before =
          let n = c.number in
          let had : own n ga.seen.0 ++ c.prepared ≡ by_all n zs = subst (λ (k : ℕ). own k ga.seen.0 ++ c.prepared ≡ by_all k zs) (sym ga.number) (own_since a c zs ga ga.seen ∙ ap (λ (l : List Entry). l ++ by_all a.number zs) na) in
          own-append n ga.seen.0 parts.0
          ∙ (ap (λ (l : List Entry). own n ga.seen.0 ++ l) parts.3
          ∙ (sym (append_assoc (own n ga.seen.0) c.prepared (by_all n xs)) ∙ (ap (λ (l : List Entry). l ++ by_all n xs) had ∙ sym (by_all-append n zs xs))))

      none_before : list_any test (acts_of (moments s c.number start all_before)) ≡ false
      none_before = ap (list_any test) (moments_acts s c.number start all_before ∙ (ap (map (λ e. e.act)) own_before ∙ acts_again c.number (zs ++ xs))) ∙ none

      came_is : configuration_after s start all_before ≡ came s
      came_is =
          after-append s start ga.seen.0 parts.0
          ∙ ap (λ (m : Configuration). configuration_after s m parts.0) (sym (after-append s first_configuration a.seen ga.seen.0) ∙ ap (configuration_of s) ga.seen.1)

      pub found_then : P (came s).state → Before test P (moments s a.number start p.0)
      found_then h =
          subst (λ (n : ℕ). Before test P (moments s n start p.0)) ga.number
          (subst (λ (l : List Entry). Before test P (moments s c.number start l)) (sym more_is)
          (subst (λ (o : Option State). In o P) (sym (first_is_before s c.number start all_before parts.1 act test passes none_before ∙ ap (λ (m : Configuration). Some m.state) came_is)) h))
