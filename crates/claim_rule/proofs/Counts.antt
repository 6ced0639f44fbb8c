-- How many callers the gate counts: they differ, and each has an entry of its own.
use Rattle.std.proofs.Common.{◌≡◌, ℕ, zero, suc, ◌+◌, ◌<◌, ◌≤◌, Bool, true, false, not, ◌&&◌, ◌||◌, cond, List, [], ◌∷◌, length, Option, Some, None, refl, sym, ap, ◌∙◌, subst, arith, inl, inr, eqb, eq-eqb}
use Rattle.std.specs.Prelude.{nat_lt}
use Rattle.std.proofs.lemmas.Bool.{and_parts, and_from, cases_Bool, eqb-true, both_ways, not-true, false≢true, true≢false}
use Rattle.heap_model.specs.declared.Act.{Act}
use Rattle.heap_model.specs.declared.Act.TheVariants as acts
use Rattle.heap_model.specs.declared.Entry.{Entry}
use Rattle.heap_model.specs.declared.What.TheVariants as whats
use Rattle.heap_model.specs.State.{Setting, GateAndLocks, is_among, is_caller, without, caller_word}
use Rattle.heap_model.specs.CallState.{Configuration, caller_view, is_outside}
use Rattle.heap_model.specs.Stay.{for_some}
use Rattle.heap_model.specs.Legal.{may, may_follow, after, state_after, is_lock_or_compact}
use Rattle.heap_model.specs.History.{configuration_after, configuration_of, first_configuration, may_all_follow}
use Rattle.heap_model.proofs.ListLemmas.{is_among-without, is_among-without_other}
use Rattle.heap_model.proofs.GateSound.{row_of, gate_sound_first}
use Rattle.heap_model.proofs.Others.{agrees_others}
use Rattle.claim_rule.specs.Entries.{is_named}
use Rattle.claim_rule.proofs.Lists.{own_unnamed}

-- no caller twice
abbrev pub is_apart : List ℕ → Bool
is_apart [] = true
is_apart (x ∷ xs) = not (is_among x xs) && is_apart xs

pub or_parts : (a b : Bool) → (a || b) ≡ false → (a ≡ false) × (b ≡ false)
or_parts true b e = absurd (true≢false e)
or_parts false b e = (refl, e)

pub without-absent : (c : ℕ) (xs : List ℕ) → is_among c xs ≡ false → without c xs ≡ xs
without-absent c [] h = refl
without-absent c (x ∷ xs) h = let p = or_parts (eqb x c) (is_among c xs) h in rw p.0 (ap (λ (l : List ℕ). x ∷ l) (without-absent c xs p.1))

pub length-without : (c : ℕ) (xs : List ℕ) → is_apart xs ≡ true → is_among c xs ≡ true → length (without c xs) + 1 ≡ length xs
length-without c [] a h = absurd (false≢true h)
length-without c (x ∷ xs) a h = elim (cases_Bool (eqb x c)) [
  | inl e ↦
      let no : is_among c xs ≡ false = subst (λ (k : ℕ). is_among k xs ≡ false) (eqb-true x c e) (not-true (is_among x xs) (and_parts (not (is_among x xs)) (is_apart xs) a).0) in
      let l = ap length (without-absent c xs no) in rw e (omega arith)
  | inr e ↦ let ih = length-without c xs (and_parts (not (is_among x xs)) (is_apart xs) a).1 (rw e at h) in rw e (omega arith)
]

among-without : (c y : ℕ) (xs : List ℕ) → is_among y (without c xs) ≡ true → is_among y xs ≡ true
among-without c y xs h = elim (cases_Bool (eqb c y)) [
  | inl e ↦ absurd (both_ways _ (subst (λ (k : ℕ). is_among k (without c xs) ≡ false) (eqb-true c y e) (is_among-without c xs)) h)
  | inr e ↦ sym (is_among-without_other y c xs (λ q. both_ways (eqb c y) e (eq-eqb c y q))) ∙ h
]

apart-without : (c : ℕ) (xs : List ℕ) → is_apart xs ≡ true → is_apart (without c xs) ≡ true
apart-without c [] h = refl
apart-without c (x ∷ xs) h =
    let p = and_parts (not (is_among x xs)) (is_apart xs) h in
    elim (cases_Bool (eqb x c)) [
      | inl e ↦ rw e (apart-without c xs p.1)
      | inr e ↦ rw e (and_from (not (is_among x (without c xs))) (is_apart (without c xs)) (absent p.0) (apart-without c xs p.1))
    ]
  where
    absent : not (is_among x xs) ≡ true → not (is_among x (without c xs)) ≡ true
    absent n = elim (cases_Bool (is_among x (without c xs))) [ inl e ↦ absurd (both_ways _ (not-true _ n) (among-without c x xs e)) | inr e ↦ ap not e ]

pub pigeon : (m : ℕ) (xs : List ℕ) → is_apart xs ≡ true → ((d : ℕ) → is_among d xs ≡ true → d < m) → length xs ≤ m
pigeon zero [] a b = omega arith
pigeon zero (x ∷ xs) a b = absurd (let e = eq-eqb x x refl in let l = b x (rw e refl) in omega arith)
pigeon (suc m) xs a b = elim (cases_Bool (is_among m xs)) [
  | inl t ↦
      let l = length-without m xs a t in
      let r = pigeon m (without m xs) (apart-without m xs a) (λ d h. less d (among-without m d xs h) (λ e. both_ways _ (subst (λ (k : ℕ). is_among k (without m xs) ≡ false) e (is_among-without m xs)) h)) in omega arith
  | inr f ↦ let r = pigeon m xs a (λ d h. less d h (λ e. both_ways _ (subst (λ (k : ℕ). is_among k xs ≡ false) e f) h)) in omega arith
]
  where
    less : (d : ℕ) → is_among d xs ≡ true → (m ≡ d → ⊥) → d < m
    less d h ne = let lt = b d h in omega (arith, ne)

-- the callers that are counted differ, and those that turn back are counted
pub record IsCounted (f : GateAndLocks) : Type 0 where
  pub apart : is_apart f.counted ≡ true
  pub turning : (d : ℕ) → is_among d f.turning ≡ true → is_among d f.counted ≡ true

-- a caller outside is not counted
pub outside_absent : (m : Configuration) (c : ℕ) → is_outside (caller_view m c) ≡ true → is_among c m.state.gate.counted ≡ false
outside_absent m c h = go (is_among c m.state.gate.counted) (is_among c m.state.gate.turning) h
  where
    go : (a b : Bool) → (not (a && not b) && not b) ≡ true → a ≡ false
    go true true h = absurd (false≢true h)
    go true false h = absurd (false≢true h)
    go false b h = refl

counted_more : (f : GateAndLocks) (c : ℕ) (turning : List ℕ) → is_among c f.counted ≡ false → ((d : ℕ) → is_among d turning ≡ true → is_among d (c ∷ f.counted) ≡ true) → IsCounted f → IsCounted (record { counted = c ∷ f.counted; turning = turning; owner = f.owner; locks = f.locks })
counted_more f c turning out t k = record { apart = and_from (not (is_among c f.counted)) (is_apart f.counted) (ap not out) k.apart; turning = t }

or_right : (a b : Bool) → b ≡ true → (a || b) ≡ true
or_right true b e = refl
or_right false b e = e

pub counted_act : (s : Setting) (m : Configuration) (c : ℕ) (act : Act) → may s m c act ≡ true → IsCounted m.state.gate → IsCounted (state_after m.state (m.now.calls c) c act).gate
counted_act s m c acts.Enter h k =
    counted_more m.state.gate c m.state.gate.turning
    (outside_absent m c (and_parts (is_outside (caller_view m c)) (not (caller_view m c).call.entered) (and_parts _ _ h).0).0)
    (λ d t. or_right (eqb c d) (is_among d m.state.gate.counted) (k.turning d t)) k
counted_act s m c acts.Leave h k = record {
  apart = apart-without c m.state.gate.counted k.apart;
  turning = λ d t. elim (cases_Bool (eqb c d)) [
    | inl e ↦ absurd (both_ways _ (subst (λ (x : ℕ). is_among x (without c m.state.gate.turning) ≡ false) (eqb-true c d e) (is_among-without c m.state.gate.turning)) t)
    | inr e ↦ is_among-without_other d c m.state.gate.counted (λ q. both_ways (eqb c d) e (eq-eqb c d q)) ∙ k.turning d (among-without c d m.state.gate.turning t)
  ];
}
counted_act s m c (acts.Blocked whats.Gate word) h k = go (for_some (m.now.calls c).call is_lock_or_compact)
  where
    out : is_among c m.state.gate.counted ≡ false
    out = outside_absent m c (and_parts (is_outside (caller_view m c)) _ (and_parts _ _ h).0).0

    grown : (b x y : Bool) → (x ≡ true → y ≡ true) → (b || x) ≡ true → (b || y) ≡ true
    grown true x y f e = refl
    grown false x y f e = f e

    go : (b : Bool) → IsCounted (record { counted = cond b m.state.gate.counted (c ∷ m.state.gate.counted); turning = cond b m.state.gate.turning (c ∷ m.state.gate.turning); owner = m.state.gate.owner; locks = m.state.gate.locks })
    go true = k
    go false = counted_more m.state.gate c (c ∷ m.state.gate.turning) out (λ d t. grown (eqb c d) (is_among d m.state.gate.turning) (is_among d m.state.gate.counted) (k.turning d) t) k
counted_act s m c acts.Lock h k = record { apart = k.apart; turning = k.turning }
counted_act s m c acts.Unlock h k = record { apart = k.apart; turning = k.turning }
counted_act s m c (acts.TakeLock what) h k = record { apart = k.apart; turning = k.turning }
counted_act s m c (acts.GiveLock what) h k = record { apart = k.apart; turning = k.turning }
counted_act s m c _ h k = k

pub counted_after : (s : Setting) (m : Configuration) (es : List Entry) → may_all_follow s m es ≡ true → IsCounted m.state.gate → IsCounted (configuration_after s m es).state.gate
counted_after s m [] h k = k
counted_after s m (e ∷ es) h k =
    let p = and_parts (may_follow s m e) (may_all_follow s (after s m e) es) h in
    counted_after s (after s m e) es p.1 (counted_act s m e.caller e.act (row_of s m e p.0) k)

pub counted_first : IsCounted first_configuration.state.gate
counted_first = record { apart = refl; turning = λ d t. absurd (false≢true t) }

-- the gate counts no more callers than there are
pub counted_few : (s : Setting) (made : ℕ) (es : List Entry) → is_named made es ≡ true → may_all_follow s first_configuration es ≡ true → length (configuration_of s es).state.gate.counted ≤ made
counted_few s made es names legal =
    pigeon made (configuration_of s es).state.gate.counted (counted_after s first_configuration es legal counted_first).apart (λ d h. below d h)
  where
    below : (d : ℕ) → is_among d (configuration_of s es).state.gate.counted ≡ true → d < made
    below d h = elim (cases_Bool (nat_lt d made)) [
      | inl e ↦ Rattle.std.proofs.lemmas.Bool.ltb-true d made e
      | inr e ↦
          let le = Rattle.std.proofs.lemmas.Bool.ltb-false d made e in
          absurd (false≢true (sym (agrees_others s first_configuration d es (own_unnamed made d es (omega arith) names) legal gate_sound_first).counted ∙ h))
    ]

-- the owner of the heap lock is one of them
pub owner_few : (s : Setting) (made : ℕ) (es : List Entry) → is_named made es ≡ true → may_all_follow s first_configuration es ≡ true → caller_word (configuration_of s es).state.gate.owner ≤ made
owner_few s made es names legal = by_owner (configuration_of s es).state.gate.owner refl
  where
    by_owner : (o : Option ℕ) → (configuration_of s es).state.gate.owner ≡ o → caller_word o ≤ made
    by_owner None e = omega arith
    by_owner (Some d) e = elim (cases_Bool (nat_lt d made)) [
      | inl f ↦ let l = Rattle.std.proofs.lemmas.Bool.ltb-true d made f in omega arith
      | inr f ↦
          let le = Rattle.std.proofs.lemmas.Bool.ltb-false d made f in
          let a = (agrees_others s first_configuration d es (own_unnamed made d es (omega arith) names) legal gate_sound_first).owner in
          absurd (false≢true (sym a ∙ (ap (is_caller d) e ∙ eq-eqb d d refl)))
    ]

-- where nobody is counted there is none
pub nobody_counted : (xs : List ℕ) → ((d : ℕ) → is_among d xs ≡ false) → xs ≡ []
nobody_counted [] f = refl
nobody_counted (x ∷ xs) f = let e = eq-eqb x x refl in absurd (true≢false (sym (rw e refl) ∙ f x))
