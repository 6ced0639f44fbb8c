-- Who is at the gate is counted once, and is a caller of the limits.
use Rattle.std.proofs.Common.{◌≡◌, ℕ, ◌<◌, ◌≤◌, Bool, true, false, cond, ◌&&◌, not, List, [], ◌∷◌, length, Option, Some, None, refl, sym, ap, ◌∙◌, subst, eqb, inl, inr}
use Rattle.std.specs.Prelude.{filter}
use Rattle.std.specs.List.{list_any, AllByRecursion, IsDistinct}
use Rattle.std.proofs.lemmas.Bool.{cases_Bool, cases_eq, and_parts, and_from, or_left, or_right, or_cases, or_parts, not-true, both_ways, eqb-true, eqb-false, ne_eqb, false_from_ne_true, false≢true}
use Rattle.std.proofs.lemmas.Map.Steps.{length-le_from_distinct_below}
use Rattle.heap_model.specs.declared.Act.{Act}
use Rattle.heap_model.specs.declared.Act.TheVariants as acts
use Rattle.heap_model.specs.declared.What.{What}
use Rattle.heap_model.specs.declared.What.TheVariants as whats
use Rattle.heap_model.specs.State.{GateAndLocks, Setting, is_among, without, is_entered, holder_of}
use Rattle.heap_model.specs.Stay.{for_some}
use Rattle.heap_model.specs.CallState.{Configuration, caller_view, CallerView, is_outside}
use Rattle.heap_model.specs.Legal.{may, state_after, with_holder, is_lock_or_compact}
use Rattle.heap_model.proofs.ListLemmas.{is_among-without_other, is_among-without}
use Rattle.heap_soundness.specs.Sound.{IsGateCounted}

filtered_all : (P : ℕ → Type 0) (t : ℕ → Bool) (xs : List ℕ) → AllByRecursion P xs → AllByRecursion P (filter t xs)
filtered_all P t [] a = tt
filtered_all P t (x ∷ xs) a = elim (cases_Bool (t x)) [ inl e ↦ rw e (a.0, filtered_all P t xs a.1) | inr e ↦ rw e (filtered_all P t xs a.1) ]

filtered_distinct : (t : ℕ → Bool) (xs : List ℕ) → IsDistinct eqb xs → IsDistinct eqb (filter t xs)
unfolding IsDistinct
filtered_distinct t [] a = tt
filtered_distinct t (x ∷ xs) a = elim (cases_Bool (t x)) [ inl e ↦ rw e (filtered_all (λ y. eqb x y ≡ false) t xs a.0, filtered_distinct t xs a.1) | inr e ↦ rw e (filtered_distinct t xs a.1) ]

pub none_counted : IsDistinct eqb []
unfolding IsDistinct
none_counted = tt

-- one that is not among them differs from each
not_among : (c : ℕ) (xs : List ℕ) → is_among c xs ≡ false → AllByRecursion (λ y. eqb c y ≡ false) xs
not_among c [] h = tt
not_among c (x ∷ xs) h = let p = or_parts (eqb x c) (is_among c xs) h in (ne_eqb c x (λ e. eqb-false x c p.0 (sym e)), not_among c xs p.1)

module _ (s : Setting) (f : GateAndLocks) (c : ℕ) (below : c < s.limits.callers) (g : IsGateCounted s f) where
  -- a caller outside is not counted
  uncounted : (k : CallerView) → k.entered ≡ is_entered f c → k.turning ≡ is_among c f.turning → is_outside k ≡ true → is_among c f.counted ≡ false
  uncounted k e t out =
      let p = and_parts (not k.entered) (not k.turning) out in
      let a : is_entered f c ≡ false = sym e ∙ not-true k.entered p.0 in
      let b : is_among c f.turning ≡ false = sym t ∙ not-true k.turning p.1 in
      false_from_ne_true (is_among c f.counted) (λ h. both_ways (is_entered f c) a (and_from (is_among c f.counted) (not (is_among c f.turning)) h (ap not b)))

  enters : (turning : List ℕ) → is_among c f.counted ≡ false → ((d : ℕ) → is_among d turning ≡ true → is_among d (c ∷ f.counted) ≡ true) → IsGateCounted s (record { counted = c ∷ f.counted; turning = turning; owner = f.owner; locks = f.locks })
  unfolding IsDistinct
  enters turning n t = record { distinct = (not_among c f.counted n, g.distinct); turning = t; callers = (below, g.callers); owner = g.owner; holders = g.holders }

  leaves : IsGateCounted s (record { counted = without c f.counted; turning = without c f.turning; owner = f.owner; locks = f.locks })
  leaves = record {
    distinct = filtered_distinct (λ d. not (eqb d c)) f.counted g.distinct;
    turning = λ d h. elim (cases_eq c d) [
      | inl e ↦ absurd (both_ways (is_among d (without c f.turning)) (subst (λ (x : ℕ). is_among x (without c f.turning) ≡ false) e (is_among-without c f.turning)) h)
      | inr e ↦ is_among-without_other d c f.counted e ∙ g.turning d (sym (is_among-without_other d c f.turning e) ∙ h)
    ];
    callers = filtered_all (λ d. d < s.limits.callers) (λ d. not (eqb d c)) f.counted g.callers;
    owner = g.owner;
    holders = g.holders;
  }

  with_owner_of : (o : Option ℕ) → ((d : ℕ) → o ≡ Some d → d < s.limits.callers) → IsGateCounted s (record { counted = f.counted; turning = f.turning; owner = o; locks = f.locks })
  with_owner_of o h = record { distinct = g.distinct; turning = g.turning; callers = g.callers; owner = h; holders = g.holders }

  with_holder_of : (what : What) (o : Option ℕ) → ((d : ℕ) → o ≡ Some d → d < s.limits.callers) → IsGateCounted s (with_holder f what o)
  with_holder_of what o h = record { distinct = g.distinct; turning = g.turning; callers = g.callers; owner = g.owner; holders = put what }
    where
      put : (what w : What) (d : ℕ) → holder_of (with_holder f what o).locks w ≡ Some d → d < s.limits.callers
      put whats.Lfh whats.Lfh d e = h d e
      put whats.Vs whats.Vs d e = h d e
      put whats.Back whats.Back d e = h d e
      put whats.Large whats.Large d e = h d e
      put whats.Gate w d e = g.holders w d e
      put whats.Lfh whats.Gate d e = g.holders whats.Gate d e
      put whats.Lfh whats.Vs d e = g.holders whats.Vs d e
      put whats.Lfh whats.Back d e = g.holders whats.Back d e
      put whats.Lfh whats.Large d e = g.holders whats.Large d e
      put whats.Vs whats.Gate d e = g.holders whats.Gate d e
      put whats.Vs whats.Lfh d e = g.holders whats.Lfh d e
      put whats.Vs whats.Back d e = g.holders whats.Back d e
      put whats.Vs whats.Large d e = g.holders whats.Large d e
      put whats.Back whats.Gate d e = g.holders whats.Gate d e
      put whats.Back whats.Lfh d e = g.holders whats.Lfh d e
      put whats.Back whats.Vs d e = g.holders whats.Vs d e
      put whats.Back whats.Large d e = g.holders whats.Large d e
      put whats.Large whats.Gate d e = g.holders whats.Gate d e
      put whats.Large whats.Lfh d e = g.holders whats.Lfh d e
      put whats.Large whats.Vs d e = g.holders whats.Vs d e
      put whats.Large whats.Back d e = g.holders whats.Back d e

  this : (d : ℕ) → Some c ≡ Some d → d < s.limits.callers
  this d e = let same : c ≡ d = cc in subst (λ (x : ℕ). x < s.limits.callers) same below

  nobody : (d : ℕ) → None ≡ Some d → d < s.limits.callers
  nobody d e = absurd (let z : ⊥ = cc in z)

pub counts_act : (s : Setting) (m : Configuration) (c : ℕ) (act : Act) → c < s.limits.callers → may s m c act ≡ true → IsGateCounted s m.state.gate → IsGateCounted s (state_after m.state (m.now.calls c) c act).gate
counts_act s m c acts.Enter l h g =
    let out = (and_parts (is_outside (caller_view m c)) (not (m.now.calls c).entered) (and_parts (is_outside (caller_view m c) && not (m.now.calls c).entered) _ h).0).0 in
    enters s m.state.gate c l g m.state.gate.turning (uncounted s m.state.gate c l g (caller_view m c) refl refl out) (λ d t. or_right (eqb c d) (is_among d m.state.gate.counted) (g.turning d t))
counts_act s m c acts.Leave l h g = leaves s m.state.gate c l g
counts_act s m c acts.Lock l h g = with_owner_of s m.state.gate c l g (Some c) (this s m.state.gate c l g)
counts_act s m c acts.Unlock l h g = with_owner_of s m.state.gate c l g None (nobody s m.state.gate c l g)
counts_act s m c (acts.Blocked whats.Gate word) l h g = blocked (for_some (m.now.calls c).call is_lock_or_compact)
  where
    out : is_outside (caller_view m c) ≡ true
    out = (and_parts (is_outside (caller_view m c)) _ (and_parts _ (for_some (m.now.calls c).call _) h).0).0

    turns : (d : ℕ) → is_among d (c ∷ m.state.gate.turning) ≡ true → is_among d (c ∷ m.state.gate.counted) ≡ true
    turns d t = elim (or_cases (eqb c d) (is_among d m.state.gate.turning) t) [ inl e ↦ or_left (eqb c d) (is_among d m.state.gate.counted) e | inr e ↦ or_right (eqb c d) (is_among d m.state.gate.counted) (g.turning d e) ]

    blocked : (b : Bool) → IsGateCounted s (record { counted = cond b m.state.gate.counted (c ∷ m.state.gate.counted); turning = cond b m.state.gate.turning (c ∷ m.state.gate.turning); owner = m.state.gate.owner; locks = m.state.gate.locks })
    blocked true = g
    blocked false = enters s m.state.gate c l g (c ∷ m.state.gate.turning) (uncounted s m.state.gate c l g (caller_view m c) refl refl out) turns
counts_act s m c (acts.TakeLock what) l h g = with_holder_of s m.state.gate c l g what (Some c) (this s m.state.gate c l g)
counts_act s m c (acts.GiveLock what) l h g = with_holder_of s m.state.gate c l g what None (nobody s m.state.gate c l g)
counts_act s m c _ l h g = g

-- so no more are counted than there are callers
pub few_counted : (s : Setting) (f : GateAndLocks) → IsGateCounted s f → length f.counted ≤ s.limits.callers
few_counted s f g = length-le_from_distinct_below f.counted s.limits.callers g.distinct (λ q h. below q f.counted g.callers h)
  where
    below : (q : ℕ) (xs : List ℕ) → AllByRecursion (λ d. d < s.limits.callers) xs → list_any (eqb q) xs ≡ true → q < s.limits.callers
    below q [] a h = absurd (false≢true h)
    below q (x ∷ xs) a h = elim (or_cases (eqb q x) (list_any (eqb q) xs) h) [ inl e ↦ subst (λ (d : ℕ). d < s.limits.callers) (sym (eqb-true q x e)) a.0 | inr e ↦ below q xs a.1 e ]
