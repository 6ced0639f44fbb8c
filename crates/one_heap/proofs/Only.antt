-- Where a heap has room for one caller, nobody else has an entry.
use Rattle.std.proofs.Common.{◌≡◌, ℕ, ◌<◌, Bool, true, false, ◌==◌, ◌&&◌, ◌||◌, List, [], ◌∷◌, ◌++◌, map, Option, Some, None, refl, sym, ap, subst, ◌∙◌, arith, inl, inr, ne_eqb, eq-eqb}
use Rattle.std.specs.Prelude.{nat_lt, is_some}
use Rattle.std.proofs.lemmas.Bool.{cases_Bool, true≢false, and_parts, and_from, eqb-true, eqb-false, ltb-true}
use Rattle.heap_model.specs.declared.Act.{Act}
use Rattle.heap_model.specs.declared.Act.TheVariants as acts
use Rattle.heap_model.specs.declared.Entry.{Entry}
use Rattle.heap_model.specs.declared.What.{What}
use Rattle.heap_model.specs.declared.What.TheVariants as whats
use Rattle.heap_model.specs.State.{Setting, GateAndLocks, Locks, is_another, is_among, without, holder_of, put_holder, hands}
use Rattle.heap_model.specs.CallState.{Configuration, CallState, caller_view, is_outside, holds_none}
use Rattle.heap_model.specs.Legal.{may, may_follow, after, is_begin, is_empty, meets_demand, gate_blocked, is_lock_or_compact}
use Rattle.heap_model.specs.History.{configuration_after, may_all_follow, first_configuration}
use Rattle.heap_model.specs.Alone.{by_zero}
use Rattle.heap_model.specs.Stay.{for_some}
use Rattle.claim_rule.specs.Entries.{is_by, entry}
use Rattle.one_heap.specs.Lone.{act_of}

-- Nobody but caller 0 has a call, is counted by the gate, owns the heap lock or holds the lock of a layer.
pub record IsOnly (m : Configuration) : Type 0 where
  pub calls : (n : ℕ) → (n ≡ 0 → ⊥) → (m.now.calls n).call ≡ None
  pub counted : (n : ℕ) → (n ≡ 0 → ⊥) → is_among n m.state.gate.counted ≡ false
  pub owner : is_another 0 m.state.gate.owner ≡ false
  pub locks : (w : What) → is_another 0 (holder_of m.state.gate.locks w) ≡ false

pub first_only : IsOnly first_configuration
first_only = record { calls = λ n ne. refl; counted = λ n ne. refl; owner = refl; locks = none }
  where
    none : (w : What) → is_another 0 (holder_of first_configuration.state.gate.locks w) ≡ false
    none whats.Gate = refl
    none whats.Lfh = refl
    none whats.Vs = refl
    none whats.Back = refl
    none whats.Large = refl

---- Whose the next entry is

begins : (s : Setting) (m : Configuration) (n : ℕ) (act : Act) → is_begin act ≡ true → may s m n act ≡ true → n < s.limits.callers
begins s m n (acts.Begin call) b h =
    let k = caller_view m n in
    let p = and_parts (nat_lt n s.limits.callers && is_outside k && holds_none k) (is_empty (hands m.state n)) h in
    let q = and_parts (nat_lt n s.limits.callers && is_outside k) (holds_none k) p.0 in
    ltb-true n s.limits.callers (and_parts (nat_lt n s.limits.callers) (is_outside k) q.0).0
begins s m n _ b h = absurd (true≢false (sym b))

pub whose : (s : Setting) (m : Configuration) (e : Entry) → s.limits.callers ≡ 1 → IsOnly m → may_follow s m e ≡ true → e.caller ≡ 0
whose s m e one only h = elim (cases_Bool (e.caller == 0)) [
  | inl z ↦ eqb-true e.caller 0 z
  | inr z ↦
      let meets = meets_demand m.state.back.area e m.now.demand in
      let has = is_some (m.now.calls e.caller).call in
      let p = and_parts (meets && (is_begin e.act || has)) (may s m e.caller e.act) h in
      let q = and_parts meets (is_begin e.act || has) p.0 in
      elim (cases_Bool (is_begin e.act)) [
        | inl b ↦ let l = begins s m e.caller e.act b p.1 in omega (arith, l, one)
        | inr b ↦
            let none : has ≡ false = ap is_some (only.calls e.caller (eqb-false e.caller 0 z)) in
            let no : (is_begin e.act || has) ≡ false = ap (λ x. x || has) b ∙ none in
            absurd (true≢false (sym q.1 ∙ no))
      ]
]

---- .. and what it leaves

put_only : (k : Locks) (o : Option ℕ) (what w : What) → is_another 0 o ≡ false → ((v : What) → is_another 0 (holder_of k v) ≡ false) → is_another 0 (holder_of (put_holder o k what) w) ≡ false
put_only k o whats.Gate w n h = h w
put_only k o whats.Lfh whats.Lfh n h = n
put_only k o whats.Lfh whats.Gate n h = h whats.Gate
put_only k o whats.Lfh whats.Vs n h = h whats.Vs
put_only k o whats.Lfh whats.Back n h = h whats.Back
put_only k o whats.Lfh whats.Large n h = h whats.Large
put_only k o whats.Vs whats.Vs n h = n
put_only k o whats.Vs whats.Gate n h = h whats.Gate
put_only k o whats.Vs whats.Lfh n h = h whats.Lfh
put_only k o whats.Vs whats.Back n h = h whats.Back
put_only k o whats.Vs whats.Large n h = h whats.Large
put_only k o whats.Back whats.Back n h = n
put_only k o whats.Back whats.Gate n h = h whats.Gate
put_only k o whats.Back whats.Lfh n h = h whats.Lfh
put_only k o whats.Back whats.Vs n h = h whats.Vs
put_only k o whats.Back whats.Large n h = h whats.Large
put_only k o whats.Large whats.Large n h = n
put_only k o whats.Large whats.Gate n h = h whats.Gate
put_only k o whats.Large whats.Lfh n h = h whats.Lfh
put_only k o whats.Large whats.Vs n h = h whats.Vs
put_only k o whats.Large whats.Back n h = h whats.Back

-- nobody else is counted where caller 0 is counted once more, or no longer
zero_more : (n : ℕ) (cs : List ℕ) → (n ≡ 0 → ⊥) → is_among n cs ≡ false → is_among n (0 ∷ cs) ≡ false
zero_more n cs ne h = let z : (0 == n) ≡ false = ne_eqb 0 n (λ e. ne (sym e)) in rw z h

zero_less : (n : ℕ) (cs : List ℕ) → is_among n cs ≡ false → is_among n (without 0 cs) ≡ false
zero_less n [] h = refl
zero_less n (c ∷ cs) h = elim (cases_Bool (c == n)) [
  | inl z ↦ absurd (true≢false (sym (ap (λ (b : Bool). b || is_among n cs) z) ∙ h))
  | inr z ↦
      let rest : is_among n cs ≡ false = sym (ap (λ (b : Bool). b || is_among n cs) z) ∙ h in
      let less = zero_less n cs rest in
      elim (cases_Bool (c == 0)) [
        | inl y ↦ rw y less
        | inr y ↦ rw (y, z) less
      ]
]

blocked_more : (n : ℕ) (f : GateAndLocks) (k : CallState) → (n ≡ 0 → ⊥) → is_among n f.counted ≡ false → is_among n (gate_blocked f 0 k).counted ≡ false
blocked_more n f k ne h = elim (cases_Bool (for_some k.call is_lock_or_compact)) [
  | inl z ↦ rw z h
  | inr z ↦ let more = zero_more n f.counted ne h in rw z more
]

module _ (s : Setting) (m : Configuration) (only : IsOnly m) where
  counted_only : (act : Act) (n : ℕ) → (n ≡ 0 → ⊥) → is_among n (after s m (by_zero act)).state.gate.counted ≡ false
  counted_only acts.Enter n ne = zero_more n m.state.gate.counted ne (only.counted n ne)
  counted_only acts.Leave n ne = zero_less n m.state.gate.counted (only.counted n ne)
  counted_only (acts.Blocked whats.Gate word) n ne = blocked_more n m.state.gate (m.now.calls 0) ne (only.counted n ne)
  counted_only (acts.Blocked whats.Lfh word) n ne = only.counted n ne
  counted_only (acts.Blocked whats.Vs word) n ne = only.counted n ne
  counted_only (acts.Blocked whats.Back word) n ne = only.counted n ne
  counted_only (acts.Blocked whats.Large word) n ne = only.counted n ne
  counted_only _ n ne = only.counted n ne

  owner_only : (act : Act) → is_another 0 (after s m (by_zero act)).state.gate.owner ≡ false
  owner_only acts.Lock = refl
  owner_only acts.Unlock = refl
  owner_only (acts.Blocked whats.Gate word) = only.owner
  owner_only (acts.Blocked whats.Lfh word) = only.owner
  owner_only (acts.Blocked whats.Vs word) = only.owner
  owner_only (acts.Blocked whats.Back word) = only.owner
  owner_only (acts.Blocked whats.Large word) = only.owner
  owner_only _ = only.owner

  locks_only : (act : Act) (w : What) → is_another 0 (holder_of (after s m (by_zero act)).state.gate.locks w) ≡ false
  locks_only (acts.TakeLock what) w = put_only m.state.gate.locks (Some 0) what w refl only.locks
  locks_only (acts.GiveLock what) w = put_only m.state.gate.locks None what w refl only.locks
  locks_only (acts.Blocked whats.Gate word) w = only.locks w
  locks_only (acts.Blocked whats.Lfh word) w = only.locks w
  locks_only (acts.Blocked whats.Vs word) w = only.locks w
  locks_only (acts.Blocked whats.Back word) w = only.locks w
  locks_only (acts.Blocked whats.Large word) w = only.locks w
  locks_only _ w = only.locks w

  pub after_only : (act : Act) → IsOnly (after s m (by_zero act))
  after_only act = record {
    calls = λ n ne. let z = ne_eqb n 0 ne in rw z (only.calls n ne);
    counted = counted_only act;
    owner = owner_only act;
    locks = locks_only act;
  }

---- Lists

pub all_zero : (s : Setting) (m : Configuration) (es : List Entry) → s.limits.callers ≡ 1 → IsOnly m → may_all_follow s m es ≡ true → is_by 0 es ≡ true
all_zero s m [] one only h = refl
all_zero s m (e ∷ es) one only h =
    let p = and_parts (may_follow s m e) (may_all_follow s (after s m e) es) h in
    let z = whose s m e one only p.0 in
    let next : IsOnly (after s m e) = subst (λ (n : ℕ). IsOnly (after s m (entry n e.act))) (sym z) (after_only s m only e.act) in
    and_from (e.caller == 0) (is_by 0 es) (eq-eqb e.caller 0 z) (all_zero s (after s m e) es one next p.1)

pub only_behind : (s : Setting) (m : Configuration) (rest : List Act) → IsOnly m → IsOnly (configuration_after s m (map by_zero rest))
only_behind s m [] only = only
only_behind s m (act ∷ rest) only = only_behind s (after s m (by_zero act)) rest (after_only s m only act)

-- entries of caller 0 are those of its acts
pub zero_acts : (es : List Entry) → is_by 0 es ≡ true → map by_zero (map act_of es) ≡ es
zero_acts [] b = refl
zero_acts (e ∷ es) b =
    let p = and_parts (e.caller == 0) (is_by 0 es) b in
    let z : e.caller ≡ 0 = eqb-true e.caller 0 p.0 in
    ap (λ (n : ℕ). entry n e.act ∷ map by_zero (map act_of es)) (sym z) ∙ ap (λ (l : List Entry). e ∷ l) (zero_acts es p.1)

pub acts_of_zero : (rest : List Act) → map act_of (map by_zero rest) ≡ rest
acts_of_zero [] = refl
acts_of_zero (act ∷ rest) = ap (λ (l : List Act). act ∷ l) (acts_of_zero rest)

pub acts-append : (xs ys : List Entry) → map act_of (xs ++ ys) ≡ map act_of xs ++ map act_of ys
acts-append [] ys = refl
acts-append (x ∷ xs) ys = ap (λ (l : List Act). x.act ∷ l) (acts-append xs ys)

pub zeros-append : (xs ys : List Act) → map by_zero (xs ++ ys) ≡ map by_zero xs ++ map by_zero ys
zeros-append [] ys = refl
zeros-append (x ∷ xs) ys = ap (λ (l : List Entry). by_zero x ∷ l) (zeros-append xs ys)
