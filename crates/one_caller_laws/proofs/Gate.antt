-- The gate and the locks where caller 0 alone has come.
use Rattle.std.proofs.Common.{◌≡◌, ℕ, ◌+◌, ◌*◌, Bool, true, false, ◌&&◌, not, cond, List, [], ◌∷◌, Option, Some, None, refl, ap, eqb, inl, inr}
use Rattle.std.specs.List.{AllByRecursion}
use Rattle.std.proofs.lemmas.Bool.{cases_Bool, and_parts, not-true, not-false, eqb-true, eq-eqb, false≢true, true≢false, both_ways}
use Rattle.heap_model.specs.declared.Act.{Act}
use Rattle.heap_model.specs.declared.Act.TheVariants as acts
use Rattle.heap_model.specs.declared.What.{What}
use Rattle.heap_model.specs.declared.What.TheVariants as whats
use Rattle.heap_model.specs.State.{Setting, GateAndLocks, Locks, is_among, without, is_caller, is_another, is_entered, holds, holder_of, put_holder, gate_word, caller_word, open_locks}
use Rattle.heap_model.specs.CallState.{Configuration, caller_view, is_outside, holds_none}
use Rattle.heap_model.specs.Legal.{may, may_follow, after, state_after, may_be_blocked, is_lock_or_compact}
use Rattle.heap_model.specs.History.{first_configuration}
use Rattle.heap_model.specs.Alone.{by_zero, configuration_by, may_all_come}
use Rattle.heap_model.proofs.GateSound.{row_of}
use Rattle.heap_model.proofs.ListLemmas.{for_some_parts}

-- nobody but caller 0 is at the gate, owns the heap lock or holds a lock, and nobody turns back
pub record IsZeroGate (f : GateAndLocks) : Type 0 where
  pub counted : AllByRecursion (λ d. d ≡ 0) f.counted
  pub turning : f.turning ≡ []
  pub owner : is_another 0 f.owner ≡ false
  pub holders : (w : What) → is_another 0 (holder_of f.locks w) ≡ false

pub no_other : (o : Option ℕ) → is_another 0 o ≡ false → is_caller 0 o ≡ false → o ≡ None
no_other None a b = refl
no_other (Some d) a b = absurd (both_ways (eqb d 0) b (not-false (eqb d 0) a))

nobody : (ds : List ℕ) → AllByRecursion (λ d. d ≡ 0) ds → is_among 0 ds ≡ false → ds ≡ []
nobody [] a h = refl
nobody (d ∷ ds) a h = let e : eqb d 0 ≡ true = eq-eqb d 0 a.0 in absurd (true≢false (rw e at h))

-- outside, nobody is counted
pub outside_is : (m : Configuration) → IsZeroGate m.state.gate → is_outside (caller_view m 0) ≡ true → m.state.gate.counted ≡ []
outside_is m z h =
    let f = m.state.gate in
    let p = and_parts (not (is_entered f 0)) (not (is_among 0 f.turning)) h in
    let t = z.turning in
    let e : is_among 0 f.counted ≡ false = and_true (is_among 0 f.counted) (rw t at (not-true (is_entered f 0) p.0)) in
    nobody f.counted z.counted e
  where
    and_true : (b : Bool) → (b && true) ≡ false → b ≡ false
    and_true true h = h
    and_true false h = h

idle_locks : (k : Locks) → ((w : What) → is_another 0 (holder_of k w) ≡ false) → is_caller 0 k.lfh ≡ false → is_caller 0 k.vs ≡ false → is_caller 0 k.back ≡ false → is_caller 0 k.large ≡ false → k ≡ open_locks
idle_locks k h a b c d =
    let a' = no_other k.lfh (h whats.Lfh) a in
    let b' = no_other k.vs (h whats.Vs) b in
    let c' = no_other k.back (h whats.Back) c in
    let d' = no_other k.large (h whats.Large) d in
    λ i. record { lfh = a' i; vs = b' i; back = c' i; large = d' i }

-- outside, with no lock of a layer, the gate tells the owner of the heap lock alone
pub idle_gate : (m : Configuration) → IsZeroGate m.state.gate → is_outside (caller_view m 0) ≡ true → holds_none (caller_view m 0) ≡ true →
    m.state.gate ≡ record { counted = []; turning = []; owner = m.state.gate.owner; locks = open_locks }
idle_gate m z out none =
    let f = m.state.gate in
    let h3 = and_parts (not (holds f 0 whats.Lfh) && not (holds f 0 whats.Vs) && not (holds f 0 whats.Back)) (not (holds f 0 whats.Large)) none in
    let h2 = and_parts (not (holds f 0 whats.Lfh) && not (holds f 0 whats.Vs)) (not (holds f 0 whats.Back)) h3.0 in
    let h1 = and_parts (not (holds f 0 whats.Lfh)) (not (holds f 0 whats.Vs)) h2.0 in
    let c = outside_is m z out in
    let t = z.turning in
    let k = idle_locks f.locks z.holders (not-true _ h1.0) (not-true _ h1.1) (not-true _ h2.1) (not-true _ h3.1) in
    λ i. record { counted = c i; turning = t i; owner = f.owner; locks = k i }

-- an owner or none
owned_or_none : (o : Option ℕ) (word : ℕ) → is_another 0 o ≡ false → eqb word (0 + 65536 * caller_word o) ≡ true → (not (is_caller 0 o) && not (eqb word 0)) ≡ true → ⊥
owned_or_none None word a e h = let w : word ≡ 0 = eqb-true word 0 e in false≢true (rw w at h)
owned_or_none (Some d) word a e h = let c : eqb d 0 ≡ true = not-false (eqb d 0) a in false≢true (rw c at h)

-- where caller 0 alone has come, nobody is in its way
pub never_blocked : (m : Configuration) (word : ℕ) → IsZeroGate m.state.gate → may_be_blocked m.state.gate 0 (caller_view m 0) word whats.Gate ≡ true → ⊥
never_blocked m word z h =
    let f = m.state.gate in
    let k = caller_view m 0 in
    let p = and_parts (is_outside k && eqb word (gate_word f)) _ h in
    let q = and_parts (is_outside k) (eqb word (gate_word f)) p.0 in
    let r = for_some_parts k.call.call (λ call. cond (is_lock_or_compact call) (not k.owns && not (eqb word 0)) (is_another 0 f.owner)) p.1 in
    let c = outside_is m z q.0 in
    elim (cases_Bool (is_lock_or_compact r.0)) [
      | inl e ↦ let g = r.2 in owned_or_none f.owner word z.owner (rw c at q.1) (rw e at g)
      | inr e ↦ let g = r.2 in both_ways (is_another 0 f.owner) z.owner (rw e at g)
    ]

without_zero : (ds : List ℕ) → AllByRecursion (λ d. d ≡ 0) ds → AllByRecursion (λ d. d ≡ 0) (without 0 ds)
without_zero [] a = tt
without_zero (d ∷ ds) a = let e : eqb d 0 ≡ true = eq-eqb d 0 a.0 in rw e (without_zero ds a.1)

put_holder_zero : (k : Locks) (o : Option ℕ) (what w : What) → is_another 0 o ≡ false → is_another 0 (holder_of k w) ≡ false → is_another 0 (holder_of (put_holder o k what) w) ≡ false
put_holder_zero k o whats.Gate w a h = h
put_holder_zero k o whats.Lfh whats.Lfh a h = a
put_holder_zero k o whats.Vs whats.Vs a h = a
put_holder_zero k o whats.Back whats.Back a h = a
put_holder_zero k o whats.Large whats.Large a h = a
put_holder_zero k o whats.Lfh _ a h = h
put_holder_zero k o whats.Vs _ a h = h
put_holder_zero k o whats.Back _ a h = h
put_holder_zero k o whats.Large _ a h = h

pub zero_act : (s : Setting) (m : Configuration) (act : Act) → may s m 0 act ≡ true → IsZeroGate m.state.gate → IsZeroGate (state_after m.state (m.now.calls 0) 0 act).gate
zero_act s m acts.Enter h z = record { counted = (refl, z.counted); turning = z.turning; owner = z.owner; holders = z.holders }
zero_act s m acts.Leave h z = record { counted = without_zero m.state.gate.counted z.counted; turning = ap (without 0) z.turning; owner = z.owner; holders = z.holders }
zero_act s m acts.Lock h z = record { counted = z.counted; turning = z.turning; owner = refl; holders = z.holders }
zero_act s m acts.Unlock h z = record { counted = z.counted; turning = z.turning; owner = refl; holders = z.holders }
zero_act s m (acts.Blocked whats.Gate word) h z = absurd (never_blocked m word z h)
zero_act s m (acts.Blocked whats.Lfh word) h z = z
zero_act s m (acts.Blocked whats.Vs word) h z = z
zero_act s m (acts.Blocked whats.Back word) h z = z
zero_act s m (acts.Blocked whats.Large word) h z = z
zero_act s m (acts.TakeLock what) h z = record { counted = z.counted; turning = z.turning; owner = z.owner; holders = λ w. put_holder_zero m.state.gate.locks (Some 0) what w refl (z.holders w) }
zero_act s m (acts.GiveLock what) h z = record { counted = z.counted; turning = z.turning; owner = z.owner; holders = λ w. put_holder_zero m.state.gate.locks None what w refl (z.holders w) }
zero_act s m _ h z = z

pub zero_after : (s : Setting) (m : Configuration) (act : Act) → may_follow s m (by_zero act) ≡ true → IsZeroGate m.state.gate → IsZeroGate (after s m (by_zero act)).state.gate
zero_after s m act h z = zero_act s m act (row_of s m (by_zero act) h) z

first_zero : IsZeroGate first_configuration.state.gate
first_zero = record { counted = tt; turning = refl; owner = refl; holders = none }
  where
    none : (w : What) → is_another 0 (holder_of open_locks w) ≡ false
    none whats.Gate = refl
    none whats.Lfh = refl
    none whats.Vs = refl
    none whats.Back = refl
    none whats.Large = refl

pub zero_through : (s : Setting) (m : Configuration) (rest : List Act) → may_all_come s m rest ≡ true → IsZeroGate m.state.gate → IsZeroGate (configuration_by s m rest).state.gate
zero_through s m [] h z = z
zero_through s m (act ∷ rest) h z =
    let p = and_parts (may_follow s m (by_zero act)) (may_all_come s (after s m (by_zero act)) rest) h in
    zero_through s (after s m (by_zero act)) rest p.1 (zero_after s m act p.0 z)

pub zero_from_first : (s : Setting) (rest : List Act) → may_all_come s first_configuration rest ≡ true → IsZeroGate (configuration_by s first_configuration rest).state.gate
zero_from_first s rest h = zero_through s first_configuration rest h first_zero
