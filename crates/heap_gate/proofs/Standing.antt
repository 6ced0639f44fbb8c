-- Where a caller stands before and after each of its entries.
use Rattle.std.proofs.Common.{◌≡◌, ℕ, ◌<◌, ◌==◌, Bool, true, false, not, ◌&&◌, ◌||◌, List, [], ◌∷◌, Option, Some, None, refl, sym, ap, ◌∙◌, eq-eqb, subst}
use Rattle.std.specs.Prelude.{is_some, nat_lt}
use Rattle.std.proofs.lemmas.Bool.{and_from, or_left, or_right, false≢true, lt-ltb}
use Rattle.heap_model.specs.declared.Act.{Act}
use Rattle.heap_model.specs.declared.Act.TheVariants as acts
use Rattle.heap_model.specs.declared.Call.{Call}
use Rattle.heap_model.specs.declared.What.{What}
use Rattle.heap_model.specs.declared.What.TheVariants as whats
use Rattle.heap_model.specs.State.{Setting, State, GateAndLocks, is_among, is_caller, is_entered, hands, holds, updated}
use Rattle.heap_model.specs.Stay.{for_some}
use Rattle.heap_model.specs.CallState.{Configuration, CallerView, CallState, Nothing, caller_view, is_outside, is_inside, holds_none, held}
use Rattle.heap_model.specs.Legal.{may, may_follow, after, is_lock_or_compact, call_after, gate_blocked, is_empty, meets_demand, leaves_whole}
use Rattle.heap_model.specs.Agreement.{AgreesFor}
use Rattle.heap_model.proofs.Stable.{caller_view_same, same_hands}
use Rattle.heap_model.proofs.GateSound.{held_is}
use Rattle.heap_model.proofs.ListLemmas.{is_among-without}
use Rattle.claim_rule.specs.Entries.{entry, leaves_words, may_prepare}
use Rattle.claim_rule.specs.Steps.{MayPass, MayGoOut, MayTryLock, MayGiveUp}
use Rattle.claim_rule.specs.Home.{HasSlot, slot_of}
use Rattle.lock_steps.specs.Locks.{MayTake, MayGiveBack}
use Rattle.heap_gate.specs.Token.{IsAt, is_out}
use Rattle.heap_gate.specs.Calls.{call_with, is_begun_with, is_whole_with, is_free_with, HasRested}

updated_here : {A : Type 0} (f : ℕ → A) (n : ℕ) (x : A) → updated f n x n ≡ x
updated_here f n x = let e = eq-eqb n n refl in rw e refl

-- what is so where c alone decides, is so in each configuration that agrees
pub at_agrees : (s : Setting) (m k : Configuration) (n : ℕ) (c : Option Call) (f i : Bool) (d : ℕ) (out : List ℕ) (w e : Bool) → AgreesFor n m k → m.now.demand ≡ Nothing → IsAt k n c f i d out w e → IsAt m n c f i d out w e
at_agrees s m k n c f i d out w e r z h =
    let v = caller_view_same n m k r in
    record {
      entered = ap (λ (x : CallerView). x.entered) v ∙ h.entered;
      turning = r.turning ∙ h.turning;
      owns = r.owner ∙ h.owns;
      locks = λ what. r.locks what ∙ h.locks what;
      hands = λ y. same_hands s n m k r ∙ h.hands y;
      begun = h.begun;
      call = ap (λ (x : CallState). x.call) r.call ∙ h.call;
      fresh = λ y. ap (λ (x : CallState). x.entered) r.call ∙ h.fresh y;
      demand = λ _. z;
    }

---- What a step asks

module _ (m : Configuration) (n : ℕ) (c : Option Call) (d : ℕ) (out : List ℕ) where
  pub outside_of : (f w e : Bool) → IsAt m n c f false d out w e → is_outside (caller_view m n) ≡ true
  outside_of f w e h = and_from (not (is_entered m.state.gate n)) (not (is_among n m.state.gate.turning)) (ap not h.entered) (ap not h.turning)

  pub none_of : (f i w e : Bool) → out ≡ [] → IsAt m n c f i d out w e → holds_none (caller_view m n) ≡ true
  none_of f i w e o h =
      let a : (what : What) → holds m.state.gate n what ≡ is_out what [] = λ what. h.locks what ∙ ap (is_out what) o in
      let lfh = a whats.Lfh in let vs = a whats.Vs in let back = a whats.Back in let large = a whats.Large in
      and_from (not (holds m.state.gate n whats.Lfh) && not (holds m.state.gate n whats.Vs) && not (holds m.state.gate n whats.Back)) (not (holds m.state.gate n whats.Large))
      (and_from (not (holds m.state.gate n whats.Lfh) && not (holds m.state.gate n whats.Vs)) (not (holds m.state.gate n whats.Back))
      (and_from (not (holds m.state.gate n whats.Lfh)) (not (holds m.state.gate n whats.Vs)) (ap not lfh) (ap not vs)) (ap not back)) (ap not large)

  pub pass_of : (w e : Bool) (call : Call) → c ≡ Some call → is_lock_or_compact call ≡ false → IsAt m n c true false d out w e → MayPass m n
  pass_of w e call is l h = record { outside = outside_of true w e h; fresh = h.fresh refl; call = ap (λ (o : Option Call). for_some o (λ x. not (is_lock_or_compact x))) (h.call ∙ is) ∙ ap not l }

  pub out_of : (f w : Bool) → out ≡ [] → IsAt m n c f true d out w true → MayGoOut m n
  out_of f w o h = record {
    begun = ap is_some h.call ∙ h.begun refl;
    may = or_right (is_among n m.state.gate.turning) _ (and_from (is_entered m.state.gate n && holds_none (caller_view m n)) (is_empty (hands m.state n)) (and_from (is_entered m.state.gate n) (holds_none (caller_view m n)) h.entered (none_of f true w true o h)) (ap is_empty (h.hands refl)));
  }

  pub try_of : (f w e : Bool) (call : Call) → c ≡ Some call → is_lock_or_compact call ≡ true → d ≡ 0 → IsAt m n c f false d out w e → MayTryLock m n
  try_of f w e call is l z h = record { outside = outside_of f w e h; owns = h.owns ∙ ap (λ (x : ℕ). not (x == 0)) z; call = ap (λ (o : Option Call). for_some o is_lock_or_compact) (h.call ∙ is) ∙ l }

  pub give_up_of : (f w e : Bool) → out ≡ [] → d ≡ 1 → IsAt m n c f false d out w e → MayGiveUp m n
  give_up_of f w e o one h =
      let owns : is_caller n m.state.gate.owner ≡ true = h.owns ∙ ap (λ (x : ℕ). not (x == 0)) one in
      record {
        begun = ap is_some h.call ∙ h.begun (ap (λ (x : ℕ). not (x == 0)) one);
        may = and_from (is_caller n m.state.gate.owner && not (is_entered m.state.gate n)) (holds_none (caller_view m n)) (and_from (is_caller n m.state.gate.owner) (not (is_entered m.state.gate n)) owns (ap not h.entered)) (none_of f false w e o h);
      }

  inside_of : (f i w e : Bool) → (i || not (d == 0)) ≡ true → IsAt m n c f i d out w e → is_inside (caller_view m n) ≡ true
  inside_of f i w e u h = (λ j. h.entered j || h.owns j) ∙ u

  pub take_of : (f i w e : Bool) (what : What) → (i || not (d == 0)) ≡ true → is_out what out ≡ false → IsAt m n c f i d out w e → MayTake m n what
  take_of f i w e what u o h = record { begun = ap is_some h.call ∙ h.begun u; inside = inside_of f i w e u h; free = held_is m n what ∙ (h.locks what ∙ o) }

  pub give_of : (f i w e : Bool) (what : What) → (i || not (d == 0)) ≡ true → is_out what out ≡ true → leaves_whole m.state what ≡ true → IsAt m n c f i d out w e → MayGiveBack m n what
  give_of f i w e what u o l h = record {
    begun = ap is_some h.call ∙ h.begun u;
    may = and_from (held (caller_view m n) what && is_inside (caller_view m n)) (leaves_whole m.state what) (and_from (held (caller_view m n) what) (is_inside (caller_view m n)) (held_is m n what ∙ (h.locks what ∙ o)) (inside_of f i w e u h)) l;
  }

---- After an entry

module _ (s : Setting) (m : Configuration) (n : ℕ) where
  abbrev next : Act → Configuration
  next act = after s m (entry n act)

  called : (act : Act) → (next act).now.calls n ≡ call_after s n (m.now.calls n) act
  called act = updated_here m.now.calls n (call_after s n (m.now.calls n) act)

  pub at_enter : (c : Option Call) (f : Bool) (d : ℕ) (out : List ℕ) (w e : Bool) (call : Call) → c ≡ Some call → IsAt m n c f false d out w e → IsAt (next acts.Enter) n c false true d out true e
  at_enter c f d out w e call is h = record {
    entered = let a = eq-eqb n n refl in let b = h.turning in rw (a, b) refl;
    turning = h.turning;
    owns = h.owns;
    locks = h.locks;
    hands = h.hands;
    begun = λ _. ap is_some is;
    call = ap (λ (x : CallState). x.call) (called acts.Enter) ∙ h.call;
    fresh = λ q. absurd (false≢true q);
    demand = λ _. refl;
  }

  pub at_leave : (c : Option Call) (f : Bool) (d : ℕ) (out : List ℕ) (w e : Bool) → IsAt m n c f true d out w e → IsAt (next acts.Leave) n c f false d out true e
  at_leave c f d out w e h = record {
    entered = let a = is_among-without n m.state.gate.counted in rw a refl;
    turning = is_among-without n m.state.gate.turning;
    owns = h.owns;
    locks = h.locks;
    hands = h.hands;
    begun = λ _. h.begun refl;
    call = ap (λ (x : CallState). x.call) (called acts.Leave) ∙ h.call;
    fresh = λ q. ap (λ (x : CallState). x.entered) (called acts.Leave) ∙ h.fresh q;
    demand = λ _. refl;
  }

  pub at_lock : (c : Option Call) (f : Bool) (d : ℕ) (out : List ℕ) (w e : Bool) (call : Call) → c ≡ Some call → IsAt m n c f false d out w e → IsAt (next acts.Lock) n c f false 1 out true e
  at_lock c f d out w e call is h = record {
    entered = h.entered;
    turning = h.turning;
    owns = eq-eqb n n refl;
    locks = h.locks;
    hands = h.hands;
    begun = λ _. ap is_some is;
    call = ap (λ (x : CallState). x.call) (called acts.Lock) ∙ h.call;
    fresh = λ q. ap (λ (x : CallState). x.entered) (called acts.Lock) ∙ h.fresh q;
    demand = λ _. refl;
  }

  pub at_unlock : (c : Option Call) (f : Bool) (d : ℕ) (out : List ℕ) (w e : Bool) → IsAt m n c f false d out w e → IsAt (next acts.Unlock) n c f false 0 out true e
  at_unlock c f d out w e h = record {
    entered = h.entered;
    turning = h.turning;
    owns = refl;
    locks = h.locks;
    hands = h.hands;
    begun = λ q. absurd (false≢true q);
    call = ap (λ (x : CallState). x.call) (called acts.Unlock) ∙ h.call;
    fresh = λ q. ap (λ (x : CallState). x.entered) (called acts.Unlock) ∙ h.fresh q;
    demand = λ _. refl;
  }

  -- a call of lock that found the gate taken
  pub at_gate_taken : (c : Option Call) (f : Bool) (d : ℕ) (out : List ℕ) (w e : Bool) (word : ℕ) (call : Call) → c ≡ Some call → is_lock_or_compact call ≡ true → IsAt m n c f false d out w e → IsAt (next (acts.Blocked whats.Gate word)) n c f false d out true e
  at_gate_taken c f d out w e word call is l h =
      let stays : for_some (m.now.calls n).call is_lock_or_compact ≡ true = ap (λ (o : Option Call). for_some o is_lock_or_compact) (h.call ∙ is) ∙ l in
      let same : gate_blocked m.state.gate n (m.now.calls n) ≡ m.state.gate = rw stays refl in
      record {
        entered = ap (λ (g : GateAndLocks). is_entered g n) same ∙ h.entered;
        turning = ap (λ (g : GateAndLocks). is_among n g.turning) same ∙ h.turning;
        owns = h.owns;
        locks = h.locks;
        hands = h.hands;
        begun = h.begun;
        call = ap (λ (x : CallState). x.call) (called (acts.Blocked whats.Gate word)) ∙ h.call;
        fresh = λ q. ap (λ (x : CallState). x.entered) (called (acts.Blocked whats.Gate word)) ∙ h.fresh q;
        demand = λ _. refl;
      }

  -- a layer lock that is another's
  pub at_missed : (c : Option Call) (f i : Bool) (d : ℕ) (out : List ℕ) (w e : Bool) (what : What) (word : ℕ) → HasSlot what → IsAt m n c f i d out w e → IsAt (next (acts.Blocked what word)) n c f i d out true e
  at_missed c f i d out w e what word slot h =
      let same : (next (acts.Blocked what word)).state.gate ≡ m.state.gate = gate what slot in
      record {
        entered = ap (λ (g : GateAndLocks). is_entered g n) same ∙ h.entered;
        turning = ap (λ (g : GateAndLocks). is_among n g.turning) same ∙ h.turning;
        owns = ap (λ (g : GateAndLocks). is_caller n g.owner) same ∙ h.owns;
        locks = λ x. ap (λ (g : GateAndLocks). holds g n x) same ∙ h.locks x;
        hands = λ y. hand what slot ∙ h.hands y;
        begun = h.begun;
        call = ap (λ (x : CallState). x.call) (called (acts.Blocked what word)) ∙ h.call;
        fresh = λ q. ap (λ (x : CallState). x.entered) (called (acts.Blocked what word)) ∙ h.fresh q;
        demand = λ _. refl;
      }
    where
      gate : (what : What) → HasSlot what → (next (acts.Blocked what word)).state.gate ≡ m.state.gate
      gate whats.Vs y = refl
      gate whats.Back y = refl
      gate whats.Large y = refl
      gate whats.Gate y = absurd y
      gate whats.Lfh y = absurd y

      hand : (what : What) → HasSlot what → hands (next (acts.Blocked what word)).state n ≡ hands m.state n
      hand whats.Vs y = refl
      hand whats.Back y = refl
      hand whats.Large y = refl
      hand whats.Gate y = absurd y
      hand whats.Lfh y = absurd y

  taken : (what x : What) (out : List ℕ) → HasSlot what → ((w : What) → holds m.state.gate n w ≡ is_out w out) → holds (next (acts.TakeLock what)).state.gate n x ≡ is_out x (slot_of what ∷ out)
  taken whats.Vs whats.Vs out y h = eq-eqb n n refl
  taken whats.Back whats.Back out y h = eq-eqb n n refl
  taken whats.Large whats.Large out y h = eq-eqb n n refl
  taken whats.Vs whats.Gate out y h = h whats.Gate
  taken whats.Vs whats.Lfh out y h = h whats.Lfh
  taken whats.Vs whats.Back out y h = h whats.Back
  taken whats.Vs whats.Large out y h = h whats.Large
  taken whats.Back whats.Gate out y h = h whats.Gate
  taken whats.Back whats.Lfh out y h = h whats.Lfh
  taken whats.Back whats.Vs out y h = h whats.Vs
  taken whats.Back whats.Large out y h = h whats.Large
  taken whats.Large whats.Gate out y h = h whats.Gate
  taken whats.Large whats.Lfh out y h = h whats.Lfh
  taken whats.Large whats.Vs out y h = h whats.Vs
  taken whats.Large whats.Back out y h = h whats.Back
  taken whats.Gate x out y h = absurd y
  taken whats.Lfh x out y h = absurd y

  pub at_taken : (c : Option Call) (f i : Bool) (d : ℕ) (out : List ℕ) (w e : Bool) (what : What) → HasSlot what → IsAt m n c f i d out w e → IsAt (next (acts.TakeLock what)) n c f i d (slot_of what ∷ out) true e
  at_taken c f i d out w e what slot h = record {
    entered = h.entered;
    turning = h.turning;
    owns = h.owns;
    locks = λ x. taken what x out slot h.locks;
    hands = h.hands;
    begun = h.begun;
    call = ap (λ (x : CallState). x.call) (called (acts.TakeLock what)) ∙ h.call;
    fresh = λ q. ap (λ (x : CallState). x.entered) (called (acts.TakeLock what)) ∙ h.fresh q;
    demand = λ _. refl;
  }

  -- No slot is out twice.
  given : (what x : What) (out : List ℕ) → HasSlot what → is_out what out ≡ false → ((w : What) → holds m.state.gate n w ≡ is_out w (slot_of what ∷ out)) → holds (next (acts.GiveLock what)).state.gate n x ≡ is_out x out
  given whats.Vs whats.Vs out y o h = sym o
  given whats.Back whats.Back out y o h = sym o
  given whats.Large whats.Large out y o h = sym o
  given whats.Vs whats.Gate out y o h = h whats.Gate
  given whats.Vs whats.Lfh out y o h = h whats.Lfh
  given whats.Vs whats.Back out y o h = h whats.Back
  given whats.Vs whats.Large out y o h = h whats.Large
  given whats.Back whats.Gate out y o h = h whats.Gate
  given whats.Back whats.Lfh out y o h = h whats.Lfh
  given whats.Back whats.Vs out y o h = h whats.Vs
  given whats.Back whats.Large out y o h = h whats.Large
  given whats.Large whats.Gate out y o h = h whats.Gate
  given whats.Large whats.Lfh out y o h = h whats.Lfh
  given whats.Large whats.Vs out y o h = h whats.Vs
  given whats.Large whats.Back out y o h = h whats.Back
  given whats.Gate x out y o h = absurd y
  given whats.Lfh x out y o h = absurd y

  pub at_given : (c : Option Call) (f i : Bool) (d : ℕ) (out : List ℕ) (w e : Bool) (what : What) → HasSlot what → is_out what out ≡ false → IsAt m n c f i d (slot_of what ∷ out) w e → IsAt (next (acts.GiveLock what)) n c f i d out true e
  at_given c f i d out w e what slot o h = record {
    entered = h.entered;
    turning = h.turning;
    owns = h.owns;
    locks = λ x. given what x out slot o h.locks;
    hands = h.hands;
    begun = h.begun;
    call = ap (λ (x : CallState). x.call) (called (acts.GiveLock what)) ∙ h.call;
    fresh = λ q. ap (λ (x : CallState). x.entered) (called (acts.GiveLock what)) ∙ h.fresh q;
    demand = λ _. refl;
  }

  -- an act that leaves the gate, the call and what is in hand, and demands nothing
  pub at_plain : (c : Option Call) (f i : Bool) (d : ℕ) (out : List ℕ) (w e : Bool) (act : Act) → (next act).state.gate ≡ m.state.gate → hands (next act).state n ≡ hands m.state n → call_after s n (m.now.calls n) act ≡ m.now.calls n → (next act).now.demand ≡ Nothing
      → IsAt m n c f i d out w e → IsAt (next act) n c f i d out true e
  at_plain c f i d out w e act gate hand same none h = record {
    entered = ap (λ (g : GateAndLocks). is_entered g n) gate ∙ h.entered;
    turning = ap (λ (g : GateAndLocks). is_among n g.turning) gate ∙ h.turning;
    owns = ap (λ (g : GateAndLocks). is_caller n g.owner) gate ∙ h.owns;
    locks = λ x. ap (λ (g : GateAndLocks). holds g n x) gate ∙ h.locks x;
    hands = λ y. hand ∙ h.hands y;
    begun = h.begun;
    call = ap (λ (x : CallState). x.call) (called act ∙ same) ∙ h.call;
    fresh = λ q. ap (λ (x : CallState). x.entered) (called act ∙ same) ∙ h.fresh q;
    demand = λ _. none;
  }

  -- a caller that has to turn back, of what it still is
  pub record IsTurning (k : Configuration) (c : Option Call) (d : ℕ) (out : List ℕ) (e : Bool) : Type 0 where
    pub turning : is_among n k.state.gate.turning ≡ true
    pub owns : is_caller n k.state.gate.owner ≡ not (d == 0)
    pub locks : (w : What) → holds k.state.gate n w ≡ is_out w out
    pub hands : e ≡ true → hands k.state n ≡ []
    pub begun : is_some c ≡ true
    pub call : (k.now.calls n).call ≡ c

  pub at_blocked : (c : Option Call) (f : Bool) (d : ℕ) (out : List ℕ) (w e : Bool) (word : ℕ) (call : Call) → c ≡ Some call → is_lock_or_compact call ≡ false → IsAt m n c f false d out w e → IsTurning (next (acts.Blocked whats.Gate word)) c d out e
  at_blocked c f d out w e word call is l h =
      let goes : for_some (m.now.calls n).call is_lock_or_compact ≡ false = ap (λ (o : Option Call). for_some o is_lock_or_compact) (h.call ∙ is) ∙ l in
      record {
        turning = let a = eq-eqb n n refl in rw (goes, a) refl;
        owns = h.owns;
        locks = h.locks;
        hands = h.hands;
        begun = ap is_some is;
        call = ap (λ (x : CallState). x.call) (called (acts.Blocked whats.Gate word)) ∙ h.call;
      }

module _ (s : Setting) (n : ℕ) (c : Option Call) (d : ℕ) (out : List ℕ) (e : Bool) where
  pub turning_agrees : (x m k : Configuration) → AgreesFor n m k → IsTurning s x n k c d out e → IsTurning s x n m c d out e
  turning_agrees x m k r h = record {
    turning = r.turning ∙ h.turning;
    owns = r.owner ∙ h.owns;
    locks = λ w. r.locks w ∙ h.locks w;
    hands = λ y. same_hands s n m k r ∙ h.hands y;
    begun = h.begun;
    call = ap (λ (x : CallState). x.call) r.call ∙ h.call;
  }

  pub turning_out : (x m : Configuration) → IsTurning s x n m c d out e → MayGoOut m n
  turning_out x m h = record { begun = ap is_some h.call ∙ h.begun; may = or_left (is_among n m.state.gate.turning) _ h.turning }

  pub at_turned : (x m : Configuration) → IsTurning s x n m c d out e → IsAt (after s m (entry n acts.Leave)) n c false false d out true e
  at_turned x m h = record {
    entered = let a = is_among-without n m.state.gate.counted in rw a refl;
    turning = is_among-without n m.state.gate.turning;
    owns = h.owns;
    locks = h.locks;
    hands = h.hands;
    begun = λ _. h.begun;
    call = ap (λ (x : CallState). x.call) (called s m n acts.Leave) ∙ h.call;
    fresh = λ q. absurd (false≢true q);
    demand = λ _. refl;
  }

---- A prepared entry

module _ (s : Setting) (m : Configuration) (n : ℕ) (c : Option Call) (f i : Bool) (d : ℕ) (out : List ℕ) (w e : Bool) (h : IsAt m n c f i d out w e) where
  -- what the act leaves: the gate, the call, and, where it is known, what is in hand
  record Leaves (act : Act) : Type 0 where
    pub gate : (after s m (entry n act)).state.gate ≡ m.state.gate
    pub call : (call_after s n (m.now.calls n) act).call ≡ call_with c act
    pub fresh : is_begun_with f act ≡ true → (call_after s n (m.now.calls n) act).entered ≡ false
    pub hands : is_free_with e act ≡ true → hands (after s m (entry n act)).state n ≡ hands m.state n
    pub was_free : is_free_with e act ≡ true → e ≡ true
    pub demand : is_whole_with act ≡ true → (after s m (entry n act)).now.demand ≡ Nothing
    pub begun : is_some c ≡ true → is_some (call_with c act) ≡ true

  span_call : (first : ℕ) (kind : Rattle.heap_model.specs.declared.Kind.Kind) → not (Rattle.heap_model.specs.State.is_kind kind Rattle.heap_model.specs.declared.Kind.TheVariants.Lfh) ≡ true → Rattle.heap_model.specs.Legal.after_span s n (m.now.calls n) first kind ≡ m.now.calls n
  span_call first Rattle.heap_model.specs.declared.Kind.TheVariants.Lfh q = absurd (false≢true q)
  span_call first Rattle.heap_model.specs.declared.Kind.TheVariants.Vs q = refl
  span_call first Rattle.heap_model.specs.declared.Kind.TheVariants.Back q = refl
  span_call first Rattle.heap_model.specs.declared.Kind.TheVariants.Header q = refl
  span_call first Rattle.heap_model.specs.declared.Kind.TheVariants.Free q = refl

  no_span_call : (o : Option ℕ) (k : CallState) → (Rattle.heap_model.specs.Legal.step_search s n k (λ g x. Rattle.heap_model.specs.Search.after_no_span x) o).call ≡ k.call
  no_span_call None k = refl
  no_span_call (Some b) k = refl

  no_span_entered : (o : Option ℕ) (k : CallState) → (Rattle.heap_model.specs.Legal.step_search s n k (λ g x. Rattle.heap_model.specs.Search.after_no_span x) o).entered ≡ k.entered
  no_span_entered None k = refl
  no_span_entered (Some b) k = refl

  quiet : (act : Act) → leaves_words m n act ≡ true → Leaves act
  quiet (acts.Begin call) q = record { gate = refl; call = refl; fresh = λ _. refl; hands = λ _. refl; was_free = λ y. y; demand = λ _. refl; begun = λ _. refl }
  quiet (acts.Reserve segment) q = record { gate = refl; call = h.call; fresh = h.fresh; hands = λ _. refl; was_free = λ y. y; demand = λ y. absurd (false≢true y); begun = λ y. y }
  quiet (acts.Span first pages kind bucket slot) q =
      let e = span_call first kind q in
      record { gate = refl; call = ap (λ (k : CallState). k.call) e ∙ h.call; fresh = λ y. ap (λ (k : CallState). k.entered) e ∙ h.fresh y; hands = λ _. refl; was_free = λ y. y; demand = λ y. absurd (false≢true y); begun = λ y. y }
  quiet (acts.Unspan first) q = record { gate = refl; call = h.call; fresh = h.fresh; hands = λ _. refl; was_free = λ y. y; demand = λ _. refl; begun = λ y. y }
  quiet (acts.Place start granules layer) q = record { gate = refl; call = h.call; fresh = h.fresh; hands = λ y. absurd (false≢true y); was_free = λ y. absurd (false≢true y); demand = λ _. refl; begun = λ y. y }
  quiet (acts.Give a size) q = record { gate = refl; call = h.call; fresh = h.fresh; hands = λ y. absurd (false≢true y); was_free = λ y. absurd (false≢true y); demand = λ _. refl; begun = λ y. y }
  quiet (acts.Take a size) q = record { gate = refl; call = h.call; fresh = h.fresh; hands = λ y. absurd (false≢true y); was_free = λ y. absurd (false≢true y); demand = λ _. refl; begun = λ y. y }
  quiet (acts.Drop a) q = record { gate = refl; call = h.call; fresh = h.fresh; hands = λ y. absurd (false≢true y); was_free = λ y. absurd (false≢true y); demand = λ y. absurd (false≢true y); begun = λ y. y }
  quiet (acts.Resize a granules size) q = record { gate = refl; call = h.call; fresh = h.fresh; hands = λ y. absurd (false≢true y); was_free = λ y. absurd (false≢true y); demand = λ _. refl; begun = λ y. y }
  quiet (acts.NoSpan bucket) q =
      let o = Rattle.heap_model.specs.Search.asked_bucket (m.now.calls n) in
      record { gate = refl; call = no_span_call o (m.now.calls n) ∙ h.call; fresh = λ y. no_span_entered o (m.now.calls n) ∙ h.fresh y; hands = λ _. refl; was_free = λ y. y; demand = λ _. refl; begun = λ y. y }
  quiet (acts.NoFit size) q = record { gate = refl; call = h.call; fresh = h.fresh; hands = λ _. refl; was_free = λ y. y; demand = λ _. refl; begun = λ y. y }
  quiet (acts.Sized a size) q = record { gate = refl; call = h.call; fresh = h.fresh; hands = λ _. refl; was_free = λ y. y; demand = λ _. refl; begun = λ y. y }
  quiet (acts.Decommit page) q = record { gate = refl; call = h.call; fresh = h.fresh; hands = λ _. refl; was_free = λ y. y; demand = λ _. refl; begun = λ y. y }
  quiet acts.Enter q = absurd (false≢true q)
  quiet acts.Leave q = absurd (false≢true q)
  quiet acts.Lock q = absurd (false≢true q)
  quiet acts.Unlock q = absurd (false≢true q)
  quiet (acts.Blocked what word) q = absurd (false≢true q)
  quiet (acts.TakeLock what) q = absurd (false≢true q)
  quiet (acts.GiveLock what) q = absurd (false≢true q)
  quiet (acts.Saw head word bits) q = absurd (false≢true q)
  quiet (acts.Lost head index) q = absurd (false≢true q)
  quiet (acts.NoHint bucket slot) q = absurd (false≢true q)
  quiet (acts.Active bucket) q = absurd (false≢true q)
  quiet (acts.NotLive a) q = absurd (false≢true q)
  quiet (acts.Load x v) q = absurd (false≢true q)
  quiet (acts.Store x v) q = absurd (false≢true q)

  pub at_prepared : (act : Act) → leaves_words m n act ≡ true → IsAt (after s m (entry n act)) n (call_with c act) (is_begun_with f act) i d out (is_whole_with act) (is_free_with e act)
  at_prepared act q =
      let l = quiet act q in
      let u = updated_here m.now.calls n (call_after s n (m.now.calls n) act) in
      record {
        entered = ap (λ (g : GateAndLocks). is_entered g n) l.gate ∙ h.entered;
        turning = ap (λ (g : GateAndLocks). is_among n g.turning) l.gate ∙ h.turning;
        owns = ap (λ (g : GateAndLocks). is_caller n g.owner) l.gate ∙ h.owns;
        locks = λ x. ap (λ (g : GateAndLocks). holds g n x) l.gate ∙ h.locks x;
        hands = λ y. l.hands y ∙ h.hands (l.was_free y);
        begun = λ y. l.begun (h.begun y);
        call = ap (λ (x : CallState). x.call) u ∙ l.call;
        fresh = λ y. ap (λ (x : CallState). x.entered) u ∙ l.fresh y;
        demand = l.demand;
      }

  pub begin_ok : (call : Call) → n < s.limits.callers → i ≡ false → out ≡ [] → e ≡ true → w ≡ true → may_prepare s m n (acts.Begin call) ≡ true
  begin_ok call lt is o free whole =
      let out' = subst (λ (b : Bool). IsAt m n c f b d out w e) is h in
      and_from true (may_follow s m (entry n (acts.Begin call))) refl
      (and_from (meets_demand m.state.back.area (entry n (acts.Begin call)) m.now.demand && true) (may s m n (acts.Begin call))
      (and_from (meets_demand m.state.back.area (entry n (acts.Begin call)) m.now.demand) true (ap (meets_demand m.state.back.area (entry n (acts.Begin call))) (h.demand whole)) refl)
      (and_from (nat_lt n s.limits.callers && is_outside (caller_view m n) && holds_none (caller_view m n)) (is_empty (hands m.state n))
      (and_from (nat_lt n s.limits.callers && is_outside (caller_view m n)) (holds_none (caller_view m n)) (and_from (nat_lt n s.limits.callers) (is_outside (caller_view m n)) (lt-ltb n s.limits.callers lt) (outside_of m n c d out f w e out')) (none_of m n c d out f i w e o h)) (ap is_empty (h.hands free))))

-- the caller says that it rests
pub at_rested : (m : Configuration) (n : ℕ) (c : Option Call) (f i : Bool) (d : ℕ) (out : List ℕ) (w e : Bool) → HasRested m n → IsAt m n c f i d out w e → IsAt m n c f i d out true true
at_rested m n c f i d out w e r h = record {
  entered = h.entered;
  turning = h.turning;
  owns = h.owns;
  locks = h.locks;
  hands = λ _. r.hands;
  begun = h.begun;
  call = h.call;
  fresh = h.fresh;
  demand = λ _. r.demand;
}
