-- What is home: the state of a free lock is in its slot, and stays there while what it guards does not change and while another lock changes hands.
use Rattle.std.proofs.Common.{◌≡◌, ℕ, ◌<◌, true, List, length, set, refl, sym, ap, ◌∙◌, subst, arith, Option, Some, None, inl, inr, length-set}
use mathlib.Core.Option.{none, some}
use lib.ListN.{get_elem?}
use Rattle.atomic_table.proofs.Lists.{set_here, set_else}
use Rattle.heap_model.specs.declared.Opening.{Opening}
use Rattle.heap_model.specs.declared.What.{What}
use Rattle.heap_model.specs.declared.What.TheVariants as whats
use Rattle.heap_model.specs.State.{State, GateAndLocks, Locks, VsPart, BackPart, Place, holder_of, by_address}
use Rattle.heap_model.specs.Ranges.{vs_spans}
use Rattle.heap_model.specs.CallState.{Configuration, caller_view, held}
use Rattle.heap_model.specs.Legal.{with_holder}
use Rattle.heap_model.specs.Agreement.{AgreesFor}
use Rattle.heap_model.specs.Layers.{LayerState, sorted_vs, sorted_back}
use Rattle.claim_rule.specs.Home.{slot_of, HasSlot, Tells, AreHome}
use Rattle.claim_rule.proofs.LockWords.{same_what, slots_apart, slot_low, of_layer, holder_here, holder_else}

---- What a lock guards

-- what a lock guards is the same in both
abbrev pub SameGuarded : What → State → State → Type 0
SameGuarded whats.Vs m n = (m.vs ≡ n.vs) × (vs_spans m.back.area ≡ vs_spans n.back.area)
SameGuarded whats.Back m n = m.back ≡ n.back
SameGuarded whats.Large m n = m.large ≡ n.large
SameGuarded _ m n = Unit {0}

-- all that the locks guard
abbrev pub guarded : State → VsPart × BackPart × List Place
guarded st = (st.vs, st.back, st.large)

-- where all that locks guard is the same, what each guards is
pub same_guarded : (m n : State) → guarded m ≡ guarded n → (what : What) → SameGuarded what m n
same_guarded m n e whats.Vs = (ap (λ (g : VsPart × BackPart × List Place). g.0) e, ap (λ (g : VsPart × BackPart × List Place). vs_spans g.1.area) e)
same_guarded m n e whats.Back = ap (λ (g : VsPart × BackPart × List Place). g.1) e
same_guarded m n e whats.Large = ap (λ (g : VsPart × BackPart × List Place). g.2) e
same_guarded m n e whats.Gate = tt
same_guarded m n e whats.Lfh = tt

same_guarded_trans : (m n o : State) (what : What) → SameGuarded what m n → SameGuarded what n o → SameGuarded what m o
same_guarded_trans m n o whats.Vs p q = (p.0 ∙ q.0, p.1 ∙ q.1)
same_guarded_trans m n o whats.Back p q = p ∙ q
same_guarded_trans m n o whats.Large p q = p ∙ q
same_guarded_trans m n o whats.Gate p q = tt
same_guarded_trans m n o whats.Lfh p q = tt

-- a state tells the same there
tells_guarded : (what : What) (o : Opening) (m n : State) (t : LayerState) → SameGuarded what m n → Tells what o n t → Tells what o m t
tells_guarded whats.Vs o m n t e h = record { lock = h.lock; limits = h.limits; key = h.key; part = h.part ∙ sym (ap sorted_vs e.0); spans = h.spans ∙ sym e.1 }
tells_guarded whats.Back o m n t e h = record { lock = h.lock; limits = h.limits; part = h.part ∙ sym (ap sorted_back e) }
tells_guarded whats.Large o m n t e h = record { lock = h.lock; limits = h.limits; part = h.part ∙ sym (ap by_address e) }
tells_guarded whats.Gate o m n t e h = absurd h
tells_guarded whats.Lfh o m n t e h = absurd h

-- what the caller holds guards in the history what it guards in what the caller knows
held_guarded : (n : ℕ) (what : What) (m k : Configuration) → AgreesFor n m k → held (caller_view k n) what ≡ true → SameGuarded what m.state k.state
held_guarded n whats.Vs m k r hold = (r.vs hold, r.spans hold)
held_guarded n whats.Back m k r hold = r.back hold
held_guarded n whats.Large m k r hold = r.large hold
held_guarded n whats.Gate m k r hold = tt
held_guarded n whats.Lfh m k r hold = tt

-- the gate and the locks are no part of what a state tells
pub tells_gate : (what : What) (o : Opening) (st : State) (f : GateAndLocks) (t : LayerState) → Tells what o st t → Tells what o (record st { gate = f }) t
tells_gate what o st f t h = tells_guarded what o (record st { gate = f }) st t (same_guarded (record st { gate = f }) st refl what) h

-- what the state of a lock that the caller holds tells, in the history as in what the caller knows
pub tells_same : (n : ℕ) (what : What) (o : Opening) (m k : Configuration) (t : LayerState) → AgreesFor n m k → held (caller_view k n) what ≡ true → Tells what o k.state t → Tells what o m.state t
tells_same n what o m k t r hold h = tells_guarded what o m.state k.state t (held_guarded n what m k r hold) h

---- What the slots at home stand for

-- what a lock guards that is free is the same in both
pub record SameHomes (m n : State) : Type 0 where
  pub locks : m.gate.locks ≡ n.gate.locks
  pub guarded : (what : What) → HasSlot what → holder_of n.gate.locks what ≡ None → SameGuarded what m n

-- .. where all that locks guard is the same
pub homes_still : (m n : State) → m.gate.locks ≡ n.gate.locks → guarded m ≡ guarded n → SameHomes m n
homes_still m n e g = record { locks = e; guarded = λ what q free. same_guarded m n g what }

-- .. or all but what one guards that is held
pub homes_but : (m n : State) (mine : What) → m.gate.locks ≡ n.gate.locks → (holder_of n.gate.locks mine ≡ None → ⊥) → ((what : What) → HasSlot what → (what ≡ mine → ⊥) → SameGuarded what m n) → SameHomes m n
homes_but m n mine e taken g = record { locks = e; guarded = λ what q free. g what q (λ same. taken (ap (holder_of n.gate.locks) (sym same) ∙ free)) }

-- one after another
pub same_homes_trans : (m n o : State) → SameHomes m n → SameHomes n o → SameHomes m o
same_homes_trans m n o p q = record {
  locks = p.locks ∙ q.locks;
  guarded = λ what has free. same_guarded_trans m n o what (p.guarded what has (ap (λ (k : Locks). holder_of k what) q.locks ∙ free)) (q.guarded what has free);
}

module _ {T : Type 0} (stands : T → LayerState) (o : Opening) where
  abbrev pub Homes : Type 0
  Homes = List (mathlib.Core.Option.Option (Option T))

  -- the same slots are home
  pub homes_kept : (m n : State) (homes : Homes) → SameHomes m n → AreHome stands o n homes → AreHome stands o m homes
  homes_kept m n homes r h = record {
    deep = h.deep;
    full = λ what q free.
        let free' = sym (ap (λ (k : Locks). holder_of k what) r.locks) ∙ free in
        let t = h.full what q free' in (t.0, t.1, tells_guarded what o m n (stands t.0) (r.guarded what q free') t.2);
  }

  -- A lock is taken: its slot is empty. It is given back: its slot has the state again.
  pub homes_taken : (m : Configuration) (homes : Homes) (h' : Option ℕ) (what : What) → HasSlot what → (h' ≡ None → ⊥) → AreHome stands o m.state homes
      → AreHome stands o (record m.state { gate = with_holder m.state.gate what h' }) (set homes (slot_of what) none)
  homes_taken m homes h' what has taken h = record {
    deep = length-set homes (slot_of what) none ∙ h.deep;
    full = λ w q free. elim (same_what what w) [
      | inl e ↦ absurd (taken (sym (holder_here m.state.gate.locks what h' (of_layer what has)) ∙ (ap (holder_of (with_holder m.state.gate what h').locks) e ∙ free)))
      | inr ne ↦
          let t = h.full w q (sym (holder_else m.state.gate.locks what w h' ne) ∙ free) in
          (t.0, set_else homes (slot_of what) (slot_of w) none (λ z. slots_apart what w has q ne (sym z)) ∙ t.1, tells_gate w o m.state (with_holder m.state.gate what h') (stands t.0) t.2)
    ];
  }

  pub homes_given : (m : Configuration) (homes : Homes) (what : What) (t : T) → HasSlot what → Tells what o m.state (stands t) → AreHome stands o m.state homes
      → AreHome stands o (record m.state { gate = with_holder m.state.gate what None }) (set homes (slot_of what) (some (Some t)))
  homes_given m homes what t has tells h =
      let deep = h.deep in
      let low = slot_low what has in
      let lt : slot_of what < length homes = omega arith in
      record {
        deep = length-set homes (slot_of what) (some (Some t)) ∙ h.deep;
        full = λ w q free. elim (same_what what w) [
          | inl e ↦ (
            t,
            subst (λ (z : What). get_elem? (set homes (slot_of what) (some (Some t))) (slot_of z) ≡ some (some (Some t))) e (set_here homes (slot_of what) (some (Some t)) lt),
            subst (λ (z : What). Tells z o (record m.state { gate = with_holder m.state.gate what None }) (stands t)) e (tells_gate what o m.state (with_holder m.state.gate what None) (stands t) tells),
          )
          | inr ne ↦
              let u = h.full w q (sym (holder_else m.state.gate.locks what w None ne) ∙ free) in
              (u.0, set_else homes (slot_of what) (slot_of w) (some (Some t)) (λ z. slots_apart what w has q ne (sym z)) ∙ u.1, tells_gate w o m.state (with_holder m.state.gate what None) (stands u.0) u.2)
        ];
      }

pub slot_same : {T : Type 0} (x y : T) → some (some (Some x)) ≡ some (some (Some y)) → x ≡ y
slot_same x y e = cc (e)
