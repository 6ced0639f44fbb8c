-- Where nobody else has a call, no call of caller 0 is blocked.
use Rattle.std.proofs.Common.{◌≡◌, ℕ, zero, suc, ◌+◌, ◌*◌, Bool, true, false, not, ◌==◌, ◌&&◌, ◌||◌, ◌⊎◌, cond, if◌then◌else◌, List, [], ◌∷◌, ◌++◌, length, map, Option, Some, None, refl, sym, ap, ◌∙◌, inl, inr, arith, eq-eqb}
use Rattle.std.specs.List.{list_all}
use Rattle.std.proofs.lemmas.Bool.{cases_Bool, true≢false, and_parts, eqb-true}
use Rattle.heap_model.specs.declared.Act.{Act}
use Rattle.heap_model.specs.declared.Act.TheVariants as acts
use Rattle.heap_model.specs.declared.Busy.{Busy}
use Rattle.heap_model.specs.declared.Call.{Call}
use Rattle.heap_model.specs.declared.What.{What}
use Rattle.heap_model.specs.declared.What.TheVariants as whats
use Rattle.heap_model.specs.State.{Setting, is_another, is_among, is_caller, holder_of, gate_word, caller_word}
use Rattle.heap_model.specs.Stay.{for_some}
use Rattle.heap_model.specs.CallState.{Configuration, CallState, caller_view, is_outside}
use Rattle.heap_model.specs.Legal.{may, may_follow, after, call_after, is_begin, is_lock_or_compact}
use Rattle.heap_model.specs.History.{may_all_follow}
use Rattle.heap_model.specs.Alone.{by_zero}
use Rattle.heap_model.specs.Shape.{shape_of, is_left_out, blocked}
use Rattle.call_laws.proofs.Goes.{goes_on}
use Rattle.call_laws.proofs.Within.{updated_here}
use Rattle.one_heap.proofs.Only.{IsOnly, after_only}

-- no lock is held by another
held_by_other : (o : Option ℕ) (word : ℕ) → is_another 0 o ≡ false → for_some o (λ d. not (d == 0) && word == d + 1) ≡ false
held_by_other None word n = refl
held_by_other (Some d) word n = ap (λ (b : Bool). b && word == d + 1) n

---- The gate

-- who is not outside is counted or turns back
not_counted : (among turning : Bool) → (not (among && not turning) && not turning) ≡ true → among ≡ false
not_counted true true h = absurd (true≢false (sym h))
not_counted true false h = absurd (true≢false (sym h))
not_counted false turning h = refl

none_counted : (cs : List ℕ) → ((n : ℕ) → is_among n cs ≡ false) → cs ≡ []
none_counted [] h = refl
none_counted (c ∷ cs) h =
    let here : (c == c) ≡ true = eq-eqb c c refl in
    absurd (true≢false (sym (ap (λ (b : Bool). b || is_among c cs) here) ∙ h c))

nobody : (o : Option ℕ) → is_another 0 o ≡ false → not (is_caller 0 o) ≡ true → o ≡ None
nobody None a h = refl
nobody (Some d) a h = absurd (true≢false (sym h ∙ a))

-- no caller is counted where the only one is outside
empty_gate : (m : Configuration) → IsOnly m → is_outside (caller_view m 0) ≡ true → m.state.gate.counted ≡ []
empty_gate m only out = none_counted m.state.gate.counted each
  where
    each : (n : ℕ) → is_among n m.state.gate.counted ≡ false
    each zero = not_counted (is_among 0 m.state.gate.counted) (is_among 0 m.state.gate.turning) out
    each (suc n) = only.counted (suc n) (λ e. let none : ⊥ = omega (arith, e) in none)

-- what a call finds in its way at the gate: another owner, or, where it takes the heap lock, anybody
turned : (o : Option Call) (call : Call) (owns empty : Bool) (owner : Option ℕ) → o ≡ Some call → is_another 0 owner ≡ false →
    for_some o (λ c. if is_lock_or_compact c then not owns && not empty else is_another 0 owner) ≡ true → (not owns ≡ true) × (not empty ≡ true)
turned o call owns empty owner e n h = elim (cases_Bool (is_lock_or_compact call)) [
  | inl z ↦
      let it : (not owns && not empty) ≡ true = sym (rw (e, z) refl) ∙ h in
      and_parts (not owns) (not empty) it
  | inr z ↦
      let it : for_some o (λ c. if is_lock_or_compact c then not owns && not empty else is_another 0 owner) ≡ false = rw (e, z) n in
      absurd (true≢false (sym h ∙ it))
]

not_at_gate : (s : Setting) (m : Configuration) (call : Call) (word : ℕ) → IsOnly m → (m.now.calls 0).call ≡ Some call → may s m 0 (acts.Blocked whats.Gate word) ≡ true → ⊥
not_at_gate s m call word only e h =
    let k = caller_view m 0 in
    let f = m.state.gate in
    let why = for_some k.call.call (λ c. if is_lock_or_compact c then not k.owns && not (word == 0) else is_another 0 f.owner) in
    let p = and_parts (is_outside k && word == gate_word f) why h in
    let q = and_parts (is_outside k) (word == gate_word f) p.0 in
    let t = turned (m.now.calls 0).call call k.owns (word == 0) f.owner e only.owner p.1 in
    let none : gate_word f ≡ 0 = λ i. length (empty_gate m only q.0 i) + 65536 * caller_word (nobody f.owner only.owner t.0 i) in
    let zero : (word == 0) ≡ true = eq-eqb word 0 (eqb-true word (gate_word f) q.1 ∙ none) in
    true≢false (sym t.1 ∙ ap not zero)

not_blocked : (s : Setting) (m : Configuration) (call : Call) (what : What) (word : ℕ) → IsOnly m → (m.now.calls 0).call ≡ Some call → may s m 0 (acts.Blocked what word) ≡ true → ⊥
not_blocked s m call whats.Gate word only e h = not_at_gate s m call word only e h
not_blocked s m call whats.Lfh word only e h = true≢false (sym h ∙ held_by_other (holder_of m.state.gate.locks whats.Lfh) word (only.locks whats.Lfh))
not_blocked s m call whats.Vs word only e h = true≢false (sym h ∙ held_by_other (holder_of m.state.gate.locks whats.Vs) word (only.locks whats.Vs))
not_blocked s m call whats.Back word only e h = true≢false (sym h ∙ held_by_other (holder_of m.state.gate.locks whats.Back) word (only.locks whats.Back))
not_blocked s m call whats.Large word only e h = true≢false (sym h ∙ held_by_other (holder_of m.state.gate.locks whats.Large) word (only.locks whats.Large))

---- An act under way

may_of : (s : Setting) (m : Configuration) (act : Act) → may_follow s m (by_zero act) ≡ true → may s m 0 act ≡ true
may_of s m act h = (and_parts _ (may s m 0 act) h).1

not_is : (b : Bool) → not b ≡ true → b ≡ false
not_is true h = absurd (true≢false (sym h))
not_is false h = refl

---- An act among others

abbrev pub Comes : Act → List Act → Type 0
Comes act rest = (front : List Act) × (back : List Act) × (rest ≡ front ++ act ∷ back)

none_comes : (act : Act) (front back : List Act) → [] ≡ front ++ act ∷ back → ⊥
none_comes act [] back e = let z : ⊥ = cc e in z
none_comes act (x ∷ front) back e = let z : ⊥ = cc e in z

-- it is the first, or comes behind it
first_or_later : (first act : Act) (rest front back : List Act) → first ∷ rest ≡ front ++ act ∷ back → (first ≡ act) ⊎ Comes act rest
first_or_later first act rest [] back e = inl (cc e)
first_or_later first act rest (x ∷ front) back e = inr (front, back, cc e)

-- acts of a call under way, behind its Begin
pub unblocked : (s : Setting) (m : Configuration) (call : Call) (rest : List Act) (b : Busy) → IsOnly m → (m.now.calls 0).call ≡ Some call →
    may_all_follow s m (map by_zero rest) ≡ true → list_all (λ act. not (is_begin act)) rest ≡ true → Comes (blocked b) (shape_of rest) → ⊥
unblocked s m call [] b only e h n comes = none_comes (blocked b) comes.0 comes.1 comes.2
unblocked s m call (act ∷ rest) b only e h n comes =
    let q = and_parts (may_follow s m (by_zero act)) (may_all_follow s (after s m (by_zero act)) (map by_zero rest)) h in
    let r = and_parts (not (is_begin act)) (list_all (λ x. not (is_begin x)) rest) n in
    let goes : ((after s m (by_zero act)).now.calls 0).call ≡ Some call =
    ap (λ (k : CallState). k.call) (updated_here m.now.calls 0 (call_after s 0 (m.now.calls 0) act)) ∙ (goes_on s 0 (m.now.calls 0) act (not_is (is_begin act) r.0) ∙ e) in
    let later : Comes (blocked b) (shape_of rest) → ⊥ = unblocked s (after s m (by_zero act)) call rest b (after_only s m only act) goes q.1 r.1 in
    elim (cases_Bool (is_left_out act)) [
      | inl out ↦ later (comes.0, comes.1, sym (ap (λ (x : Bool). cond x (shape_of rest) (act ∷ shape_of rest)) out) ∙ comes.2)
      | inr out ↦
          let there : act ∷ shape_of rest ≡ comes.0 ++ blocked b ∷ comes.1 = sym (ap (λ (x : Bool). cond x (shape_of rest) (act ∷ shape_of rest)) out) ∙ comes.2 in
          elim (first_or_later act (blocked b) (shape_of rest) comes.0 comes.1 there) [
            | inl is ↦ not_blocked s m call b.what b.word only e (ap (may s m 0) (sym is) ∙ may_of s m act q.0)
            | inr more ↦ later more
          ]
    ]
