-- The gate keeps all others out where the heap lock has an owner.
use Rattle.std.proofs.Common.{◌≡◌, ℕ, ◌+◌, ◌*◌, Bool, true, false, ◌&&◌, ◌||◌, not, cond, List, [], ◌∷◌, length, Option, Some, None, refl, sym, ap, ◌∙◌, subst, arith, eqb, inl, inr, ◌⊎◌}
use Rattle.std.proofs.lemmas.Bool.{cases_eq, and_parts, or_cases, not-true, both_ways, eqb-true, eq-eqb, ne_eqb, false≢true}
use Rattle.std.specs.Prelude.{is_none}
use Rattle.heap_model.specs.declared.Act.{Act}
use Rattle.heap_model.specs.declared.Act.TheVariants as acts
use Rattle.heap_model.specs.declared.Entry.{Entry}
use Rattle.heap_model.specs.declared.What.{What}
use Rattle.heap_model.specs.declared.What.TheVariants as whats
use Rattle.heap_model.specs.State.{GateAndLocks, Setting, is_among, without, is_entered, is_caller, holds, gate_word, caller_word}
use Rattle.heap_model.specs.Stay.{for_some}
use Rattle.heap_model.specs.CallState.{Configuration, caller_view, CallerView, is_outside, is_inside, holds_none, held}
use Rattle.heap_model.specs.Legal.{may, may_follow, after, state_after, with_holder, is_lock_or_compact, may_enter, may_unlock, may_take_lock}
use Rattle.heap_model.specs.History.{configuration_after, may_all_follow, first_configuration}
use Rattle.heap_model.specs.Agreement.{GateIsSound}
use Rattle.heap_model.proofs.ListLemmas.{is_among-without_other, is_among-without, is_among-more, one_caller}

-- an entry that may follow may come by its row
pub row_of : (s : Setting) (m : Configuration) (e : Entry) → may_follow s m e ≡ true → may s m e.caller e.act ≡ true
row_of s m e h = (and_parts _ (may s m e.caller e.act) h).1

-- a caller that holds nothing holds no lock
pub none_held : (k : CallerView) (w : What) → holds_none k ≡ true → held k w ≡ false
none_held k whats.Gate h = refl
none_held k whats.Lfh h = not-true _ (and_parts (not k.lfh) (not k.vs) (and_parts _ (not k.back) (and_parts _ (not k.large) h).0).0).0
none_held k whats.Vs h = not-true _ (and_parts (not k.lfh) (not k.vs) (and_parts _ (not k.back) (and_parts _ (not k.large) h).0).0).1
none_held k whats.Back h = not-true _ (and_parts _ (not k.back) (and_parts _ (not k.large) h).0).1
none_held k whats.Large h = not-true _ (and_parts _ (not k.large) h).1

pub held_is : (m : Configuration) (c : ℕ) (w : What) → held (caller_view m c) w ≡ holds m.state.gate c w
held_is m c whats.Gate = refl
held_is m c whats.Lfh = refl
held_is m c whats.Vs = refl
held_is m c whats.Back = refl
held_is m c whats.Large = refl

-- a caller's place at the gate, after one that is not its own
entered_more : (f : GateAndLocks) (c x : ℕ) → is_entered f x ≡ true → ((eqb c x || is_among x f.counted) && not (is_among x f.turning)) ≡ true
entered_more f c x h = let p = and_parts (is_among x f.counted) (not (is_among x f.turning)) h in let a = p.0 in let b = p.1 in rw (a, b) (any (eqb c x))
  where
    any : (b : Bool) → ((b || true) && true) ≡ true
    any true = refl
    any false = refl

module _ (f : GateAndLocks) (c : ℕ) (g : GateIsSound f) where
  gate_sound_enter : (k : CallerView) → k.owns ≡ is_caller c f.owner → may_enter k f.owner ≡ true → GateIsSound (record { counted = c ∷ f.counted; turning = f.turning; owner = f.owner; locks = f.locks })
  gate_sound_enter k o ok = record {
    alone = λ d x own ent. elim (cases_eq c x) [
      | inl e ↦ owner_is d x e own (or_cases (is_none f.owner) k.owns (and_parts _ (is_none f.owner || k.owns) ok).1)
      | inr ne ↦ g.alone d x own (sym (ap (λ (b : Bool). b && not (is_among x f.turning)) (is_among-more x c f.counted ne)) ∙ ent)
    ];
    inside = λ x w h own. entered_more f c x (g.inside x w h own);
  }
    where
      owner_is : (d x : ℕ) → c ≡ x → is_caller d f.owner ≡ true → (is_none f.owner ≡ true) ⊎ (k.owns ≡ true) → x ≡ d
      owner_is d x e own (inl z) = absurd (none_owns f.owner z own)
        where
          none_owns : (o : Option ℕ) → is_none o ≡ true → is_caller d o ≡ true → ⊥
          none_owns None z h = false≢true h
          none_owns (Some y) z h = false≢true z
      owner_is d x e own (inr z) = sym e ∙ one_caller d c f.owner own (sym o ∙ z)

  gate_sound_leave : (k : CallerView) (hands : Bool) → ((w : What) → holds f c w ≡ held k w) → k.turning ≡ is_among c f.turning → (k.turning || (k.entered && holds_none k && hands)) ≡ true →
      GateIsSound (record { counted = without c f.counted; turning = without c f.turning; owner = f.owner; locks = f.locks })
  gate_sound_leave k hands lk tk ok = record {
    alone = λ d x own ent. elim (cases_eq c x) [
      | inl e ↦ absurd (false≢true (sym (is_among-without c f.counted) ∙ subst (λ (y : ℕ). is_among y (without c f.counted) ≡ true) (sym e) (and_parts (is_among x (without c f.counted)) _ ent).0))
      | inr ne ↦ g.alone d x own (sym (same x ne) ∙ ent)
    ];
    inside = λ x w h own. elim (cases_eq c x) [
      | inl e ↦ absurd (holds_not w (or_cases k.turning (k.entered && holds_none k && hands) ok) (subst (λ (y : ℕ). holds f y w ≡ true) (sym e) h) (subst (λ (y : ℕ). is_caller y f.owner ≡ false) (sym e) own))
      | inr ne ↦ same x ne ∙ g.inside x w h own
    ];
  }
    where
      same : (x : ℕ) → (c ≡ x → ⊥) → (is_among x (without c f.counted) && not (is_among x (without c f.turning))) ≡ is_entered f x
      same x ne = ap (λ (b : Bool). b && not (is_among x (without c f.turning))) (is_among-without_other x c f.counted ne) ∙ ap (λ (b : Bool). is_among x f.counted && not b) (is_among-without_other x c f.turning ne)

      holds_not : (w : What) → (k.turning ≡ true) ⊎ ((k.entered && holds_none k && hands) ≡ true) → holds f c w ≡ true → is_caller c f.owner ≡ false → ⊥
      holds_not w (inl t) h own = both_ways (is_among c f.turning) (not-true _ (and_parts (is_among c f.counted) (not (is_among c f.turning)) (g.inside c w h own)).1) (sym tk ∙ t)
      holds_not w (inr t) h own = both_ways (held k w) (none_held k w (and_parts k.entered (holds_none k) (and_parts (k.entered && holds_none k) hands t).0).1) (sym (lk w) ∙ h)

  gate_sound_lock : eqb (gate_word f) 0 ≡ true → GateIsSound (record { counted = f.counted; turning = f.turning; owner = Some c; locks = f.locks })
  gate_sound_lock z = record {
    alone = λ d x own ent. absurd (nobody f.counted x counted (and_parts (is_among x f.counted) _ ent).0);
    inside = λ x w h own. g.inside x w h (unowned f.owner x owner);
  }
    where
      word : length f.counted + 65536 * caller_word f.owner ≡ 0
      word = eqb-true _ 0 z

      counted : length f.counted ≡ 0
      counted = omega (arith, word)

      owner : caller_word f.owner ≡ 0
      owner = omega (arith, word)

      nobody : (xs : List ℕ) (x : ℕ) → length xs ≡ 0 → is_among x xs ≡ true → ⊥
      nobody [] x l h = false≢true h
      nobody (y ∷ ys) x l h = omega arith

      unowned : (o : Option ℕ) (x : ℕ) → caller_word o ≡ 0 → is_caller x o ≡ false
      unowned None x l = refl
      unowned (Some y) x l = absurd (omega arith)

  gate_sound_unlock : (k : CallerView) → ((w : What) → holds f c w ≡ held k w) → k.owns ≡ is_caller c f.owner → may_unlock k ≡ true → GateIsSound (record { counted = f.counted; turning = f.turning; owner = None; locks = f.locks })
  gate_sound_unlock k lk ok' ok = record {
    alone = λ d x own ent. absurd (false≢true own);
    inside = λ x w h own. elim (cases_eq c x) [
      | inl e ↦ absurd (both_ways (held k w) (none_held k w (and_parts _ (holds_none k) ok).1) (sym (lk w) ∙ subst (λ (y : ℕ). holds f y w ≡ true) (sym e) h))
      | inr ne ↦ g.inside x w h (other f.owner x ne (sym ok' ∙ (and_parts k.owns (not k.entered) (and_parts _ (holds_none k) ok).0).0))
    ];
  }
    where
      other : (o : Option ℕ) (x : ℕ) → (c ≡ x → ⊥) → is_caller c o ≡ true → is_caller x o ≡ false
      other None x ne h = refl
      other (Some y) x ne h = ne_eqb y x (λ q. ne (sym (eqb-true y c h) ∙ q))

  gate_sound_blocked : is_entered f c ≡ false → GateIsSound (record { counted = c ∷ f.counted; turning = c ∷ f.turning; owner = f.owner; locks = f.locks })
  gate_sound_blocked out = record {
    alone = λ d x own ent. elim (cases_eq c x) [
      | inl e ↦ absurd (false≢true (turned x e ∙ (and_parts _ (not (is_among x (c ∷ f.turning))) ent).1))
      | inr ne ↦ g.alone d x own (sym (same x ne) ∙ ent)
    ];
    inside = λ x w h own. elim (cases_eq c x) [
      | inl e ↦ absurd (both_ways (is_entered f c) out (g.inside c w (subst (λ (y : ℕ). holds f y w ≡ true) (sym e) h) (subst (λ (y : ℕ). is_caller y f.owner ≡ false) (sym e) own)))
      | inr ne ↦ same x ne ∙ g.inside x w h own
    ];
  }
    where
      turned : (x : ℕ) → c ≡ x → false ≡ not (is_among x (c ∷ f.turning))
      turned x e = let k = eq-eqb c x e in rw k refl

      same : (x : ℕ) → (c ≡ x → ⊥) → (is_among x (c ∷ f.counted) && not (is_among x (c ∷ f.turning))) ≡ is_entered f x
      same x ne = let k = ne_eqb c x ne in rw k refl

  holds_put : (what w : What) (x : ℕ) → holds (with_holder f what (Some c)) x w ≡ true → (x ≡ c) ⊎ (holds f x w ≡ true)
  holds_put whats.Lfh whats.Lfh x h = inl (sym (eqb-true c x h))
  holds_put whats.Vs whats.Vs x h = inl (sym (eqb-true c x h))
  holds_put whats.Back whats.Back x h = inl (sym (eqb-true c x h))
  holds_put whats.Large whats.Large x h = inl (sym (eqb-true c x h))
  holds_put whats.Gate _ x h = inr h
  holds_put whats.Lfh _ x h = inr h
  holds_put whats.Vs _ x h = inr h
  holds_put whats.Back _ x h = inr h
  holds_put whats.Large _ x h = inr h

  holds_less : (what w : What) (x : ℕ) → holds (with_holder f what None) x w ≡ true → holds f x w ≡ true
  holds_less whats.Lfh whats.Lfh x h = absurd (false≢true h)
  holds_less whats.Vs whats.Vs x h = absurd (false≢true h)
  holds_less whats.Back whats.Back x h = absurd (false≢true h)
  holds_less whats.Large whats.Large x h = absurd (false≢true h)
  holds_less whats.Gate _ x h = h
  holds_less whats.Lfh _ x h = h
  holds_less whats.Vs _ x h = h
  holds_less whats.Back _ x h = h
  holds_less whats.Large _ x h = h

  gate_sound_take : (what : What) → (is_entered f c || is_caller c f.owner) ≡ true → GateIsSound (with_holder f what (Some c))
  gate_sound_take what ok = record {
    alone = g.alone;
    inside = λ x w h own. elim (holds_put what w x h) [
      | inl e ↦ elim (or_cases (is_entered f c) (is_caller c f.owner) ok) [
        | inl k ↦ subst (λ (y : ℕ). is_entered f y ≡ true) (sym e) k
        | inr k ↦ absurd (both_ways (is_caller c f.owner) (subst (λ (y : ℕ). is_caller y f.owner ≡ false) e own) k)
      ]
      | inr e ↦ g.inside x w e own
    ];
  }

  gate_sound_give : (what : What) → GateIsSound (with_holder f what None)
  gate_sound_give what = record { alone = g.alone; inside = λ x w h own. g.inside x w (holds_less what w x h) own }

outside_not_entered : (k : CallerView) → is_outside k ≡ true → k.entered ≡ false
outside_not_entered k h = not-true k.entered (and_parts (not k.entered) (not k.turning) h).0

take_inside : (m : Configuration) (k : CallerView) (what : What) → may_take_lock m.state.gate k what ≡ true → is_inside k ≡ true
take_inside m k whats.Gate h = absurd (false≢true h)
take_inside m k whats.Lfh h = (and_parts _ (is_inside k) h).1
take_inside m k whats.Vs h = (and_parts _ (is_inside k) h).1
take_inside m k whats.Back h = (and_parts _ (is_inside k) h).1
take_inside m k whats.Large h = (and_parts _ (is_inside k) h).1

pub gate_sound_act : (s : Setting) (m : Configuration) (c : ℕ) (act : Act) → may s m c act ≡ true → GateIsSound m.state.gate → GateIsSound (state_after m.state (m.now.calls c) c act).gate
gate_sound_act s m c acts.Enter h g = gate_sound_enter m.state.gate c g (caller_view m c) refl h
gate_sound_act s m c acts.Leave h g = gate_sound_leave m.state.gate c g (caller_view m c) _ (λ w. sym (held_is m c w)) refl h
gate_sound_act s m c acts.Lock h g = gate_sound_lock m.state.gate c g h
gate_sound_act s m c acts.Unlock h g = gate_sound_unlock m.state.gate c g (caller_view m c) (λ w. sym (held_is m c w)) refl h
gate_sound_act s m c (acts.Blocked whats.Gate word) h g = blocked (for_some (m.now.calls c).call is_lock_or_compact)
  where
    out : is_entered m.state.gate c ≡ false
    out = outside_not_entered (caller_view m c) (and_parts (is_outside (caller_view m c)) (eqb word (gate_word m.state.gate)) (and_parts (is_outside (caller_view m c) && eqb word (gate_word m.state.gate)) _ h).0).0

    blocked : (b : Bool) → GateIsSound (record { counted = cond b m.state.gate.counted (c ∷ m.state.gate.counted); turning = cond b m.state.gate.turning (c ∷ m.state.gate.turning); owner = m.state.gate.owner; locks = m.state.gate.locks })
    blocked true = g
    blocked false = gate_sound_blocked m.state.gate c g out
gate_sound_act s m c (acts.TakeLock what) h g = gate_sound_take m.state.gate c g what (take_inside m (caller_view m c) what h)
gate_sound_act s m c (acts.GiveLock what) h g = gate_sound_give m.state.gate c g what
gate_sound_act s m c _ h g = g

pub gate_sound_after : (s : Setting) (m : Configuration) (es : List Entry) → may_all_follow s m es ≡ true → GateIsSound m.state.gate → GateIsSound (configuration_after s m es).state.gate
gate_sound_after s m [] h g = g
gate_sound_after s m (e ∷ es) h g =
    let p = and_parts (may_follow s m e) (may_all_follow s (after s m e) es) h in
    gate_sound_after s (after s m e) es p.1 (gate_sound_act s m e.caller e.act (row_of s m e p.0) g)

pub gate_sound_first : GateIsSound first_configuration.state.gate
gate_sound_first = record { alone = λ d c own ent. absurd (false≢true own); inside = λ c w h own. absurd (both_ways _ (none c w) h) }
  where
    none : (c : ℕ) (w : What) → holds first_configuration.state.gate c w ≡ false
    none c whats.Gate = refl
    none c whats.Lfh = refl
    none c whats.Vs = refl
    none c whats.Back = refl
    none c whats.Large = refl
