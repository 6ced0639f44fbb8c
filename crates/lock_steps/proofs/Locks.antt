-- The laws of the locks that have a slot: take one with its state, or find another's number; give it back.
use Rattle.std.proofs.Common.{◌≡◌, ℕ, ◌+◌, ◌<◌, true, false, not, ◌&&◌, ◌==◌, List, [], ◌∷◌, ◌++◌, get_or, set, refl, sym, ap, ◌∙◌, subst, arith, Option, Some, None, inl, eq-eqb, eqb}
use Rattle.std.specs.Prelude.{is_none, is_some, unwrap_or}
use Rattle.std.proofs.lemmas.Bool.{and_parts, and_from}
use mathlib.Core.Option.{none, some}
use lib.ListN.{get_elem?}
use prog.Atomic.{either}
use Rattle.atomic_table.specs.Table.{State, Me, Act, step, keeps, takes, gives, rest, put_back, stepped, carried_after, Valid}
use Rattle.atomic_table.proofs.Lists.{exchanged}
use Rattle.heap_model.specs.declared.Act.TheVariants as acts
use Rattle.heap_model.specs.declared.Entry.{Entry}
use Rattle.heap_model.specs.declared.What.{What}
use Rattle.heap_model.specs.declared.What.TheVariants as whats
use Rattle.heap_model.specs.declared.Limits.{Limits}
use Rattle.heap_model.specs.State.{State as HeapState, Setting, GateAndLocks, holder_of, caller_word, is_caller}
use Rattle.heap_model.specs.Stay.{for_some}
use Rattle.heap_model.specs.CallState.{Configuration, Now, CallerView, CallState, caller_view, is_inside, held}
use Rattle.heap_model.specs.Legal.{may, after, with_holder, leaves_whole, may_give_lock}
use Rattle.heap_model.specs.History.{configuration_after, configuration_of}
use Rattle.heap_model.specs.Agreement.{AgreesFor}
use Rattle.heap_model.proofs.Stable.{caller_view_same}
use Rattle.heap_model.specs.declared.Opening.{Opening}
use Rattle.claim_rule.specs.declared.views.Owed.{Owed}
use Rattle.claim_rule.specs.declared.views.View.{View}
use Rattle.claim_rule.specs.Places.{lock_at, word_count}
use Rattle.claim_rule.specs.Shown.{lfh_spans, AreAllShown, holder_from, back_holder}
use Rattle.heap_model.specs.Layers.{LayerState}
use Rattle.claim_rule.specs.Home.{AreHome, slot_of, HasSlot, Tells}
use Rattle.claim_rule.specs.Entries.{IsSettingOf, setting_of, entry, is_by}
use Rattle.claim_rule.specs.Plays.{Goes, number_of}
use Rattle.claim_rule.proofs.Lists.{follow_join}
use Rattle.claim_rule.specs.Rule.{IsRuled, IsReady, ready_after}
use Rattle.claim_rule.specs.Laws.{IsOwing}
use Rattle.claim_rule.proofs.Holders.{back_holder_is}
use Rattle.claim_rule.proofs.Words.{all_kept, all_same}
use Rattle.claim_rule.proofs.Quiet.{SameShown}
use Rattle.claim_rule.proofs.Advance.{before, acts, leaves, adds_of, setting_in, role_of, some_setting, owes_still, holder_behind, setting_back, seen_behind}
use Rattle.claim_rule.proofs.Gate.{one_by, one_follows}
use Rattle.lock_steps.specs.Laws.{TakeLaw, GiveLaw}
use Rattle.lock_steps.specs.Locks.{owed_with, IsPaid, MayTake, MayGiveBack, took, gave}
use Rattle.claim_rule.proofs.Behind.{stays, IsBehind, IsOwedSoundly, owed_soundly, shown_behind, none_owed, still_owed, low_behind, lock_changes}
use Rattle.claim_rule.proofs.Ready.{stable_here, holder_is_it}
use Rattle.claim_rule.proofs.Slots.{tells_gate, tells_same, slot_same, homes_taken, homes_given}
use Rattle.claim_rule.proofs.LockWords.{lock_low, of_layer}
use Rattle.heap_model.specs.Search.{hint_or, first_of, spans_of}

-- what the caller may take in what it knows it may take in the history
pub take_same : (n : ℕ) (what : What) (m k : Configuration) → AgreesFor n m k → MayTake k n what → MayTake m n what
take_same n what m k r h =
    let v = caller_view_same n m k r in
    record {
      begun = ap (λ (c : CallState). Rattle.std.specs.Prelude.is_some c.call) r.call ∙ h.begun;
      inside = ap is_inside v ∙ h.inside;
      free = ap (λ (x : CallerView). held x what) v ∙ h.free;
    }

none_of : (o : Option ℕ) → caller_word o ≡ 0 → o ≡ None
none_of None e = refl
none_of (Some d) e = absurd (omega arith)

some_of : (o : Option ℕ) (x : ℕ) → caller_word o ≡ x → (x ≡ 0 → ⊥) → (d : ℕ) × (o ≡ Some d) × (x ≡ d + 1)
some_of None x e z = absurd (z (sym e))
some_of (Some d) x e z = (d, refl, sym e)

---- The acts may come

take_ok : (s : Setting) (m : Configuration) (n : ℕ) (what : What) → HasSlot what → is_inside (caller_view m n) ≡ true → holder_of m.state.gate.locks what ≡ None → may s m n (acts.TakeLock what) ≡ true
take_ok s m n whats.Vs q i e = and_from (is_none m.state.gate.locks.vs) (is_inside (caller_view m n)) (ap is_none e) i
take_ok s m n whats.Back q i e = and_from (is_none m.state.gate.locks.back) (is_inside (caller_view m n)) (ap is_none e) i
take_ok s m n whats.Large q i e = and_from (is_none m.state.gate.locks.large) (is_inside (caller_view m n)) (ap is_none e) i
take_ok s m n whats.Gate q i e = absurd q
take_ok s m n whats.Lfh q i e = absurd q

blocked_by : (o : Option ℕ) (n x d : ℕ) → o ≡ Some d → x ≡ d + 1 → is_caller n o ≡ false → for_some o (λ d. not (d == n) && x == d + 1) ≡ true
blocked_by None n x d e w h = absurd (let z : ⊥ = cc (e) in z)
blocked_by (Some c) n x d e w h =
    let same : c ≡ d = cc (e) in
    and_from (not (c == n)) (x == c + 1) (ap not h) (eq-eqb x (c + 1) (w ∙ sym (ap (λ (z : ℕ). z + 1) same)))

held_of : (m : Configuration) (n : ℕ) (what : What) → HasSlot what → held (caller_view m n) what ≡ is_caller n (holder_of m.state.gate.locks what)
held_of m n whats.Vs q = refl
held_of m n whats.Back q = refl
held_of m n whats.Large q = refl
held_of m n whats.Gate q = absurd q
held_of m n whats.Lfh q = absurd q

blocked_ok : (s : Setting) (m : Configuration) (n x : ℕ) (what : What) → HasSlot what → held (caller_view m n) what ≡ false → caller_word (holder_of m.state.gate.locks what) ≡ x → (x ≡ 0 → ⊥) → may s m n (acts.Blocked what x) ≡ true
blocked_ok s m n x what q f w z =
    let d = some_of (holder_of m.state.gate.locks what) x w z in
    let b = blocked_by (holder_of m.state.gate.locks what) n x d.0 d.1 d.2 (sym (held_of m n what q) ∙ f) in
    by_lock what q b
  where
    by_lock : (what : What) → HasSlot what → for_some (holder_of m.state.gate.locks what) (λ d. not (d == n) && x == d + 1) ≡ true → may s m n (acts.Blocked what x) ≡ true
    by_lock whats.Vs q b = b
    by_lock whats.Back q b = b
    by_lock whats.Large q b = b
    by_lock whats.Gate q b = absurd q
    by_lock whats.Lfh q b = absurd q

-- a caller that is blocked at a lock leaves the heap as it was
same_blocked : (s : Setting) (m : Configuration) (n x : ℕ) (what : What) → HasSlot what → (after s m (entry n (acts.Blocked what x))).state ≡ m.state
same_blocked s m n x whats.Vs q = refl
same_blocked s m n x whats.Back q = refl
same_blocked s m n x whats.Large q = refl
same_blocked s m n x whats.Gate q = absurd q
same_blocked s m n x whats.Lfh q = absurd q

-- the words where one lock changes hands
pub lock_behind : (l : Limits) (m : Configuration) (now : Now) (owes : List Owed) (what : What) (h : Option ℕ) → HasSlot what → ((b t : ℕ) → now.span_history.hints b t ≡ m.now.span_history.hints b t)
    → IsBehind l (record { state = record m.state { gate = with_holder m.state.gate what h }; now = now }) m owes owes (lock_at what) (caller_word h)
lock_behind l m now owes what h has e =
    let low = lock_low what (of_layer what has) in
    low_behind l (record { state = record m.state { gate = with_holder m.state.gate what h }; now = now }) m owes (lock_at what) (caller_word h) low.1
    (record { lfh = refl; words = refl; active = refl; spans = refl; hints = λ b t. ap (λ (o : Option ℕ). unwrap_or (hint_or o (first_of (spans_of m.state.back.area b t))) 0) (e b t) })
    (stays (lock_at what) (caller_word h) 1 _ _ (λ k. omega arith) refl)
    (lock_changes h m.state.gate.locks what (of_layer what has))

-- the caller's view behind the entry that denies an address
pub view_denied : (s : Setting) (m : Configuration) (n a : ℕ) → caller_view (after s m (entry n (acts.NotLive a))) n ≡ caller_view m n
view_denied s m n a = let e = eq-eqb n n refl in rw e refl

---- The laws

module _ {T : Type 0} (stands : T → LayerState) (o : Opening) where
  abbrev Taking : What → ℕ → ℕ → ℕ → Me (Option T) View → List Entry → State (Option T) View → ℕ → Type 0
  Taking what slots id n me es st y =
      (w : View) × (a : Act (Option T)) × Valid st.homes me.1 a × IsRuled stands o (stepped st (lock_at what) y id me.1 w a)
      × took stands what es (step slots (lock_at what) 0 (n + 1) none) me (get_or st.words (lock_at what) 0) (w, carried_after me.1 a)

  module _ (slots id n : ℕ) (what : What) (me : Me (Option T) View) (es : List Entry) (has : HasSlot what) (h : IsReady n me.0 es)
      (ok : (s : Setting) → IsSettingOf me.0.opening me.0.roll s → MayTake (ready_after s me.0 es) n what)
      (st : State (Option T) View) (r : IsRuled stands o st) (at : get_elem? st.views id ≡ some me.0) where
    abbrev found : ℕ
    found = get_or st.words (lock_at what) 0

    abbrev behind : Setting → Configuration
    behind s = configuration_after s (configuration_of s r.log) es

    here : (s : Setting) → IsSettingOf o r.lead.roll s → MayTake (behind s) n what
    here s q = take_same n what (behind s) (ready_after s me.0 es) (before stands o st r id n me.0 es at h s q).carried.agrees (ok s (setting_in stands o st r id n me.0 es at h s q))

    word_is : (s : Setting) → IsSettingOf o r.lead.roll s → found ≡ caller_word (holder_of (behind s).state.gate.locks what)
    word_is s q = (before stands o st r id n me.0 es at h s q).words.gate.locks what (of_layer what has)

    miss : (found ≡ 0 → ⊥) → Taking what slots id n me es st found
    miss z =
        let a = acts stands o st r id n me.0 es at h me.1 (lock_at what) found keeps (entry n (acts.Blocked what found) ∷ []) (one_by n (acts.Blocked what found)) (λ k. refl)
        (λ s q.
        let b = before stands o st r id n me.0 es at h s q in
        let p = here s q in
        let same = same_blocked s (behind s) n found what has in (
          one_follows s (behind s) n (acts.Blocked what found) b.whole p.begun (blocked_ok s (behind s) n found what has p.free (sym (word_is s q)) z),
          refl,
          all_kept o.limits r.lead.counted (after s (behind s) (entry n (acts.Blocked what found))) _ st.words (lock_at what)
              (all_same o.limits r.lead.counted (after s (behind s) (entry n (acts.Blocked what found))) (behind s) _ st.words (same_by s same) (ap (λ (x : HeapState). x.gate) same) b.words),
          subst (λ (x : HeapState). AreHome stands o x st.homes) (sym same) b.home,
        )) in
        (a.0, keeps, tt, a.1, record { taken = λ e. absurd (z e); missed = λ _. record { adds = adds_of me (a.0, me.1) n es (acts.Blocked what found) h.role a.2; slot = refl; owes = a.3 } })
      where
        same_by : (s : Setting) → (after s (behind s) (entry n (acts.Blocked what found))).state ≡ (behind s).state → SameShown (after s (behind s) (entry n (acts.Blocked what found))) (behind s)
        same_by s e = record { lfh = ap (λ (x : HeapState). x.lfh) e; words = ap (λ (x : HeapState). x.words) e; active = ap (λ (x : HeapState). x.vs.active) e; spans = ap (λ (x : HeapState). lfh_spans x.back.area) e; hints = λ k b t. refl; makers = λ f k. refl }

    hit : found ≡ 0 → Taking what slots id n me es st (n + 1)
    hit z =
        let s0 = setting_of o r.lead.roll in
        let q0 = some_setting o r.lead.roll in
        let free : (s : Setting) → IsSettingOf o r.lead.roll s → holder_of (behind s).state.gate.locks what ≡ None = λ s q. none_of _ (sym (word_is s q) ∙ z) in
        let t = (before stands o st r id n me.0 es at h s0 q0).home.full what has (free s0 q0) in
        let low = lock_low what (of_layer what has) in
        let a = leaves stands o st r id n me.0 es at h me.1 (lock_at what) (n + 1) (takes (slot_of what) (Some t.0)) (entry n (acts.TakeLock what) ∷ []) r.owes (owed_with what me.0.owes) (one_by n (acts.TakeLock what)) (owing what has free)
        (λ s q.
        let b = before stands o st r id n me.0 es at h s q in
        let p = here s q in
        let wide : lock_at what < word_count o.limits = omega arith in (
          one_follows s (behind s) n (acts.TakeLock what) b.whole p.begun (take_ok s (behind s) n what has p.inside (free s q)),
          refl,
          shown_behind o.limits r.lead.counted (after s (behind s) (entry n (acts.TakeLock what))) (behind s) r.owes r.owes st.words (lock_at what) (n + 1) (omega arith) wide
              (lock_behind o.limits (behind s) (after s (behind s) (entry n (acts.TakeLock what))).now r.owes what (Some n) has (λ b t. refl))
              (owed_behind s what has (free s q) (owed_soundly o.limits r.lead.counted (behind s) r.owes st.words b.words))
              b.words,
          homes_taken stands o (behind s) st.homes (Some n) what has (λ e. cc (e)) b.home,
        )) in (
          a.0,
          takes (slot_of what) (Some t.0),
          t.1,
          a.1,
          record {
            taken = λ _. record {
              adds = adds_of me (a.0, (slot_of what, Some t.0) ∷ me.1) n es (acts.TakeLock what) h.role a.2;
              state = t.0;
              slot = refl;
              tells = λ s q.
                  let g = setting_back stands o st r id n me.0 es at h a.0 s a.2.opening a.5 q in
                  let t' = (before stands o st r id n me.0 es at h s g).home.full what has (free s g) in
                  let same : t'.0 ≡ t.0 = slot_same (t'.0) (t.0) (sym t'.1 ∙ t.1) in
                  let p = role_of stands o st r id n me.0 at h.role in
                  subst (λ (z : Opening). Tells what z (configuration_of s a.0.seen).state (stands t.0)) (sym {b = o} (a.2.opening ∙ p.4))
                  (subst (λ (z : Configuration). Tells what o z.state (stands t.0)) (sym (seen_behind stands o st r id n me.0 es at h a.0 s (entry n (acts.TakeLock what) ∷ []) a.4))
                  (tells_gate what o (behind s).state (with_holder (behind s).state.gate what (Some n)) (stands t.0) (subst (λ (x : T). Tells what o (behind s).state (stands x)) same t'.2)));
              owes = a.3;
            };
            missed = λ k. absurd (k z);
          },
        )
      where
        owing : (w : What) → HasSlot w → ((s : Setting) → IsSettingOf o r.lead.roll s → holder_of (behind s).state.gate.locks w ≡ None)
            → IsOwing stands n r.owes r.owes (owed_with w me.0.owes) (r.log ++ (es ++ entry n (acts.TakeLock w) ∷ []))
        owing whats.Vs q free = owes_still stands o st r id n me.0 es at h (entry n (acts.TakeLock whats.Vs) ∷ []) (λ k. refl)
        owing whats.Large q free = owes_still stands o st r id n me.0 es at h (entry n (acts.TakeLock whats.Large) ∷ []) (λ k. refl)
        owing whats.Back q free =
            let s0 = setting_of o r.lead.roll in
            let q0 = some_setting o r.lead.roll in
            record { same = inl refl; known = λ e. sym ((before stands o st r id n me.0 es at h s0 q0).words.lfh.paid (free s0 q0)) }
        owing whats.Gate q free = absurd q
        owing whats.Lfh q free = absurd q

        owed_behind : (s : Setting) (w : What) → HasSlot w → holder_of (behind s).state.gate.locks w ≡ None → IsOwedSoundly o.limits (behind s) r.owes → IsOwedSoundly o.limits (after s (behind s) (entry n (acts.TakeLock w))) r.owes
        owed_behind s whats.Vs q free f = still_owed o.limits (after s (behind s) (entry n (acts.TakeLock whats.Vs))) (behind s) r.owes refl refl refl refl f
        owed_behind s whats.Large q free f = still_owed o.limits (after s (behind s) (entry n (acts.TakeLock whats.Large))) (behind s) r.owes refl refl refl refl f
        owed_behind s whats.Back q free f = none_owed o.limits (after s (behind s) (entry n (acts.TakeLock whats.Back))) (behind s) r.owes refl (λ b t. refl) (f.paid free) f.heads
        owed_behind s whats.Gate q free f = absurd q
        owed_behind s whats.Lfh q free f = absurd q

    -- a lock is taken, or another's
    pub takes_lock : Taking what slots id n me es st (either (eqb found 0) (n + 1) found)
    takes_lock = exchanged found 0 (n + 1) (Taking what slots id n me es st) hit miss

  ---- Giving a lock back

  module _ (slots id n : ℕ) (what : What) (me : Me (Option T) View) (es : List Entry) (state : T) (more : List (ℕ × Option T)) (has : HasSlot what) (h : IsReady n me.0 es)
      (top : me.1 ≡ (slot_of what, Some state) ∷ more) (paid : IsPaid what me.0.owes)
      (ok : (s : Setting) → IsSettingOf me.0.opening me.0.roll s → MayGiveBack (ready_after s me.0 es) n what × Tells what me.0.opening (ready_after s me.0 es).state (stands state))
      (st : State (Option T) View) (r : IsRuled stands o st) (at : get_elem? st.views id ≡ some me.0) where
    abbrev back_to : Setting → Configuration
    back_to s = configuration_after s (configuration_of s r.log) es

    in_view : (s : Setting) → IsSettingOf o r.lead.roll s → IsSettingOf me.0.opening me.0.roll s
    in_view s q = setting_in stands o st r id n me.0 es at h s q

    holding : (s : Setting) (q : IsSettingOf o r.lead.roll s) → held (caller_view (ready_after s me.0 es) n) what ≡ true
    holding s q = (and_parts (held (caller_view (ready_after s me.0 es) n) what) (is_inside (caller_view (ready_after s me.0 es) n)) (and_parts _ (leaves_whole (ready_after s me.0 es).state what) (ok s (in_view s q)).0.may).0).0

    give_ok : (s : Setting) → IsSettingOf o r.lead.roll s → may s (back_to s) n (acts.GiveLock what) ≡ true
    give_ok s q =
        let b = before stands o st r id n me.0 es at h s q in
        let k = (ok s (in_view s q)).0 in
        stable_here s n (back_to s) (ready_after s me.0 es) (acts.GiveLock what) b.carried.agrees b.whole (h.whole s (in_view s q)) refl k.begun k.may

    tells_here : (s : Setting) → IsSettingOf o r.lead.roll s → Tells what o (back_to s).state (stands state)
    tells_here s q =
        let p = role_of stands o st r id n me.0 at h.role in
        tells_same n what o (back_to s) (ready_after s me.0 es) (stands state) (before stands o st r id n me.0 es at h s q).carried.agrees (holding s q)
        (subst (λ (z : Opening). Tells what z (ready_after s me.0 es).state (stands state)) p.4 (ok s (in_view s q)).1)

    mine : (s : Setting) → IsSettingOf o r.lead.roll s → holder_of (back_to s).state.gate.locks what ≡ Some n
    mine s q = holder_is_it n _ (sym (held_of (back_to s) n what has) ∙ (ap (λ (x : CallerView). held x what) (caller_view_same n (back_to s) (ready_after s me.0 es) (before stands o st r id n me.0 es at h s q).carried.agrees) ∙ holding s q))

    -- what the holder of Back has paid, all have
    all_paid : (s : Setting) → IsSettingOf o r.lead.roll s → (back_to s).state.gate.locks.back ≡ Some n → me.0.owes ≡ [] → r.owes ≡ []
    all_paid s q e p =
        let mine = back_holder_is s r.log ∙ (sym (ap (λ (f : GateAndLocks). f.locks.back) (before stands o st r id n me.0 es at h s q).carried.gate) ∙ e) in
        sym ((role_of stands o st r id n me.0 at h.role).5 mine) ∙ p

    -- what is owed, whatever entries come before that leave Back with whom it is
    owing : (front : List Entry) → ((h : Option ℕ) (xs : List Entry) → holder_from h (front ++ xs) ≡ holder_from h xs) → (w : What) → HasSlot w
        → IsOwing stands n r.owes r.owes me.0.owes (r.log ++ (es ++ (front ++ entry n (acts.GiveLock w) ∷ [])))
    owing front same whats.Vs q = owes_still stands o st r id n me.0 es at h (front ++ entry n (acts.GiveLock whats.Vs) ∷ []) (λ k. same k (entry n (acts.GiveLock whats.Vs) ∷ []))
    owing front same whats.Large q = owes_still stands o st r id n me.0 es at h (front ++ entry n (acts.GiveLock whats.Large) ∷ []) (λ k. same k (entry n (acts.GiveLock whats.Large) ∷ []))
    owing front same whats.Back q = record {
      same = inl refl;
      known = λ e.
          let back : List Entry = front ++ entry n (acts.GiveLock whats.Back) ∷ [] in
          let z : None ≡ Some n = sym (holder_behind stands o st r id n me.0 es at h back ∙ same (back_holder r.log) (entry n (acts.GiveLock whats.Back) ∷ [])) ∙ e in absurd (let w : ⊥ = cc (z) in w);
    }
    owing front same whats.Gate q = absurd q
    owing front same whats.Lfh q = absurd q

    owed_behind : (s : Setting) → IsSettingOf o r.lead.roll s → (w : What) → HasSlot w → holder_of (back_to s).state.gate.locks w ≡ Some n → IsPaid w me.0.owes → IsOwedSoundly o.limits (back_to s) r.owes → IsOwedSoundly o.limits (after s (back_to s) (entry n (acts.GiveLock w))) r.owes
    owed_behind s q whats.Vs has e p f = still_owed o.limits (after s (back_to s) (entry n (acts.GiveLock whats.Vs))) (back_to s) r.owes refl refl refl refl f
    owed_behind s q whats.Large has e p f = still_owed o.limits (after s (back_to s) (entry n (acts.GiveLock whats.Large))) (back_to s) r.owes refl refl refl refl f
    owed_behind s q whats.Back has e p f = none_owed o.limits (after s (back_to s) (entry n (acts.GiveLock whats.Back))) (back_to s) r.owes refl (λ b t. refl) (all_paid s q e p) f.heads
    owed_behind s q whats.Gate has e p f = absurd has
    owed_behind s q whats.Lfh has e p f = absurd has

    hints_on : (s : Setting) (w : What) → HasSlot w → (b t : ℕ) → (after s (back_to s) (entry n (acts.GiveLock w))).now.span_history.hints b t ≡ (back_to s).now.span_history.hints b t
    hints_on s whats.Vs q b t = refl
    hints_on s whats.Large q b t = refl
    hints_on s whats.Back q b t = refl
    hints_on s whats.Gate q b t = absurd q
    hints_on s whats.Lfh q b t = absurd q

    -- the words and the slots behind the step
    given_shown : (s : Setting) → IsSettingOf o r.lead.roll s → AreAllShown o.limits r.lead.counted (after s (back_to s) (entry n (acts.GiveLock what))) r.owes (set st.words (lock_at what) 0)
    given_shown s q =
        let b = before stands o st r id n me.0 es at h s q in
        let low = lock_low what (of_layer what has) in
        let wide : lock_at what < word_count o.limits = omega arith in
        shown_behind o.limits r.lead.counted (after s (back_to s) (entry n (acts.GiveLock what))) (back_to s) r.owes r.owes st.words (lock_at what) 0 (omega arith) wide
        (lock_behind o.limits (back_to s) (after s (back_to s) (entry n (acts.GiveLock what))).now r.owes what None has (hints_on s what has))
        (owed_behind s q what has (mine s q) paid (owed_soundly o.limits r.lead.counted (back_to s) r.owes st.words b.words))
        b.words

    given_home : (s : Setting) → IsSettingOf o r.lead.roll s → AreHome stands o (after s (back_to s) (entry n (acts.GiveLock what))).state (put_back st.homes me.1)
    given_home s q =
        subst (λ (c : List (ℕ × Option T)). AreHome stands o (after s (back_to s) (entry n (acts.GiveLock what))).state (put_back st.homes c)) (sym top)
        (homes_given stands o (back_to s) st.homes what state has (tells_here s q) (before stands o st r id n me.0 es at h s q).home)

    begun_here : (s : Setting) → IsSettingOf o r.lead.roll s → is_some ((back_to s).now.calls n).call ≡ true
    begun_here s q = ap (λ (c : CallState). is_some c.call) (before stands o st r id n me.0 es at h s q).carried.agrees.call ∙ (ok s (in_view s q)).0.begun

    -- a lock is given back
    pub gives_lock : (w : View) × (a : Act (Option T)) × Valid st.homes me.1 a × IsRuled stands o (stepped st (lock_at what) 0 id me.1 w a) × gave what es (step slots (lock_at what) 0 0 none) me 0 (w, carried_after me.1 a)
    gives_lock =
        let a = leaves stands o st r id n me.0 es at h me.1 (lock_at what) 0 gives (entry n (acts.GiveLock what) ∷ []) r.owes me.0.owes (one_by n (acts.GiveLock what)) (owing [] (λ h xs. refl) what has)
        (λ s q. (one_follows s (back_to s) n (acts.GiveLock what) (before stands o st r id n me.0 es at h s q).whole (begun_here s q) (give_ok s q), refl, given_shown s q, given_home s q)) in
        (a.0, gives, tt, a.1, record { adds = adds_of me (a.0, rest me.1) n es (acts.GiveLock what) h.role a.2; slot = λ t more' e. ap (λ (c : List (ℕ × Option T)). rest c) e; owes = a.3 })

    ---- .. where the caller also says that no live block has an address

    module _ (a : ℕ) (not_there : (s : Setting) → IsSettingOf o r.lead.roll s → may s (back_to s) n (acts.NotLive a) ≡ true) where
      -- both entries are added with one step
      pub gives_denied : (w : View) × (a' : Act (Option T)) × Valid st.homes me.1 a' × IsRuled stands o (stepped st (lock_at what) 0 id me.1 w a') × Goes (number_of me.0.role) me.0 w es (entry (number_of me.0.role) (acts.NotLive a) ∷ entry (number_of me.0.role) (acts.GiveLock what) ∷ []) × (w.owes ≡ me.0.owes) × (carried_after me.1 a' ≡ rest me.1)
      gives_denied =
          let x = leaves stands o st r id n me.0 es at h me.1 (lock_at what) 0 gives (entry n (acts.NotLive a) ∷ entry n (acts.GiveLock what) ∷ []) r.owes me.0.owes
          (and_from (n == n) (is_by n (entry n (acts.GiveLock what) ∷ [])) (eq-eqb n n refl) (one_by n (acts.GiveLock what))) (owing (entry n (acts.NotLive a) ∷ []) (λ h xs. refl) what has)
          (λ s q.
          let first : Configuration = after s (back_to s) (entry n (acts.NotLive a)) in
          let view : caller_view first n ≡ caller_view (back_to s) n = view_denied s (back_to s) n a in (
            follow_join s (back_to s) (entry n (acts.NotLive a) ∷ []) (entry n (acts.GiveLock what) ∷ []) (one_follows s (back_to s) n (acts.NotLive a) (before stands o st r id n me.0 es at h s q).whole (begun_here s q) (not_there s q))
                (one_follows s first n (acts.GiveLock what) refl (ap (λ (v : CallerView). is_some v.call.call) view ∙ begun_here s q) (ap (λ (v : CallerView). may_give_lock (back_to s).state v what) view ∙ give_ok s q)),
            refl,
            all_same o.limits r.lead.counted (after s first (entry n (acts.GiveLock what))) (after s (back_to s) (entry n (acts.GiveLock what))) r.owes (set st.words (lock_at what) 0)
                (record { lfh = refl; words = refl; active = refl; spans = refl; hints = λ k x y. refl; makers = λ x k. refl }) refl (given_shown s q),
            given_home s q,
          )) in (
            x.0,
            gives,
            tt,
            x.1,
            subst (λ (k : ℕ). Goes k me.0 x.0 es (entry k (acts.NotLive a) ∷ entry k (acts.GiveLock what) ∷ [])) (sym (ap number_of h.role)) x.2,
            x.3,
            refl,
          )

pub take_law : {T : Type 0} (stands : T → LayerState) → TakeLaw stands
take_law stands o slots id n what me es has h ok st r deep at small = takes_lock stands o slots id n what me es has h ok st r at

pub give_law : {T : Type 0} (stands : T → LayerState) → GiveLaw stands
give_law stands o slots id n what me es state more has h top paid ok st r deep at small = gives_lock stands o slots id n what me es state more has h top paid ok st r at

-- the word of a lock is one of the first six
pub lock_below : (what : What) (words : ℕ) → HasSlot what → 5 < words → lock_at what < words
lock_below what words has lt = let l = lock_low what (of_layer what has) in let k = l.1 in omega arith
