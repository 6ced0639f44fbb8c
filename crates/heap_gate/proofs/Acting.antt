-- What each step at the gate makes of a caller.
use Rattle.std.proofs.Common.{◌≡◌, ℕ, Bool, true, false, List, [], ◌∷◌, Option, Some, None, refl, sym, ap, subst}
use Rattle.std.proofs.lemmas.Bool.{false≢true}
use Rattle.atomic_table.specs.Table.{Me}
use Rattle.atomic_table.specs.Seated.{TableId}
use Rattle.rand_core.specs.Stream.{Stream}
use Rattle.heap_model.specs.declared.Act.{Act}
use Rattle.heap_model.specs.declared.Act.TheVariants as acts
use Rattle.heap_model.specs.declared.Call.{Call}
use Rattle.heap_model.specs.declared.Entry.{Entry}
use Rattle.heap_model.specs.declared.What.TheVariants as whats
use Rattle.heap_model.specs.State.{Setting, hands}
use Rattle.heap_model.specs.Stay.{for_some}
use Rattle.heap_model.specs.CallState.{Configuration}
use Rattle.heap_model.specs.Legal.{after, is_lock_or_compact}
use Rattle.heap_model.specs.History.{configuration_after, configuration_of}
use Rattle.heap_model.specs.Agreement.{AgreesFor, reveals_nothing, revealed}
use Rattle.claim_rule.specs.declared.views.View.{View}
use Rattle.claim_rule.specs.Entries.{entry}
use Rattle.claim_rule.specs.Rule.{ready_after}
use Rattle.claim_rule.specs.Plays.{Goes}
use Rattle.heap_gate.specs.Token.{IsAt, IsCaller, outs}
use Rattle.heap_gate.specs.Seated.{Face, tok}
use Rattle.heap_gate.specs.Calls.{Runs, HasEntered, HasTurnedBack, HasLeft, HasLocked, HasMissedGate, HasUnlocked, stance}
use Rattle.heap_gate.proofs.Standing.{at_enter, at_leave, at_lock, at_unlock, at_gate_taken}
use Rattle.heap_gate.proofs.Tokens.{Behind, At, Acted, acted, acted_once, as_was, faced, marks, moved_by, at_behind, with_left, one_agrees, lock_shows, none_agrees, same_in_hand}
use Rattle.heap_gate.proofs.Turning.{both, at_end, agrees_end, hands_end, names_another}

-- the call that enters, or that takes the heap lock
pub some_call : (o : Option Call) (enters : Bool) → for_some o is_lock_or_compact ≡ true → (call : Call) × (o ≡ Some call) × (is_lock_or_compact call ≡ true)
some_call None b h = absurd (false≢true h)
some_call (Some x) b h = (x, refl, h)

module _ {T : Type 0} (z : TableId) (me : Me (Option T) View) (f : Face) (slot : ℕ) (stream : Stream) (h : IsCaller me (tok z me f) slot stream) (w : f.whole ≡ true) where
  -- what a call of one act tells, from what others leave
  pub runs_of : (me' : Me (Option T) View) (act : Act) (k : Behind z me f slot stream h) (z' : TableId) (left : List Entry) → left ≡ [] → Goes f.number me.0 me'.0 f.prepared (entry f.number act ∷ [])
      → ((m : Configuration) → reveals_nothing m f.number act ≡ true) → ((s : Setting) (m : Configuration) → hands (after s m (entry f.number act)).state f.number ≡ hands m.state f.number)
      → Acted z me f slot stream h me' z' left (entry f.number act ∷ []) k me.0.owes → Runs (tok z me f) (tok z' me' (faced z me f slot stream h k left)) (entry f.number act ∷ [])
  runs_of me' act k z' left le go quiet keeps a = record {
    does = a.does;
    agrees = with_left z me f slot stream h me' left le (λ s m. AgreesFor f.number m (after s (ready_after s me.0 f.prepared) (entry f.number act)))
        (λ s q. one_agrees s f.number me.0 me'.0 f.prepared act (go.goes s q) (quiet (ready_after s me.0 f.prepared)));
    hands = with_left z me f slot stream h me' left le (λ s m. hands m.state f.number ≡ hands (ready_after s me.0 f.prepared).state f.number)
        (λ s q. same_in_hand s f.number me.0 me'.0 f.prepared (entry f.number act ∷ []) (go.goes s q) (keeps s));
  }

  module _ (me' : Me (Option T) View) (slots : me'.1 ≡ me.1) (owes : me'.0.owes ≡ me.0.owes) (z' : TableId) (ez : z' ≡ z) (left : List Entry) (le : left ≡ []) where
    ---- A step with no entry of its own

    module _ (go : Goes f.number me.0 me'.0 f.prepared []) where
      pub looking : Acted z me f slot stream h me' z' left [] (as_was z me f slot stream h) me.0.owes
      looking = acted z me f slot stream h w me' [] (moved_by z me f slot stream h me'.0 [] refl go) z' left ez le (as_was z me f slot stream h) (record {
        slots = subst Rattle.heap_gate.specs.Token.AreOut (sym slots) h.slots;
        out_is = ap outs slots;
        at = at_behind z me f slot stream h me'.0 [] refl go (λ m. IsAt m f.number f.call f.fresh f.inside f.depth (outs me.1) true f.free)
            (λ s m a. subst (λ (b : Bool). IsAt m f.number f.call f.fresh f.inside f.depth (outs me.1) b f.free) w a);
        marks_are = refl;
        made_is = refl;
        rests = h.even.rests;
        drawn = h.even.drawn;
      }) me.0.owes owes

      pub looked_runs : Runs (tok z me f) (tok z' me' (faced z me f slot stream h (as_was z me f slot stream h) left)) []
      looked_runs = record {
        does = looking.does;
        agrees = with_left z me f slot stream h me' left le (λ s m. AgreesFor f.number m (ready_after s me.0 f.prepared)) (λ s q. none_agrees s f.number me.0 me'.0 f.prepared (go.goes s q));
        hands = with_left z me f slot stream h me' left le (λ s m. hands m.state f.number ≡ hands (ready_after s me.0 f.prepared).state f.number)
            (λ s q. same_in_hand s f.number me.0 me'.0 f.prepared [] (go.goes s q) (λ m. refl));
      }

    ---- Leaving

    module _ (go : Goes f.number me.0 me'.0 f.prepared (entry f.number acts.Leave ∷ [])) (in_is : f.inside ≡ true) (free : f.free ≡ true) (drawn : (marks z me f slot stream h).begun ≡ f.drawn) where
      abbrev pub behind_leave : Behind z me f slot stream h
      behind_leave = record { fresh = f.fresh; locked = f.locked; inside = false; depth = f.depth; free = f.free; out = outs me.1; marks = marks z me f slot stream h }

      pub leaving : Acted z me f slot stream h me' z' left (entry f.number acts.Leave ∷ []) behind_leave me.0.owes
      leaving = acted_once z me f slot stream h w me' acts.Leave go slots owes (λ k. refl) f.fresh f.locked false f.depth
          (λ s m a. at_leave s m f.number f.call f.fresh f.depth (outs me.1) f.whole f.free (subst (λ (b : Bool). IsAt m f.number f.call f.fresh b f.depth (outs me.1) f.whole f.free) in_is a))
          (λ _. free) (λ _. drawn) z' left ez le

      pub has_left : HasLeft (tok z me f) (tok z' me' (faced z me f slot stream h behind_leave left)) (entry f.number acts.Leave ∷ [])
      has_left = record { runs = runs_of me' acts.Leave behind_leave z' left le go (λ m. refl) (λ s m. refl) leaving; stands = leaving.stands }

    ---- Entering

    module _ (go : Goes f.number me.0 me'.0 f.prepared (entry f.number acts.Enter ∷ [])) (out : f.inside ≡ false) (call : Call) (is : f.call ≡ Some call) where
      abbrev pub behind_enter : Behind z me f slot stream h
      behind_enter = record { fresh = false; locked = f.locked; inside = true; depth = f.depth; free = f.free; out = outs me.1; marks = marks z me f slot stream h }

      pub entering : Acted z me f slot stream h me' z' left (entry f.number acts.Enter ∷ []) behind_enter me.0.owes
      entering = acted_once z me f slot stream h w me' acts.Enter go slots owes (λ k. refl) false f.locked true f.depth
          (λ s m a. at_enter s m f.number f.call f.fresh f.depth (outs me.1) f.whole f.free call is (subst (λ (b : Bool). IsAt m f.number f.call f.fresh b f.depth (outs me.1) f.whole f.free) out a))
          (λ _. h.even.rests out) (λ _. h.even.drawn out) z' left ez le

      pub has_entered : HasEntered (tok z me f) (tok z' me' (faced z me f slot stream h behind_enter left)) (stance (tok z me f)) (entry f.number acts.Enter ∷ [])
      has_entered = record { runs = runs_of me' acts.Enter behind_enter z' left le go (λ m. refl) (λ s m. refl) entering; stands = entering.stands }

    ---- The heap lock

    module _ (out : f.inside ≡ false) where
      at_outside : (s : Setting) (m : Configuration) → At z me f slot stream h m → IsAt m f.number f.call f.fresh false f.depth (outs me.1) f.whole f.free
      at_outside s m a = subst (λ (b : Bool). IsAt m f.number f.call f.fresh b f.depth (outs me.1) f.whole f.free) out a

      module _ (go : Goes f.number me.0 me'.0 f.prepared (entry f.number acts.Lock ∷ [])) (call : Call) (is : f.call ≡ Some call) where
        abbrev pub behind_lock : Behind z me f slot stream h
        behind_lock = record { fresh = f.fresh; locked = true; inside = f.inside; depth = 1; free = f.free; out = outs me.1; marks = marks z me f slot stream h }

        pub locking : Acted z me f slot stream h me' z' left (entry f.number acts.Lock ∷ []) behind_lock me.0.owes
        locking = acted_once z me f slot stream h w me' acts.Lock go slots owes (λ k. refl) f.fresh true f.inside 1
            (λ s m a. subst (λ (b : Bool). IsAt (after s m (entry f.number acts.Lock)) f.number f.call f.fresh b 1 (outs me.1) true f.free) (sym out) (at_lock s m f.number f.call f.fresh f.depth (outs me.1) f.whole f.free call is (at_outside s m a)))
            h.even.rests h.even.drawn z' left ez le

        pub has_locked : HasLocked (tok z me f) (tok z' me' (faced z me f slot stream h behind_lock left)) (stance (tok z me f)) (entry f.number acts.Lock ∷ [])
        has_locked = record {
          reveals = record {
            does = locking.does;
            agrees = with_left z me f slot stream h me' left le (λ s m. AgreesFor f.number m (after s (revealed m (ready_after s me.0 f.prepared)) (entry f.number acts.Lock)))
                (λ s q. lock_shows s f.number me.0 me'.0 f.prepared (go.goes s q));
            hands = with_left z me f slot stream h me' left le (λ s m. hands m.state f.number ≡ hands (ready_after s me.0 f.prepared).state f.number)
                (λ s q. same_in_hand s f.number me.0 me'.0 f.prepared (entry f.number acts.Lock ∷ []) (go.goes s q) (λ m. refl));
          };
          stands = locking.stands;
        }

      module _ (word : ℕ) (go : Goes f.number me.0 me'.0 f.prepared (entry f.number (acts.Blocked whats.Gate word) ∷ [])) (call : Call) (is : f.call ≡ Some call) (locks : is_lock_or_compact call ≡ true) (nz : word ≡ 0 → ⊥) where
        pub missing : Acted z me f slot stream h me' z' left (entry f.number (acts.Blocked whats.Gate word) ∷ []) (as_was z me f slot stream h) me.0.owes
        missing = acted_once z me f slot stream h w me' (acts.Blocked whats.Gate word) go slots owes (λ k. refl) f.fresh f.locked f.inside f.depth
            (λ s m a. subst (λ (b : Bool). IsAt (after s m (entry f.number (acts.Blocked whats.Gate word))) f.number f.call f.fresh b f.depth (outs me.1) true f.free) (sym out)
            (at_gate_taken s m f.number f.call f.fresh f.depth (outs me.1) f.whole f.free word call is locks (at_outside s m a)))
            h.even.rests h.even.drawn z' left ez le

        pub has_missed : HasMissedGate (tok z me f) (tok z' me' (faced z me f slot stream h (as_was z me f slot stream h) left)) (stance (tok z me f)) whats.Gate word (entry f.number (acts.Blocked whats.Gate word) ∷ [])
        has_missed = record { gate = refl; word_is = nz; runs = runs_of me' (acts.Blocked whats.Gate word) (as_was z me f slot stream h) z' left le go (λ m. refl) (λ s m. refl) missing; stands = missing.stands }

      module _ (go : Goes f.number me.0 me'.0 f.prepared (entry f.number acts.Unlock ∷ [])) where
        abbrev pub behind_unlock : Behind z me f slot stream h
        behind_unlock = record { fresh = f.fresh; locked = f.locked; inside = f.inside; depth = 0; free = f.free; out = outs me.1; marks = marks z me f slot stream h }

        pub unlocking : Acted z me f slot stream h me' z' left (entry f.number acts.Unlock ∷ []) behind_unlock me.0.owes
        unlocking = acted_once z me f slot stream h w me' acts.Unlock go slots owes (λ k. refl) f.fresh f.locked f.inside 0
            (λ s m a. subst (λ (b : Bool). IsAt (after s m (entry f.number acts.Unlock)) f.number f.call f.fresh b 0 (outs me.1) true f.free) (sym out) (at_unlock s m f.number f.call f.fresh f.depth (outs me.1) f.whole f.free (at_outside s m a)))
            h.even.rests h.even.drawn z' left ez le

        pub has_unlocked : HasUnlocked (tok z me f) (tok z' me' (faced z me f slot stream h behind_unlock left)) (stance (tok z me f)) (entry f.number acts.Unlock ∷ [])
        has_unlocked = record { runs = runs_of me' acts.Unlock behind_unlock z' left le go (λ m. refl) (λ s m. refl) unlocking; stands = unlocking.stands }

  ---- Turning back

  module _ (call : Call) (out : f.inside ≡ false) (is : f.call ≡ Some call) (enters : is_lock_or_compact call ≡ false) (word : ℕ) (u : Me (Option T) View) (go : Goes f.number me.0 u.0 f.prepared (entry f.number (acts.Blocked whats.Gate word) ∷ []))
      (me' : Me (Option T) View) (go' : Goes f.number u.0 me'.0 [] (entry f.number acts.Leave ∷ [])) (slots : me'.1 ≡ me.1) (owes : me'.0.owes ≡ me.0.owes) (z' : TableId) (ez : z' ≡ z) (left : List Entry) (le : left ≡ []) where
    abbrev pub behind_turn : Behind z me f slot stream h
    behind_turn = record { fresh = false; locked = f.locked; inside = f.inside; depth = f.depth; free = f.free; out = outs me.1; marks = marks z me f slot stream h }

    abbrev turned : List Entry
    turned = entry f.number (acts.Blocked whats.Gate word) ∷ entry f.number acts.Leave ∷ []

    pub turning_back : Acted z me f slot stream h me' z' left (entry f.number (acts.Blocked whats.Gate word) ∷ entry f.number acts.Leave ∷ []) behind_turn me.0.owes
    turning_back = acted z me f slot stream h w me' turned (both z me f slot stream h call out is enters word u.0 go me'.0 go') z' left ez le behind_turn (record {
      slots = subst Rattle.heap_gate.specs.Token.AreOut (sym slots) h.slots;
      out_is = ap outs slots;
      at = λ s q. subst (λ (b : Bool). IsAt (configuration_of s me'.0.seen) f.number f.call false b f.depth (outs me.1) true f.free) (sym out) (at_end z me f slot stream h call out is enters word u.0 go me'.0 go' s q);
      marks_are = refl;
      made_is = refl;
      rests = h.even.rests;
      drawn = h.even.drawn;
    }) me.0.owes owes

    pub has_turned_back : Rattle.heap_gate.specs.Calls.may_enter_by word f.number ≡ false → HasTurnedBack (tok z me f) (tok z' me' (faced z me f slot stream h behind_turn left)) (stance (tok z me f)) whats.Gate word (entry f.number (acts.Blocked whats.Gate word) ∷ entry f.number acts.Leave ∷ [])
    has_turned_back another = record {
      gate = refl;
      names = names_another word f.number another;
      runs = record {
        does = turning_back.does;
        agrees = with_left z me f slot stream h me' left le (λ s m. AgreesFor f.number m (configuration_after s (ready_after s me.0 f.prepared) turned)) (agrees_end z me f slot stream h call out is enters word u.0 go me'.0 go');
        hands = with_left z me f slot stream h me' left le (λ s m. hands m.state f.number ≡ hands (ready_after s me.0 f.prepared).state f.number) (hands_end z me f slot stream h call out is enters word u.0 go me'.0 go');
      };
      stands = turning_back.stands;
    }
