-- A call that prepares its Begin itself, and then goes on.
use Rattle.std.proofs.Common.{◌≡◌, ℕ, Bool, true, false, cond, ◌&&◌, ◌||◌, not, List, [], ◌∷◌, ◌++◌, Option, Some, None, refl, sym, ap, ◌∙◌, subst, append_assoc}
use Rattle.std.specs.Prelude.{is_some, OnOk, IfErr, Result, Ok, Err}
use Rattle.std.proofs.lemmas.Bool.{false≢true}
use Rattle.heap_model.specs.declared.Act.{Act}
use Rattle.heap_model.specs.declared.Act.TheVariants as acts
use Rattle.heap_model.specs.declared.Call.{Call}
use Rattle.heap_model.specs.declared.Call.TheVariants as calls
use Rattle.heap_model.specs.declared.Entry.{Entry}
use Rattle.heap_model.specs.declared.What.{What}
use Rattle.heap_model.specs.declared.What.TheVariants as whats
use Rattle.heap_model.specs.State.{hands}
use Rattle.heap_model.specs.Stay.{for_some}
use Rattle.heap_model.specs.CallState.{Configuration}
use Rattle.heap_model.specs.Legal.{is_lock_or_compact}
use Rattle.heap_model.specs.History.{configuration_after, configuration_of, own}
use Rattle.heap_model.specs.Agreement.{AgreesFor, revealed}
use Rattle.claim_rule.specs.Entries.{entry}
use Rattle.claim_rule.proofs.Lists.{after-append}
use Rattle.heap_gate.specs.Token.{Token, IsEven, now}
use Rattle.heap_gate.specs.Calls.{Does, Runs, Reveals, stance, with_prepared, begun_with, begins, begun_unlock, begins_unlock, HasEntered, HasTurnedBack, HasLocked, HasMissedGate, HasUnlocked}

pub on_ok : {A B : Type 0} (r : Result A B) (X Y : Type 0) → (X → Y) → OnOk r X → OnOk r Y
on_ok (Ok a) X Y f x = f x
on_ok (Err b) X Y f x = x

pub if_err : {A B : Type 0} (r : Result A B) (P Q : B → Type 0) → ((b : B) → P b → Q b) → IfErr r P → IfErr r Q
if_err (Ok a) P Q f x = x
if_err (Err b) P Q f x = f b x

---- The call that is under way then

pub pends_out : (c : Token) → c.pending ≡ true → (c.pending && for_some c.call is_lock_or_compact) ≡ false → for_some c.call is_lock_or_compact ≡ false
pends_out c e h = ap (λ (b : Bool). b && for_some c.call is_lock_or_compact) (sym e) ∙ h

pub pends_in : (c : Token) → c.pending ≡ true → (not c.pending || for_some c.call is_lock_or_compact) ≡ true → for_some c.call is_lock_or_compact ≡ true
pends_in c e h = ap (λ (b : Bool). not b || for_some c.call is_lock_or_compact) (sym e) ∙ h

begun_so : (c : Token) (call : Call) (b : Bool) → c.pending ≡ b → begun_with c call ≡ cond b c (with_prepared c (acts.Begin call))
begun_so c call b e = ap (λ (x : Bool). cond x c (with_prepared c (acts.Begin call))) e

pub starts_fresh : (c : Token) (call : Call) → IsEven c → (begun_with c call).fresh ≡ true
starts_fresh c call k = go c.pending refl
  where
    go : (b : Bool) → c.pending ≡ b → (begun_with c call).fresh ≡ true
    go true e = ap (λ (t : Token). t.fresh) (begun_so c call true e) ∙ (k.begun e).0
    go false e = ap (λ (t : Token). t.fresh) (begun_so c call false e)

pub starts : (c : Token) (call : Call) (t : Bool) → IsEven c → is_lock_or_compact call ≡ t → (c.pending ≡ true → for_some c.call is_lock_or_compact ≡ t) → (x : Call) × ((begun_with c call).call ≡ Some x) × (is_lock_or_compact x ≡ t)
starts c call t k e h = go c.pending refl
  where
    of_call : (o : Option Call) → is_some o ≡ true → for_some o is_lock_or_compact ≡ t → (x : Call) × (o ≡ Some x) × (is_lock_or_compact x ≡ t)
    of_call None y z = absurd (false≢true y)
    of_call (Some x) y z = (x, refl, z)

    go : (b : Bool) → c.pending ≡ b → (x : Call) × ((begun_with c call).call ≡ Some x) × (is_lock_or_compact x ≡ t)
    go true p = let x = of_call c.call (k.begun p).1 (h p) in (x.0, ap (λ (y : Token). y.call) (begun_so c call true p) ∙ x.1, x.2)
    go false p = (call, ap (λ (y : Token). y.call) (begun_so c call false p), e)

---- What the call tells of the caller before it had prepared its Begin

module _ (c new : Token) (act : Act) where
  abbrev begun : Bool → Token
  begun b = cond b c (with_prepared c act)

  abbrev more : Bool → List Entry
  more b = cond b [] (entry c.number act ∷ [])

  does_begun : (b : Bool) (es : List Entry) → Does (begun b) new es → Does c new (more b ++ es)
  does_begun true es x = x
  does_begun false es x = record {
    table = x.table;
    opening = x.opening;
    number = x.number;
    roll = x.roll;
    seen = x.seen;
    own = x.own ∙ ap (λ (l : List Entry). own c.number c.seen ++ l) (append_assoc c.prepared (entry c.number act ∷ []) es);
    prepared = x.prepared;
    legal = x.legal;
  }

module _ (c new : Token) (call : Call) where
  abbrev begun_so_far : Bool → Token
  begun_so_far b = cond b c (with_prepared c (acts.Begin call))

  abbrev with_begin : Bool → List Entry
  with_begin b = cond b [] (entry c.number (acts.Begin call) ∷ [])

  runs_begun : (b : Bool) (es : List Entry) → Runs (begun_so_far b) new es → Runs c new (with_begin b ++ es)
  runs_begun true es x = x
  runs_begun false es x = record {
    does = does_begun c new (acts.Begin call) false es x.does;
    agrees = λ s q. subst (λ (m : Configuration). AgreesFor c.number (now s new) (configuration_after s m es)) (after-append s (configuration_of s c.seen) c.prepared (entry c.number (acts.Begin call) ∷ [])) (x.agrees s q);
    hands = λ s q. x.hands s q ∙ ap (λ (m : Configuration). hands m.state c.number) (after-append s (configuration_of s c.seen) c.prepared (entry c.number (acts.Begin call) ∷ []));
  }

  reveals_begun : (b : Bool) (es : List Entry) → Reveals (begun_so_far b) new es → Reveals c new (with_begin b ++ es)
  reveals_begun true es x = x
  reveals_begun false es x = record {
    does = does_begun c new (acts.Begin call) false es x.does;
    agrees = λ s q. subst (λ (m : Configuration). AgreesFor c.number (now s new) (configuration_after s (revealed (now s new) m) es)) (after-append s (configuration_of s c.seen) c.prepared (entry c.number (acts.Begin call) ∷ [])) (x.agrees s q);
    hands = λ s q. x.hands s q ∙ ap (λ (m : Configuration). hands m.state c.number) (after-append s (configuration_of s c.seen) c.prepared (entry c.number (acts.Begin call) ∷ []));
  }

  pub entered_begun : (b : Bool) → c.pending ≡ b → HasEntered (begun_with c call) new (stance (begun_with c call)) (entry (begun_with c call).number acts.Enter ∷ []) → HasEntered c new (stance (begun_with c call)) (begins c call ++ entry c.number acts.Enter ∷ [])
  entered_begun b e = subst (λ (y : Bool). HasEntered (begun_so_far y) new (stance (begun_so_far y)) (entry (begun_so_far y).number acts.Enter ∷ []) → HasEntered c new (stance (begun_so_far y)) (with_begin y ++ entry c.number acts.Enter ∷ [])) (sym e) (go b)
    where
      go : (b : Bool) → HasEntered (begun_so_far b) new (stance (begun_so_far b)) (entry (begun_so_far b).number acts.Enter ∷ []) → HasEntered c new (stance (begun_so_far b)) (with_begin b ++ entry c.number acts.Enter ∷ [])
      go true x = x
      go false x = record { runs = runs_begun false (entry c.number acts.Enter ∷ []) x.runs; stands = x.stands }

  pub turned_begun : (b : Bool) → c.pending ≡ b → (what : What) (word : ℕ) → HasTurnedBack (begun_with c call) new (stance (begun_with c call)) what word (entry (begun_with c call).number (acts.Blocked whats.Gate word) ∷ entry (begun_with c call).number acts.Leave ∷ [])
      → HasTurnedBack c new (stance (begun_with c call)) what word (begins c call ++ entry c.number (acts.Blocked whats.Gate word) ∷ entry c.number acts.Leave ∷ [])
  turned_begun b e what word = subst (λ (y : Bool). HasTurnedBack (begun_so_far y) new (stance (begun_so_far y)) what word (entry (begun_so_far y).number (acts.Blocked whats.Gate word) ∷ entry (begun_so_far y).number acts.Leave ∷ []) → HasTurnedBack c new (stance (begun_so_far y)) what word (with_begin y ++ entry c.number (acts.Blocked whats.Gate word) ∷ entry c.number acts.Leave ∷ [])) (sym e) (go b)
    where
      go : (b : Bool) → HasTurnedBack (begun_so_far b) new (stance (begun_so_far b)) what word (entry (begun_so_far b).number (acts.Blocked whats.Gate word) ∷ entry (begun_so_far b).number acts.Leave ∷ []) → HasTurnedBack c new (stance (begun_so_far b)) what word (with_begin b ++ entry c.number (acts.Blocked whats.Gate word) ∷ entry c.number acts.Leave ∷ [])
      go true x = x
      go false x = record { gate = x.gate; names = x.names; runs = runs_begun false (entry c.number (acts.Blocked whats.Gate word) ∷ entry c.number acts.Leave ∷ []) x.runs; stands = x.stands }

  pub locked_begun : (b : Bool) → c.pending ≡ b → HasLocked (begun_with c call) new (stance (begun_with c call)) (entry (begun_with c call).number acts.Lock ∷ []) → HasLocked c new (stance (begun_with c call)) (begins c call ++ entry c.number acts.Lock ∷ [])
  locked_begun b e = subst (λ (y : Bool). HasLocked (begun_so_far y) new (stance (begun_so_far y)) (entry (begun_so_far y).number acts.Lock ∷ []) → HasLocked c new (stance (begun_so_far y)) (with_begin y ++ entry c.number acts.Lock ∷ [])) (sym e) (go b)
    where
      go : (b : Bool) → HasLocked (begun_so_far b) new (stance (begun_so_far b)) (entry (begun_so_far b).number acts.Lock ∷ []) → HasLocked c new (stance (begun_so_far b)) (with_begin b ++ entry c.number acts.Lock ∷ [])
      go true x = x
      go false x = record { reveals = reveals_begun false (entry c.number acts.Lock ∷ []) x.reveals; stands = x.stands }

  pub missed_begun : (b : Bool) → c.pending ≡ b → (what : What) (word : ℕ) → HasMissedGate (begun_with c call) new (stance (begun_with c call)) what word (entry (begun_with c call).number (acts.Blocked whats.Gate word) ∷ [])
      → HasMissedGate c new (stance (begun_with c call)) what word (begins c call ++ entry c.number (acts.Blocked whats.Gate word) ∷ [])
  missed_begun b e what word = subst (λ (y : Bool). HasMissedGate (begun_so_far y) new (stance (begun_so_far y)) what word (entry (begun_so_far y).number (acts.Blocked whats.Gate word) ∷ []) → HasMissedGate c new (stance (begun_so_far y)) what word (with_begin y ++ entry c.number (acts.Blocked whats.Gate word) ∷ [])) (sym e) (go b)
    where
      go : (b : Bool) → HasMissedGate (begun_so_far b) new (stance (begun_so_far b)) what word (entry (begun_so_far b).number (acts.Blocked whats.Gate word) ∷ []) → HasMissedGate c new (stance (begun_so_far b)) what word (with_begin b ++ entry c.number (acts.Blocked whats.Gate word) ∷ [])
      go true x = x
      go false x = record { gate = x.gate; word_is = x.word_is; runs = runs_begun false (entry c.number (acts.Blocked whats.Gate word) ∷ []) x.runs; stands = x.stands }

pub unlocked_begun : (within : Bool) (c new : Token) (b : Bool) → (c.pending || within) ≡ b → HasUnlocked (begun_unlock within c) new (stance (begun_unlock within c)) (entry (begun_unlock within c).number acts.Unlock ∷ []) → HasUnlocked c new (stance (begun_unlock within c)) (begins_unlock within c ++ entry c.number acts.Unlock ∷ [])
unlocked_begun within c new b e = subst (λ (y : Bool). HasUnlocked (begun_so_far c new calls.Unlock y) new (stance (begun_so_far c new calls.Unlock y)) (entry (begun_so_far c new calls.Unlock y).number acts.Unlock ∷ []) → HasUnlocked c new (stance (begun_so_far c new calls.Unlock y)) (with_begin c new calls.Unlock y ++ entry c.number acts.Unlock ∷ [])) (sym e) (go b)
  where
    go : (b : Bool) → HasUnlocked (begun_so_far c new calls.Unlock b) new (stance (begun_so_far c new calls.Unlock b)) (entry (begun_so_far c new calls.Unlock b).number acts.Unlock ∷ []) → HasUnlocked c new (stance (begun_so_far c new calls.Unlock b)) (with_begin c new calls.Unlock b ++ entry c.number acts.Unlock ∷ [])
    go true x = x
    go false x = record { runs = runs_begun c new calls.Unlock false (entry c.number acts.Unlock ∷ []) x.runs; stands = x.stands }
