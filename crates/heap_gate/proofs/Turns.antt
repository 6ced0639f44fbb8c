-- How often the list of a caller has a lock taken, and states of layers that have nothing.
use Rattle.std.proofs.Common.{◌≡◌, ℕ, ◌+◌, ◌==◌, Bool, true, false, List, [], ◌∷◌, ◌++◌, refl, sym, ap, ◌∙◌, subst, arith, inl, inr, eq-eqb, ne_eqb}
use Rattle.std.specs.List.{list_all}
use Rattle.std.proofs.lemmas.Bool.{cases_Bool, and_parts, eqb-true, false≢true}
use Rattle.heap_model.specs.declared.Act.{Act}
use Rattle.heap_model.specs.declared.Act.TheVariants as acts
use Rattle.heap_model.specs.declared.Call.TheVariants as calls
use Rattle.heap_model.specs.declared.Entry.{Entry}
use Rattle.heap_model.specs.declared.Kind.TheVariants as kinds
use Rattle.heap_model.specs.declared.Opening.{Opening}
use Rattle.heap_model.specs.declared.What.{What}
use Rattle.heap_model.specs.declared.What.TheVariants as whats
use Rattle.heap_model.specs.Geometry.{page_bytes}
use Rattle.heap_model.specs.Layers.{LayerState}
use Rattle.heap_model.specs.State.{State, BackPart, is_among, opening}
use Rattle.heap_model.specs.Ranges.{is_of_kind}
use Rattle.heap_model.specs.Legal.{leaves_whole, has_place}
use Rattle.heap_model.specs.History.{own}
use Rattle.claim_rule.specs.declared.views.Owed.{Owed}
use Rattle.claim_rule.specs.Entries.{entry}
use Rattle.claim_rule.specs.Home.{HasSlot, Tells}
use Rattle.claim_rule.proofs.Lists.{prefix_self, prefix_trans}
use Rattle.lock_steps.specs.Locks.{IsPaid, owed_with}
use Rattle.heap_gate.specs.Token.{HeapToken, Token}
use Rattle.heap_gate.specs.Calls.{Does, stance, HasEntered, HasTurnedBack, HasLeft, HasTaken, HasMissed, HasGiven, begun_with, begins}
use Rattle.heap_gate.specs.Roots.{is_of}
use Rattle.heap_gate.specs.Counts.{counted, IsSettled}
use Rattle.heap_gate.specs.Turns.{takes, TakesOn}
use Rattle.heap_gate.proofs.Counting.{counted-append, begins_is}

pub takes_on : (old new : Token) (es : List Entry) → old.prepared ≡ [] → Does old new es → TakesOn old new (counted takes es)
takes_on old new es none d = record {
  number = d.number;
  seen = d.seen;
  takes_are = ap (λ (n : ℕ). counted takes (own n new.seen)) d.number
      ∙ (ap (counted takes) d.own ∙ (ap (λ (p : List Entry). counted takes (own old.number old.seen ++ (p ++ es))) none ∙ counted-append takes (own old.number old.seen) es));
}

pub takes_trans : (a b c : Token) (k l : ℕ) → TakesOn a b k → TakesOn b c l → TakesOn a c (k + l)
takes_trans a b c k l x y = let p = x.takes_are in let q = y.takes_are in record { number = y.number ∙ x.number; seen = prefix_trans a.seen b.seen c.seen x.seen y.seen; takes_are = omega arith }

pub takes_none : (a : Token) → TakesOn a a 0
takes_none a = record { number = refl; seen = prefix_self a.seen; takes_are = omega arith }

---- Layers that have nothing

-- who has just taken a lock owes nothing of it
pub paid_taken : (what : What) (owes : List Owed) → HasSlot what → IsPaid what (owed_with what owes)
paid_taken whats.Vs owes h = tt
paid_taken whats.Back owes h = refl
paid_taken whats.Large owes h = tt
paid_taken whats.Gate owes h = absurd h
paid_taken whats.Lfh owes h = absurd h

pub nothing_left : (what : What) (o : Opening) (st : State) (t : LayerState) → HasSlot what → t.vs_spans ≡ [] → t.back ≡ opening.back → Tells what o st t → leaves_whole st what ≡ true
nothing_left whats.Vs o st t h e b k = ap (list_all (has_place page_bytes st.vs.places)) (sym k.spans ∙ e)
nothing_left whats.Back o st t h e b k = ap (λ (p : BackPart). list_all (has_place page_bytes st.back.places) (Rattle.std.specs.Prelude.filter (is_of_kind kinds.Back) p.area.spans)) (sym k.part ∙ b)
nothing_left whats.Large o st t h e b k = refl
nothing_left whats.Gate o st t h e b k = absurd h
nothing_left whats.Lfh o st t h e b k = absurd h

---- A turn

module _ (h : HeapToken) (old new : Token) (i : Bool) (k : IsSettled h old i) where
  -- another caller has the lock
  pub has_missed_turn : (what found : What) (word : ℕ) → HasMissed old new what found word → TakesOn old new 0
  has_missed_turn what found word x = takes_on old new (entry old.number (acts.Blocked what word) ∷ []) k.prepared x.runs.does

  -- the lock was taken and given back
  pub has_turned_lock : {T : Type 0} (tells : T → LayerState) (between : Token) (what : What) (state : T) → HasTaken tells old between what state → HasGiven between new what (entry between.number (acts.GiveLock what) ∷ []) → TakesOn old new 1
  has_turned_lock tells between what state x y =
      takes_trans old between new 1 0 (takes_on old between (entry old.number (acts.TakeLock what) ∷ []) k.prepared x.reveals.does) (takes_on between new (entry between.number (acts.GiveLock what) ∷ []) x.stands.prepared y.runs.does)

  pub entered_takes : HasEntered old new (stance (begun_with old calls.Stay)) (begins old calls.Stay ++ entry old.number acts.Enter ∷ []) → TakesOn old new 0
  entered_takes x = takes_on old new (entry old.number (acts.Begin calls.Stay) ∷ entry old.number acts.Enter ∷ []) k.prepared
      (subst (λ (b : List Entry). Does old new (b ++ entry old.number acts.Enter ∷ [])) (begins_is h old new i k calls.Stay) x.runs.does)

  pub turned_takes : (what : What) (word : ℕ) → HasTurnedBack old new (stance (begun_with old calls.Stay)) what word (begins old calls.Stay ++ entry old.number (acts.Blocked whats.Gate word) ∷ entry old.number acts.Leave ∷ []) → TakesOn old new 0
  turned_takes what word x = takes_on old new (entry old.number (acts.Begin calls.Stay) ∷ entry old.number (acts.Blocked whats.Gate word) ∷ entry old.number acts.Leave ∷ []) k.prepared
      (subst (λ (b : List Entry). Does old new (b ++ entry old.number (acts.Blocked whats.Gate word) ∷ entry old.number acts.Leave ∷ [])) (begins_is h old new i k calls.Stay) x.runs.does)

  pub left_takes : HasLeft old new (entry old.number acts.Leave ∷ []) → TakesOn old new 0
  left_takes x = takes_on old new (entry old.number acts.Leave ∷ []) k.prepared x.runs.does

pub takes_around : (a b c d : Token) (n : ℕ) → TakesOn a b 0 → TakesOn b c n → TakesOn c d 0 → TakesOn a d n
takes_around a b c d n x y z =
    let p = x.takes_are in let q = y.takes_are in let r = z.takes_are in
    record { number = z.number ∙ (y.number ∙ x.number); seen = prefix_trans a.seen b.seen d.seen x.seen (prefix_trans b.seen c.seen d.seen y.seen z.seen); takes_are = omega arith }

---- All that two callers have taken

-- a list whose entries are of a or of b
pub counted_by_two : (f : Act → ℕ) (a b : ℕ) (es : List Entry) → (a ≡ b → ⊥) → is_of (b ∷ a ∷ []) es ≡ true → counted f es ≡ counted f (own a es) + counted f (own b es)
counted_by_two f a b [] apart h = refl
counted_by_two f a b (e ∷ es) apart h =
    let p = and_parts (is_among e.caller (b ∷ a ∷ [])) (is_of (b ∷ a ∷ []) es) h in
    let rest = counted_by_two f a b es apart p.1 in
    elim (cases_Bool (e.caller == a)) [
      | inl t ↦
          let other : (e.caller == b) ≡ false = ne_eqb e.caller b (λ x. apart (sym (eqb-true e.caller a t) ∙ x)) in
          rw (t, other) (let g = rest in omega arith)
      | inr t ↦
          let is : (e.caller == b) ≡ true = of_b e.caller p.0 t in
          rw (t, is) (let g = rest in omega arith)
    ]
  where
    of_b : (n : ℕ) → is_among n (b ∷ a ∷ []) ≡ true → (n == a) ≡ false → (n == b) ≡ true
    of_b n m t = elim (cases_Bool (n == b)) [
      | inl y ↦ y
      | inr y ↦
          let x : (b == n) ≡ false = ne_eqb b n (λ z. false≢true (sym y ∙ eq-eqb n b (sym z))) in
          let w : (a == n) ≡ false = ne_eqb a n (λ z. false≢true (sym t ∙ eq-eqb n a (sym z))) in
          absurd (false≢true (rw (x, w) at m))
    ]
