-- Calls that take no lock, since the subsegment of their block was seen tagged.
use Rattle.std.proofs.Common.{◌≡◌, ℕ, ◌+◌, ◌/◌, Bool, true, false, not, ◌&&◌, List, [], ◌∷◌, ◌++◌, length, drop, Option, Some, None, refl, sym, ap, ◌∙◌, subst, inl, inr, eqb, eq-eqb, append_assoc}
use Rattle.std.specs.Prelude.{Result, Ok, Err}
use Rattle.std.specs.List.{list_all}
use mathlib.Core.List.{IsPrefix}
use Rattle.std.proofs.lemmas.Bool.{cases_Bool, and_from, and_parts}
use Rattle.std.proofs.lemmas.List.{append-nil}
use Rattle.std.proofs.Math.Seq.{drop-append_seam}
use Rattle.heap_model.specs.declared.Act.{Act}
use Rattle.heap_model.specs.declared.Act.TheVariants as acts
use Rattle.heap_model.specs.declared.Busy.{Busy}
use Rattle.heap_model.specs.declared.Call.{Call}
use Rattle.heap_model.specs.declared.Entry.{Entry}
use Rattle.heap_model.specs.declared.Reply.{Reply}
use Rattle.heap_model.specs.declared.What.{What}
use Rattle.heap_model.specs.declared.What.TheVariants as whats
use Rattle.heap_model.specs.declared.WordNo.{WordNo}
use Rattle.heap_model.specs.declared.WordNo.TheVariants as word_nos
use Rattle.heap_model.specs.Shape.{Answer, Replied, WasBusy}
use Rattle.heap_model.specs.State.{Setting, is_among, is_entered}
use Rattle.heap_model.specs.CallState.{Configuration}
use Rattle.heap_model.specs.Legal.{may_follow, after}
use Rattle.heap_model.specs.History.{configuration_after, configuration_of, first_configuration, may_all_follow, own}
use Rattle.heap_model.proofs.GateSound.{row_of, gate_sound_act, gate_sound_after, gate_sound_first}
use Rattle.claim_rule.specs.Entries.{IsSettingOf, entry, setting_of}
use Rattle.claim_rule.proofs.Advance.{some_setting}
use Rattle.claim_rule.proofs.Lists.{after-append, follow_parts, legal_parts, own-append, prefix_trans}
use Rattle.heap_gate.specs.Token.{Token}
use Rattle.heap_gate.specs.Calls.{with_prepared, stance, HasTurnedBack}
use Rattle.call_laws.specs.Within.{by_all}
use Rattle.call_parts.specs.Calls.{GoesOn}
use Rattle.call_parts.proofs.Joining.{goes_prepared, goes_does, goes_then}
use Rattle.front_calls.specs.Parts as fronts
use Rattle.address_calls.specs.Tagged.{all_leave_span, HasTagged, KnowsTag, MeasuresAtOnce, DropsAtOnce}
use Rattle.address_calls.proofs.TaggedLists.{in_segments, tagged_behind, tagged_through, tagged_stays}
use Rattle.heap_now.specs.Calls.{IsReady, HasBegun, HasGone, ServesWith}
use Rattle.heap_now.specs.Tagged.{needs_no_lock, TakesNoLock, is_enter, until_enter, since, IsSeenTagged}
use Rattle.heap_now.specs.Words.{LoadsWord, StoresWord, get_answer, put_answer}

---- Own acts without a lock

record Unlocked (old new : Token) : Type 0 where
  pub added : List Act
  pub goes : GoesOn old new added
  pub no_lock : list_all needs_no_lock added ≡ true

none_needed-append : (xs ys : List Act) → list_all needs_no_lock xs ≡ true → list_all needs_no_lock ys ≡ true → list_all needs_no_lock (xs ++ ys) ≡ true
none_needed-append [] ys h k = k
none_needed-append (x ∷ xs) ys h k =
    let p = and_parts (needs_no_lock x) (list_all needs_no_lock xs) h in
    and_from (needs_no_lock x) (list_all needs_no_lock (xs ++ ys)) p.0 (none_needed-append xs ys p.1 k)

unlocked_then : (a b c : Token) → Unlocked a b → Unlocked b c → Unlocked a c
unlocked_then a b c x y = record { added = x.added ++ y.added; goes = goes_then a b c x.added y.added x.goes y.goes; no_lock = none_needed-append x.added y.added x.no_lock y.no_lock }

replied : (a b : Token) (reply : Reply) → Unlocked a b → TakesNoLock a b (Replied reply)
replied a b reply x = record { added = x.added; goes = x.goes; no_lock = x.no_lock; busy = λ w e. absurd (let no : ⊥ = cc (e) in no) }

-- a part of the front end
by_front : (b d : Token) (call : Call) (rest : List Act) → b.call ≡ Some call → list_all needs_no_lock rest ≡ true → fronts.GoesBy b d rest → Unlocked b d
by_front b d call rest e h f = let j = f call e in record { added = j.makes.added; goes = j.makes.goes; no_lock = ap (list_all needs_no_lock) j.just ∙ h }

measured : (b d : Token) (call : Call) (addr : ℕ) (told : Option ℕ) → b.call ≡ Some call → fronts.Measures b d addr told → Unlocked b d
measured b d call addr (Some size) e f = by_front b d call (acts.Sized addr size ∷ []) e refl f
measured b d call addr None e f = by_front b d call (acts.NotLive addr ∷ []) e refl f

dropped : (b d : Token) (call : Call) (addr : ℕ) (did : Bool) → b.call ≡ Some call → fronts.Drops b d addr did → Unlocked b d
dropped b d call addr true e f = by_front b d call (acts.Take addr f.0 ∷ acts.Drop addr ∷ []) e refl f.1
dropped b d call addr false e f = by_front b d call (acts.NotLive addr ∷ []) e refl f

---- The parts of the calls

-- the answer is a reply where the part told one
pub measured_free : (b d : Token) (call : Call) (addr : ℕ) (r : Result (Option ℕ) Busy) (reply : Reply) → b.call ≡ Some call → MeasuresAtOnce b d addr r → TakesNoLock b d (Replied reply)
measured_free b d call addr (Ok told) reply e f = replied b d reply (measured b d call addr told e f)
measured_free b d call addr (Err w) reply e f = absurd f

-- .. and is not Busy
pub never_busy : (b d : Token) (addr : ℕ) (r : Result (Option ℕ) Busy) (w : Busy) (answer : Answer) → r ≡ Err w → MeasuresAtOnce b d addr r → TakesNoLock b d answer
never_busy b d addr r w answer e f = absurd (subst (MeasuresAtOnce b d addr) e f)

pub dropped_free : (b d : Token) (call : Call) (addr : ℕ) (r : Result Bool Busy) (reply : Reply) → b.call ≡ Some call → DropsAtOnce b d addr r → TakesNoLock b d (Replied reply)
dropped_free b d call addr (Ok did) reply e f = replied b d reply (dropped b d call addr did e f)
dropped_free b d call addr (Err w) reply e f = absurd f

pub drops_never_busy : (b d : Token) (addr : ℕ) (r : Result Bool Busy) (w : Busy) (answer : Answer) → r ≡ Err w → DropsAtOnce b d addr r → TakesNoLock b d answer
drops_never_busy b d addr r w answer e f = absurd (subst (DropsAtOnce b d addr) e f)

-- a word behind the size
pub loaded_free : (b d e : Token) (call : Call) (addr index size : ℕ) (r : Result (Option ℕ) Busy) (word : Result ℕ WordNo) → b.call ≡ Some call → MeasuresAtOnce b d addr r → LoadsWord d e addr index size word → TakesNoLock b e (get_answer word)
loaded_free b d e call addr index size (Err w) word is f x = absurd f
loaded_free b d e call addr index size (Ok told) (Ok value) is f x =
    replied b e _ (unlocked_then b d e (measured b d call addr told is f) (record { added = acts.Load (addr / 8 + index) value ∷ []; goes = x.1.goes; no_lock = refl }))
loaded_free b d e call addr index size (Ok told) (Err (word_nos.Past words)) is f x = replied b e _ (subst (Unlocked b) (sym x.nothing) (measured b d call addr told is f))
loaded_free b d e call addr index size (Ok told) (Err word_nos.NotLive) is f x = absurd x
loaded_free b d e call addr index size (Ok told) (Err (word_nos.Busy w)) is f x = absurd x

pub stored_free : {A : Type 0} (b d e : Token) (call : Call) (addr index size value : ℕ) (r : Result (Option ℕ) Busy) (word : Result A WordNo) → b.call ≡ Some call → MeasuresAtOnce b d addr r → StoresWord d e addr index size value word
    → TakesNoLock b e (put_answer word)
stored_free b d e call addr index size value (Err w) word is f x = absurd f
stored_free b d e call addr index size value (Ok told) (Ok done) is f x =
    replied b e _ (unlocked_then b d e (measured b d call addr told is f) (record { added = acts.Store (addr / 8 + index) value ∷ []; goes = x.1.goes; no_lock = refl }))
stored_free b d e call addr index size value (Ok told) (Err (word_nos.Past words)) is f x = replied b e _ (subst (Unlocked b) (sym x.nothing) (measured b d call addr told is f))
stored_free b d e call addr index size value (Ok told) (Err word_nos.NotLive) is f x = absurd x
stored_free b d e call addr index size value (Ok told) (Err (word_nos.Busy w)) is f x = absurd x

---- The whole call

-- from its Begin until it has left
pub free_call : (a b d e : Token) (call : Call) (answer : Answer) → HasBegun a b call → TakesNoLock b d answer → HasGone d e → TakesNoLock a e answer
free_call a b d e call answer g x l =
    let first : Unlocked a b = record { added = acts.Begin call ∷ acts.Enter ∷ []; goes = g.goes; no_lock = refl } in
    let last : Unlocked d e = record { added = acts.Leave ∷ []; goes = l.goes; no_lock = refl } in
    let all = unlocked_then a b e first (unlocked_then b d e (record { added = x.added; goes = x.goes; no_lock = x.no_lock }) last) in
    record { added = all.added; goes = all.goes; no_lock = all.no_lock; busy = x.busy }

-- .. or has turned back
pub free_turn : (a b : Token) (call : Call) (busy : Busy) → HasTurnedBack (with_prepared a (acts.Begin call)) b (stance (with_prepared a (acts.Begin call))) busy.what busy.word (entry a.number (acts.Blocked whats.Gate busy.word) ∷ entry a.number acts.Leave ∷ [])
    → TakesNoLock a b (WasBusy busy)
free_turn a b call busy x =
    let begun = with_prepared a (acts.Begin call) in
    let rest : List Act = acts.Blocked whats.Gate busy.word ∷ acts.Leave ∷ [] in
    record {
      added = acts.Begin call ∷ rest;
      goes = goes_then a begun b (acts.Begin call ∷ []) rest (goes_prepared a (acts.Begin call)) (goes_does begun b rest x.runs.does x.stands.depth);
      no_lock = refl;
      busy = λ w e. let same : busy ≡ w = cc (e) in subst (λ (z : Busy). z.what ≡ whats.Gate) same x.gate;
    }

---- What was seen tagged at the start is known inside

-- a list of entries, among which n enters once
record Entering (n : ℕ) (xs : List Entry) : Type 0 where
  pub first : List Entry
  pub later : List Entry
  pub list_is : xs ≡ first ++ entry n acts.Enter ∷ later
  pub others : own n later ≡ []
  pub until : (zs : List Entry) → until_enter n (xs ++ zs) ≡ first

passed : (n : ℕ) (e : Entry) (xs : List Entry) → (eqb e.caller n && is_enter e.act) ≡ false → Entering n xs → Entering n (e ∷ xs)
passed n e xs h r = record { first = e ∷ r.first; later = r.later; list_is = ap (λ (l : List Entry). e ∷ l) r.list_is; others = r.others; until = λ zs. rw h (ap (λ (l : List Entry). e ∷ l) (r.until zs)) }

enters_once : (n : ℕ) (xs : List Entry) → own n xs ≡ entry n acts.Enter ∷ [] → Entering n xs
enters_once n [] h = absurd (let no : ⊥ = cc (h) in no)
enters_once n (e ∷ xs) h = elim (cases_Bool (eqb e.caller n)) [
  | inl f ↦
      let k : e ∷ own n xs ≡ entry n acts.Enter ∷ [] = (rw f at h) in
      let is : e ≡ entry n acts.Enter = cc (k) in
      let rest : own n xs ≡ [] = cc (k) in
      let here : (eqb e.caller n && is_enter e.act) ≡ true = subst (λ (z : Entry). (eqb z.caller n && is_enter z.act) ≡ true) (sym is) (and_from (eqb n n) true (eq-eqb n n refl) refl) in
      record { first = []; later = xs; list_is = ap (λ (z : Entry). z ∷ xs) is; others = rest; until = λ zs. rw here refl }
  | inr f ↦ passed n e xs (rw f refl) (enters_once n xs (rw f at h))
]

begins_and_enters : (n : ℕ) (call : Call) (xs : List Entry) → own n xs ≡ entry n (acts.Begin call) ∷ entry n acts.Enter ∷ [] → Entering n xs
begins_and_enters n call [] h = absurd (let no : ⊥ = cc (h) in no)
begins_and_enters n call (e ∷ xs) h = elim (cases_Bool (eqb e.caller n)) [
  | inl f ↦
      let k : e ∷ own n xs ≡ entry n (acts.Begin call) ∷ entry n acts.Enter ∷ [] = (rw f at h) in
      let is : e ≡ entry n (acts.Begin call) = cc (k) in
      let rest : own n xs ≡ entry n acts.Enter ∷ [] = cc (k) in
      let no : is_enter e.act ≡ false = ap (λ (z : Entry). is_enter z.act) is in
      passed n e xs (rw (f, no) refl) (enters_once n xs rest)
  | inr f ↦ passed n e xs (rw f refl) (begins_and_enters n call xs (rw f at h))
]

cancelled : (xs ys zs : List Entry) → xs ++ ys ≡ xs ++ zs → ys ≡ zs
cancelled [] ys zs e = e
cancelled (x ∷ xs) ys zs e = cancelled xs ys zs (cc (e))

-- behind its Enter n is inside
inside_now : (s : Setting) (m : Configuration) (n : ℕ) → may_follow s m (entry n acts.Enter) ≡ true → is_entered (after s m (entry n acts.Enter)).state.gate n ≡ true
inside_now s m n h =
    let r = row_of s m (entry n acts.Enter) h in
    let p = and_parts _ _ (and_parts _ _ r).0 in
    let out = (and_parts _ (not (is_among n m.state.gate.turning)) p.0).1 in
    and_from (is_among n (n ∷ m.state.gate.counted)) (not (is_among n m.state.gate.turning)) (let e = eq-eqb n n refl in rw e refl) out

module _ (a b e : Token) (addr : ℕ) (call : Call) (ready : IsReady a) (g : HasBegun a b call) (more : IsPrefix b.seen e.seen) (t : IsSeenTagged a e addr) where
  abbrev between : List Entry
  between = g.goes.seen.0

  abbrev page : ℕ
  page = addr / 4096

  own_is : own a.number between ≡ entry a.number (acts.Begin call) ∷ entry a.number acts.Enter ∷ []
  own_is =
      let all : own b.number b.seen ≡ own a.number a.seen ++ by_all a.number (acts.Begin call ∷ acts.Enter ∷ []) =
      sym (append-nil (own b.number b.seen)) ∙ (ap (λ (l : List Entry). own b.number b.seen ++ l) (sym g.serving.prepared)
      ∙ (g.goes.own ∙ (ap (λ (l : List Entry). (own a.number a.seen ++ l) ++ by_all a.number (acts.Begin call ∷ acts.Enter ∷ [])) ready.ready.prepared
      ∙ ap (λ (l : List Entry). l ++ by_all a.number (acts.Begin call ∷ acts.Enter ∷ [])) (append-nil (own a.number a.seen))))) in
      cancelled (own a.number a.seen) (own a.number between) (by_all a.number (acts.Begin call ∷ acts.Enter ∷ []))
      (sym (own-append a.number a.seen between) ∙ (ap (own a.number) g.goes.seen.1 ∙ (ap (λ (n : ℕ). own n b.seen) (sym g.goes.number) ∙ all)))

  enters : Entering a.number between
  enters = begins_and_enters a.number call between own_is

  -- what came before the Enter did not end the subsegment
  stays : all_leave_span t.span.first enters.first ≡ true
  stays =
      let is : since a e ≡ between ++ more.0 =
      ap (drop (length a.seen)) (sym more.1 ∙ (ap (λ (l : List Entry). l ++ more.0) (sym g.goes.seen.1) ∙ append_assoc a.seen between more.0)) ∙ drop-append_seam a.seen (between ++ more.0) in
      ap (all_leave_span t.span.first) (sym (enters.until more.0) ∙ ap (until_enter a.number) (sym is)) ∙ t.stays

  module _ (s : Setting) (q : IsSettingOf b.opening b.roll s) where
    legal : may_all_follow s first_configuration (a.seen ++ between) ≡ true
    legal = ap (may_all_follow s first_configuration) g.goes.seen.1 ∙ (legal_parts s b.seen (g.legal s q)).0

    parts : (may_all_follow s first_configuration a.seen ≡ true) × (may_all_follow s (configuration_of s a.seen) between ≡ true)
    parts = follow_parts s first_configuration a.seen between legal

    known : HasTagged (configuration_of s b.seen) page t.span
    known =
        let n = a.number in
        let m0 : Configuration = configuration_of s a.seen in
        let enter : Entry = entry n acts.Enter in
        let p1 = follow_parts s m0 enters.first (enter ∷ enters.later) (ap (may_all_follow s m0) (sym enters.list_is) ∙ parts.1) in
        let m1 : Configuration = configuration_after s m0 enters.first in
        let p2 = and_parts (may_follow s m1 enter) (may_all_follow s (after s m1 enter) enters.later) p1.1 in
        let t0 = tagged_behind s a.seen t.span page parts.0 t.tagged t.has_page in
        let t1 = tagged_through s m0 enters.first page t.span p1.0 stays t0 in
        let t2 = tagged_through s m1 (enter ∷ []) page t.span (and_from (may_follow s m1 enter) true p2.0 refl) refl t1 in
        let g0 = gate_sound_after s first_configuration a.seen parts.0 gate_sound_first in
        let g1 = gate_sound_after s m0 enters.first p1.0 g0 in
        let g2 = gate_sound_act s m1 n acts.Enter (row_of s m1 enter p2.0) g1 in
        let t3 = tagged_stays s (after s m1 enter) n enters.later page t.span g2 (inside_now s m1 n p2.0) p2.1 enters.others t2 in
        let is : configuration_after s (after s m1 enter) enters.later ≡ configuration_of s b.seen =
        sym (after-append s m0 enters.first (enter ∷ enters.later)) ∙ (ap (configuration_after s m0) (sym enters.list_is)
        ∙ (sym (after-append s first_configuration a.seen between) ∙ ap (configuration_of s) g.goes.seen.1)) in
        subst (λ (m : Configuration). HasTagged m page t.span) is t3

  pub known_inside : KnowsTag b addr
  known_inside = record {
    span = t.span;
    below =
        let s = setting_of b.opening b.roll in
        in_segments s a.seen t.span page (parts s (some_setting b.opening b.roll)).0 t.tagged t.has_page;
    tagged = λ s q. subst (λ (l : List Entry). HasTagged (configuration_after s (configuration_of s b.seen) l) page t.span) (sym g.serving.prepared) (known s q);
  }

-- a part goes on from what had been seen
seen_on : (May : What → Type 0) (b d : Token) (call : Call) (answer : Answer) → ServesWith May b d call answer → IsPrefix b.seen d.seen
seen_on May b d call (Replied reply) x = x.1.goes.seen
seen_on May b d call (WasBusy busy) x = x.0.made.goes.seen

-- The call as a whole, from a part that takes no lock where the tag is known.
pub tagged_call : (May : What → Type 0) (a b d e : Token) (addr : ℕ) (call : Call) (answer : Answer) → IsReady a → HasBegun a b call → ServesWith May b d call answer → (KnowsTag b addr → TakesNoLock b d answer) → HasGone d e
    → IsSeenTagged a e addr → TakesNoLock a e answer
tagged_call May a b d e addr call answer ready g x part l t =
    let seen = prefix_trans b.seen d.seen e.seen (seen_on May b d call answer x) l.goes.seen in
    free_call a b d e call answer g (part (known_inside a b e addr call ready g seen t)) l
