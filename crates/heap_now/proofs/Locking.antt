-- The heap lock, from what a caller does at the gate.
use Rattle.std.proofs.Common.{◌≡◌, ◌≢◌, ℕ, zero, suc, ◌+◌, ◌-◌, Bool, true, false, cond, List, [], ◌∷◌, ◌++◌, refl, sym, ap, ◌∙◌, subst, arith}
use Rattle.std.specs.Prelude.{Result, Ok, Err, OnOk, OnErr, IfErr}
use Rattle.heap_model.specs.declared.Act.{Act}
use Rattle.heap_model.specs.declared.Act.TheVariants as acts
use Rattle.heap_model.specs.declared.Call.{Call}
use Rattle.heap_model.specs.declared.Call.TheVariants as calls
use Rattle.heap_model.specs.declared.Entry.{Entry}
use Rattle.heap_model.specs.declared.LockNo.{LockNo}
use Rattle.heap_model.specs.declared.LockNo.TheVariants as lock_nos
use Rattle.heap_model.specs.declared.Reply.TheVariants as replies
use Rattle.heap_model.specs.declared.What.{What}
use Rattle.heap_model.specs.declared.What.TheVariants as whats
use Rattle.heap_model.specs.History.{own}
use Rattle.heap_model.specs.Shape.{Answer, Replied, WasBusy, HasActs, shape_of}
use Rattle.call_laws.specs.Within.{by_all}
use Rattle.claim_rule.specs.Entries.{entry}
use Rattle.heap_gate.specs.Token.{HeapToken, Token}
use Rattle.heap_gate.specs.Calls.{Does, Stance, Stands, stance, with_prepared, with_depth, begins, begun_with, IsRefusedLock, IsDeeper, IsShallower}
use Rattle.call_parts.proofs.Joining.{goes_does}
use Rattle.call_parts.proofs.Serving.{answers, none_begins}
use Rattle.heap_now.specs.Calls.{IsReady, IsCallerOf, Gets}
use Rattle.heap_now.specs.Locks.{IsLockedMore, IsLockedLess, IsNotLocked}
use Rattle.heap_now.proofs.Frames.{was_busy}

-- a step tells nothing of the depth
does_at : (a b : Token) (d : ℕ) (es : List Entry) → Does a b es → Does a (with_depth b d) es
does_at a b d es x = record { table = x.table; opening = x.opening; number = x.number; roll = x.roll; seen = x.seen; own = x.own; prepared = x.prepared; legal = x.legal }

-- The caller stands outside with nothing, as before.
ready_at : (a b : Token) (x : Stance) → IsReady a → Stands b x → x.inside ≡ a.inside → x.out ≡ a.out → x.free ≡ a.free → x.owes ≡ a.owes → IsReady b
ready_at a b x r s i o f w = record {
  ready = record { outside = s.inside ∙ (i ∙ r.ready.outside); out = s.out ∙ (o ∙ r.ready.out); free = s.free ∙ (f ∙ r.ready.free); whole = s.whole; pending = s.pending; prepared = s.prepared };
  owes = s.owes ∙ (w ∙ r.owes);
}

ready_with : (a : Token) (d : ℕ) → IsReady a → IsReady (with_depth a d)
ready_with a d r = record {
  ready = record { outside = r.ready.outside; out = r.ready.out; free = r.ready.free; whole = r.ready.whole; pending = r.ready.pending; prepared = r.ready.prepared };
  owes = r.owes;
}

-- A call of one own act, but for the depth.
called : (a b : Token) (call : Call) (answer : Answer) (rest : List Act) → IsReady a → Does a b (by_all a.number (acts.Begin call ∷ rest)) → none_begins rest ≡ true → HasActs call answer (shape_of rest) → IsReady b
    → Gets a (with_depth b a.depth) call answer
called a b call answer rest r x nb told rb =
    let b' = with_depth b a.depth in
    record {
      rest = rest;
      answers = answers a b' call answer rest r.ready (goes_does a b' (acts.Begin call ∷ rest) (does_at a b a.depth (by_all a.number (acts.Begin call ∷ rest)) x) refl) nb told x.legal (ready_with b a.depth rb).ready;
      owes = rb.owes;
    }

module _ (a b : Token) (r : IsReady a) where
  begins_it : (call : Call) → begins a call ≡ entry a.number (acts.Begin call) ∷ []
  begins_it call = ap (λ (p : Bool). cond p [] (entry a.number (acts.Begin call) ∷ [])) r.ready.pending

  begun_it : (call : Call) → begun_with a call ≡ with_prepared a (acts.Begin call)
  begun_it call = ap (λ (p : Bool). cond p a (with_prepared a (acts.Begin call))) r.ready.pending

  ---- Taken

  pub locked_more : IsDeeper a b → IsLockedMore a b
  locked_more x = by_depth a.depth refl
    where
      by_depth : (d : ℕ) → a.depth ≡ d → IsLockedMore a b
      by_depth zero e =
          let f = x.first e in
          let d = subst (λ (l : List Entry). Does a b (l ++ entry a.number acts.Lock ∷ [])) (begins_it calls.Lock) f.reveals.does in
          let s = subst (λ (t : Token). Stands b (record (stance t) { locked = true; depth = 1 })) (begun_it calls.Lock) f.stands in
          let rb = ready_at a b (record (stance (with_prepared a (acts.Begin calls.Lock))) { locked = true; depth = 1 }) r s refl refl refl refl in
          record {
            table = d.table;
            opening = d.opening;
            depth = s.depth ∙ ap (λ (n : ℕ). n + 1) (sym e);
            few = omega (arith, e);
            first = λ z. subst (λ (n : ℕ). Gets a (with_depth b n) calls.Lock (Replied replies.Done)) e (called a b calls.Lock (Replied replies.Done) (acts.Lock ∷ []) r d refl tt rb);
            again = λ no. absurd (no e);
            ready = rb;
          }
      by_depth (suc n) e =
          let more : a.depth ≢ 0 = λ z. let no : ⊥ = omega (arith, e, z) in no in
          let y = x.again more in
          record {
            table = ap (λ (t : Token). t.table) y.1;
            opening = ap (λ (t : Token). t.opening) y.1;
            depth = ap (λ (t : Token). t.depth) y.1;
            few = y.0;
            first = λ z. absurd (more z);
            again = λ no. y.1;
            ready = subst IsReady (sym y.1) (ready_with a (a.depth + 1) r);
          }

  pub not_locked : (no : LockNo) → IsRefusedLock a b no → IsNotLocked a b no
  not_locked lock_nos.Depth x = x
  not_locked (lock_nos.Busy busy) x =
      let y = x.1 in
      let d = subst (λ (l : List Entry). Does a b (l ++ entry a.number (acts.Blocked whats.Gate busy.word) ∷ [])) (begins_it calls.Lock) y.runs.does in
      let s = subst (λ (t : Token). Stands b (stance t)) (begun_it calls.Lock) y.stands in
      let rb = ready_at a b (stance (with_prepared a (acts.Begin calls.Lock))) r s refl refl refl refl in
      let told : HasActs calls.Lock (WasBusy busy) (acts.Blocked whats.Gate busy.word ∷ []) = subst (λ (w : What). HasActs calls.Lock (WasBusy busy) (acts.Blocked w busy.word ∷ [])) y.gate (was_busy calls.Lock busy) in
      let rest : List Act = acts.Blocked whats.Gate busy.word ∷ [] in
      let got : Gets a b calls.Lock (WasBusy busy) = record {
        rest = rest;
        answers = answers a b calls.Lock (WasBusy busy) rest r.ready (goes_does a b (acts.Begin calls.Lock ∷ rest) d s.depth) refl told y.runs.does.legal rb.ready;
        owes = rb.owes;
      } in
      (x.0, got, y.gate, y.word_is)

  ---- Given back

  -- with its Begin prepared
  pub unlocked_last : a.depth ≡ 1 → IsShallower false (with_prepared a (acts.Begin calls.Unlock)) b → IsLockedLess a b
  unlocked_last e x =
      let u = x.last e in
      let t = with_prepared a (acts.Begin calls.Unlock) in
      let d : Does a b (by_all a.number (acts.Begin calls.Unlock ∷ acts.Unlock ∷ [])) = record {
        table = u.runs.does.table;
        opening = u.runs.does.opening;
        number = u.runs.does.number;
        roll = u.runs.does.roll;
        seen = u.runs.does.seen;
        own =
            u.runs.does.own
            ∙ (ap (λ (ps : List Entry). own a.number a.seen ++ ((ps ++ entry a.number (acts.Begin calls.Unlock) ∷ []) ++ entry a.number acts.Unlock ∷ [])) r.ready.prepared
            ∙ ap (λ (ps : List Entry). own a.number a.seen ++ (ps ++ (entry a.number (acts.Begin calls.Unlock) ∷ entry a.number acts.Unlock ∷ []))) (sym r.ready.prepared));
        prepared = u.runs.does.prepared;
        legal = u.runs.does.legal;
      } in
      let rb = ready_at a b (record (stance t) { depth = 0 }) r u.stands refl refl refl refl in
      record {
        table = d.table;
        opening = d.opening;
        owned = λ z. let no : ⊥ = omega (arith, e, z) in no;
        depth = u.stands.depth ∙ ap (λ (n : ℕ). n - 1) (sym e);
        last = λ z. subst (λ (n : ℕ). Gets a (with_depth b n) calls.Unlock (Replied replies.Done)) e (called a b calls.Unlock (Replied replies.Done) (acts.Unlock ∷ []) r d refl tt rb);
        again = λ no. absurd (no e);
        ready = rb;
      }

  pub unlocked_more : a.depth ≢ 1 → IsShallower false a b → IsLockedLess a b
  unlocked_more more x =
      let y = x.again more in
      record {
        table = ap (λ (t : Token). t.table) y;
        opening = ap (λ (t : Token). t.opening) y;
        owned = x.owned;
        depth = ap (λ (t : Token). t.depth) y;
        last = λ z. absurd (more z);
        again = λ no. y;
        ready = subst IsReady (sym y) (ready_with a (a.depth - 1) r);
      }

  pub given_last : {A B : Type 0} (q : Result A B) → a.depth ≡ 1 → OnOk q (IsShallower false (with_prepared a (acts.Begin calls.Unlock)) b) → OnErr q (((with_prepared a (acts.Begin calls.Unlock)).depth ≡ 0) × (b ≡ with_prepared a (acts.Begin calls.Unlock))) → IsLockedLess a b
  given_last (Ok u) e x y = unlocked_last e x
  given_last (Err n) e x y = absurd (let z : a.depth ≡ 0 = y.0 in let no : ⊥ = omega (arith, e, z) in no)

---- Between calls

more_again : (h : HeapToken) (a b : Token) → IsCallerOf h a → IsLockedMore a b → IsCallerOf h b
more_again h a b k x = record { table = x.table ∙ k.table; opening = x.opening ∙ k.opening; is_ready = x.ready }

pub locked_again : {A : Type 0} (h : HeapToken) (a b : Token) (q : Result A LockNo) → IsCallerOf h a → OnOk q (IsLockedMore a b) → IfErr q (λ no. IsNotLocked a b no) → IsCallerOf h b
locked_again h a b (Ok u) k x y = more_again h a b k x
locked_again h a b (Err lock_nos.Depth) k x y = subst (IsCallerOf h) (sym y.1) k
locked_again h a b (Err (lock_nos.Busy busy)) k x y =
    let g = y.1 in
    record { table = g.answers.table ∙ k.table; opening = g.answers.opening ∙ k.opening; is_ready = record { ready = g.answers.ready; owes = g.owes } }

pub unlocked_again : {A B : Type 0} (h : HeapToken) (a b : Token) (q : Result A B) → IsCallerOf h a → OnOk q (IsLockedLess a b) → OnErr q ((a.depth ≡ 0) × (b ≡ a)) → IsCallerOf h b
unlocked_again h a b (Ok u) k x y = record { table = x.table ∙ k.table; opening = x.opening ∙ k.opening; is_ready = x.ready }
unlocked_again h a b (Err n) k x y = subst (IsCallerOf h) (sym y.1) k
