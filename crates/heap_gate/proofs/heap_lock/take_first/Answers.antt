use Rattle.std.proofs.Common.{◌≡◌, [], ◌∷◌, ◌++◌, true, refl, sym, subst, Some}
use Rattle.heap_model.specs.declared.Act.TheVariants as acts
use Rattle.heap_model.specs.declared.Call.{Call}
use Rattle.heap_model.specs.declared.Call.TheVariants as calls
use Rattle.heap_model.specs.declared.What.TheVariants as whats
use Rattle.heap_model.specs.Legal.{is_lock_or_compact}
use Rattle.claim_rule.specs.Entries.{entry}
use Rattle.heap_gate.specs.Token.{Token}
use Rattle.heap_gate.specs.Calls.{HasLocked, HasMissedGate, begins, begun_with, stance}
use Rattle.heap_gate.proofs.Begun.{on_ok, if_err, starts, pends_in, locked_begun, missed_begun}
use Rattle.heap_gate.proofs.heap_lock.take_first.Goals as goal

pub take-requires-clause-call : goal.take-requires-clause-call
take-requires-clause-call g c =
    subst (λ (t : Token). (x : Call) × (t.call ≡ Some x) × (is_lock_or_compact x ≡ true)) (sym c.begin_if_none.ensures) (starts c.args.c.now calls.Lock true c.check.ensures.even refl (λ e. pends_in c.args.c.now e c.requires.pending))

pub returns-clause-ok : goal.returns-clause-ok
returns-clause-ok g c =
    let old = c.args.c.now in let new = c.take.new.c in let b = c.begin_if_none.new.c in
    on_ok c.take.result (HasLocked b new (stance b) (entry b.number acts.Lock ∷ [])) (HasLocked old new (stance (begun_with old calls.Lock)) (begins old calls.Lock ++ entry old.number acts.Lock ∷ []))
    (λ x. locked_begun old new calls.Lock old.pending refl (subst (λ (t : Token). HasLocked t new (stance t) (entry t.number acts.Lock ∷ [])) c.begin_if_none.ensures x)) c.take.ensures.ok

pub returns-clause-busy : goal.returns-clause-busy
returns-clause-busy g c =
    let old = c.args.c.now in let new = c.take.new.c in let b = c.begin_if_none.new.c in
    if_err c.take.result (λ e. HasMissedGate b new (stance b) e.what e.word (entry b.number (acts.Blocked whats.Gate e.word) ∷ []))
    (λ e. HasMissedGate old new (stance (begun_with old calls.Lock)) e.what e.word (begins old calls.Lock ++ entry old.number (acts.Blocked whats.Gate e.word) ∷ []))
    (λ e x. missed_begun old new calls.Lock old.pending refl e.what e.word (subst (λ (t : Token). HasMissedGate t new (stance t) e.what e.word (entry t.number (acts.Blocked whats.Gate e.word) ∷ [])) c.begin_if_none.ensures x)) c.take.ensures.busy
