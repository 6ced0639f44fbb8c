use Rattle.std.proofs.Common.{◌≡◌, [], ◌∷◌, ◌++◌, true, false, refl, sym, subst, Some}
use Rattle.heap_model.specs.declared.Act.TheVariants as acts
use Rattle.heap_model.specs.declared.Call.{Call}
use Rattle.heap_model.specs.declared.Call.TheVariants as calls
use Rattle.heap_model.specs.declared.What.TheVariants as whats
use Rattle.heap_model.specs.Legal.{is_lock_or_compact}
use Rattle.claim_rule.specs.Entries.{entry}
use Rattle.heap_gate.specs.Token.{Token}
use Rattle.heap_gate.specs.Calls.{HasEntered, HasTurnedBack, begins, begun_with, stance}
use Rattle.heap_gate.proofs.Begun.{on_ok, if_err, starts_fresh, starts, entered_begun, turned_begun}
use Rattle.heap_gate.proofs.caller.enter_now.Goals as goal

pub pass-requires-clause-fresh : goal.pass-requires-clause-fresh
pass-requires-clause-fresh g c = subst (λ (t : Token). t.fresh ≡ true) (sym c.begin_if_none.ensures) (starts_fresh c.args.c.now calls.Stay c.check.ensures.even)

pub pass-requires-clause-call : goal.pass-requires-clause-call
pass-requires-clause-call g c =
    subst (λ (t : Token). (x : Call) × (t.call ≡ Some x) × (is_lock_or_compact x ≡ false)) (sym c.begin_if_none.ensures) (starts c.args.c.now calls.Stay false c.check.ensures.even refl (λ e. Rattle.heap_gate.proofs.Begun.pends_out c.args.c.now e c.requires.pending))

pub returns-clause-ok : goal.returns-clause-ok
returns-clause-ok g c =
    let old = c.args.c.now in let new = c.pass.new.c in let b = c.begin_if_none.new.c in
    on_ok c.pass.result (HasEntered b new (stance b) (entry b.number acts.Enter ∷ [])) (HasEntered old new (stance (begun_with old calls.Stay)) (begins old calls.Stay ++ entry old.number acts.Enter ∷ []))
    (λ x. entered_begun old new calls.Stay old.pending refl (subst (λ (t : Token). HasEntered t new (stance t) (entry t.number acts.Enter ∷ [])) c.begin_if_none.ensures x)) c.pass.ensures.ok

pub returns-clause-busy : goal.returns-clause-busy
returns-clause-busy g c =
    let old = c.args.c.now in let new = c.pass.new.c in let b = c.begin_if_none.new.c in
    if_err c.pass.result (λ e. HasTurnedBack b new (stance b) e.what e.word (entry b.number (acts.Blocked whats.Gate e.word) ∷ entry b.number acts.Leave ∷ []))
    (λ e. HasTurnedBack old new (stance (begun_with old calls.Stay)) e.what e.word (begins old calls.Stay ++ entry old.number (acts.Blocked whats.Gate e.word) ∷ entry old.number acts.Leave ∷ []))
    (λ e x. turned_begun old new calls.Stay old.pending refl e.what e.word (subst (λ (t : Token). HasTurnedBack t new (stance t) e.what e.word (entry t.number (acts.Blocked whats.Gate e.word) ∷ entry t.number acts.Leave ∷ [])) c.begin_if_none.ensures x)) c.pass.ensures.busy
