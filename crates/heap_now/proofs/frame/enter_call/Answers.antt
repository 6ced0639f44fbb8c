use Rattle.std.proofs.Common.{◌≡◌, ◌&&◌, [], ◌∷◌, ◌++◌, length, subst, ap, ◌∙◌, arith}
use Rattle.heap_model.specs.declared.Act.TheVariants as acts
use Rattle.heap_model.specs.declared.Call.TheVariants as calls
use Rattle.heap_model.specs.declared.What.TheVariants as whats
use Rattle.heap_model.specs.Legal.{is_lock_or_compact}
use Rattle.heap_model.specs.Stay.{for_some}
use Rattle.claim_rule.specs.Entries.{entry}
use Rattle.heap_gate.specs.Token.{Token}
use Rattle.heap_gate.specs.Calls.{HasEntered, HasTurnedBack, begins, begun_with, stance}
use Rattle.heap_gate.proofs.Begun.{on_ok, if_err}
use Rattle.heap_now.specs.Calls.{HasBegun, GetsBusy}
use Rattle.small_calls.specs.Late.{TriesNeither}
use Rattle.heap_now.proofs.Frames.{has_begun, has_turned, same_table}
use Rattle.heap_model.specs.Shape.{WasBusy}
use Rattle.heap_now.specs.Tagged.{TakesNoLock}
use Rattle.heap_now.proofs.TaggedCalls.{free_turn}
use Rattle.heap_now.proofs.LateAllocs.{turned_neither}
use Rattle.heap_now.proofs.frame.enter_call.Goals as goal

pub begin-requires-clause-room : goal.begin-requires-clause-room
begin-requires-clause-room c = let e : length c.args.c.now.prepared ≡ 0 = ap length c.requires.ready.ready.prepared in omega (arith, e)

pub begin-requires-clause-outside : goal.begin-requires-clause-outside
begin-requires-clause-outside c = c.requires.ready.ready.outside

pub begin-requires-clause-out : goal.begin-requires-clause-out
begin-requires-clause-out c = c.requires.ready.ready.out

pub enter_now-requires-clause-table : goal.enter_now-requires-clause-table
enter_now-requires-clause-table c = ap (λ (t : Token). t.table) c.begin.ensures ∙ c.requires.table

pub enter_now-requires-clause-outside : goal.enter_now-requires-clause-outside
enter_now-requires-clause-outside c = ap (λ (t : Token). t.inside) c.begin.ensures ∙ c.requires.ready.ready.outside

pub enter_now-requires-clause-out : goal.enter_now-requires-clause-out
enter_now-requires-clause-out c = ap (λ (t : Token). t.out) c.begin.ensures ∙ c.requires.ready.ready.out

pub enter_now-requires-clause-pending : goal.enter_now-requires-clause-pending
enter_now-requires-clause-pending c = ap (λ (t : Token). t.pending && for_some t.call is_lock_or_compact) c.begin.ensures ∙ c.requires.enters

pub returns-clause-entered : goal.returns-clause-entered
returns-clause-entered c =
    let old = c.args.c.now in let new = c.enter_now.new.c in let b = c.begin.new.c in
    on_ok c.enter_now.result (HasEntered b new (stance (begun_with b calls.Stay)) (begins b calls.Stay ++ entry b.number acts.Enter ∷ [])) (HasBegun old new c.args.call)
    (λ x. has_begun old c.args.call c.requires.ready new (subst (λ (t : Token). HasEntered t new (stance (begun_with t calls.Stay)) (begins t calls.Stay ++ entry t.number acts.Enter ∷ [])) c.begin.ensures x)) c.enter_now.ensures.ok

pub returns-clause-busy : goal.returns-clause-busy
returns-clause-busy c =
    let old = c.args.c.now in let new = c.enter_now.new.c in let b = c.begin.new.c in
    if_err c.enter_now.result
    (λ e. HasTurnedBack b new (stance (begun_with b calls.Stay)) e.what e.word (begins b calls.Stay ++ entry b.number (acts.Blocked whats.Gate e.word) ∷ entry b.number acts.Leave ∷ []))
    (λ e. GetsBusy old new c.args.call e × (e.what ≡ whats.Gate))
    (λ e x. has_turned old c.args.call c.requires.ready new e
    (subst (λ (t : Token). HasTurnedBack t new (stance (begun_with t calls.Stay)) e.what e.word (begins t calls.Stay ++ entry t.number (acts.Blocked whats.Gate e.word) ∷ entry t.number acts.Leave ∷ [])) c.begin.ensures x)) c.enter_now.ensures.busy

pub returns-clause-table : goal.returns-clause-table
returns-clause-table c = same_table c.args.c.now c.enter_now.new.c c.args.call c.enter_now.result (returns-clause-entered c) (returns-clause-busy c)

pub returns-clause-turned : goal.returns-clause-turned
returns-clause-turned c =
    let old = c.args.c.now in let new = c.enter_now.new.c in let b = c.begin.new.c in
    if_err c.enter_now.result
    (λ e. HasTurnedBack b new (stance (begun_with b calls.Stay)) e.what e.word (begins b calls.Stay ++ entry b.number (acts.Blocked whats.Gate e.word) ∷ entry b.number acts.Leave ∷ []))
    (λ e. TakesNoLock old new (WasBusy e))
    (λ e x. free_turn old new c.args.call e
    (subst (λ (t : Token). HasTurnedBack t new (stance (begun_with t calls.Stay)) e.what e.word (begins t calls.Stay ++ entry t.number (acts.Blocked whats.Gate e.word) ∷ entry t.number acts.Leave ∷ [])) c.begin.ensures x)) c.enter_now.ensures.busy

pub returns-clause-neither : goal.returns-clause-neither
returns-clause-neither c =
    let old = c.args.c.now in let new = c.enter_now.new.c in let b = c.begin.new.c in
    if_err c.enter_now.result
    (λ e. HasTurnedBack b new (stance (begun_with b calls.Stay)) e.what e.word (begins b calls.Stay ++ entry b.number (acts.Blocked whats.Gate e.word) ∷ entry b.number acts.Leave ∷ []))
    (λ e. TriesNeither old new)
    (λ e x. turned_neither old new c.args.call e
    (subst (λ (t : Token). HasTurnedBack t new (stance (begun_with t calls.Stay)) e.what e.word (begins t calls.Stay ++ entry t.number (acts.Blocked whats.Gate e.word) ∷ entry t.number acts.Leave ∷ [])) c.begin.ensures x)) c.enter_now.ensures.busy
