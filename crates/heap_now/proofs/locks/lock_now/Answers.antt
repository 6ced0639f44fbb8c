use Rattle.std.proofs.Common.{◌||◌, not, Bool, ap}
use Rattle.heap_model.specs.Legal.{is_lock_or_compact}
use Rattle.heap_model.specs.Stay.{for_some}
use Rattle.heap_gate.specs.Calls.{IsDeeper, IsRefusedLock}
use Rattle.heap_gate.proofs.Begun.{on_ok, if_err}
use Rattle.heap_now.specs.Locks.{IsLockedMore, IsNotLocked}
use Rattle.heap_now.proofs.Locking.{locked_more, not_locked}
use Rattle.heap_now.proofs.locks.lock_now.Goals as goal

pub lock_gate-requires-clause-outside : goal.lock_gate-requires-clause-outside
lock_gate-requires-clause-outside c = c.requires.ready.ready.outside

pub lock_gate-requires-clause-out : goal.lock_gate-requires-clause-out
lock_gate-requires-clause-out c = c.requires.ready.ready.out

pub returns-clause-taken : goal.returns-clause-taken
returns-clause-taken c =
    let a = c.args.c.now in let b = c.lock_gate.new.c in
    on_ok c.lock_gate.result (IsDeeper a b) (IsLockedMore a b) (λ x. locked_more a b c.requires.ready x) c.lock_gate.ensures.taken

pub returns-clause-refused : goal.returns-clause-refused
returns-clause-refused c =
    let a = c.args.c.now in let b = c.lock_gate.new.c in
    if_err c.lock_gate.result (λ no. IsRefusedLock a b no) (λ no. IsNotLocked a b no) (λ no x. not_locked a b c.requires.ready no x) c.lock_gate.ensures.refused

pub lock_gate-requires-clause-pending : goal.lock_gate-requires-clause-pending
lock_gate-requires-clause-pending c = ap (λ (p : Bool). not p || for_some c.args.c.now.call is_lock_or_compact) c.requires.ready.ready.pending
