use Rattle.std.proofs.Common.{[], ◌∷◌, sym, subst}
use Rattle.heap_model.specs.declared.Call.TheVariants as calls
use Rattle.heap_model.specs.declared.LockNo.{LockNo}
use Rattle.heap_model.specs.declared.Reply.{Reply}
use Rattle.heap_now.specs.Locks.{IsNotLocked}
use Rattle.one_heap.specs.Lone.{LoneHeap, Serves, seen_by}
use Rattle.one_heap.proofs.Serving.{never_busy}
use Rattle.one_heap.proofs.Locks.{locks, locks_no_more}
use Rattle.one_heap.proofs.OneHeap.lock.Goals as goal
use Rattle.one_heap.proofs.OneHeap.lock.Goals.{in-Ok, in-Err-Depth}

pub unreachable-requires : goal.unreachable-requires
unreachable-requires c =
    let i = c.self.inside in
    let d = c.lock_now.new.c in
    let no = subst (λ (r : LockNo). IsNotLocked i.caller d r) c.in-Err-Busy.field-0-is c.in-Err-Busy.ensures.refused in
    never_busy i.heap i.root i.caller d c.self.invariant calls.Lock c.in-Err-Busy.field-0-0 no.1

pub returns-clause-serves : goal.returns-clause-serves
returns-clause-serves c =
    let i = c.self.inside in
    let d = c.lock_now.new.c in
    let here : Serves (seen_by i.heap i.caller) (seen_by i.heap d) calls.Lock (c.match-lock_now.result ∷ []) =
    elim c.match-lock_now.branch [
      | in-Ok w ↦ subst (λ (r : Reply). Serves (seen_by i.heap i.caller) (seen_by i.heap d) calls.Lock (r ∷ [])) (sym w.result-is) (locks i.heap i.root i.caller d c.self.invariant w.in-Ok.ensures.taken)
      | in-Err-Depth w ↦
          let no = subst (λ (r : LockNo). IsNotLocked i.caller d r) w.in-Err-Depth.field-0-is w.in-Err-Depth.ensures.refused in
          subst (λ (r : Reply). Serves (seen_by i.heap i.caller) (seen_by i.heap d) calls.Lock (r ∷ [])) (sym w.result-is) (locks_no_more i.heap i.root i.caller d c.self.invariant no.0 no.1)
    ] in
    subst (λ (old : LoneHeap). Serves old (seen_by i.heap d) calls.Lock (c.match-lock_now.result ∷ [])) c.self.view_is here
