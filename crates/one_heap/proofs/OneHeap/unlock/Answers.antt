use Rattle.std.proofs.Common.{[], ◌∷◌, sym, subst}
use Rattle.heap_model.specs.declared.Call.TheVariants as calls
use Rattle.heap_model.specs.declared.Reply.{Reply}
use Rattle.one_heap.specs.Lone.{LoneHeap, Serves, seen_by}
use Rattle.one_heap.proofs.Locks.{unlocks, not_owner}
use Rattle.one_heap.proofs.OneHeap.unlock.Goals as goal
use Rattle.one_heap.proofs.OneHeap.unlock.Goals.{in-Ok, in-Err}

pub returns-clause-serves : goal.returns-clause-serves
returns-clause-serves c =
    let i = c.self.inside in
    let d = c.unlock_now.new.c in
    let here : Serves (seen_by i.heap i.caller) (seen_by i.heap d) calls.Unlock (c.match-unlock_now.result ∷ []) =
    elim c.match-unlock_now.branch [
      | in-Ok w ↦ subst (λ (r : Reply). Serves (seen_by i.heap i.caller) (seen_by i.heap d) calls.Unlock (r ∷ [])) (sym w.result-is) (unlocks i.heap i.root i.caller d c.self.invariant w.in-Ok.ensures.given)
      | in-Err w ↦ subst (λ (r : Reply). Serves (seen_by i.heap i.caller) (seen_by i.heap d) calls.Unlock (r ∷ [])) (sym w.result-is) (not_owner i.heap i.root i.caller d c.self.invariant w.in-Err.ensures.refused.0 w.in-Err.ensures.refused.1)
    ] in
    subst (λ (old : LoneHeap). Serves old (seen_by i.heap d) calls.Unlock (c.match-unlock_now.result ∷ [])) c.self.view_is here
