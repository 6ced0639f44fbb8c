use Rattle.std.proofs.Common.{◌≡◌, [], ◌∷◌, Err, refl, sym, ap, subst, ◌∙◌}
use Rattle.heap_model.specs.declared.Call.TheVariants as calls
use Rattle.heap_model.specs.Shape.{Replied}
use Rattle.heap_now.specs.Calls.{MayTake, alloc_answer}
use Rattle.one_heap.specs.Lone.{LoneHeap, Serves, seen_by}
use Rattle.one_heap.proofs.Serving.{served, not_met}
use Rattle.one_heap.proofs.OneHeap.alloc.Goals as goal
use Rattle.one_heap.proofs.OneHeap.alloc.Goals.{in-Ok, in-Err-NoFit}

pub unreachable-requires : goal.unreachable-requires
unreachable-requires c =
    let i = c.self.inside in
    not_met (MayTake c.args.n) i.heap i.root i.caller c.alloc_now.new.c c.self.invariant (calls.Alloc c.args.n c.args.flags) (alloc_answer c.alloc_now.result) c.in-Err-Busy.field-0-0
    c.alloc_now.ensures.ends (ap alloc_answer (c.in-Err-Busy.is ∙ ap Err c.in-Err-Busy.field-0-is))

pub returns-clause-serves : goal.returns-clause-serves
returns-clause-serves c =
    let i = c.self.inside in
    let d = c.alloc_now.new.c in
    let reply = c.match-alloc_now.result in
    let same : alloc_answer c.alloc_now.result ≡ Replied reply =
    elim c.match-alloc_now.branch [
      | in-Ok w ↦ ap alloc_answer w.in-Ok.is ∙ ap Replied (sym w.result-is)
      | in-Err-NoFit w ↦ ap alloc_answer (w.in-Err-NoFit.is ∙ ap Err w.in-Err-NoFit.field-0-is) ∙ ap Replied (sym w.result-is)
    ] in
    subst (λ (old : LoneHeap). Serves old (seen_by i.heap d) (calls.Alloc c.args.n c.args.flags) (reply ∷ [])) c.self.view_is
    (served (MayTake c.args.n) i.heap i.root i.caller d c.self.invariant (calls.Alloc c.args.n c.args.flags) (alloc_answer c.alloc_now.result) reply c.alloc_now.ensures.ends same (λ One xs one. (reply, refl, one)) refl)

pub returns-clause-depth : goal.returns-clause-depth
returns-clause-depth c = (returns-clause-serves c).depth
