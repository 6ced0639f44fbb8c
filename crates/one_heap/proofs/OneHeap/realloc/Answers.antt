use Rattle.std.proofs.Common.{◌≡◌, [], ◌∷◌, Err, refl, sym, ap, subst, ◌∙◌}
use Rattle.heap_model.specs.declared.Call.TheVariants as calls
use Rattle.heap_model.specs.Shape.{Replied}
use Rattle.heap_now.specs.Reallocs.{MayTry}
use Rattle.heap_now.specs.Reallocs.{realloc_answer}
use Rattle.one_heap.specs.Lone.{LoneHeap, Serves, seen_by}
use Rattle.one_heap.proofs.Serving.{served, not_met}
use Rattle.one_heap.proofs.OneHeap.realloc.Goals as goal
use Rattle.one_heap.proofs.OneHeap.realloc.Goals.{in-Ok, in-Err-NotLive, in-Err-NoFit, in-Err-NoRoomInPlace}

pub unreachable-requires : goal.unreachable-requires
unreachable-requires c =
    let i = c.self.inside in
    not_met (MayTry c.self.inside.heap.opening.limits c.args.addr c.args.n) i.heap i.root i.caller c.realloc_now.new.c c.self.invariant (calls.Realloc c.args.addr c.args.n c.args.flags) (realloc_answer c.realloc_now.result) c.in-Err-Busy.field-0-0
    c.realloc_now.ensures.ends (ap realloc_answer (c.in-Err-Busy.is ∙ ap Err c.in-Err-Busy.field-0-is))

pub returns-clause-serves : goal.returns-clause-serves
returns-clause-serves c =
    let i = c.self.inside in
    let d = c.realloc_now.new.c in
    let reply = c.match-realloc_now.result in
    let same : realloc_answer c.realloc_now.result ≡ Replied reply =
    elim c.match-realloc_now.branch [
      | in-Ok w ↦ ap realloc_answer w.in-Ok.is ∙ ap Replied (sym w.result-is)
      | in-Err-NotLive w ↦ ap realloc_answer (w.in-Err-NotLive.is ∙ ap Err w.in-Err-NotLive.field-0-is) ∙ ap Replied (sym w.result-is)
      | in-Err-NoFit w ↦ ap realloc_answer (w.in-Err-NoFit.is ∙ ap Err w.in-Err-NoFit.field-0-is) ∙ ap Replied (sym w.result-is)
      | in-Err-NoRoomInPlace w ↦ ap realloc_answer (w.in-Err-NoRoomInPlace.is ∙ ap Err w.in-Err-NoRoomInPlace.field-0-is) ∙ ap Replied (sym w.result-is)
    ] in
    subst (λ (old : LoneHeap). Serves old (seen_by i.heap d) (calls.Realloc c.args.addr c.args.n c.args.flags) (reply ∷ [])) c.self.view_is
    (served (MayTry c.self.inside.heap.opening.limits c.args.addr c.args.n) i.heap i.root i.caller d c.self.invariant (calls.Realloc c.args.addr c.args.n c.args.flags) (realloc_answer c.realloc_now.result) reply c.realloc_now.ensures.ends same (λ One xs one. (reply, refl, one)) refl)

pub returns-clause-depth : goal.returns-clause-depth
returns-clause-depth c = (returns-clause-serves c).depth
