use Rattle.std.proofs.Common.{◌≡◌, [], ◌∷◌, Err, refl, sym, ap, subst, ◌∙◌}
use Rattle.heap_model.specs.declared.Call.TheVariants as calls
use Rattle.heap_model.specs.Shape.{Replied}
use Rattle.address_calls.specs.Answers.{MayGuard}
use Rattle.heap_now.specs.Words.{size_answer}
use Rattle.one_heap.specs.Lone.{LoneHeap, Serves, seen_by}
use Rattle.one_heap.proofs.Serving.{served, not_met}
use Rattle.one_heap.proofs.OneHeap.size.Goals as goal
use Rattle.one_heap.proofs.OneHeap.size.Goals.{in-Ok, in-Err-NotLive}

pub unreachable-requires : goal.unreachable-requires
unreachable-requires c =
    let i = c.self.inside in
    not_met (MayGuard c.self.inside.heap.opening.limits c.args.addr) i.heap i.root i.caller c.size_now.new.c c.self.invariant (calls.Size c.args.addr) (size_answer c.size_now.result) c.in-Err-Busy.field-0-0
    c.size_now.ensures.ends (ap size_answer (c.in-Err-Busy.is ∙ ap Err c.in-Err-Busy.field-0-is))

pub returns-clause-serves : goal.returns-clause-serves
returns-clause-serves c =
    let i = c.self.inside in
    let d = c.size_now.new.c in
    let reply = c.match-size_now.result in
    let same : size_answer c.size_now.result ≡ Replied reply =
    elim c.match-size_now.branch [
      | in-Ok w ↦ ap size_answer w.in-Ok.is ∙ ap Replied (sym w.result-is)
      | in-Err-NotLive w ↦ ap size_answer (w.in-Err-NotLive.is ∙ ap Err w.in-Err-NotLive.field-0-is) ∙ ap Replied (sym w.result-is)
    ] in
    subst (λ (old : LoneHeap). Serves old (seen_by i.heap d) (calls.Size c.args.addr) (reply ∷ [])) c.self.view_is
    (served (MayGuard c.self.inside.heap.opening.limits c.args.addr) i.heap i.root i.caller d c.self.invariant (calls.Size c.args.addr) (size_answer c.size_now.result) reply c.size_now.ensures.ends same (λ One xs one. (reply, refl, one)) refl)

pub returns-clause-depth : goal.returns-clause-depth
returns-clause-depth c = (returns-clause-serves c).depth
