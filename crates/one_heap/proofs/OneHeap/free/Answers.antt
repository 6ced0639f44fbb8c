use Rattle.std.proofs.Common.{◌≡◌, [], ◌∷◌, Err, refl, sym, ap, subst, ◌∙◌}
use Rattle.heap_model.specs.declared.Call.TheVariants as calls
use Rattle.heap_model.specs.Shape.{Replied}
use Rattle.address_calls.specs.Answers.{MayGuard}
use Rattle.heap_now.specs.Words.{free_answer}
use Rattle.one_heap.specs.Lone.{LoneHeap, Serves, seen_by}
use Rattle.one_heap.proofs.Serving.{served, not_met}
use Rattle.one_heap.proofs.OneHeap.free.Goals as goal
use Rattle.one_heap.proofs.OneHeap.free.Goals.{in-Ok, in-Err-NotLive}

pub unreachable-requires : goal.unreachable-requires
unreachable-requires c =
    let i = c.self.inside in
    not_met (MayGuard c.self.inside.heap.opening.limits c.args.addr) i.heap i.root i.caller c.free_now.new.c c.self.invariant (calls.Free c.args.addr) (free_answer c.free_now.result) c.in-Err-Busy.field-0-0
    c.free_now.ensures.ends (ap free_answer (c.in-Err-Busy.is ∙ ap Err c.in-Err-Busy.field-0-is))

pub returns-clause-serves : goal.returns-clause-serves
returns-clause-serves c =
    let i = c.self.inside in
    let d = c.free_now.new.c in
    let reply = c.match-free_now.result in
    let same : free_answer c.free_now.result ≡ Replied reply =
    elim c.match-free_now.branch [
      | in-Ok w ↦ ap free_answer w.in-Ok.is ∙ ap Replied (sym w.result-is)
      | in-Err-NotLive w ↦ ap free_answer (w.in-Err-NotLive.is ∙ ap Err w.in-Err-NotLive.field-0-is) ∙ ap Replied (sym w.result-is)
    ] in
    subst (λ (old : LoneHeap). Serves old (seen_by i.heap d) (calls.Free c.args.addr) (reply ∷ [])) c.self.view_is
    (served (MayGuard c.self.inside.heap.opening.limits c.args.addr) i.heap i.root i.caller d c.self.invariant (calls.Free c.args.addr) (free_answer c.free_now.result) reply c.free_now.ensures.ends same (λ One xs one. (reply, refl, one)) refl)

pub returns-clause-depth : goal.returns-clause-depth
returns-clause-depth c = (returns-clause-serves c).depth
