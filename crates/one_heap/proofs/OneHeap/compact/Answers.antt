use Rattle.std.proofs.Common.{[], ◌∷◌, refl, subst}
use Rattle.heap_model.specs.declared.Call.TheVariants as calls
use Rattle.heap_model.specs.declared.Reply.TheVariants as replies
use Rattle.one_heap.specs.Lone.{LoneHeap, Serves, seen_by}
use Rattle.one_heap.proofs.Serving.{never_busy, serves}
use Rattle.one_heap.proofs.OneHeap.compact.Goals as goal

pub unreachable-requires : goal.unreachable-requires
unreachable-requires c =
    let i = c.self.inside in
    let x = c.in-Err.ensures.busy.answered in
    never_busy i.heap i.root i.caller c.compact.new.c c.self.invariant calls.Compact c.in-Err.field-0 (record { rest = x.rest; answers = x.answers; owes = x.owes })

pub returns-clause-serves : goal.returns-clause-serves
returns-clause-serves c =
    let i = c.self.inside in
    let d = c.compact.new.c in
    let x = c.in-Ok.ensures.compacted in
    let reply = replies.Compacted c.in-Ok.pages in
    subst (λ (old : LoneHeap). Serves old (seen_by i.heap d) calls.Compact (reply ∷ [])) c.self.view_is
    (serves i.heap i.root i.caller d c.self.invariant calls.Compact reply (record { rest = x.rest; answers = x.answers; owes = x.owes }) (λ One xs one. (reply, refl, one)) d.depth x.answers.depth)

pub returns-clause-depth : goal.returns-clause-depth
returns-clause-depth c = (returns-clause-serves c).depth
