use Rattle.heap_model.specs.declared.Call.TheVariants as calls
use Rattle.heap_model.specs.declared.Reply.TheVariants as replies
use Rattle.heap_api.proofs.Waiting.{waits_more, waits_end, compacted, turned_compact}
use Rattle.heap_api.proofs.locks.compact.Goals as goal

pub returns-in-Ok : goal.returns-in-Ok
returns-in-Ok g c =
    let b = c.loop.c in let d = c.compact.new.c in
    waits_end c.args.c.now b d calls.Compact (replies.Compacted c.in-Ok.pages) c.loop.invariant.2 (compacted b d c.in-Ok.pages c.in-Ok.ensures.compacted)

pub loop-preserved : goal.loop-preserved
loop-preserved g c =
    let b = c.loop.c in let d = c.compact.new.c in
    (tt, tt, waits_more c.args.c.now b d calls.Compact c.loop.invariant.2 (turned_compact b d c.in-Err.field-0 c.in-Err.ensures.busy))
