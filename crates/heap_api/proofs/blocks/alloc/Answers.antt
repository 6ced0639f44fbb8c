use Rattle.std.proofs.Common.{subst, Err}
use Rattle.heap_model.specs.declared.AllocNo.{AllocNo}
use Rattle.heap_model.specs.declared.Call.TheVariants as calls
use Rattle.heap_model.specs.declared.Reply.TheVariants as replies
use Rattle.heap_now.specs.Calls.{EndsWith, MayTake, alloc_answer}
use Rattle.heap_api.proofs.Waiting.{waits_more, waits_end, turned_alloc}
use Rattle.heap_api.proofs.blocks.alloc.Goals as goal

pub returns-in-Ok : goal.returns-in-Ok
returns-in-Ok g c = waits_end c.args.c.now c.loop.c c.alloc_now.new.c (calls.Alloc c.args.n c.args.flags) (replies.Address c.in-Ok.addr) c.loop.invariant.2 c.in-Ok.ensures.ends

pub returns-in-Err-NoFit : goal.returns-in-Err-NoFit
returns-in-Err-NoFit g c =
    let b = c.loop.c in let d = c.alloc_now.new.c in
    waits_end c.args.c.now b d (calls.Alloc c.args.n c.args.flags) replies.NoFit c.loop.invariant.2
    (subst (λ (r : AllocNo). EndsWith (MayTake c.args.n) b d (calls.Alloc c.args.n c.args.flags) (alloc_answer (Err r))) c.in-Err-NoFit.field-0-is c.in-Err-NoFit.ensures.ends)

pub loop-preserved : goal.loop-preserved
loop-preserved g c =
    let b = c.loop.c in let d = c.alloc_now.new.c in (
      tt,
      tt,
      waits_more c.args.c.now b d (calls.Alloc c.args.n c.args.flags) c.loop.invariant.2
          (turned_alloc b d c.args.n c.args.flags c.in-Err-Busy.field-0-0
          (subst (λ (r : AllocNo). EndsWith (MayTake c.args.n) b d (calls.Alloc c.args.n c.args.flags) (alloc_answer (Err r))) c.in-Err-Busy.field-0-is c.in-Err-Busy.ensures.ends)),
    )
