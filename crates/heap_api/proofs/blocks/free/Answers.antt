use Rattle.std.proofs.Common.{◌∙◌, subst, Err}
use Rattle.heap_model.specs.declared.Call.TheVariants as calls
use Rattle.heap_model.specs.declared.FreeNo.{FreeNo}
use Rattle.heap_model.specs.declared.Reply.TheVariants as replies
use Rattle.address_calls.specs.Answers.{MayGuard}
use Rattle.heap_now.specs.Calls.{EndsWith}
use Rattle.heap_now.specs.Words.{free_answer}
use Rattle.heap_api.proofs.Waiting.{waits_more, waits_end, turned_free}
use Rattle.heap_api.proofs.blocks.free.Goals as goal

pub returns-in-Ok : goal.returns-in-Ok
returns-in-Ok g c = waits_end c.args.c.now c.loop.c c.free_now.new.c (calls.Free c.args.addr) replies.Done c.loop.invariant.2 c.in-Ok.ensures.ends

pub returns-in-Err-NotLive : goal.returns-in-Err-NotLive
returns-in-Err-NotLive g c =
    let b = c.loop.c in let d = c.free_now.new.c in
    waits_end c.args.c.now b d (calls.Free c.args.addr) replies.NotLive c.loop.invariant.2
    (subst (λ (r : FreeNo). EndsWith (MayGuard c.args.heap.now.opening.limits c.args.addr) b d (calls.Free c.args.addr) (free_answer {A = Unit {0}} (Err r))) c.in-Err-NotLive.field-0-is c.in-Err-NotLive.ensures.ends)

pub loop-preserved : goal.loop-preserved
loop-preserved g c =
    let b = c.loop.c in let d = c.free_now.new.c in let w = c.loop.invariant.2 in (
      tt,
      tt,
      waits_more c.args.c.now b d (calls.Free c.args.addr) w
          (turned_free c.args.heap.now.opening b d (w.opening ∙ c.requires.table.1) c.args.addr c.in-Err-Busy.field-0-0
          (subst (λ (r : FreeNo). EndsWith (MayGuard c.args.heap.now.opening.limits c.args.addr) b d (calls.Free c.args.addr) (free_answer {A = Unit {0}} (Err r))) c.in-Err-Busy.field-0-is c.in-Err-Busy.ensures.ends)),
    )
