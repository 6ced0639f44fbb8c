use Rattle.std.proofs.Common.{◌∙◌, subst, Err}
use Rattle.heap_model.specs.declared.Call.TheVariants as calls
use Rattle.heap_model.specs.declared.WordNo.{WordNo}
use Rattle.heap_model.specs.declared.Reply.TheVariants as replies
use Rattle.address_calls.specs.Answers.{MayGuard}
use Rattle.heap_now.specs.Calls.{EndsWith}
use Rattle.heap_now.specs.Words.{get_answer}
use Rattle.heap_api.proofs.Waiting.{waits_more, waits_end, turned_get}
use Rattle.heap_api.proofs.words.get.Goals as goal

pub returns-in-Ok : goal.returns-in-Ok
returns-in-Ok g c = waits_end c.args.c.now c.loop.c c.get_now.new.c (calls.Get c.args.addr c.args.index) (replies.Number c.in-Ok.value) c.loop.invariant.2 c.in-Ok.ensures.ends

pub returns-in-Err-NotLive : goal.returns-in-Err-NotLive
returns-in-Err-NotLive g c =
    let b = c.loop.c in let d = c.get_now.new.c in
    waits_end c.args.c.now b d (calls.Get c.args.addr c.args.index) replies.NotLive c.loop.invariant.2
    (subst (λ (r : WordNo). EndsWith (MayGuard c.args.heap.now.opening.limits c.args.addr) b d (calls.Get c.args.addr c.args.index) (get_answer (Err r))) c.in-Err-NotLive.field-0-is c.in-Err-NotLive.ensures.ends)

pub returns-in-Err-Past : goal.returns-in-Err-Past
returns-in-Err-Past g c =
    let b = c.loop.c in let d = c.get_now.new.c in
    waits_end c.args.c.now b d (calls.Get c.args.addr c.args.index) (replies.Past c.in-Err-Past.words) c.loop.invariant.2
    (subst (λ (r : WordNo). EndsWith (MayGuard c.args.heap.now.opening.limits c.args.addr) b d (calls.Get c.args.addr c.args.index) (get_answer (Err r))) c.in-Err-Past.field-0-is c.in-Err-Past.ensures.ends)

pub loop-preserved : goal.loop-preserved
loop-preserved g c =
    let b = c.loop.c in let d = c.get_now.new.c in let w = c.loop.invariant.2 in (
      tt,
      tt,
      waits_more c.args.c.now b d (calls.Get c.args.addr c.args.index) w
          (turned_get c.args.heap.now.opening b d (w.opening ∙ c.requires.table.1) c.args.addr c.in-Err-Busy.field-0-0 c.args.index
          (subst (λ (r : WordNo). EndsWith (MayGuard c.args.heap.now.opening.limits c.args.addr) b d (calls.Get c.args.addr c.args.index) (get_answer (Err r))) c.in-Err-Busy.field-0-is c.in-Err-Busy.ensures.ends)),
    )
