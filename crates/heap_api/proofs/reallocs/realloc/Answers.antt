use Rattle.std.proofs.Common.{◌∙◌, subst, Err}
use Rattle.heap_model.specs.declared.Call.TheVariants as calls
use Rattle.heap_model.specs.declared.ReNo.{ReNo}
use Rattle.heap_model.specs.declared.Reply.TheVariants as replies
use Rattle.heap_now.specs.Reallocs.{MayTry}
use Rattle.heap_now.specs.Calls.{EndsWith}
use Rattle.heap_now.specs.Reallocs.{realloc_answer}
use Rattle.heap_api.proofs.Waiting.{waits_more, waits_end, turned_realloc}
use Rattle.heap_api.proofs.reallocs.realloc.Goals as goal

pub returns-in-Ok : goal.returns-in-Ok
returns-in-Ok g c = record {
  gets = waits_end c.args.c.now c.loop.c c.realloc_now.new.c (calls.Realloc c.args.addr c.args.n c.args.flags) (replies.Address c.in-Ok.there) c.loop.invariant.2 c.in-Ok.ensures.ends;
  kept = c.in-Ok.ensures.kept;
}

pub returns-in-Err-NotLive : goal.returns-in-Err-NotLive
returns-in-Err-NotLive g c =
    let b = c.loop.c in let d = c.realloc_now.new.c in
    let a = c.args in
    record {
      gets = waits_end a.c.now b d (calls.Realloc a.addr a.n a.flags) replies.NotLive c.loop.invariant.2
          (subst (λ (r : ReNo). EndsWith (MayTry a.heap.now.opening.limits a.addr a.n) b d (calls.Realloc a.addr a.n a.flags) (realloc_answer (Err r))) c.in-Err-NotLive.field-0-is c.in-Err-NotLive.ensures.ends);
      kept = tt;
    }

pub returns-in-Err-NoFit : goal.returns-in-Err-NoFit
returns-in-Err-NoFit g c =
    let b = c.loop.c in let d = c.realloc_now.new.c in
    let a = c.args in
    record {
      gets = waits_end a.c.now b d (calls.Realloc a.addr a.n a.flags) replies.NoFit c.loop.invariant.2
          (subst (λ (r : ReNo). EndsWith (MayTry a.heap.now.opening.limits a.addr a.n) b d (calls.Realloc a.addr a.n a.flags) (realloc_answer (Err r))) c.in-Err-NoFit.field-0-is c.in-Err-NoFit.ensures.ends);
      kept = tt;
    }

pub returns-in-Err-NoRoomInPlace : goal.returns-in-Err-NoRoomInPlace
returns-in-Err-NoRoomInPlace g c =
    let b = c.loop.c in let d = c.realloc_now.new.c in
    let a = c.args in
    record {
      gets = waits_end a.c.now b d (calls.Realloc a.addr a.n a.flags) replies.NoRoom c.loop.invariant.2
          (subst (λ (r : ReNo). EndsWith (MayTry a.heap.now.opening.limits a.addr a.n) b d (calls.Realloc a.addr a.n a.flags) (realloc_answer (Err r))) c.in-Err-NoRoomInPlace.field-0-is c.in-Err-NoRoomInPlace.ensures.ends);
      kept = tt;
    }

pub loop-preserved : goal.loop-preserved
loop-preserved g c =
    let b = c.loop.c in let d = c.realloc_now.new.c in let w = c.loop.invariant.2 in
    let a = c.args in (
      tt,
      tt,
      waits_more a.c.now b d (calls.Realloc a.addr a.n a.flags) w
          (turned_realloc a.heap.now.opening b d (w.opening ∙ c.requires.table.1) a.addr c.in-Err-Busy.field-0-0 a.n a.flags
          (subst (λ (r : ReNo). EndsWith (MayTry a.heap.now.opening.limits a.addr a.n) b d (calls.Realloc a.addr a.n a.flags) (realloc_answer (Err r))) c.in-Err-Busy.field-0-is c.in-Err-Busy.ensures.ends)),
    )
