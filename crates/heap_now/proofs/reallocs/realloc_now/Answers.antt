use Rattle.std.proofs.Common.{◌∙◌, inl}
use Rattle.heap_model.specs.declared.Call.TheVariants as calls
use Rattle.move_calls.specs.Moves.{MayTry}
use Rattle.heap_now.proofs.Reallocated.{stays_inside, ends, keeps}
use Rattle.heap_now.proofs.reallocs.realloc_now.Goals as goal

pub returns-in-Err-clause-ends : goal.returns-in-Err-clause-ends
returns-in-Err-clause-ends c = (c.in-Err.ensures.busy.0, inl c.in-Err.ensures.busy.1)

pub realloc_inside-got-requires-clause-serving : goal.realloc_inside-got-requires-clause-serving
realloc_inside-got-requires-clause-serving c = c.in_default.ensures.entered.serving

pub leave_call-requires-clause-table : goal.leave_call-requires-clause-table
leave_call-requires-clause-table c =
    (stays_inside c.enter_call.new.c c.realloc_inside-got.new.c c.args.addr c.args.n c.args.flags c.realloc_inside-got.result c.realloc_inside-got.ensures).0 ∙ (c.enter_call.ensures.table.0 ∙ c.requires.table.0)

pub leave_call-requires-clause-inside : goal.leave_call-requires-clause-inside
leave_call-requires-clause-inside c =
    (stays_inside c.enter_call.new.c c.realloc_inside-got.new.c c.args.addr c.args.n c.args.flags c.realloc_inside-got.result c.realloc_inside-got.ensures).1

pub returns-clause-ends : goal.returns-clause-ends
returns-clause-ends c =
    ends c.args.c.now c.enter_call.new.c c.realloc_inside-got.new.c c.leave_call.new.c c.args.addr c.args.n c.args.flags c.requires.ready c.in_default.ensures.entered c.leave_call.ensures c.args.heap.now.opening c.realloc_inside-got.result
    (c.enter_call.ensures.table.1 ∙ c.requires.table.1) c.realloc_inside-got.ensures

pub returns-clause-kept : goal.returns-clause-kept
returns-clause-kept c =
    let x = ends c.args.c.now c.enter_call.new.c c.realloc_inside-got.new.c c.leave_call.new.c c.args.addr c.args.n c.args.flags c.requires.ready c.in_default.ensures.entered c.leave_call.ensures c.args.heap.now.opening c.realloc_inside-got.result
    (c.enter_call.ensures.table.1 ∙ c.requires.table.1) c.realloc_inside-got.ensures in
    keeps (MayTry c.args.heap.now.opening.limits c.args.addr c.args.n) c.args.c.now c.leave_call.new.c c.args.addr c.args.n c.args.flags c.realloc_inside-got.result x
